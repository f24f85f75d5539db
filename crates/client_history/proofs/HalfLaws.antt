-- Calls behind those that they follow, place by place.
use Rattle.std.proofs.Common.{◌≡◌, ℕ, ◌+◌, ◌<◌, ◌≤◌, ⊎_elim, Bool, true, false, List, length, set, slice_get, get_or, get_or-set_same, get_or-set_other, Some, sym, ap, ◌∙◌, length-set, arith}
use Rattle.std.proofs.lemmas.Bool.{cases_eq}
use Rattle.std.proofs.lemmas.Option.{slice_get_within}
use Rattle.client_history.specs.declared.client_call.ClientCall.{ClientCall}
use Rattle.client_history.specs.rule.Explained.{IsAt, AreBehindTheirFirst}
use Rattle.client_history.proofs.Orders.{last_place, get_one, is_at_one, at_within}

-- the marks of the places before the k-th, at each of which a call stands behind the one that it follows
pub record HalvesTo (calls : List ClientCall) (order : List ℕ) (k : ℕ) (marks : List Bool) : Type 0 where
  pub size : length marks ≡ length calls
  pub marked : (i : ℕ) → get_or marks i false ≡ true → (j : ℕ) × (j < k) × (slice_get order j ≡ Some i)
  pub noted : (j i : ℕ) → j < k → slice_get order j ≡ Some i → get_or marks i false ≡ true
  pub behind : (n first : ℕ) (call : ClientCall) → n < k → IsAt calls order n call → call.follows ≡ Some first → (j : ℕ) × (j < n) × (slice_get order j ≡ Some first)

-- the call that this one follows is marked
abbrev pub IsFirstMarked : ClientCall → List Bool → Type 0
IsFirstMarked call marks = (first : ℕ) → call.follows ≡ Some first → get_or marks first false ≡ true

module _ (calls : List ClientCall) (order : List ℕ) (k : ℕ) (marks : List Bool) (before : HalvesTo calls order k marks) (i : ℕ) (call : ClientCall) (at : slice_get order k ≡ Some i) (there : slice_get calls i ≡ Some call) where
  abbrev here : IsAt calls order k call
  here = record { index = i; at = at; there = there }

  -- one more call, which stands behind the one that it follows
  pub halves_more : IsFirstMarked call marks → HalvesTo calls order (k + 1) (set marks i true)
  halves_more is_first_marked =
      let size = before.size in
      let one = slice_get_within calls i call there in
      record {
        size = length-set marks i true ∙ before.size;
        marked = λ n is. ⊎_elim
            (λ e. (k, omega arith, at ∙ ap Some (sym e)))
            (λ differ. let was = before.marked n (sym (get_or-set_other marks i n true false differ) ∙ is) in let lt = was.1 in (was.0, omega arith, was.2))
            (cases_eq n i);
        noted = λ j n lt stands. ⊎_elim
            (λ e. ap (λ (m : ℕ). get_or (set marks i true) m false) e ∙ get_or-set_same marks i true false (omega arith))
            (λ differ. get_or-set_other marks i n true false differ ∙ ⊎_elim
            (λ low. before.noted j n low stands)
            (λ same. absurd (differ (get_one order j k n i same stands at)))
            (last_place j k lt))
            (cases_eq n i);
        behind = λ n first other lt stands follows. ⊎_elim
            (λ low. before.behind n first other low stands follows)
            (λ same.
            let is = is_at_one calls order n k other call same stands here in
            let stood = before.marked first (is_first_marked first (ap (λ (c : ClientCall). c.follows) (sym is) ∙ follows)) in
            let low = stood.1 in
            (stood.0, omega arith, stood.2))
            (last_place n k lt);
      }

  -- one more call, which does not stand behind the one that it follows
  pub halves_late : (IsFirstMarked call marks → ⊥) → AreBehindTheirFirst calls order → ⊥
  halves_late stays all = stays (λ first follows. let stood = all k first call here follows in before.noted stood.0 first stood.1 stood.2)

-- after all places, each call stands behind the one that it follows
pub halves_all : (calls : List ClientCall) (order : List ℕ) (k : ℕ) (marks : List Bool) → HalvesTo calls order k marks → length order ≤ k → AreBehindTheirFirst calls order
halves_all calls order k marks before all n first call at = let within = at_within calls order n call at in before.behind n first call (omega arith) at
