-- Calls that follow one another in one table.
use Rattle.std.proofs.Common.{◌≡◌, ℕ, ◌+◌, List, [], ◌∷◌, ◌++◌, take, drop, refl, sym, ap, subst, ◌∙◌}
use Rattle.std.proofs.lemmas.List.{take_more, take-append-drop, drop_more}
use Rattle.std.proofs.lemmas.Option.{get_or_from_slice_get, slice_get_within}
use Rattle.model.specs.declared.owner.Owner.{Owner}
use Rattle.model.specs.rule.Locks.{Locks}
use Rattle.client_history.specs.declared.act.Act.{Act}
use Rattle.client_history.specs.declared.act.Act.TheVariants.{Locks as Takes, IsDenied, IsFree as FindsFree, Frees, Drops}
use Rattle.client_history.specs.declared.client_call.ClientCall.{ClientCall}
use Rattle.client_history.specs.rule.Explained.{ActStep, the_file, Leads, IsAt}
use Rattle.client_history.proofs.Orders.{get_one}

-- an act leads from one table to at most one
pub step_is_one : (h m n : Locks) (owner : Owner) (act : Act) → ActStep the_file h owner act m → ActStep the_file h owner act n → m ≡ n
step_is_one h m n owner (Takes mode span) p q = p.1 ∙ sym q.1
step_is_one h m n owner (IsDenied mode span told) p q = p.1 ∙ sym q.1
step_is_one h m n owner (FindsFree mode span) p q = p.1 ∙ sym q.1
step_is_one h m n owner (Frees span) p q = p ∙ sym q
step_is_one h m n owner Drops p q = p ∙ sym q

module _ (calls : List ClientCall) where
  -- calls lead from one table to at most one
  pub leads_is_one : (h m n : Locks) (is : List ℕ) → Leads calls h is m → Leads calls h is n → m ≡ n
  leads_is_one h m n [] p q = sym p ∙ q
  leads_is_one h m n (i ∷ is) p q =
      let same : p.0 ≡ q.0 = get_one calls i i p.0 q.0 refl p.2 q.2 in
      let mid : p.1 ≡ q.1 = step_is_one h p.1 q.1 q.0.owner q.0.act (subst (λ (c : ClientCall). ActStep the_file h c.owner c.act p.1) same p.3) q.3 in
      leads_is_one q.1 m n is (subst (λ (x : Locks). Leads calls x is m) mid p.4) q.4

  -- an order in two parts leads on by the first and then by the second
  pub leads_split : (h n : Locks) (is js : List ℕ) → Leads calls h (is ++ js) n → (m : Locks) × Leads calls h is m × Leads calls m js n
  leads_split h n [] js p = (h, refl, p)
  leads_split h n (i ∷ is) js p = let rest = leads_split p.1 n is js p.4 in (rest.0, (p.0, p.1, p.2, p.3, rest.1), rest.2)

  pub leads_join : (h m n : Locks) (is js : List ℕ) → Leads calls h is m → Leads calls m js n → Leads calls h (is ++ js) n
  leads_join h m n [] js p q = subst (λ (x : Locks). Leads calls x js n) (sym p) q
  leads_join h m n (i ∷ is) js p q = (p.0, p.1, p.2, p.3, leads_join p.1 m n is js p.4 q)

  module _ (order : List ℕ) (k : ℕ) (call : ClientCall) (at : IsAt calls order k call) (h m : Locks) (before : Leads calls h (take k order) m) where
    next : take (k + 1) order ≡ take k order ++ at.index ∷ []
    next = take_more order k at.index (slice_get_within order k at.index at.at) ∙ ap (λ (i : ℕ). take k order ++ i ∷ []) (get_or_from_slice_get order k at.index at.index at.at)

    rest : order ≡ take k order ++ at.index ∷ drop (k + 1) order
    rest = sym (take-append-drop k order) ∙ ap (λ (xs : List ℕ). take k order ++ xs) (drop_more order k at.index (slice_get_within order k at.index at.at) ∙ ap (λ (i : ℕ). i ∷ drop (k + 1) order) (get_or_from_slice_get order k at.index at.index at.at))

    -- one more call that is allowed
    pub leads_more : (n : Locks) → ActStep the_file m call.owner call.act n → Leads calls h (take (k + 1) order) n
    leads_more n step = subst (λ (xs : List ℕ). Leads calls h xs n) (sym next) (leads_join h m n (take k order) (at.index ∷ []) before (call, n, at.there, step, refl))

    -- a call that is not allowed: the order leads nowhere
    pub leads_nowhere : ((n : Locks) → ActStep the_file m call.owner call.act n → ⊥) → (n : Locks) → Leads calls h order n → ⊥
    leads_nowhere never n all =
        let parts = leads_split h n (take k order) (at.index ∷ drop (k + 1) order) (subst (λ (xs : List ℕ). Leads calls h xs n) rest all) in
        let mid : parts.0 ≡ m = leads_is_one h parts.0 m (take k order) parts.1 before in
        let there = subst (λ (x : Locks). Leads calls x (at.index ∷ drop (k + 1) order) n) mid parts.2 in
        let same : there.0 ≡ call = get_one calls at.index at.index there.0 call refl there.2 at.there in
        never there.1 (subst (λ (c : ClientCall). ActStep the_file m c.owner c.act there.1) same there.3)
