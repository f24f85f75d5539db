-- First parts of orders, and the times up to which they explain the calls.
use Rattle.std.proofs.Common.{◌≡◌, ℕ, zero, suc, ◌+◌, ◌<◌, ◌≤◌, ◌⊎◌, inl, inr, ⊎_elim, List, [], ◌∷◌, ◌++◌, length, take, drop, slice_get, Option, Some, None, refl, sym, ap, subst, ◌∙◌, arith}
use Rattle.std.proofs.lemmas.Bool.{cases_lt}
use Rattle.std.proofs.lemmas.List.{take-append-drop}
use Rattle.std.proofs.lemmas.Option.{none-some, same_Some}
use Rattle.model.specs.rule.Locks.{Locks, no_locks}
use Rattle.client_history.specs.declared.client_call.ClientCall.{ClientCall}
use Rattle.client_history.specs.rule.Explained.{ActStep, the_file, Leads, IsAt, EndedBy, HaveBegun, AreAnswered, ExitsAreWhole, AreBehindTheirFirst, IsExplainedBy, AreExplainedBefore}
use Rattle.client_history.specs.code.Moves.{AreOrdered, Passes}
use Rattle.client_history.proofs.OwnQuestions.{may_move}
use Rattle.client_history.proofs.Orders.{get_one, is_at_one, at_within}
use Rattle.client_history.proofs.Steps.{leads_split}

-- an element of the first n is one of the list
get_take : {X : Type 0} (xs : List X) (n k : ℕ) (x : X) → slice_get (take n xs) k ≡ Some x → (k < n) × (slice_get xs k ≡ Some x)
get_take xs zero k x at = absurd (none-some x at)
get_take [] (suc n) k x at = absurd (none-some x at)
get_take (y ∷ ys) (suc n) zero x at = (omega arith, at)
get_take (y ∷ ys) (suc n) (suc k) x at = let rest = get_take ys n k x at in let lt = rest.0 in (omega arith, rest.1)

take_get : {X : Type 0} (xs : List X) (n k : ℕ) (x : X) → k < n → slice_get xs k ≡ Some x → slice_get (take n xs) k ≡ Some x
take_get xs zero k x lt at = absurd (omega arith)
take_get [] (suc n) k x lt at = absurd (none-some x at)
take_get (y ∷ ys) (suc n) zero x lt at = at
take_get (y ∷ ys) (suc n) (suc k) x lt at = take_get ys n k x (omega arith) at

-- there is a last place at which P holds, or none
last_of : (P : ℕ → Type 0) → ((k : ℕ) → P k ⊎ (P k → ⊥)) → (n : ℕ) → ((l : ℕ) × (l < n) × P l × ((k : ℕ) → l < k → k < n → P k → ⊥)) ⊎ ((k : ℕ) → k < n → P k → ⊥)
last_of P decide zero = inr (λ k lt. absurd (omega arith))
last_of P decide (suc n) = ⊎_elim
    (λ here. inl (n, omega arith, here, λ k lo hi. absurd (omega arith)))
    (λ not. ⊎_elim
    (λ before. let low = before.1 in inl (before.0, omega arith, before.2, λ k lo hi is. ⊎_elim (λ lt. before.3 k lo lt is) (λ past. let e : k ≡ n = omega arith in not (subst P e is)) (cases_lt k n)))
    (λ none. inr (λ k lt is. ⊎_elim (λ low. none k low is) (λ past. let e : k ≡ n = omega arith in not (subst P e is)) (cases_lt k n)))
    (last_of P decide n))
    (decide n)

module _ (calls : List ClientCall) (order : List ℕ) (early : ℕ) where
  -- a call that ended by then stands at the place
  abbrev EndsAt : ℕ → Type 0
  EndsAt k = (call : ClientCall) × IsAt calls order k call × EndedBy early call

  decide_end : (k : ℕ) (call : ClientCall) → IsAt calls order k call → EndsAt k ⊎ (EndsAt k → ⊥)
  decide_end k call at = by call.end refl
    where
      by : (o : Option ℕ) → call.end ≡ o → EndsAt k ⊎ (EndsAt k → ⊥)
      by None e = inr (λ p. none-some p.2.0 (sym e ∙ ap (λ (c : ClientCall). c.end) (is_at_one calls order k k call p.0 refl at p.1) ∙ p.2.1))
      by (Some end) e = ⊎_elim
          (λ late. inr (λ p. let same = same_Some end p.2.0 (sym e ∙ ap (λ (c : ClientCall). c.end) (is_at_one calls order k k call p.0 refl at p.1) ∙ p.2.1) in let low = p.2.2 in absurd (omega arith)))
          (λ low. inl (call, at, (end, e, low)))
          (cases_lt early end)

  decide_at : (k : ℕ) → EndsAt k ⊎ (EndsAt k → ⊥)
  decide_at k = by_index (slice_get order k) refl
    where
      by_call : (i : ℕ) → slice_get order k ≡ Some i → (o : Option ClientCall) → slice_get calls i ≡ o → EndsAt k ⊎ (EndsAt k → ⊥)
      by_call i at None e = inr (λ p. none-some p.0 (sym e ∙ ap (slice_get calls) (same_Some i p.1.index (sym at ∙ p.1.at)) ∙ p.1.there))
      by_call i at (Some call) e = decide_end k call (record { index = i; at = at; there = e })

      by_index : (o : Option ℕ) → slice_get order k ≡ o → EndsAt k ⊎ (EndsAt k → ⊥)
      by_index None e = inr (λ p. none-some p.1.index (sym e ∙ p.1.at))
      by_index (Some i) e = by_call i e (slice_get calls i) refl

  -- the first n of the order are as far as it has to go
  record IsEnough (n : ℕ) : Type 0 where
    pub all : (k : ℕ) → EndsAt k → k < n
    pub needed : (k : ℕ) → k < n → (l : ℕ) × (k ≤ l) × EndsAt l

  enough : (n : ℕ) × IsEnough n
  enough = ⊎_elim
      (λ some. let lt = some.1 in (
        some.0 + 1,
        record {
          all = λ k ends. let within = at_within calls order k ends.0 ends.1 in ⊎_elim (λ past. absurd (some.3 k past within ends)) (λ low. omega arith) (cases_lt some.0 k);
          needed = λ k low. (some.0, omega arith, some.2);
        },
      ))
      (λ none. (
        0,
        record {
          all = λ k ends. absurd (none k (at_within calls order k ends.0 ends.1) ends);
          needed = λ k low. absurd (omega arith);
        },
      ))
      (last_of EndsAt decide_at (length order))

  module _ (late : ℕ) (sooner : early ≤ late) (ordered : AreOrdered calls) (whole : IsExplainedBy late calls order) (n : ℕ) (is : IsEnough n) where
    at_of : (k : ℕ) (call : ClientCall) → IsAt calls (take n order) k call → (k < n) × IsAt calls order k call
    at_of k call at = let front = get_take order n k at.index at.at in (front.0, record { index = at.index; at = front.1; there = at.there })

    front_begun : HaveBegun early calls (take n order)
    front_begun k call at =
        let front = at_of k call at in
        let end = is.needed k front.0 in
        let at_end = end.2.1 in
        let low = end.2.2.2 in
        ⊎_elim
        (λ before. ⊎_elim (λ past. absurd (whole.in_time k end.0 call end.2.0 before front.1 at_end (end.2.2.0, end.2.2.1, omega arith))) (λ begun. begun) (cases_lt early call.begin))
        (λ last. let same : call ≡ end.2.0 = (let e : k ≡ end.0 = (let le = end.1 in omega arith) in is_at_one calls order k end.0 call end.2.0 e front.1 at_end) in
        let first = ordered at_end.index end.2.2.0 end.2.0 at_end.there end.2.2.1 in
        subst (λ (c : ClientCall). c.begin ≤ early) (sym same) (omega arith))
        (cases_lt k end.0)

    front_answered : AreAnswered early calls (take n order)
    front_answered i call there ended =
        let low = ended.2 in
        let stands = whole.answered i call there (ended.0, ended.1, omega arith) in
        (stands.0, take_get order n stands.0 i (is.all stands.0 (call, record { index = i; at = stands.1; there = there }, ended)) stands.1)

    front_whole : ExitsAreWhole calls (take n order)
    front_whole k i a b at last there same some =
        let front = at_of k a at in
        let stands = whole.whole k i a b front.1 last there same some in
        let lt : stands.0 < n = ⊎_elim (λ past. absurd (whole.last k stands.0 a b past front.1 (record { index = i; at = stands.1; there = there }) last same)) (λ low. let within = front.0 in omega arith) (cases_lt k stands.0) in
        (stands.0, take_get order n stands.0 i lt stands.1)

    front_behind : AreBehindTheirFirst calls (take n order)
    front_behind k first call at follows =
        let front = at_of k call at in
        let within = front.0 in
        let stood = whole.behind k first call front.1 follows in
        let lt = stood.1 in
        (stood.0, stood.1, take_get order n stood.0 first (omega arith) stood.2)

    front_explains : IsExplainedBy early calls (take n order)
    front_explains =
        let parts = leads_split calls no_locks whole.legal.0 (take n order) (drop n order) (subst (λ (xs : List ℕ). Leads calls no_locks xs whole.legal.0) (sym (take-append-drop n order)) whole.legal.1) in
        record {
          legal = (parts.0, parts.1);
          once = λ j k i p q. whole.once j k i (get_take order n j i p).1 (get_take order n k i q).1;
          begun = front_begun;
          answered = front_answered;
          in_time = λ j k a b lt p q. whole.in_time j k a b lt (at_of j a p).1 (at_of k b q).1;
          last = λ j k a b lt p q. whole.last j k a b lt (at_of j a p).1 (at_of k b q).1;
          whole = front_whole;
          behind = front_behind;
        }

-- the first part of an order that explains the calls up to a time explains them up to an earlier one
pub earlier_explained : (calls : List ClientCall) (order : List ℕ) (early late : ℕ) → early ≤ late → AreOrdered calls → IsExplainedBy late calls order → (n : ℕ) × IsExplainedBy early calls (take n order)
earlier_explained calls order early late sooner ordered whole =
    let cut = enough calls order early in
    (cut.0, front_explains calls order early late sooner ordered whole cut.0 cut.1)

-- first parts of an order that explains the calls up to a time explain them up to each time before the next end
pub explained_before : (calls : List ClientCall) (order : List ℕ) (time end : ℕ) → end ≤ time + 1 → AreOrdered calls → IsExplainedBy time calls order → AreExplainedBefore end calls
explained_before calls order time end next ordered whole early lt =
    let front = earlier_explained calls order early time (omega arith) ordered whole in
    (take front.0 order, front.1)

-- a call that passes others may come before them
pub moves_first : (calls : List ClientCall) (h n : Locks) (call : ClientCall) (i : ℕ) (is js : List ℕ) → slice_get calls i ≡ Some call → Passes calls h call is → Leads calls h (is ++ (i ∷ js)) n → Leads calls h (i ∷ (is ++ js)) n
moves_first calls h n call i [] js at passes leads = leads
moves_first calls h n call i (j ∷ is) js at passes leads =
    let other = leads.0 in
    let m = leads.1 in
    let lets = passes.2 other m leads.2 leads.3 in
    let next = moves_first calls m n call i is js at lets.1 leads.4 in
    let same : next.0 ≡ call = get_one calls i i next.0 call refl next.2 at in
    let step = subst (λ (c : ClientCall). ActStep the_file m c.owner c.act next.1) same next.3 in
    let moved = may_move h passes.0 call.owner other.owner call.act other.act passes.1 lets.0 m next.1 leads.3 step in
    (call, moved.0, at, moved.1, (other, next.1, leads.2, moved.2, next.4))
