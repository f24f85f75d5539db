-- The fronts on which the search goes on.
use Rattle.std.proofs.Common.{◌≡◌, ℕ, ◌≤◌, ◌⊎◌, inl, inr, ⊎_elim, List, [], ◌∷◌, ◌++◌, length, slice_get, Some, sym, ap, subst, ◌∙◌, arith}
use Rattle.std.proofs.lemmas.Option.{slice_get_within}
use Rattle.model.specs.rule.Locks.{Locks}
use Rattle.lock_table.specs.rule.Tables.{held}
use Rattle.client_history.specs.declared.client_call.ClientCall.{ClientCall}
use Rattle.client_history.specs.declared.open_client_call.OpenClientCall.{OpenClientCall}
use Rattle.client_history.specs.declared.search_front.SearchFront.{SearchFront}
use Rattle.client_history.specs.rule.Explained.{ActStep, the_file, Stands, IsAt}
use Rattle.client_history.specs.code.OpenCalls.{ComesFirst, IsIn, IsLeftOf, AreAsked, AreFirst}
use Rattle.client_history.specs.code.Search.{IsWay, IsOn, IsCovered, IsAskedOf, HasOnly, HasEqual, HasNext, IsGone, GoesOnFrom, AreTaken}
use Rattle.client_history.specs.code.Taken.{IsAlsoTaken}
use Rattle.client_history.proofs.FirstCalls.{closed_sets_first}
use Rattle.client_history.proofs.FirstOfWay.{first_of_way}
use Rattle.client_history.proofs.Standing.{has_push}
use Rattle.client_history.proofs.Steps.{step_is_one}
use Rattle.client_history.proofs.Ways.{way_taken}
use Rattle.client_history.proofs.AskedWays.{way_asked}

module _ (running : List OpenClientCall) (front mid last : SearchFront) (one : OpenClientCall) (fronts : List SearchFront) where
  -- a front that took the call and asked the others is the next one, if the list has an equal one
  pub has_next : ActStep the_file (held front.table) one.call.owner one.call.act (held mid.table) → IsAlsoTaken one.index front.taken.items mid.taken.items → IsAskedOf running mid last → HasEqual fronts last → HasNext running front one fronts
  has_next step also asked has h wanted =
      let same : held mid.table ≡ h = step_is_one (held front.table) (held mid.table) h one.call.owner one.call.act step wanted in (
        has.0,
        has.1,
        has.2,
        record {
          locks = has.4 ∙ asked.locks ∙ same;
          then = mid.taken.items;
          also = also;
          kept = λ i s. subst (λ (l : List ℕ). Stands l i) (sym has.3) (asked.kept i s);
          added = λ i s. ⊎_elim inl (λ q. inr (q.0, q.1, q.2, q.3, q.4, subst (λ (l : Locks). ActStep the_file l q.1.call.owner q.1.call.act l) same q.5)) (asked.added i (subst (λ (l : List ℕ). Stands l i) has.3 s));
          asked = subst (λ (l : List ℕ). AreAsked running l h) (sym has.3) (subst (λ (l : Locks). AreAsked running last.taken.items l) same asked.asked);
        },
      )

-- the next front of an equal front is the next one
pub next_of_copy : (running : List OpenClientCall) (front copy : SearchFront) (one : OpenClientCall) (fronts : List SearchFront) → held copy.table ≡ held front.table → copy.taken.items ≡ front.taken.items → HasNext running copy one fronts → HasNext running front one fronts
next_of_copy running front copy one fronts locks taken next h step =
    let found = next h (subst (λ (l : Locks). ActStep the_file l one.call.owner one.call.act h) (sym locks) step) in
    (found.0, found.1, found.2, subst (λ (l : List ℕ). IsGone running l one h found.1) taken found.3)

-- the next front stays among more fronts
pub next_of_more : (running : List OpenClientCall) (front : SearchFront) (one : OpenClientCall) (old new : List SearchFront) → ((k : ℕ) (f : SearchFront) → slice_get old k ≡ Some f → (n : ℕ) × (slice_get new n ≡ Some f)) → HasNext running front one old → HasNext running front one new
next_of_more running front one old new all next h step =
    let found = next h step in
    let there = all found.0 found.1 found.2 in
    (there.0, found.1, there.1, found.3)

module _ (running : List OpenClientCall) (front : SearchFront) (x : ℕ) (first : List OpenClientCall) (fronts : List SearchFront) (are : AreFirst (held front.table) running front.taken.items x first) (all : (k : ℕ) (one : OpenClientCall) → slice_get first k ≡ Some one → HasNext running front one fronts) where
  -- after each of the first calls led on, the front goes on
  pub goes_on_from : GoesOnFrom running front x fronts
  goes_on_from calls begun over time ending not_taken on = by (first_of_way calls begun over running time taken h on.way on.rest ending.sound ending.opens on.is_way on.asked x ending.call ending.there ending.ends ending.stays not_taken begins first are closed_sets_first)
    where
      taken : List ℕ
      taken = front.taken.items

      h : Locks
      h = held front.table

      begins : (j k : ℕ) (a : ClientCall) → slice_get (on.way ++ on.rest) k ≡ Some x → j ≤ k → (at : IsAt calls (on.way ++ on.rest) j a) → Stands begun at.index
      begins j k a there le at = ending.begun_by (on.way ++ on.rest) on.is_way.explains j k at.index le there at.at

      by : (one : OpenClientCall) × (n : ℕ) × (f : ComesFirst calls on.way on.rest time h (IsLeftOf running taken) (IsIn are.set)) × (slice_get first n ≡ Some one) × (f.index ≡ one.index) × (f.call ≡ one.call) → IsCovered calls over running time fronts
      by (one, n, f, at, index, call) =
          let next = all n one at f.next (subst (λ (c : ClientCall). ActStep the_file h c.owner c.act f.next) call f.step) in
          let gone = next.3 in
          let there = subst (λ (i : ℕ). slice_get calls i ≡ Some f.call) f.left.3 (ending.opens.there f.left.0 f.left.1 f.left.2 ∙ ap Some f.left.4) in
          let mid = way_taken calls over time taken h on.way on.rest on.is_way (IsLeftOf running taken) (IsIn are.set) f there gone.then
          (λ i s. ⊎_elim (λ e. inl (e ∙ sym index)) inr (gone.also.added i s))
          gone.also.kept
          (subst (λ (i : ℕ). Stands gone.then i) (sym index) gone.also.there) in
          let more = way_asked calls begun over running time gone.then next.1.taken.items f.next ending.sound ending.opens gone.added gone.kept (on.way ++ (f.index ∷ [])) f.behind mid in
          record {
            place = next.0;
            front = next.1;
            there = next.2;
            is_on = record {
              way = more.0;
              rest = more.1;
              is_way = subst (λ (l : Locks). IsWay calls over time next.1.taken.items l more.0 more.1) (sym gone.locks) more.2;
              asked = subst (λ (l : Locks). AreAsked running next.1.taken.items l) (sym gone.locks) gone.asked;
            };
          }

module _ (calls : List ClientCall) (over : List ℕ) (running : List OpenClientCall) (time : ℕ) where
  -- what fronts cover, more fronts cover
  pub covered_more : (old new : List SearchFront) → ((k : ℕ) (f : SearchFront) → slice_get old k ≡ Some f → (n : ℕ) × (slice_get new n ≡ Some f)) → IsCovered calls over running time old → IsCovered calls over running time new
  covered_more old new all is = let there = all is.place is.front is.there in record { place = there.0; front = is.front; there = there.1; is_on = is.is_on }

  -- what a front covers, an equal one covers
  pub covered_equal : (fronts : List SearchFront) (front : SearchFront) → HasEqual fronts front → IsOn calls over running time front.taken.items (held front.table) → IsCovered calls over running time fronts
  covered_equal fronts front has on = record {
    place = has.0;
    front = has.1;
    there = has.2;
    is_on = subst (λ (l : List ℕ). IsOn calls over running time l (held has.1.table)) (sym has.3) (subst (λ (l : Locks). IsOn calls over running time front.taken.items l) (sym has.4) on);
  }

  -- what fronts cover, the last one covers or those before it do
  pub covered_last : (fronts : List SearchFront) (front : SearchFront) → IsCovered calls over running time (fronts ++ front ∷ []) → IsCovered calls over running time fronts ⊎ IsOn calls over running time front.taken.items (held front.table)
  covered_last fronts front is = ⊎_elim
      (λ old. inl (record { place = old.0; front = is.front; there = old.1; is_on = is.is_on }))
      (λ e. inr (subst (λ (f : SearchFront). IsOn calls over running time f.taken.items (held f.table)) e is.is_on))
      (has_push fronts front is.front (is.place, is.there))

  -- an empty list of fronts covers nothing
  pub none_covered : (fronts : List SearchFront) → length fronts ≡ 0 → IsCovered calls over running time fronts → ⊥
  none_covered fronts none is = let within = slice_get_within fronts is.place is.front is.there in absurd (omega arith)

-- where all fronts took the call, they still have with one more that did
pub taken_more : (x : ℕ) (old : List SearchFront) (front : SearchFront) (new : List SearchFront) → HasOnly old front new → Stands front.taken.items x → AreTaken x old → AreTaken x new
taken_more x old front new only took all k other there = ⊎_elim (λ was. all was.0 other was.1) (λ e. subst (λ (f : SearchFront). Stands f.taken.items x) (sym e) took) (only k other there)
