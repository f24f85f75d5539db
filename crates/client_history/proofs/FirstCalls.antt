-- A call of a closed set comes first.
use Rattle.std.specs.Prelude.{◌≢◌}
use Rattle.std.proofs.Common.{◌≡◌, ℕ, zero, suc, ◌+◌, ⊎_elim, true, List, [], ◌∷◌, ◌++◌, length, slice_get, Some, None, refl, sym, subst, arith}
use Rattle.std.proofs.lemmas.Option.{same_Some}
use Rattle.model.specs.rule.Locks.{Locks, no_locks}
use Rattle.client_history.specs.declared.client_call.ClientCall.{ClientCall}
use Rattle.client_history.specs.rule.Explained.{ActStep, the_file, Leads, IsOnce, Stands, IsAt, IsExplainedBy}
use Rattle.client_history.specs.code.OpenCalls.{Calls, IsServed, AreOpen, ComesFirst, ClosedSetsComeFirst}
use Rattle.client_history.specs.code.Moves.{AsksOnly, AreOfOthers}
use Rattle.client_history.proofs.Exchange.{get_split, get_left, get_right, leads_on, first_in_front, moved_explained}
use Rattle.client_history.proofs.Firsts.{first_of}
use Rattle.client_history.proofs.MetCalls.{met_step, met_passes, none_ended, follows_none, of_others}
use Rattle.client_history.proofs.Orders.{get_one}
use Rattle.client_history.proofs.Passed.{ArePassed, kept_is_not_done}
use Rattle.client_history.proofs.Steps.{leads_split}

module _ (calls : List ClientCall) (front earlier later : List ℕ) (time z : ℕ) (h : Locks) (call : ClientCall) (there : slice_get calls z ≡ Some call) (whole : IsExplainedBy time calls (front ++ (earlier ++ (z ∷ later)))) (leads : Leads calls no_locks front h) where
  -- the call is allowed behind those that stand earlier
  record IsReached : Type 0 where
    pub mid : Locks
    pub next : Locks
    pub way : Leads calls h earlier mid
    pub step : ActStep the_file mid call.owner call.act next

  reached : IsReached
  reached =
      let parts = leads_split calls h whole.legal.0 earlier (z ∷ later) (leads_on calls front earlier later time z h call there whole leads) in
      let done = parts.2 in
      let same : done.0 ≡ call = get_one calls z z done.0 call refl done.2 there in
      record { mid = parts.0; next = done.1; way = parts.1; step = subst (λ (c : ClientCall). ActStep the_file parts.0 c.owner c.act done.1) same done.3 }

  earlier_once : IsOnce earlier
  earlier_once j k i p q =
      let same : length front + j ≡ length front + k = whole.once (length front + j) (length front + k) i (get_right front (earlier ++ (z ∷ later)) (length front + j) j i refl (get_left earlier (z ∷ later) j i p)) (get_right front (earlier ++ (z ∷ later)) (length front + k) k i refl (get_left earlier (z ∷ later) k i q)) in
      omega arith

  -- each call that stands without the call stands with it
  stands_with : (i : ℕ) → Stands (earlier ++ later) i → Stands (earlier ++ (z ∷ later)) i
  stands_with i stands = ⊎_elim
      (λ p. (stands.0, get_left earlier (z ∷ later) stands.0 i p.1))
      (λ p. (length earlier + suc p.0, get_right earlier (z ∷ later) (length earlier + suc p.0) (suc p.0) i refl p.2))
      (get_split earlier later stands.0 i stands.1)

  abbrev place : ℕ
  place = length front + length earlier

  call_at : IsAt calls (front ++ (earlier ++ (z ∷ later))) place call
  call_at = record { index = z; at = get_right front (earlier ++ (z ∷ later)) place (length earlier) z refl (get_right earlier (z ∷ later) (length earlier) 0 z (omega arith) refl); there = there }

  -- if an exit has no call of its owner between itself and the front, each other call of the owner that has a reply stands in the front
  ended_in_front : AreOfOthers calls earlier call.owner → call.is_last ≡ true → (i : ℕ) (other : ClientCall) → slice_get calls i ≡ Some other → other.owner ≡ call.owner → other.end ≢ None → i ≢ z → Stands front i
  ended_in_front others last i other found own some differ =
      let stands = whole.whole place i call other call_at last found own some in
      ⊎_elim
      (λ p. (stands.0, p.1))
      (λ p. ⊎_elim
      (λ q. absurd (others p.0 other (record { index = i; at = q.1; there = found }) (sym own)))
      (λ q. absurd (behind stands.0 p.0 q.0 stands.1 p.1 q.1 q.2))
      (get_split earlier (z ∷ later) p.0 i p.2))
      (get_split front (earlier ++ (z ∷ later)) stands.0 i stands.1)
    where
      behind : (k l n : ℕ) → slice_get (front ++ (earlier ++ (z ∷ later))) k ≡ Some i → k ≡ length front + l → l ≡ length earlier + n → slice_get (z ∷ later) n ≡ Some i → ⊥
      behind k l zero at e f got = differ (sym (same_Some z i got))
      behind k l (suc n) at e f got = whole.last place k call other (omega arith) call_at (record { index = i; at = at; there = found }) last own

  module _ (Left : Calls) (Set : ℕ → Type 0) (are_open : AreOpen calls Left) (passed : ArePassed calls h Left Set earlier) (left : Left z call) (chosen : Set z) where
    -- the first of the set comes first
    first_comes : IsServed h Left Set call → (AsksOnly call.act → (next : Locks) → ActStep the_file h call.owner call.act next → ⊥) → ComesFirst calls front (earlier ++ (z ∷ later)) time h Left Set
    first_comes served unasked = ⊎_elim
        (λ kept. absurd (kept_is_not_done calls h reached.mid reached.next Left Set earlier call passed reached.way kept reached.step))
        (λ met.
        let first = met_step calls h reached.mid reached.next Left Set earlier call passed reached.way met reached.step unasked in
        let follows = follows_none calls h reached.mid reached.next Left Set earlier call passed reached.way met reached.step first.1 are_open z left in
        let others = of_others calls h reached.mid reached.next Left Set earlier call passed reached.way met reached.step first.1 in
        record {
          index = z;
          call = call;
          left = left;
          chosen = chosen;
          changes = first.1;
          next = first.0;
          step = first.2;
          ended = λ last. ended_in_front (others last) last;
          stood = first_in_front calls front earlier later time z h call there whole leads follows;
          behind = earlier ++ later;
          explains = moved_explained calls front earlier later time z h call there whole leads
              (none_ended calls h reached.mid reached.next Left Set earlier call passed reached.way met reached.step are_open z left)
              follows
              others
              (met_passes calls h reached.mid reached.next Left Set earlier call passed reached.way met reached.step first.1 earlier_once);
          kept = stands_with;
        })
        served

-- if a set is closed, one of its calls may come first
pub closed_sets_first : ClosedSetsComeFirst
closed_sets_first calls front before behind time x h Left Set are_open closed chosen whole leads all_left =
    let is = first_of Set closed.decided before behind x chosen in
    let had = all_left is.first is.here in
    let passed : ArePassed calls h Left Set is.earlier = record {
      left = λ k call at. is_left at.index call at.there (is.within at.index (k, at.at));
      unchosen = λ k call at. is.none at.index (k, at.at);
      unasked = λ k call at. is_unasked at.index call at.there (is.within at.index (k, at.at));
    } in
    let there = are_open.there is.first had.0 had.1 in
    let order = subst (λ (rest : List ℕ). IsExplainedBy time calls (front ++ rest)) is.splits whole in
    subst (λ (rest : List ℕ). ComesFirst calls front rest time h Left Set) (sym is.splits) (first_comes calls front is.earlier is.later time is.first h had.0 there order leads Left Set are_open passed had.1 is.chosen (closed.served is.first had.0 is.chosen had.1) had.2)
  where
    same_call : (i : ℕ) (call : ClientCall) → slice_get calls i ≡ Some call → (stands : Stands (before ++ (x ∷ [])) i) → (all_left i stands).0 ≡ call
    same_call i call there stands = let had = all_left i stands in get_one calls i i had.0 call refl (are_open.there i had.0 had.1) there

    is_left : (i : ℕ) (call : ClientCall) → slice_get calls i ≡ Some call → Stands (before ++ (x ∷ [])) i → Left i call
    is_left i call there stands = subst (Left i) (same_call i call there stands) (all_left i stands).1

    is_unasked : (i : ℕ) (call : ClientCall) → slice_get calls i ≡ Some call → Stands (before ++ (x ∷ [])) i → AsksOnly call.act → (next : Locks) → ActStep the_file h call.owner call.act next → ⊥
    is_unasked i call there stands = subst (λ (c : ClientCall). AsksOnly c.act → (next : Locks) → ActStep the_file h c.owner c.act next → ⊥) (same_call i call there stands) (all_left i stands).2
