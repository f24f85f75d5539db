-- The call that comes first on a way, up to the end of some call.
use Rattle.std.proofs.Common.{◌≡◌, ℕ, ◌+◌, ◌≤◌, ⊎_elim, true, List, [], ◌∷◌, ◌++◌, length, slice_get, Option, Some, None, IfSome, refl, sym, ap, subst, ◌∙◌, append_assoc, length-append, arith}
use Rattle.std.proofs.lemmas.Option.{none-some, slice_get_within}
use Rattle.model.specs.rule.Locks.{Locks, no_locks}
use Rattle.client_history.specs.declared.client_call.ClientCall.{ClientCall}
use Rattle.client_history.specs.declared.open_client_call.OpenClientCall.{OpenClientCall}
use Rattle.client_history.specs.rule.Explained.{ActStep, the_file, EndedBy, Stands, IsAt, IsExplainedBy}
use Rattle.client_history.specs.code.Moves.{AsksOnly}
use Rattle.client_history.specs.code.OpenCalls.{Calls, Changes, AreOpen, ComesFirst, ClosedSetsComeFirst, IsLeft, IsIn, IsLeftOf, AreAsked, AreOthersTaken, IsFirstTaken, AreFirst}
use Rattle.client_history.specs.code.Search.{AreSound, IsExitOf, AreOpenCalls, IsWay}
use Rattle.client_history.proofs.Exchange.{get_left, get_right}
use Rattle.client_history.proofs.Orders.{get_one}
use Rattle.client_history.proofs.Places.{stands_split, split_at, call_of}
use Rattle.client_history.proofs.Ways.{over_is_past, none_past_exit, exit_in_way}

-- each call that stands in the order no later than a call has begun
abbrev pub HaveBegunTo : List ClientCall → List ℕ → List ℕ → ℕ → Type 0
HaveBegunTo calls begun order x = (j k : ℕ) (a : ClientCall) → slice_get order k ≡ Some x → j ≤ k → (at : IsAt calls order j a) → Stands begun at.index

-- a fact of the exit, if there is one
pub for_exit : (P : ℕ → Type 0) (o : Option ℕ) → ((e : ℕ) → o ≡ Some e → P e) → IfSome o P
for_exit P None all = tt
for_exit P (Some e) all = all e refl

module _ (calls : List ClientCall) (begun over : List ℕ) (running : List OpenClientCall) (time : ℕ) (taken : List ℕ) (h : Locks) (way rest : List ℕ) (sound : AreSound calls) (are : AreOpenCalls calls begun over running) (is : IsWay calls over time taken h way rest) where
  abbrev Left : Calls
  Left = IsLeftOf running taken

  -- an index of an open call is that of its call
  call_is : (k i : ℕ) (one : OpenClientCall) → slice_get running k ≡ Some one → one.index ≡ i → slice_get calls i ≡ Some one.call
  call_is k i one at e = subst (λ (j : ℕ). slice_get calls j ≡ Some one.call) e (are.there k one at)

  -- the calls that are left are open
  pub left_open : AreOpen calls Left
  left_open = record {
    there = λ i call left. call_is left.0 i left.1 left.2 left.3 ∙ ap Some left.4;
    beside = λ i j a b p q end ends. are.beside i j end a b
        (subst (λ (n : ℕ). Stands begun n) p.3 (are.opened p.0 p.1 p.2).0)
        (call_is p.0 i p.1 p.2 p.3 ∙ ap Some p.4)
        (call_is q.0 j q.1 q.2 q.3 ∙ ap Some q.4)
        (λ past. (are.opened q.0 q.1 q.2).1 (subst (λ (n : ℕ). Stands over n) (sym q.3) past))
        ends;
    halves = λ i j a b p q follows.
        let may = (sound i a (call_is p.0 i p.1 p.2 p.3 ∙ ap Some p.4)).follows j follows in
        let same = get_one calls j j may.before b refl may.there (call_is q.0 j q.1 q.2 q.3 ∙ ap Some q.4) in
        (ap (λ (c : ClientCall). c.owner) (sym same) ∙ may.own, subst (λ (c : ClientCall). Changes c.act) same may.changed);
  }

  -- an open call that may stand behind the way is left
  is_left : (k : ℕ) (one : OpenClientCall) → slice_get running k ≡ Some one → (Stands taken one.index → ⊥)
      → ((e : ℕ) (last : ClientCall) → Stands way e → slice_get calls e ≡ Some last → last.is_last ≡ true → one.call.owner ≡ last.owner → ⊥) → IsLeft one taken
  is_left k one at stays lives = record {
    stays = stays;
    lives = for_exit (λ e. Stands taken e → ⊥) one.exit (λ e has s. by e (are.exits k e one at has) s);
  }
    where
      by : (e : ℕ) → IsExitOf calls e one.call → Stands taken e → ⊥
      by e ends s = lives e ends.last (exit_in_way calls over time taken h way rest is sound e ends.last ends.there ends.is_last s) ends.there ends.is_last (sym ends.own)

  -- a call of the rest that has begun is left
  begun_left : (i : ℕ) (call : ClientCall) → Stands rest i → slice_get calls i ≡ Some call → Stands begun i → Left i call
  begun_left i call left there begins = ⊎_elim
      (λ past. absurd (over_is_past calls over time taken h way rest is i past left))
      (λ open_still. ⊎_elim
      (λ d. absurd (none_past_exit calls over time taken h way rest is d.exit i d.ends.last call (is.ended d.exit d.is_over) d.ends.there d.ends.is_last left there (sym d.ends.own)))
      (λ found. by found.0 found.1 found.2 found.3)
      open_still)
      (are.known i call begins there)
    where
      by : (k : ℕ) (one : OpenClientCall) → slice_get running k ≡ Some one → one.index ≡ i → Left i call
      by k one at e =
          let same : one.call ≡ call = get_one calls i i one.call call refl (call_is k i one at e) there in (
            k,
            one,
            at,
            e,
            same,
            is_left k one at
                (λ s. is.fresh i left (subst (λ (n : ℕ). Stands taken n) e s))
                (λ x last s there_x is_last own. none_past_exit calls over time taken h way rest is x i last call s there_x is_last left there (sym (ap (λ (c : ClientCall). c.owner) same) ∙ own)),
          )

  module _ (asked : AreAsked running taken h) where
    -- no call that is left and only asks is allowed
    left_asked : (i : ℕ) (call : ClientCall) → Left i call → AsksOnly call.act → (next : Locks) → ActStep the_file h call.owner call.act next → ⊥
    left_asked i call left asks next step = asked left.0 left.1 left.2 left.5
        (subst (λ (c : ClientCall). AsksOnly c.act) (sym left.4) asks) next
        (subst (λ (c : ClientCall). ActStep the_file h c.owner c.act next) (sym left.4) step)

    module _ (x : ℕ) (call_x : ClientCall) (there_x : slice_get calls x ≡ Some call_x) (ended : EndedBy time call_x) (not_over : Stands over x → ⊥) (not_taken : Stands taken x → ⊥) where
      -- the call that ends stands in the rest
      pub ends_in_rest : Stands rest x
      ends_in_rest = ⊎_elim
          (λ past. absurd (⊎_elim not_taken (λ gone. ⊎_elim not_over (λ d. none-some ended.0 (sym d.silent ∙ ended.1)) gone) (is.noted x call_x past there_x)))
          (λ left. left)
          (stands_split way rest x (is.explains.answered x call_x there_x ended))

      module _ (begins : HaveBegunTo calls begun (way ++ rest) x) (first : List OpenClientCall) (are_first : AreFirst h running taken x first) where
        abbrev Set : ℕ → Type 0
        Set = IsIn are_first.set

        -- a call that stands in the rest no later than the one that ends is left
        to_end_left : (j i : ℕ) → j ≤ ends_in_rest.0 → slice_get rest j ≡ Some i → (call : ClientCall) × Left i call
        to_end_left j i low at =
            let place : slice_get (way ++ rest) (length way + j) ≡ Some i = get_right way rest (length way + j) j i refl at in
            let call = call_of calls no_locks is.explains.legal.0 (way ++ rest) (length way + j) i is.explains.legal.1 place in (
              call.0,
              begun_left i call.0 (j, at) call.1 (begins (length way + j) (length way + ends_in_rest.0) call.0
                  (get_right way rest (length way + ends_in_rest.0) ends_in_rest.0 x refl ends_in_rest.1)
                  (omega arith)
                  (record { index = i; at = place; there = call.1 })),
            )

        -- no call in the rest up to the one that ends only asks and is allowed
        to_end : (before behind : List ℕ) → rest ≡ before ++ (x ∷ behind) → length before ≡ ends_in_rest.0 → (i : ℕ) → Stands (before ++ (x ∷ [])) i
            → (call : ClientCall) × Left i call × (AsksOnly call.act → (next : Locks) → ActStep the_file h call.owner call.act next → ⊥)
        to_end before behind e long i s =
            let within = slice_get_within (before ++ (x ∷ [])) s.0 i s.1 in
            let size = length-append before (x ∷ []) in
            let at = get_left (before ++ (x ∷ [])) behind s.0 i s.1 in
            let found = to_end_left s.0 i (omega arith) (subst (λ (xs : List ℕ). slice_get xs s.0 ≡ Some i) (append_assoc before (x ∷ []) behind ∙ sym e) at) in
            (found.0, found.1, left_asked i found.0 found.1)

        module _ (f : ComesFirst calls way rest time h Left Set) where
          abbrev one : OpenClientCall
          one = f.chosen.1

          place : (n : ℕ) × (slice_get running n ≡ Some one)
          place = are_first.members f.chosen.0 one f.chosen.2

          same : one.call ≡ f.call
          same = get_one calls f.index f.index one.call f.call refl (call_is place.0 f.index one place.1 f.chosen.3) (left_open.there f.index f.call f.left)

          none_past : (e : ℕ) (last : ClientCall) → Stands way e → slice_get calls e ≡ Some last → last.is_last ≡ true → one.call.owner ≡ last.owner → ⊥
          none_past e last s there is_last own =
              let lt = slice_get_within way s.0 e s.1 in
              f.explains.last s.0 (length way) last f.call lt
              (record { index = e; at = get_left way (f.index ∷ f.behind) s.0 e s.1; there = there })
              (record { index = f.index; at = get_right way (f.index ∷ f.behind) (length way) 0 f.index (omega arith) refl; there = left_open.there f.index f.call f.left })
              is_last (sym (ap (λ (c : ClientCall). c.owner) same) ∙ own)

          one_left : IsLeft one taken
          one_left = is_left place.0 one place.1 (λ s. f.left.5.stays (subst (λ (n : ℕ). Stands taken n) (f.chosen.3 ∙ sym f.left.3) s)) none_past

          others_taken : one.call.is_last ≡ true → AreOthersTaken running taken one
          others_taken is_last j other at differ own some =
              let s = f.ended (ap (λ (c : ClientCall). c.is_last) (sym same) ∙ is_last) other.index other.call (are.there j other at) (own ∙ ap (λ (c : ClientCall). c.owner) same) some (λ e. differ (e ∙ sym f.chosen.3)) in
              ⊎_elim (λ was. was) (λ gone. ⊎_elim (λ past. absurd ((are.opened j other at).1 past)) (λ d. absurd (some d.silent)) gone) (is.noted other.index other.call s (are.there j other at))

          first_taken : IsFirstTaken running taken one
          first_taken i follows there =
              let other = there.1 in
              let index = there.3 in
              let is_other = call_is there.0 i other there.2 index in
              let s = f.stood i (ap (λ (c : ClientCall). c.follows) (sym same) ∙ follows) in
              ⊎_elim
              (λ was. was)
              (λ gone. ⊎_elim
              (λ past. absurd ((are.opened there.0 other there.2).1 (subst (λ (n : ℕ). Stands over n) (sym index) past)))
              (λ d. absurd (none_past d.exit d.ends.last (is.ended d.exit d.is_over) d.ends.there d.ends.is_last (own_of i other.call follows is_other ∙ sym d.ends.own)))
              gone)
              (is.noted i other.call s is_other)
            where
              own_of : (i : ℕ) (first : ClientCall) → one.call.follows ≡ Some i → slice_get calls i ≡ Some first → one.call.owner ≡ first.owner
              own_of i first follows there =
                  let may = (sound one.index one.call (are.there place.0 one place.1)).follows i follows in
                  sym may.own ∙ ap (λ (c : ClientCall). c.owner) (get_one calls i i may.before first refl may.there there)

          given_first : (n : ℕ) × (slice_get first n ≡ Some one)
          given_first = are_first.given f.chosen.0 one f.next f.chosen.2 one_left
              (subst (λ (c : ClientCall). Changes c.act) (sym same) f.changes)
              (subst (λ (c : ClientCall). ActStep the_file h c.owner c.act f.next) (sym same) f.step)
              others_taken
              first_taken

        module _ (hyp : ClosedSetsComeFirst) where
          one_first : ComesFirst calls way rest time h Left Set
          one_first =
              let parts = split_at rest ends_in_rest.0 x ends_in_rest.1 in
              let last = to_end_left ends_in_rest.0 x (omega arith) ends_in_rest.1 in
              subst (λ (xs : List ℕ). ComesFirst calls way xs time h Left Set) (sym parts.2)
              (hyp calls way parts.0 parts.1 time x h Left Set left_open (are_first.closed asked) (are_first.has_end last.0 last.1)
              (subst (λ (xs : List ℕ). IsExplainedBy time calls (way ++ xs)) parts.2 is.explains) is.leads (to_end parts.0 parts.1 parts.2 parts.3))

          -- one of the first calls comes first on the way
          pub first_of_way : (one : OpenClientCall) × (n : ℕ) × (f : ComesFirst calls way rest time h Left Set) × (slice_get first n ≡ Some one) × (f.index ≡ one.index) × (f.call ≡ one.call)
          first_of_way = let n = given_first one_first in (one_first.chosen.1, n.0, one_first, n.1, sym one_first.chosen.3, sym (same one_first))
