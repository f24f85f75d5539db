-- A call that is over, and what its end leaves open.
use Rattle.std.specs.Prelude.{◌≢◌}
use Rattle.std.proofs.Common.{◌≡◌, ℕ, ◌<◌, ◌⊎◌, inl, inr, ⊎_elim, true, List, ◌∷◌, ◌++◌, slice_get, Option, Some, None, IfSome, refl, sym, ap, subst, ◌∙◌}
use Rattle.std.proofs.lemmas.Bool.{cases_order}
use Rattle.std.proofs.lemmas.Option.{none-some, same_Some}
use Rattle.model.specs.rule.Locks.{Locks}
use Rattle.client_history.specs.declared.client_call.ClientCall.{ClientCall}
use Rattle.client_history.specs.declared.open_client_call.OpenClientCall.{OpenClientCall}
use Rattle.client_history.specs.rule.Explained.{EndedBy, Stands, IsAt}
use Rattle.client_history.specs.code.OpenCalls.{IsLeft, IsIn, AreAsked}
use Rattle.client_history.specs.code.Search.{AreSound, IsExitOf, IsDropped, AreOpenCalls, IsWay}
use Rattle.client_history.proofs.Exchange.{get_left}
use Rattle.client_history.proofs.FirstOfWay.{for_exit}
use Rattle.client_history.proofs.Orders.{get_one}
use Rattle.client_history.proofs.Places.{stands_split, stands_first, stands_more, stands_cases, decide_stands}
use Rattle.client_history.proofs.Ways.{none_past_exit, exit_in_way}

-- a call without a reply, of an owner of which the other is the exit
pub record IsSilentOf (calls : List ClientCall) (exit : ClientCall) (i : ℕ) : Type 0 where
  pub call : ClientCall
  pub there : slice_get calls i ≡ Some call
  pub silent : call.end ≡ None
  pub is_last : exit.is_last ≡ true
  pub own : exit.owner ≡ call.owner

-- the calls that are gone when a call ends: that call, and, if it is an exit, each open call of its owner without a reply
pub record AreGone (calls : List ClientCall) (running : List OpenClientCall) (x : ℕ) (call : ClientCall) (gone : List ℕ) : Type 0 where
  pub has : Stands gone x
  pub only : (i : ℕ) → Stands gone i → (i ≡ x) ⊎ IsSilentOf calls call i
  pub silent : (k : ℕ) (one : OpenClientCall) → slice_get running k ≡ Some one → one.exit ≡ Some x → one.call.end ≡ None → Stands gone one.index

-- of the calls taken the list has those that are not gone
pub record AreTakenStill (taken gone still : List ℕ) : Type 0 where
  pub was : (i : ℕ) → Stands still i → Stands taken i × (Stands gone i → ⊥)
  pub is : (i : ℕ) → Stands taken i → (Stands gone i → ⊥) → Stands still i

-- of the open calls the list has those that are not gone
pub record AreOpenStill (running : List OpenClientCall) (gone : List ℕ) (still : List OpenClientCall) : Type 0 where
  pub was : (k : ℕ) (one : OpenClientCall) → slice_get still k ≡ Some one → (j : ℕ) × (slice_get running j ≡ Some one) × (Stands gone one.index → ⊥)
  pub is : (j : ℕ) (one : OpenClientCall) → slice_get running j ≡ Some one → (Stands gone one.index → ⊥) → (k : ℕ) × (slice_get still k ≡ Some one)

-- a fact of the exit that there is
of_exit : (P : ℕ → Type 0) (o : Option ℕ) (e : ℕ) → o ≡ Some e → IfSome o P → P e
of_exit P None e is all = absurd (none-some e is)
of_exit P (Some d) e is all = subst P (same_Some d e is) all

-- a fact of a call with a reply and of one without is a fact of each
by_end : (P : Type 0) (o : Option ℕ) → (o ≡ None → P) → (o ≢ None → P) → P
by_end P None silent some = silent refl
by_end P (Some end) silent some = some (λ e. none-some end (sym e))

module _ (calls : List ClientCall) (begun over : List ℕ) (running : List OpenClientCall) (are : AreOpenCalls calls begun over running) (x : ℕ) (call_x : ClientCall) (there_x : slice_get calls x ≡ Some call_x) (gone : List ℕ) (are_gone : AreGone calls running x call_x gone) where
  -- a call that was dropped stays dropped
  dropped_more : (call : ClientCall) → IsDropped calls over call → IsDropped calls (x ∷ over) call
  dropped_more call d = record { silent = d.silent; exit = d.exit; is_over = stands_more x over d.exit d.is_over; ends = d.ends }

  -- a call that is gone is over or dropped
  gone_is : (i : ℕ) (call : ClientCall) → slice_get calls i ≡ Some call → Stands gone i → Stands (x ∷ over) i ⊎ IsDropped calls (x ∷ over) call
  gone_is i call there s = ⊎_elim (λ e. inl (subst (λ (n : ℕ). Stands (x ∷ over) n) (sym e) (stands_first x over))) (λ one. inr (by one)) (are_gone.only i s)
    where
      by : IsSilentOf calls call_x i → IsDropped calls (x ∷ over) call
      by one = record {
        silent = ap (λ (c : ClientCall). c.end) (get_one calls i i call one.call refl there one.there) ∙ one.silent;
        exit = x;
        is_over = stands_first x over;
        ends = record { last = call_x; there = there_x; is_last = one.is_last; own = one.own ∙ ap (λ (c : ClientCall). c.owner) (get_one calls i i one.call call refl one.there there) };
      }

  not_over : (i : ℕ) → (Stands gone i → ⊥) → (Stands over i → ⊥) → Stands (x ∷ over) i → ⊥
  not_over i here before s = ⊎_elim (λ e. here (subst (λ (n : ℕ). Stands gone n) (sym e) are_gone.has)) before (stands_cases x over i s)

  module _ (left : List OpenClientCall) (still : AreOpenStill running gone left) where
    known_still : (i : ℕ) (call : ClientCall) → Stands begun i → slice_get calls i ≡ Some call → Stands (x ∷ over) i ⊎ (IsDropped calls (x ∷ over) call ⊎ IsIn left i)
    known_still i call begins there = ⊎_elim (λ past. inl (stands_more x over i past)) (λ other. ⊎_elim (λ d. inr (inl (dropped_more call d))) (λ found. by found.0 found.1 found.2 found.3) other) (are.known i call begins there)
      where
        by : (k : ℕ) (one : OpenClientCall) → slice_get running k ≡ Some one → one.index ≡ i → Stands (x ∷ over) i ⊎ (IsDropped calls (x ∷ over) call ⊎ IsIn left i)
        by k one at e = ⊎_elim
            (λ s. ⊎_elim (λ past. inl past) (λ d. inr (inl d)) (gone_is i call there s))
            (λ stays. let now = still.is k one at (λ s. stays (subst (λ (n : ℕ). Stands gone n) e s)) in inr (inr (now.0, one, now.1, e)))
            (decide_stands gone i)

    -- the open calls that are not gone are the open calls after the end
    pub open_closed : AreOpenCalls calls begun (x ∷ over) left
    open_closed = record {
      there = λ k one at. let was = still.was k one at in are.there was.0 one was.1;
      exits = λ k e one at. let was = still.was k one at in are.exits was.0 e one was.1;
      opened = λ k one at. let was = still.was k one at in let opened = are.opened was.0 one was.1 in (opened.0, not_over one.index was.2 opened.1);
      known = known_still;
      beside = λ i j end a b begins there_i there_j past. are.beside i j end a b begins there_i there_j (λ s. past (stands_more x over j s));
    }

  module _ (sound : AreSound calls) (time : ℕ) (taken : List ℕ) (h : Locks) (way rest : List ℕ) (is : IsWay calls over time taken h way rest) (ended : EndedBy time call_x) (taken_x : Stands taken x) where
    -- the call that ended stands on the way
    ended_in_way : Stands way x
    ended_in_way = ⊎_elim (λ past. past) (λ left. absurd (is.fresh x left taken_x)) (stands_split way rest x (is.explains.answered x call_x there_x ended))

    module _ (fewer : List ℕ) (takes : AreTakenStill taken gone fewer) where
      -- the way is one of the calls that are not gone
      pub way_closed : IsWay calls (x ∷ over) time fewer h way rest
      way_closed = record {
        explains = is.explains;
        leads = is.leads;
        ended = λ i s. ⊎_elim (λ e. subst (λ (n : ℕ). Stands way n) (sym e) ended_in_way) (λ past. is.ended i past) (stands_cases x over i s);
        noted = λ i call s there. ⊎_elim
            (λ was. ⊎_elim (λ past. inr (gone_is i call there past)) (λ stays. inl (takes.is i was stays)) (decide_stands gone i))
            (λ past. ⊎_elim (λ before. inr (inl (stands_more x over i before))) (λ d. inr (inr (dropped_more call d))) past)
            (is.noted i call s there);
        fresh = λ i left s. is.fresh i left (takes.was i s).0;
        changed = λ i call s. is.changed i call (takes.was i s).0;
      }

      module _ (asked : AreAsked running taken h) (left : List OpenClientCall) (still : AreOpenStill running gone left) where
        module _ (k : ℕ) (one : OpenClientCall) (at : slice_get running k ≡ Some one) (stays : Stands gone one.index → ⊥) (not_taken : Stands fewer one.index → ⊥) where
          -- a call with a reply that is not gone does not stand on the way
          not_in_way : Stands way one.index → one.call.end ≢ None → ⊥
          not_in_way s some = ⊎_elim
              (λ was. not_taken (takes.is one.index was stays))
              (λ past. ⊎_elim (are.opened k one at).1 (λ d. some d.silent) past)
              (is.noted one.index one.call s (are.there k one at))

          -- the exit of the call's owner is not the call that ended
          not_ended : one.exit ≡ Some x → ⊥
          not_ended has = by_end ⊥ one.call.end
              (λ silent. stays (are_gone.silent k one at has silent))
              (λ some. ⊎_elim (λ past. not_in_way past some) (λ behind. none_past_exit calls over time taken h way rest is x one.index ends.last one.call ended_in_way ends.there ends.is_last behind (are.there k one at) (sym ends.own)) (stands_split way rest one.index (whole some)))
            where
              ends : IsExitOf calls x one.call
              ends = are.exits k x one at has

              whole : one.call.end ≢ None → Stands (way ++ rest) one.index
              whole some = is.explains.whole ended_in_way.0 one.index ends.last one.call
                  (record { index = x; at = get_left way rest ended_in_way.0 x ended_in_way.1; there = ends.there })
                  ends.is_last (are.there k one at) (sym ends.own) some

          -- another exit of the call's owner was not taken
          not_second : (e : ℕ) → IsExitOf calls e one.call → Stands taken e → IsSilentOf calls call_x e → ⊥
          not_second e ends s other = by (cases_order in_way.0 ended_in_way.0)
            where
              in_way : Stands way e
              in_way = exit_in_way calls over time taken h way rest is sound e ends.last ends.there ends.is_last s

              at_e : IsAt calls (way ++ rest) in_way.0 ends.last
              at_e = record { index = e; at = get_left way rest in_way.0 e in_way.1; there = ends.there }

              at_x : IsAt calls (way ++ rest) ended_in_way.0 call_x
              at_x = record { index = x; at = get_left way rest ended_in_way.0 x ended_in_way.1; there = there_x }

              own : call_x.owner ≡ ends.last.owner
              own = other.own ∙ ap (λ (c : ClientCall). c.owner) (get_one calls e e other.call ends.last refl other.there ends.there)

              by : (in_way.0 ≡ ended_in_way.0) ⊎ ((in_way.0 < ended_in_way.0) ⊎ (ended_in_way.0 < in_way.0)) → ⊥
              by (inl same) =
                  let one_index : e ≡ x = get_one way in_way.0 ended_in_way.0 e x same in_way.1 ended_in_way.1 in
                  let one_call = get_one calls e x other.call call_x one_index other.there there_x in
                  none-some ended.0 (sym other.silent ∙ ap (λ (c : ClientCall). c.end) one_call ∙ ended.1)
              by (inr (inl before)) = is.explains.last in_way.0 ended_in_way.0 ends.last call_x before at_e at_x ends.is_last own
              by (inr (inr behind)) = is.explains.last ended_in_way.0 in_way.0 call_x ends.last behind at_x at_e other.is_last (sym own)

          -- a call that is left after the end was left before it
          was_left : IfSome one.exit (λ e. Stands fewer e → ⊥) → IsLeft one taken
          was_left lives = record {
            stays = λ s. not_taken (takes.is one.index s stays);
            lives = for_exit (λ e. Stands taken e → ⊥) one.exit (λ e has s. ⊎_elim
                (λ past. ⊎_elim
                (λ same. not_ended (has ∙ ap Some same))
                (λ other. not_second e (are.exits k e one at has) s other)
                (are_gone.only e past))
                (λ still_there. of_exit (λ (d : ℕ). Stands fewer d → ⊥) one.exit e has lives (takes.is e s still_there))
                (decide_stands gone e));
          }

        -- no call that is not gone and only asks is allowed
        pub asked_closed : AreAsked left fewer h
        asked_closed k one at is_left asks next step =
            let was = still.was k one at in
            asked was.0 one was.1 (was_left was.0 one was.1 was.2 is_left.stays is_left.lives) asks next step

-- the calls that are gone, where each has the one that ended for its exit
pub gone_by_exits : (calls : List ClientCall) (begun over : List ℕ) (running : List OpenClientCall) → AreOpenCalls calls begun over running → (x : ℕ) (call : ClientCall) → slice_get calls x ≡ Some call → (gone : List ℕ) → Stands gone x
    → ((i : ℕ) → Stands gone i → (i ≡ x) ⊎ ((k : ℕ) × (one : OpenClientCall) × (slice_get running k ≡ Some one) × (one.index ≡ i) × (one.exit ≡ Some x) × (one.call.end ≡ None)))
    → ((k : ℕ) (one : OpenClientCall) → slice_get running k ≡ Some one → one.exit ≡ Some x → one.call.end ≡ None → Stands gone one.index)
    → AreGone calls running x call gone
gone_by_exits calls begun over running are x call there gone has only silent = record {
  has = has;
  only = λ i s. ⊎_elim (λ e. inl e) (λ one. inr (by i one.0 one.1 one.2 one.3 one.4 one.5)) (only i s);
  silent = silent;
}
  where
    by : (i k : ℕ) (one : OpenClientCall) → slice_get running k ≡ Some one → one.index ≡ i → one.exit ≡ Some x → one.call.end ≡ None → IsSilentOf calls call i
    by i k one at e has_exit ends_not =
        let ends = are.exits k x one at has_exit in
        let same : ends.last ≡ call = get_one calls x x ends.last call refl ends.there there in
        record {
          call = one.call;
          there = subst (λ (n : ℕ). slice_get calls n ≡ Some one.call) e (are.there k one at);
          silent = ends_not;
          is_last = ap (λ (c : ClientCall). c.is_last) (sym same) ∙ ends.is_last;
          own = ap (λ (c : ClientCall). c.owner) (sym same) ∙ ends.own;
        }
