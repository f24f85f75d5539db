-- Calls that only ask, taken on a way.
use Rattle.std.proofs.Common.{◌≡◌, ℕ, ◌⊎◌, inl, inr, ⊎_elim, true, List, [], ◌∷◌, ◌++◌, slice_get, Some, refl, sym, subst, append_assoc, append-nil, arith}
use Rattle.std.proofs.lemmas.Option.{none-some}
use Rattle.model.specs.rule.Locks.{Locks, no_locks}
use Rattle.client_history.specs.declared.act.Act.{Act}
use Rattle.client_history.specs.declared.client_call.ClientCall.{ClientCall}
use Rattle.client_history.specs.declared.open_client_call.OpenClientCall.{OpenClientCall}
use Rattle.client_history.specs.rule.Explained.{ActStep, the_file, Leads, Stands, IsExplainedBy}
use Rattle.client_history.specs.code.Moves.{AsksOnly, NoneEnded, FollowsNone, AreOfOthers}
use Rattle.client_history.specs.code.OpenCalls.{Changes}
use Rattle.client_history.specs.code.Search.{AreSound, IsDropped, AreOpenCalls, IsWay}
use Rattle.client_history.proofs.Exchange.{leads_on, legal_explained}
use Rattle.client_history.proofs.Orders.{get_one}
use Rattle.client_history.proofs.OwnQuestions.{asks_same}
use Rattle.client_history.proofs.Places.{stands_left, stands_split, stands_apart, stands_first, stands_more, stands_alone, decide_stands}
use Rattle.client_history.proofs.Steps.{leads_join}
use Rattle.client_history.proofs.Ways.{asks_or_changes}

-- calls lead on as well without one among them that only asks
without_question : (calls : List ClientCall) (h n : Locks) (before behind : List ℕ) (i : ℕ) (call : ClientCall) → slice_get calls i ≡ Some call → AsksOnly call.act → Leads calls h (before ++ (i ∷ behind)) n → Leads calls h (before ++ behind) n
without_question calls h n [] behind i call there asks leads =
    let same = get_one calls i i leads.0 call refl leads.2 there in
    let mid = asks_same h leads.1 leads.0.owner leads.0.act (subst (λ (c : ClientCall). AsksOnly c.act) (sym same) asks) leads.3 in
    subst (λ (m : Locks). Leads calls m behind n) mid leads.4
without_question calls h n (x ∷ before) behind i call there asks leads =
    (leads.0, leads.1, leads.2, leads.3, without_question calls leads.1 n before behind i call there asks leads.4)

-- an open call that asks only and may be asked here
abbrev pub MayBeAsked : List OpenClientCall → Locks → ℕ → Type 0
MayBeAsked running h i = (k : ℕ) × (one : OpenClientCall) × (slice_get running k ≡ Some one) × (one.index ≡ i) × AsksOnly one.call.act × ActStep the_file h one.call.owner one.call.act h

module _ (calls : List ClientCall) (begun over : List ℕ) (running : List OpenClientCall) (time : ℕ) (taken more : List ℕ) (h : Locks) where
  -- the way so far to one with more calls taken: the part of the rest that was met and stays, and the part still to be met
  record IsMetTo (way one two : List ℕ) : Type 0 where
    pub explains : IsExplainedBy time calls (way ++ (one ++ two))
    pub leads : Leads calls no_locks way h
    pub ended : (i : ℕ) → Stands over i → Stands way i
    pub noted : (i : ℕ) (call : ClientCall) → Stands way i → slice_get calls i ≡ Some call → Stands more i ⊎ (Stands over i ⊎ IsDropped calls over call)
    pub met : (i : ℕ) → Stands one i → Stands more i → ⊥
    pub fresh : (i : ℕ) → Stands two i → Stands taken i → ⊥
    pub changed : (i : ℕ) (call : ClientCall) → Stands taken i → slice_get calls i ≡ Some call → Changes call.act → Stands way i

  module _ (sound : AreSound calls) (are : AreOpenCalls calls begun over running) (added : (i : ℕ) → Stands more i → Stands taken i ⊎ MayBeAsked running h i) where
    module _ (way one two : List ℕ) (r : ℕ) (is : IsMetTo way one (r ∷ two)) where
      -- a call that is not taken more stays in the rest
      stays_behind : (Stands more r → ⊥) → IsMetTo way (one ++ (r ∷ [])) two
      stays_behind other = record {
        explains = subst (λ (xs : List ℕ). IsExplainedBy time calls (way ++ xs)) (sym (append_assoc one (r ∷ []) two)) is.explains;
        leads = is.leads;
        ended = is.ended;
        noted = is.noted;
        met = λ i s m. ⊎_elim (λ old. is.met i old m) (λ last. other (subst (λ (j : ℕ). Stands more j) (stands_alone r i last) m)) (stands_split one (r ∷ []) i s);
        fresh = λ i s. is.fresh i (stands_more r two i s);
        changed = is.changed;
      }

      module _ (asked : MayBeAsked running h r) (new : Stands more r) where
        abbrev call : ClientCall
        call = asked.1.call

        there : slice_get calls r ≡ Some call
        there = subst (λ (i : ℕ). slice_get calls i ≡ Some call) asked.3 (are.there asked.0 asked.1 asked.2)

        none_ended : NoneEnded calls one call.begin
        none_ended k b at ends =
            let begins = subst (λ (i : ℕ). Stands begun i) asked.3 (are.opened asked.0 asked.1 asked.2).0 in
            let low = are.beside r at.index ends.0 call b begins there at.there not_over ends.1 in
            let lt = ends.2 in
            absurd (omega arith)
          where
            not_over : Stands over at.index → ⊥
            not_over s = stands_apart way (one ++ (r ∷ two)) is.explains.once at.index (is.ended at.index s) (stands_left one (r ∷ two) at.index (k, at.at))

        none_own : call.is_last ≡ true → AreOfOthers calls one call.owner
        none_own last = absurd (subst (λ (a : Act). AsksOnly a) ((sound r call there).drop last) asked.4)

        follows_none : FollowsNone one call
        follows_none first follows = absurd (asks_or_changes call.act asked.4 ((sound r call there).follows first follows).changes)

        moved : IsExplainedBy time calls (way ++ (r ∷ (one ++ two)))
        moved = legal_explained calls way one two time r h call there is.explains is.leads none_ended follows_none none_own
            (call, h, there, asked.5, without_question calls h is.explains.legal.0 one two r call there asked.4 (leads_on calls way one two time r h call there is.explains is.leads))

        -- a call that is taken more leads the way on
        goes_first : IsMetTo (way ++ (r ∷ [])) one two
        goes_first = record {
          explains = subst (λ (xs : List ℕ). IsExplainedBy time calls xs) (sym (append_assoc way (r ∷ []) (one ++ two))) moved;
          leads = leads_join calls no_locks h h way (r ∷ []) is.leads (call, h, there, asked.5, refl);
          ended = λ i s. stands_left way (r ∷ []) i (is.ended i s);
          noted = λ i c s at. ⊎_elim
              (λ old. is.noted i c old at)
              (λ last. inl (subst (λ (j : ℕ). Stands more j) (sym (stands_alone r i last)) new))
              (stands_split way (r ∷ []) i s);
          met = is.met;
          fresh = λ i s. is.fresh i (stands_more r two i s);
          changed = λ i c s at changes. stands_left way (r ∷ []) i (is.changed i c s at changes);
        }

    -- after all of the rest is met, the way is one with more calls taken
    all_met : (way one : List ℕ) → IsMetTo way one [] → IsWay calls over time more h way one
    all_met way one is = record {
      explains = subst (λ (xs : List ℕ). IsExplainedBy time calls (way ++ xs)) (append-nil one) is.explains;
      leads = is.leads;
      ended = is.ended;
      noted = is.noted;
      fresh = is.met;
      changed = λ i c s at changes. ⊎_elim (λ was. is.changed i c was at changes) (λ asked. absurd (by i c at changes asked)) (added i s);
    }
      where
        by : (i : ℕ) (c : ClientCall) → slice_get calls i ≡ Some c → Changes c.act → MayBeAsked running h i → ⊥
        by i c at changes asked =
            let same = get_one calls asked.1.index i asked.1.call c asked.3 (are.there asked.0 asked.1 asked.2) at in
            asks_or_changes c.act (subst (λ (d : ClientCall). AsksOnly d.act) same asked.4) changes

    meet_all : (two one way : List ℕ) → IsMetTo way one two → (longer : List ℕ) × (rest : List ℕ) × IsWay calls over time more h longer rest
    meet_all [] one way is = (way, one, all_met way one is)
    meet_all (r ∷ two) one way is = ⊎_elim
        (λ new. ⊎_elim
        (λ was. absurd (is.fresh r (stands_first r two) was))
        (λ asked. meet_all two one (way ++ (r ∷ [])) (goes_first way one two r is asked new))
        (added r new))
        (λ other. meet_all two (one ++ (r ∷ [])) way (stays_behind way one two r is other))
        (decide_stands more r)

    -- where calls that only ask are taken, the way goes on by those of them that stand in the rest
    pub way_asked : ((i : ℕ) → Stands taken i → Stands more i) → (way rest : List ℕ) → IsWay calls over time taken h way rest → (longer : List ℕ) × (left : List ℕ) × IsWay calls over time more h longer left
    way_asked kept way rest is = meet_all rest [] way (record {
      explains = is.explains;
      leads = is.leads;
      ended = is.ended;
      noted = λ i c s at. ⊎_elim (λ was. inl (kept i was)) (λ past. inr past) (is.noted i c s at);
      met = λ i s. absurd (none_stands i s);
      fresh = is.fresh;
      changed = is.changed;
    })
      where
        none_stands : (i : ℕ) → Stands [] i → ⊥
        none_stands i s = none-some i s.1
