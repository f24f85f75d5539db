-- The slots of a run, with one more entry.
use Rattle.std.proofs.Common.{◌≡◌, ℕ, suc, ◌+◌, ◌<◌, inl, inr, refl, sym, ◌∙◌, ap, subst, arith, List, [], ◌∷◌, ◌++◌, length, length-append, slice_get, slice_set, get_or, Option, Some, None}
use Rattle.std.proofs.lemmas.Option.{slice_get_within, slice_get-get_or, none-some, same_Some}
use Rattle.model.specs.declared.call.CallId.{CallId}
use Rattle.model.specs.declared.host.Host.{Host}
use Rattle.model.specs.declared.lock_info.LockInfo.{LockInfo}
use Rattle.model.specs.declared.op.Op.{Op}
use Rattle.model.specs.declared.reply.Reply.{Reply}
use Rattle.model.specs.rule.Limits.{IsProcess}
use Rattle.model.specs.rule.Replay.{NamesNoLock}
use Rattle.model.specs.rule.Table.{Table}
use Rattle.model.specs.rule.Step.{Step}
use Rattle.messages.specs.rule.Shapes.{ShapeFields}
use Rattle.messages.specs.declared.message.Message.{Message}
use Rattle.messages.specs.declared.message.Message.TheVariants.{Conflict, Deny}
use Rattle.messages.specs.declared.event.Event.{Event}
use Rattle.messages.specs.declared.event.Event.TheVariants.{Deliver, Member}
use Rattle.messages.specs.declared.event.MemberEvent.TheVariants.{Declare}
use Rattle.messages.specs.declared.entry.Entry.{Entry}
use Rattle.cluster_core.specs.declared.item.Item.{Item}
use Rattle.cluster_core.specs.declared.item.Item.TheVariants.{Answered, Gone}
use Rattle.cluster_core.specs.rule.World.{WorldState, first_world}
use Rattle.cluster_core.specs.rule.Runs.{Leads}
use Rattle.cluster_core.specs.rule.Union.{union}
use Rattle.cluster_core.specs.rule.Histories.{caller, names_conflict, ItemStep, EntryAt, IsRevokedAt, IsPlaceOf, IsDeclaredAt, OneCall}
use Rattle.cluster_core.specs.rule.Evidence.{IsWorldAfter, HasEvidence}
use Rattle.cluster_core.specs.code.Calls.{Slots, find_call, item_of, filled, gone_at, placed_by, slots_after, slots_of}
use Rattle.cluster_core.proofs.common.Places.{slice_get-keeps, slice_get-last}
use Rattle.cluster_core.proofs.history.Entries.{not_there, same_answer, Unanswered, entry_at-keeps, entry_at-last, entry_at-within, called_at-keeps, replied_at-last}
use Rattle.cluster_core.proofs.history.Fitting.{Called, called-keeps}
use Rattle.cluster_core.proofs.history.Nodes.{IsNoDenial, IsNoDeclaration}
use Rattle.cluster_core.proofs.history.Prefixes.{table_at, table_at-is, after_all, after-keeps}
use Rattle.cluster_core.proofs.history.Slots.{SlotStep, Slotted, AllSlotted, HasSlot, Stands, IsStanding, position-first, slots_of-push, slice_get-set, step_between, slotted-push, slotted-fill, has_slot-set, has_slot-keeps, all_slotted-push, entry_at-one, revoked-keeps}
use Rattle.cluster_core.proofs.history.Witnesses.{called_one}

-- a call that no server denied goes into the new slot
placed_own : (past : List Entry) (slots : Slots) (event : Event) (item : ℕ → Option Item) → IsNoDenial event → placed_by past slots event item ≡ slots ++ item (length past + 1) ∷ []
placed_own past slots (Deliver (Deny file call holder number lock)) item undenied = absurd undenied
placed_own past slots event item undenied = refl

place_own : (es : List Entry) (event : Event) (at : ℕ) → IsNoDenial event → IsPlaceOf es event at at
place_own es (Deliver (Deny file call holder number lock)) at undenied = absurd undenied
place_own es event at undenied = refl

-- an event that declares nothing
gone_none : (at incarnation : ℕ) (event : Event) → IsNoDeclaration event → gone_at at incarnation event ≡ None
gone_none at incarnation (Member (Declare node)) undeclared = absurd undeclared
gone_none at incarnation event undeclared = refl

declares_none : {A : Type 0} (event : Event) (node : ℕ) → IsNoDeclaration event → event ≡ Member (Declare node) → A
declares_none event node undeclared is = absurd (subst IsNoDeclaration is undeclared)

-- the call that a conflict names
named_by : List Message → Option CallId
named_by (Conflict file number holder call lock ∷ ms) = Some call
named_by _ = None

one_call_named : (ms : List Message) (f k g l : ℕ) (h i : Host) (c d : CallId) (a b : LockInfo) → ms ≡ Conflict f k h c a ∷ [] → ms ≡ Conflict g l i d b ∷ [] → c ≡ d
unfolding named_by
one_call_named ms f k g l h i c d a b x y = same_Some c d (ap named_by (sym x ∙ y))

no_delivery : {m : Message} {n : ℕ} → Deliver m ≡ Member (Declare n) → ⊥
no_delivery h = cc

-- the node that is declared
node_in : Event → ℕ
node_in (Member (Declare node)) = node
node_in _ = 0

pub declared_node : {m n : ℕ} → Member (Declare m) ≡ Member (Declare n) → m ≡ n
unfolding node_in
declared_node h = ap node_in h

module _ (shape : ShapeFields) (past : List Entry) (w later : WorldState) (made : Entry) (stand : Slotted shape past (slots_of past)) (all_stand : AllSlotted past (slots_of past)) (leads : Leads (first_world shape) past w) (leads_on : Leads (first_world shape) (past ++ made ∷ []) later) where
  abbrev run : List Entry
  run = past ++ made ∷ []

  abbrev old : Slots
  old = slots_of past

  -- the slots of the longer run
  pub record Placed : Type 0 where
    pub slotted : Slotted shape run (slots_of run)
    pub all : AllSlotted run (slots_of run)

  placed_as : (slots : Slots) → slots_of run ≡ slots → Slotted shape run slots → AllSlotted run slots → Placed
  placed_as slots is s a = record { slotted = subst (Slotted shape run) (sym is) s; all = subst (AllSlotted run) (sym is) a }

  table_before : table_at shape past (length past) ≡ union w
  table_before = table_at-is shape past (length past) w (after_all shape past (length past) w (omega arith) leads)

  table_after : table_at shape run (suc (length past)) ≡ union later
  table_after = table_at-is shape run (suc (length past)) later (after_all shape run (suc (length past)) later (let long = length-append past (made ∷ []) in omega arith) leads_on)

  slot_step : (o : Option Item) → SlotStep (union w) o (union later) → SlotStep (table_at shape past (length past)) o (table_at shape run (suc (length past)))
  slot_step o step = step_between (union w) (union later) (table_at shape past (length past)) (table_at shape run (suc (length past))) o table_before table_after step

  with_empty : IsNoDeclaration made.event → union w ≡ union later → Slotted shape run (old ++ None ∷ [])
  with_empty undeclared same = slotted-push shape past old made None (λ i h. absurd (none-some i h)) (slot_step None same) (λ node is. declares_none made.event node undeclared is) stand

  -- an entry that answers nothing
  pub nothing_placed : IsNoDeclaration made.event → made.reply ≡ None → union w ≡ union later → Placed
  nothing_placed undeclared none same =
      placed_as (old ++ None ∷ []) (slots_of-push past made ∙ (ap (slots_after past old made) none ∙ ap (λ (o : Option Item). old ++ o ∷ []) (gone_none (length past + 1) made.incarnation made.event undeclared))) (with_empty undeclared same)
      (all_slotted-push past old (old ++ None ∷ []) made all_stand (λ id reply s. has_slot-keeps old (None ∷ []) id reply s) (λ id reply h. absurd (not_there made.reply (id, reply) none h)))

  -- a node is declared failed: its processes exit
  pub gone_placed : (node incarnation : ℕ) → made.event ≡ Member (Declare node) → made.incarnation ≡ incarnation → made.reply ≡ None → ItemStep (union w) (Gone (length past + 1) node incarnation) (union later) → Placed
  gone_placed node incarnation is_declare of none step =
      let at = length past + 1 in
      let item = Gone at node incarnation in
      let slots = old ++ Some item ∷ [] in
      let is : slots_of run ≡ slots =
      slots_of-push past made ∙ (ap (slots_after past old made) none
      ∙ ((λ j. old ++ gone_at at (of j) (is_declare j) ∷ []))) in
      let declared : IsDeclaredAt run node incarnation at = record { declaring = made; there = entry_at-last past made; is_declare = is_declare; of = of } in
      placed_as slots is
      (slotted-push shape past old made (Some item) (λ i h. subst (Stands run (length past)) (same_Some item i h) (refl, declared)) (slot_step (Some item) step)
      (λ other h. λ j. Some (Gone at (declared_node (sym is_declare ∙ h) j) (sym of j))) stand)
      (all_slotted-push past old slots made all_stand (λ id reply s. has_slot-keeps old (Some item ∷ []) id reply s) (λ id reply h. absurd (not_there made.reply (id, reply) none h)))

  module _ (id : CallId) (pid : ℕ) (op : Op) (reply : Reply) (is_reply : made.reply ≡ Some (id, reply)) where
    abbrev item_at : ℕ → Item
    item_at at = Answered at id pid op reply

    found_item : (at : ℕ) → find_call run id ≡ Some (pid, op) → item_of at id reply (find_call run id) ≡ Some (item_at at)
    found_item at found = ap (item_of at id reply) found

    new_slot : (slots : Slots) (q at : ℕ) → slice_get slots q ≡ Some (Some (item_at at)) → (other : CallId) (r : Reply) → made.reply ≡ Some (other, r) → HasSlot slots other r
    new_slot slots q at there other r h =
        let both = same_answer made.reply id other reply r is_reply h in
        let P : CallId → Type 0 = λ x. HasSlot slots x r in
        let Q : Reply → Type 0 = λ x. HasSlot slots id x in
        subst P both.0 (subst Q both.1 (q, at, pid, op, there))

    -- a call is answered that no server denied
    pub answer_placed : IsNoDenial made.event → IsNoDeclaration made.event → Called run id pid op → ItemStep (union w) (item_at (length past + 1)) (union later) → Placed
    answer_placed undenied undeclared c step =
        let at = length past + 1 in
        let item = item_at at in
        let slots = old ++ Some item ∷ [] in
        let is : slots_of run ≡ slots =
        slots_of-push past made ∙ (ap (slots_after past old made) is_reply
        ∙ (placed_own past old made.event (λ k. item_of k id reply (find_call run id)) undenied
        ∙ ap (λ (o : Option Item). old ++ o ∷ []) (found_item at c.found))) in
        let early = entry_at-within run c.at c.there.calling c.there.there in
        let long = length-append past (made ∷ []) in
        let standing : IsStanding run id pid op reply at = record {
          interval = record { call_at = c.at; reply_at = at; called = c.there; replied = replied_at-last past made id reply is_reply; after = omega arith; before = omega arith };
          place = record { reply_at = at; replying = made; there = entry_at-last past made; is_reply = is_reply; place = place_own run made.event at undenied };
          plain = λ none. replied_at-last past made id reply is_reply;
          marking = made;
          there = entry_at-last past made;
          mark = inl (reply, is_reply);
        } in
        let there : slice_get slots (length old) ≡ Some (Some item) = slice_get-last old (Some item) in
        placed_as slots is
        (slotted-push shape past old made (Some item) (λ i h. subst (Stands run (length past)) (same_Some item i h) (refl, standing)) (slot_step (Some item) step) (λ node is. declares_none made.event node undeclared is) stand)
        (all_slotted-push past old slots made all_stand (λ other r s. has_slot-keeps old (Some item ∷ []) other r s) (new_slot slots (length old) at there))

    -- a call is answered that a server denied: it goes to the entry where its holder did the revoke
    module _ (file number : ℕ) (holder : Host) (lock : LockInfo) (ev : HasEvidence shape past file id holder number lock) (is_deny : made.event ≡ Deliver (Deny file id holder number lock)) (c : Called past id pid op) (unanswered : Unanswered past id) (one : OneCall past) where
      abbrev k : ℕ
      k = ev.revoked.there.0

      abbrev revoking : Entry
      revoking = ev.revoked.revoking

      k_in : k < length past
      k_in = slice_get_within past k revoking ev.revoked.there.2

      there_at : EntryAt past (k + 1) revoking
      there_at = (k, refl, ev.revoked.there.2)

      -- the slot is not filled yet
      not_full : (i : Item) → Stands past k i → ⊥
      not_full (Answered at other pid2 op2 r) s =
          let here : EntryAt past (k + 1) s.1.marking = subst (λ (j : ℕ). EntryAt past j s.1.marking) s.0 s.1.there in
          let same : s.1.marking ≡ revoking = entry_at-one past (k + 1) s.1.marking revoking here there_at in
          elim s.1.mark [
            | inl own ↦ not_there revoking.reply (other, own.0) ev.no_reply (ap (λ (e : Entry). e.reply) (sym same) ∙ own.1)
            | inr told ↦
                let names : other ≡ id = one_call_named revoking.sends told.0 told.2 file number told.1 holder other id told.3 lock (ap (λ (e : Entry). e.sends) (sym same) ∙ told.4) ev.answer in
                subst (Unanswered past) (sym names) unanswered r s.1.interval.reply_at s.1.interval.replied
          ]
      not_full (Gone at node incarnation) s =
          let here : EntryAt past (k + 1) s.1.declaring = subst (λ (j : ℕ). EntryAt past j s.1.declaring) s.0 s.1.there in
          let same : s.1.declaring ≡ revoking = entry_at-one past (k + 1) s.1.declaring revoking here there_at in
          no_delivery (sym (ap (λ (e : Entry). e.event) same ∙ ev.does) ∙ s.1.is_declare)

      slot_there : slice_get old k ≡ Some None
      slot_there =
          let inside : k < length old = let l = stand.long in let within = k_in in omega arith in
          let x = slice_get_of old k inside in
          empty_or_full x.0 x.1
        where
          slice_get_of : (slots : Slots) (q : ℕ) → q < length slots → (o : Option Item) × (slice_get slots q ≡ Some o)
          slice_get_of slots q lt = (get_or slots q None, slice_get-get_or slots q None lt)

          empty_or_full : (o : Option Item) → slice_get old k ≡ Some o → slice_get old k ≡ Some None
          empty_or_full None h = h
          empty_or_full (Some i) h = absurd (not_full i (stand.stands k i h))

      pub denial_placed : (NamesNoLock reply → ⊥) → union w ≡ union later → IsProcess (caller id pid) → Step (union ev.world) (caller id ev.asked.pid) ev.asked.op reply (union ev.world) → Placed
      denial_placed names same process step =
          let item = item_at (k + 1) in
          let wide = old ++ None ∷ [] in
          let slots = slice_set wide k (Some item) in
          let found = (called-keeps past (made ∷ []) id pid op c).found in
          let finder : ℕ → Option Item = λ at. item_of at id reply (find_call run id) in
          let place = position-first (names_conflict file holder number) revoking ev.revoked.names past k ev.revoked.there.2 (λ j d lt h. ev.revoked.first (j + 1) d (let is = ev.revoked.there.1 in omega arith) (j, refl, h)) in
          let is : slots_of run ≡ slots =
          slots_of-push past made ∙ (ap (slots_after past old made) is_reply
          ∙ (ap (λ (x : Event). placed_by past old x finder) is_deny
          ∙ (ap (λ (x : Option ℕ). filled wide x finder) place
          ∙ ap (λ (o : Option Item). slice_set wide k o) (found_item (k + 1) found)))) in
          let empty : slice_get wide k ≡ Some None = slice_get-keeps old (None ∷ []) k None slot_there in
          let calls = called_one past id pid ev.asked.pid op ev.asked.op c.at ev.asked.at one c.there ev.asked.called in
          let at_is = ev.revoked.there.1 in
          let asked_at = calls.at_is in
          let later_than = ev.later in
          let within = k_in in
          let standing : IsStanding run id pid op reply (k + 1) = record {
            interval = record { call_at = c.at; reply_at = length past + 1; called = called_at-keeps past (made ∷ []) id pid op c.at c.there; replied = replied_at-last past made id reply is_reply; after = omega arith; before = omega arith };
            place = record { reply_at = length past + 1; replying = made; there = entry_at-last past made; is_reply = is_reply; place = place_there };
            plain = λ none. absurd (names none);
            marking = revoking;
            there = entry_at-keeps past (made ∷ []) (k + 1) revoking there_at;
            mark = inr (file, holder, number, lock, ev.answer);
          } in
          let P : ℕ → Type 0 = λ j. Step (union ev.world) (caller id j) ev.asked.op reply (union ev.world) in
          let Q : Op → Type 0 = λ o. Step (union ev.world) (caller id pid) o reply (union ev.world) in
          let R : Table → Type 0 = λ t. Step t (caller id pid) op reply t in
          let its_step : Step (table_at shape run (suc k)) (caller id pid) op reply (table_at shape run (suc k)) = subst R (sym table_there) (subst Q (sym calls.op_is) (subst P (sym calls.pid_is) step)) in
          let inside = slice_get_within wide k None empty in
          placed_as slots is
          (slotted-fill shape run wide k item empty (refl, standing) (process, its_step) (with_empty (subst IsNoDeclaration (sym is_deny) tt) same))
          (all_slotted-push past old slots made all_stand
          (λ other r s. has_slot-set shape run wide k item empty other r (has_slot-keeps old (None ∷ []) other r s))
          (new_slot slots k (k + 1) (slice_get-set wide k (Some item) inside)))
        where
          place_there : IsPlaceOf run made.event (length past + 1) (k + 1)
          place_there =
              let S : ℕ → Type 0 = λ at. IsRevokedAt run file holder number at in
              let T : Event → Type 0 = λ x. IsPlaceOf run x (length past + 1) (k + 1) in
              subst T (sym is_deny) (subst S ev.revoked.there.1 (revoked-keeps past made file holder number ev.at ev.revoked))

          table_there : table_at shape run (suc k) ≡ union ev.world
          table_there =
              let at_is = ev.revoked.there.1 in
              let next : ev.at ≡ suc k = omega arith in
              let early = entry_at-within past ev.at revoking ev.revoked.there in
              table_at-is shape run (suc k) ev.world (subst (λ (j : ℕ). IsWorldAfter shape run j ev.world) next (after-keeps shape past (made ∷ []) ev.at ev.world early ev.after))
