-- The plain history of a run: the items of its slots, without the calls whose replies name a lock.
use Rattle.std.proofs.Common.{◌≡◌, ℕ, zero, suc, refl, sym, ◌∙◌, ap, subst, List, [], ◌∷◌, map, slice_get, Option, Some, None, option_map}
use Rattle.std.proofs.lemmas.Option.{none-some, same_Some, slice_get-map}
use Rattle.std.proofs.lemmas.List.{length-map}
use Rattle.model.specs.declared.call.CallId.{CallId}
use Rattle.model.specs.declared.op.Op.{Op}
use Rattle.model.specs.declared.reply.Reply.{Reply}
use Rattle.model.specs.declared.reply.Reply.TheVariants.{Again, Blocked}
use Rattle.model.specs.rule.Replay.{NamesNoLock}
use Rattle.model.specs.rule.Table.{Table, empty_table}
use Rattle.messages.specs.rule.Shapes.{most_regions, ShapeFields}
use Rattle.messages.specs.declared.entry.Entry.{Entry}
use Rattle.cluster_core.specs.declared.item.Item.{Item}
use Rattle.cluster_core.specs.declared.item.Item.TheVariants.{Answered, Gone}
use Rattle.cluster_core.specs.rule.World.{WorldState, first_world}
use Rattle.cluster_core.specs.rule.Runs.{Leads}
use Rattle.cluster_core.specs.rule.Union.{union}
use Rattle.cluster_core.specs.rule.Histories.{caller, IsPlaced, IsRepliedAt, Legal, OneReply}
use Rattle.cluster_core.specs.code.Calls.{Slots, items_in}
use Rattle.cluster_core.specs.rule.Plain.{IsPlainAnswer, IsPlain}
use Rattle.cluster_core.proofs.history.Prefixes.{table_at}
use Rattle.cluster_core.proofs.history.Quiet.{again_stays, blocked_stays}
use Rattle.cluster_core.proofs.history.Slots.{SlotStep, Stands, HasSlot, AllGone, Slotted, AllSlotted, items_fit, legal_union}

-- the item of a call, unless its reply names a lock
plain_of : Item → Reply → Option Item
plain_of i (Again lock) = None
plain_of i (Blocked lock) = None
plain_of i reply = Some i

plain_slot : Option Item → Option Item
plain_slot None = None
plain_slot (Some (Answered at id pid op reply)) = plain_of (Answered at id pid op reply) reply
plain_slot (Some (Gone at node incarnation)) = Some (Gone at node incarnation)

pub plain_slots : Slots → Slots
plain_slots slots = map plain_slot slots

-- an item that is kept names no lock, and one that names none is kept
abbrev IsUnnamed : Item → Type 0
IsUnnamed (Answered at id pid op reply) = NamesNoLock reply
IsUnnamed (Gone at node incarnation) = Unit {0}

kept_is : (i j : Item) (reply : Reply) → plain_of i reply ≡ Some j → (i ≡ j) × NamesNoLock reply
unfolding plain_of
kept_is i j (Again lock) h = absurd (none-some j h)
kept_is i j (Blocked lock) h = absurd (none-some j h)
kept_is i j reply h = (same_Some i j h, λ lock. (λ e. cc, λ e. cc))

kept : (i : Item) (reply : Reply) → NamesNoLock reply → plain_of i reply ≡ Some i
unfolding plain_of
kept i (Again lock) none = absurd ((none lock).0 refl)
kept i (Blocked lock) none = absurd ((none lock).1 refl)
kept i reply none = refl

kept_item : (o : Option Item) (i : Item) → plain_slot o ≡ Some i → (o ≡ Some i) × IsUnnamed i
unfolding plain_slot
kept_item None i h = absurd (none-some i h)
kept_item (Some (Answered at id pid op reply)) i h =
    let k = kept_is (Answered at id pid op reply) i reply h in
    (ap Some k.0, subst IsUnnamed k.0 k.1)
kept_item (Some (Gone at node incarnation)) i h = (h, subst IsUnnamed (same_Some (Gone at node incarnation) i h) tt)

-- each plain slot leads on as its slot does
kept_step : (t u : Table) (at : ℕ) (id : CallId) (pid : ℕ) (op : Op) (reply : Reply) → SlotStep t (Some (Answered at id pid op reply)) u → SlotStep t (plain_of (Answered at id pid op reply) reply) u
unfolding plain_of
kept_step t u at id pid op (Again lock) s = sym (again_stays t u (caller id pid) op lock s.1)
kept_step t u at id pid op (Blocked lock) s = sym (blocked_stays t u (caller id pid) op lock s.1)
kept_step t u at id pid op reply s = s

plain_step : (t u : Table) (o : Option Item) → SlotStep t o u → SlotStep t (plain_slot o) u
unfolding plain_slot
plain_step t u None s = s
plain_step t u (Some (Answered at id pid op reply)) s = kept_step t u at id pid op reply s
plain_step t u (Some (Gone at node incarnation)) s = s

-- each plain slot is made of a slot
slot_of : (slots : Slots) (q : ℕ) (p : Option Item) → slice_get (map plain_slot slots) q ≡ Some p → (o : Option Item) × (slice_get slots q ≡ Some o) × (plain_slot o ≡ p)
slot_of [] q p h = absurd (none-some p h)
slot_of (o ∷ os) zero p h = (o, refl, same_Some (plain_slot o) p h)
slot_of (o ∷ os) (suc q) p h = slot_of os q p h

-- an item that stands in a slot and names no lock stands in the plain slot
stands_plain : (es : List Entry) (q : ℕ) (i : Item) → Stands es q i → IsUnnamed i → IsPlaced (IsPlainAnswer es) es i
stands_plain es q (Answered at id pid op reply) s none = record {
  call_at = s.1.interval.call_at;
  called = s.1.interval.called;
  after = s.1.interval.after;
  replied = s.1.plain none;
  names_none = none;
}
stands_plain es q (Gone at node incarnation) s none = s.1

module _ (shape : ShapeFields) (es : List Entry) (slots : Slots) (s : Slotted shape es slots) where
  -- an item of a plain slot
  pub record IsThere (q : ℕ) (i : Item) : Type 0 where
    pub stands : Stands es q i
    pub unnamed : IsUnnamed i

  there : (q : ℕ) (i : Item) → slice_get (plain_slots slots) q ≡ Some (Some i) → IsThere q i
  unfolding plain_slots
  there q i h =
      let from = slot_of slots q (Some i) h in
      let is = kept_item from.0 i from.2 in
      record { stands = s.stands q i (from.1 ∙ ap Some is.0); unnamed = is.1 }

  kept_there : (q at : ℕ) (id : CallId) (pid : ℕ) (op : Op) (reply : Reply) → NamesNoLock reply → slice_get slots q ≡ Some (Some (Answered at id pid op reply)) → slice_get (plain_slots slots) q ≡ Some (Some (Answered at id pid op reply))
  unfolding plain_slots plain_slot
  kept_there q at id pid op reply none h = slice_get-map plain_slot slots q ∙ (ap (option_map plain_slot) h ∙ ap Some (kept (Answered at id pid op reply) reply none))

  pub plain_legal : (w : WorldState) → Leads (first_world shape) es w → Legal (empty_table (most_regions shape.version)) (items_in (plain_slots slots)) (union w)
  unfolding plain_slots
  plain_legal w l = legal_union shape es (map plain_slot slots) (length-map slots plain_slot ∙ s.long) (λ k o h.
      let from = slot_of slots k o h in
      subst (λ (x : Option Item). SlotStep (table_at shape es k) x (table_at shape es (suc k))) from.2 (plain_step (table_at shape es k) (table_at shape es (suc k)) from.0 (s.steps k from.0 from.1))) w l

  gone_there : (q at node incarnation : ℕ) → slice_get slots q ≡ Some (Some (Gone at node incarnation)) → slice_get (plain_slots slots) q ≡ Some (Some (Gone at node incarnation))
  unfolding plain_slots plain_slot
  gone_there q at node incarnation h = slice_get-map plain_slot slots q ∙ ap (option_map plain_slot) h

  -- a call that names no lock keeps its slot
  plain_slot_of : AllSlotted es slots → (id : CallId) (reply : Reply) (at : ℕ) → IsRepliedAt es id reply at → NamesNoLock reply → HasSlot (plain_slots slots) id reply
  plain_slot_of all id reply at r none =
      let slot = all id reply at r in
      (slot.0, slot.1, slot.2, slot.3, kept_there slot.0 slot.1 id slot.2 slot.3 reply none slot.4)

  plain_failures : AllGone es (plain_slots slots)
  plain_failures node incarnation at d =
      let there = s.failures node incarnation at d in
      (there.0, gone_there there.0 at node incarnation there.1)

  pub plain_items : OneReply es → AllSlotted es slots → IsPlain es (items_in (plain_slots slots))
  plain_items one all =
      items_fit es (plain_slots slots) (λ q i h. (there q i h).stands) (IsPlainAnswer es) NamesNoLock
      (λ q i h. let its = there q i h in stands_plain es q i its.stands its.unnamed)
      (plain_slot_of all) plain_failures one
