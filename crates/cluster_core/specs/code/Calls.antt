-- The calls of a run by their names, and its history with each answered call at its place.
use Rattle.std.specs.Prelude.{ℕ, Bool, false, if◌then◌else◌, List, [], ◌∷◌, Option, Some, None, ◌+◌, ◌++◌, length, position, filter_map, slice_set}
use Rattle.model.specs.declared.call.CallId.{CallId}
use Rattle.model.specs.declared.op.Op.{Op}
use Rattle.model.specs.declared.reply.Reply.{Reply}
use Rattle.messages.specs.declared.event.Event.{Event}
use Rattle.messages.specs.declared.event.Event.TheVariants.{AtNode, Member, Deliver}
use Rattle.messages.specs.declared.event.NodeInput.TheVariants.{Call}
use Rattle.messages.specs.declared.event.MemberEvent.TheVariants.{Declare}
use Rattle.messages.specs.declared.entry.Entry.{Entry}
use Rattle.messages.specs.rule.Messages.{same_call}
use Rattle.cluster_core.specs.declared.item.Item.{Item}
use Rattle.cluster_core.specs.declared.item.Item.TheVariants.{Answered, Gone}
use Rattle.messages.specs.declared.message.Message.TheVariants.{Deny}
use Rattle.cluster_core.specs.rule.Histories.{names_conflict}

-- the call is of that name
abbrev pub is_named : CallId → Option CallId → Bool
is_named id None = false
is_named id (Some other) = same_call id other

-- the process and its operation, if the event is a call
abbrev pub called_by : Event → Option (ℕ × Op) → Option (ℕ × Op)
called_by (AtNode node (Call pid op)) otherwise = Some (pid, op)
called_by _ otherwise = otherwise

-- the process and the operation of the first entry that makes a call of that name
abbrev pub find_call : List Entry → CallId → Option (ℕ × Op)
find_call [] id = None
find_call (e ∷ es) id = if is_named id e.call then called_by e.event (find_call es id) else find_call es id

-- the item of a call with this reply, at that position
abbrev pub item_of : ℕ → CallId → Reply → Option (ℕ × Op) → Option Item
item_of at id reply None = None
item_of at id reply (Some c) = Some (Answered at id c.0 c.1 reply)

-- the item of a failed node, if the event declares one
abbrev pub gone_at : ℕ → ℕ → Event → Option Item
gone_at at incarnation (Member (Declare node)) = Some (Gone at node incarnation)
gone_at at incarnation _ = None

-- a list with one slot for each entry: the item that stands there, or none
abbrev pub Slots : Type 0
Slots = List (Option Item)

-- the slot with that index gets the item, made for its position
abbrev pub filled : Slots → Option ℕ → (ℕ → Option Item) → Slots
filled slots None item = slots
filled slots (Some k) item = slice_set slots k (item (k + 1))

-- one more slot, for an entry that answers a call: a denied call goes to the slot of the first entry that sent the conflict, any other into the new slot
abbrev pub placed_by : List Entry → Slots → Event → (ℕ → Option Item) → Slots
placed_by past slots (Deliver (Deny file call holder number lock)) item = filled (slots ++ None ∷ []) (position (names_conflict file holder number) past) item
placed_by past slots _ item = slots ++ item (length past + 1) ∷ []

-- one more slot, for an entry with or without a reply
abbrev pub slots_after : List Entry → Slots → Entry → Option (CallId × Reply) → Slots
slots_after past slots e None = slots ++ gone_at (length past + 1) e.incarnation e.event ∷ []
slots_after past slots e (Some r) = placed_by past slots e.event (λ at. item_of at r.0 r.1 (find_call (past ++ e ∷ []) r.0))

-- the slots after more entries
abbrev pub slots_from : List Entry → Slots → List Entry → Slots
slots_from past slots [] = slots
slots_from past slots (e ∷ es) = slots_from (past ++ e ∷ []) (slots_after past slots e e.reply) es

-- the slots of the entries of a run
abbrev pub slots_of : List Entry → Slots
slots_of es = slots_from [] [] es

-- the items in the slots, in order
abbrev pub items_in : Slots → List Item
items_in slots = filter_map (λ slot. slot) slots

-- the history of a run: the items in the slots of its entries
abbrev pub history_of : List Entry → List Item
history_of es = items_in (slots_of es)
