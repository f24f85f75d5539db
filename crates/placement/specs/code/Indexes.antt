-- The indexes of the calls and of the conflicts of a run, and what waits as a history is replayed.
use Rattle.std.specs.Prelude.{ℕ, ◌+◌, List, [], ◌∷◌, slice_get, Option, Some, None, ◌≡◌, zero, suc, if◌then◌else◌, ◌<◌, Bool, true, ◌==◌, ◌&&◌, position, IfSome, is_some, ◌≢◌, IsOkAnd}
use Rattle.model.specs.declared.call.CallId.{CallId}
use Rattle.model.specs.declared.op.Op.{Op}
use Rattle.model.specs.declared.reply.Reply.{Reply}
use Rattle.messages.specs.declared.entry.Entry.{Entry}
use Rattle.cluster_core.specs.declared.item.Item.{Item}
use Rattle.cluster_core.specs.code.Calls.{called_by, item_of, gone_at, find_call}
use Rattle.placement.specs.declared.slot.Slot.{Slot}
use Rattle.placement.specs.declared.slot.Slot.TheVariants.{Empty, Declared, Answered}
use Rattle.std.specs.Global.{Vec}
use Rattle.std.specs.HashMap.{get, HashMap}
use Rattle.std.specs.Option.{option_or, option_map_or}
use Rattle.model.specs.declared.host.Host.{Host}
use Rattle.model.specs.rule.Owners.{host_of_call}
use Rattle.messages.specs.rule.Messages.{same_call, same_host, is_conflict}
use Rattle.placement.specs.declared.call_index.CallIndex.{CallIndex}
use Rattle.std.specs.declared.hash.FoldHasher.{FoldHasher}
use Rattle.std.specs.declared.hash.BuildHasherDefault.{BuildHasherDefault}
use Rattle.messages.specs.declared.message.Message.{Message}
use Rattle.messages.specs.declared.message.Message.TheVariants.{Deny}
use Rattle.messages.specs.declared.event.Event.{Event}
use Rattle.messages.specs.declared.event.Event.TheVariants.{Deliver}
use Rattle.cluster_core.specs.rule.Histories.{names_conflict}
use Rattle.placement.specs.declared.revoke_id.RevokeId.{RevokeId}
use Rattle.model.specs.declared.op.Op.TheVariants.{Lock}
use Rattle.model.specs.declared.op.LockCommand.TheVariants.{Wait}
use Rattle.model.specs.declared.process.Process.{Process}
use Rattle.model.specs.declared.reply.Reply.TheVariants.{Interrupted}
use Rattle.model.specs.rule.Table.{Table, call_target}
use Rattle.model.specs.rule.Replay.{NeverAnswers, NamesNoLock}
use Rattle.model.specs.declared.lock_info.LockInfo.{LockInfo}
use Rattle.model.specs.declared.op.LockCommand.{LockCommand}
use Rattle.model.specs.rule.Step.{BlocksCall}

-- the process and the operation of the call that an entry makes, if it makes one
abbrev pub made_by : Option Entry → Option (ℕ × Op)
made_by None = None
made_by (Some e) = called_by e.event None

-- the failure of a node that an entry, at that position, declares, if it declares one
abbrev pub declared_by : ℕ → Option Entry → Option Item
declared_by at None = None
declared_by at (Some e) = gone_at at e.incarnation e.event

-- the item at that position of a call with this answer
abbrev pub answered_so : ℕ → Option (ℕ × Op) → Option (CallId × Reply) → Option Item
answered_so at made None = None
answered_so at made (Some answer) = item_of at answer.0 answer.1 made

-- the item at that position of the call that an entry answers
abbrev pub answered_by : ℕ → Option (ℕ × Op) → Option Entry → Option Item
answered_by at made None = None
answered_by at made (Some e) = answered_so at made e.reply

-- the item that stands at the entry with index k, which has this slot, if one does
abbrev pub stands : List Entry → ℕ → Slot → Option Item
stands all k Empty = None
stands all k Declared = declared_by (k + 1) (slice_get all k)
stands all k (Answered call reply) = answered_by (k + 1) (made_by (slice_get all call)) (slice_get all reply)

-- the items at the entries from the one with index k on, which have these slots
abbrev pub standing : List Entry → ℕ → List Slot → List (Option Item)
standing all k [] = []
standing all k (s ∷ ss) = stands all k s ∷ standing all (k + 1) ss

-- for each node and incarnation: the indexes of the entries that make its calls, in the order of their numbers
abbrev pub Rows : Type 0
Rows = Vec (Vec (Vec ℕ))

-- the list at that place, or an empty one
abbrev pub list_at : {A : Type 0} → List (Vec A) → ℕ → List A
list_at lists place = option_map_or (λ list. list.items) (slice_get lists place) []

-- the row of the host
abbrev pub row_of : Rows → Host → List ℕ
row_of rows host = list_at (list_at rows.items host.node) host.incarnation

-- the entry that a row has for the call of that number; the first number is 1
abbrev pub in_row : List ℕ → ℕ → Option ℕ
in_row row zero = None
in_row row (suc n) = slice_get row n

-- the index of the entry that makes the call, if the call is known
abbrev pub entry_of : CallIndex → CallId → Option ℕ
entry_of calls id = option_or (in_row (row_of calls.rows (host_of_call id)) id.number) (get same_call calls.others id)

-- the new index has all that the old one had, and the call, unless the old one had it
abbrev pub TakesIn : CallIndex → CallId → ℕ → CallIndex → Type 0
TakesIn old id index new = (other : CallId) → entry_of new other ≡ option_or (entry_of old other) (if same_call other id then Some index else None)

-- the process and the operation of the call that the entry with that index makes, if it makes one
abbrev pub call_at : List Entry → Option ℕ → Option (ℕ × Op)
call_at all None = None
call_at all (Some k) = made_by (slice_get all k)

-- the index has each call of the entries by its name, with the place of the first entry that makes it among all entries
pub record Indexes (all : List Entry) (calls : CallIndex) (es : List Entry) : Type 0 where
  pub found : (id : CallId) → call_at all (entry_of calls id) ≡ find_call es id
  pub known : (id : CallId) → is_some (entry_of calls id) ≡ is_some (find_call es id)

abbrev pub same_revoke : RevokeId → RevokeId → Bool
same_revoke a b = (a.file == b.file) && (same_host a.holder b.holder && (a.number == b.number))

-- for each revoke, by its name: one more than the index of an entry, or 0
abbrev pub Conflicts : Type 0
Conflicts = HashMap RevokeId ℕ (BuildHasherDefault FoldHasher)

-- the entry that the index has for a revoke, if it has one
abbrev pub told_at : Option ℕ → Option ℕ
told_at None = None
told_at (Some zero) = None
told_at (Some (suc k)) = Some k

-- the revoke that the event names, where it delivers a denial
abbrev pub denied : Event → Option RevokeId
denied (Deliver (Deny file call holder number lock)) = Some (record { file = file; holder = holder; number = number })
denied _ = None

-- the index knows the revoke that the event names, if it delivers a denial
abbrev pub KnowsDenial : Conflicts → Event → Type 0
KnowsDenial conflicts event = IfSome (denied event) (λ r. is_some (get same_revoke conflicts r) ≡ true)

-- of each revoke that it knows, the index has the first of the entries that answers it by a conflict, if one does
abbrev pub Locates : Conflicts → List Entry → Type 0
Locates conflicts es = (r : RevokeId) → is_some (get same_revoke conflicts r) ≡ true → told_at (get same_revoke conflicts r) ≡ position (names_conflict r.file r.holder r.number) es

-- what an index has for a revoke, after the entry with that index sent a conflict with it, or did not
abbrev pub noted_at : Option ℕ → ℕ → Bool → Option ℕ
noted_at None index sent = None
noted_at (Some zero) index sent = Some (if sent then suc index else zero)
noted_at (Some (suc k)) index sent = Some (suc k)

-- the new index has all that the old one had, and the conflict that the message is, if its revoke is known and had none
abbrev pub Notes : Conflicts → ℕ → Message → Conflicts → Type 0
Notes old index m new = (r : RevokeId) → get same_revoke new r ≡ noted_at (get same_revoke old r) index (is_conflict r.file r.holder r.number m)

-- each entry that the index has is one of the first n
abbrev pub AreBefore : Conflicts → ℕ → Type 0
AreBefore conflicts n = (r : RevokeId) (index : ℕ) → told_at (get same_revoke conflicts r) ≡ Some index → index < n

-- A denied call stands at the first entry that sent the conflict, any other at its reply.
abbrev pub slot_of : List Entry → ℕ → Event → Option ℕ
slot_of past own (Deliver (Deny file call holder number lock)) = position (names_conflict file holder number) past
slot_of past own _ = Some own

-- the table answers the call by an interrupt alone
abbrev pub IsStuck : Table → Process → Op → Type 0
IsStuck t p op = (reply : Reply) → NamesNoLock reply → Interrupted ≢ reply → NeverAnswers t p op reply

-- a call that waits is answered by an interrupt only where the table has no other answer
abbrev pub GoesOn : Table → Process → Op → Reply → Type 0
GoesOn t p (Lock call) reply = call.command ≡ Wait → reply ≡ Interrupted → IsStuck t p (Lock call)
GoesOn t p _ reply = Unit {0}

-- the call has the command and passes its tests, and the lock is a region of another owner that blocks it
abbrev pub BlocksOp : Table → Process → Op → LockCommand → LockInfo → Type 0
BlocksOp t p (Lock call) command lock = (call.command ≡ command) × IsOkAnd (call_target t p call) (λ c. BlocksCall t c call.mode lock)
BlocksOp t p _ command lock = ⊥
