-- The deeds of calls, the calls that the clients of a run saw, and that one table of record locks explains them.
use Rattle.std.specs.Prelude.{◌≡◌, ℕ, zero, suc, if◌then◌else◌, List, [], ◌∷◌, ◌++◌, Option, Some, None, Result, Ok, Err, ◌+◌, ◌==◌, ◌<◌, ◌≤◌, length, false, map, filter_map}
use Rattle.intervals.specs.rule.Bytes.{Range}
use Rattle.model.specs.declared.lock_info.LockInfo.{LockInfo}
use Rattle.model.specs.declared.mode.Mode.{Mode}
use Rattle.model.specs.declared.opened.Opened.{Opened}
use Rattle.model.specs.declared.op.Op.{Op}
use Rattle.model.specs.declared.op.Op.TheVariants.{Close, Exit, Lock, Unlock}
use Rattle.model.specs.declared.op.LockCommand.{LockCommand}
use Rattle.model.specs.declared.op.LockCommand.TheVariants.{Set, Wait, Query}
use Rattle.model.specs.declared.process.Process.{Process}
use Rattle.model.specs.declared.reply.Reply.{Reply}
use Rattle.model.specs.declared.reply.Reply.TheVariants.{Done, Again, Free, Blocked}
use Rattle.model.specs.rule.Limits.{most_processes, most_descriptors, IsProcess}
use Rattle.model.specs.rule.Owners.{process_owner, description_owner}
use Rattle.model.specs.rule.Locks.{Locks}
use Rattle.model.specs.rule.Descriptors.{is_open}
use Rattle.model.specs.rule.Table.{Table, LockTarget, target, call_target, around, descriptor, is_running, closed, closed_below, exited_to, empty_table}
use Rattle.client_history.specs.declared.act.Act.{Act}
use Rattle.client_history.specs.declared.act.Act.TheVariants.{Locks as Takes, IsDenied, IsFree, Frees, Drops}
use Rattle.client_history.specs.rule.Explained.{ActStep, IsExplainedBy, always}
use Rattle.run_clients.specs.declared.deed.Deed.{Deed}
use Rattle.std.specs.List.{AllByRecursion}
use Rattle.model.specs.declared.call.CallId.{CallId}
use Rattle.messages.specs.rule.Shapes.{ShapeFields, IsShape, most_regions}
use Rattle.messages.specs.declared.entry.Entry.{Entry}
use Rattle.cluster_core.specs.rule.World.{WorldState, first_world, journal_limit}
use Rattle.cluster_core.specs.rule.Runs.{Leads}
use Rattle.cluster_core.specs.declared.item.Item.{Item}
use Rattle.cluster_core.specs.declared.item.Item.TheVariants.{Answered, Gone}
use Rattle.cluster_core.specs.rule.Histories.{caller, ItemStep, IsCalledAt, IsRepliedAt, HasHistory, EachAtItsPlace, IsDeclaredAt}
use Rattle.client_history.specs.declared.client_call.ClientCall.{ClientCall}
use Rattle.run_clients.specs.declared.answer_time.AnswerTime.{AnswerTime}
use Rattle.run_clients.specs.declared.answer_time.AnswerTime.TheVariants.{At, Never}
use Rattle.run_clients.specs.declared.file_call.FileCall.{FileCall}

-- the deed of a lock call with this target
abbrev pub deed_of : LockTarget → Act → Deed
deed_of c act = record { file = c.file; owner = c.owner; act = act }

-- the act of a call that the lock blocked, where the client was told all of the lock
abbrev pub denied : Mode → Range → LockInfo → Act
denied mode span lock = IsDenied mode span (record { mode = Some lock.mode; span = Some lock.span; owner = Some lock.owner })

-- the deed of a set or a wait with this reply (POSIX.1-2017 fcntl(), F_SETLK, F_SETLKW)
abbrev pub locking : Mode → Reply → Result LockTarget Reply → Option Deed
locking mode reply (Err refusal) = None
locking mode Done (Ok c) = Some (deed_of c (Takes mode c.span))
locking mode (Again lock) (Ok c) = Some (deed_of c (denied mode c.span lock))
locking mode _ (Ok c) = None

-- the deed of an unlock with this reply (POSIX.1-2017 fcntl(), F_SETLK with F_UNLCK)
abbrev pub unlocking : Reply → Result LockTarget Reply → Option Deed
unlocking reply (Err refusal) = None
unlocking Done (Ok c) = Some (deed_of c (Frees c.span))
unlocking _ (Ok c) = None

-- the deed of a query with this reply (POSIX.1-2017 fcntl(), F_GETLK)
abbrev pub asking : Mode → Reply → Result LockTarget Reply → Option Deed
asking mode reply (Err refusal) = None
asking mode Free (Ok c) = Some (deed_of c (IsFree mode c.span))
asking mode (Blocked lock) (Ok c) = Some (deed_of c (denied mode c.span lock))
asking mode _ (Ok c) = None

-- what each command does that is answered so
abbrev pub commanding : LockCommand → Mode → Reply → Result LockTarget Reply → Option Deed
commanding Set = locking
commanding Wait = locking
commanding Query = asking

-- what a lock call does that is answered so, where it passes its tests
abbrev pub lock_deed : Table → Process → Op → Reply → Option Deed
lock_deed t p (Lock call) reply = commanding call.command call.mode reply (call_target t p call)
lock_deed t p (Unlock fd kind start len) reply = unlocking reply (target t p None fd kind start len)
lock_deed t p _ reply = None

-- the list of the deed, or the empty list
abbrev pub listed : Option Deed → List Deed
listed None = []
listed (Some d) = d ∷ []

-- the process loses all that it has in the file
abbrev pub drop : ℕ → Process → Deed
drop file p = record { file = file; owner = process_owner p; act = Drops }

abbrev pub drop_description : ℕ → Process → ℕ → Deed
drop_description file p d = record { file = file; owner = description_owner p d; act = Drops }

-- a close: the process loses its locks in the file, as does the description, if that was its last descriptor (POSIX.1-2017 close(), fcntl(); Linux fcntl(2))
abbrev pub closing : Table → Process → ℕ → Option Opened → List Deed
closing t p fd None = []
closing t p fd (Some o) = drop o.file p ∷ (if is_open (around (closed t p fd o) p) o.description then [] else drop_description o.file p o.description ∷ [])

-- the descriptors below n of the process are closed, one after the other
unfoldable pub closings_below : Table → Process → ℕ → List Deed
closings_below t p zero = []
closings_below t p (suc n) = closings_below t p n ++ closing (closed_below t p n) p n (descriptor (closed_below t p n) p n)

-- an exit: each descriptor of the process is closed (POSIX.1-2017 _exit())
abbrev pub exit_deeds : Table → Process → List Deed
exit_deeds t p = closings_below t p most_descriptors

abbrev pub exit_deeds_if : Table → Process → List Deed
exit_deeds_if t p = if is_running t p then exit_deeds t p else []

-- the processes of the node with numbers from 1 to n exit, one after the other
unfoldable pub exits_to : Table → ℕ → ℕ → ℕ → List Deed
exits_to t node incarnation zero = []
exits_to t node incarnation (suc n) = exits_to t node incarnation n ++ exit_deeds_if (exited_to t node incarnation n) (record { node = node; incarnation = incarnation; pid = suc n })

-- a failed node: each of its processes exits
abbrev pub gone_deeds : Table → ℕ → ℕ → List Deed
gone_deeds t node incarnation = exits_to t node incarnation most_processes

-- the deeds of a call of the process with this reply
abbrev pub call_deeds : Table → Process → Op → Reply → List Deed
call_deeds t p (Close fd) Done = closing t p fd (descriptor t p fd)
call_deeds t p Exit Done = exit_deeds t p
call_deeds t p op reply = listed (lock_deed t p op reply)

-- the deeds lead from the old locks to the new ones
abbrev pub DeedsLead : Locks → List Deed → Locks → Type 0
DeedsLead old [] new = old ≡ new
DeedsLead old (d ∷ ds) new = (mid : Locks) × ActStep d.file old d.owner d.act mid × DeedsLead mid ds new

-- the operation of an item; of a node that fails the exit of its processes
abbrev pub op_of : Item → Op
op_of (Answered at id pid op reply) = op
op_of (Gone at node incarnation) = Exit

-- the deeds of an item
abbrev pub item_deeds : Table → Item → List Deed
item_deeds t (Answered at id pid op reply) = call_deeds t (caller id pid) op reply
item_deeds t (Gone at node incarnation) = gone_deeds t node incarnation

-- the deed as a call of its owner
abbrev pub call_of : Op → ℕ → AnswerTime → Deed → FileCall
call_of op begin end d = record { file = d.file; op = op; owner = d.owner; begin = begin; end = end; act = d.act }

-- the item's call is made at the one position and answered at the other, and the item stands between; of a failed node both are that of the item
abbrev pub IsTimed : List Entry → Item → ℕ → ℕ → Type 0
IsTimed es (Answered at id pid op reply) begin end = IsCalledAt es id pid op begin × IsRepliedAt es id reply end × (begin ≤ at) × (at ≤ end)
IsTimed es (Gone at node incarnation) begin end = IsDeclaredAt es node incarnation at × (begin ≡ at) × (end ≡ at)

-- the calls of the items, which lead from one table to another: for each item its deeds there, from its call to its reply
abbrev pub AreSeen : List Entry → Table → List Item → List FileCall → Table → Type 0
AreSeen es t [] seen last = (t ≡ last) × (seen ≡ [])
AreSeen es t (i ∷ is) seen last =
    (next : Table) × (begin : ℕ) × (end : ℕ) × (rest : List FileCall)
    × ItemStep t i next
    × IsTimed es i begin end
    × (seen ≡ map (call_of (op_of i) begin (At end)) (item_deeds t i) ++ rest)
    × AreSeen es next is rest last

-- the process of the call, which was made at that position, makes none behind it
abbrev pub IsLastCall : List Entry → CallId → ℕ → ℕ → Type 0
IsLastCall es id pid at = (later : CallId) (op : Op) (k : ℕ) → caller later pid ≡ caller id pid → IsCalledAt es later pid op k → k ≤ at

-- a lock call that is open: the run has no reply to it, and it has not ended. An exit of its process would be a call behind it, and a process of a node that was declared failed runs no more.
-- So the last table has the descriptors that its process had when it made the call; the deed is what it would do if it were answered there.
pub record IsOpenCall (es : List Entry) (last : Table) (s : FileCall) : Type 0 where
  pub id : CallId
  pub pid : ℕ
  pub process : IsProcess (caller id pid)
  pub called : IsCalledAt es id pid s.op s.begin
  pub unanswered : (reply : Reply) (at : ℕ) → IsRepliedAt es id reply at → ⊥
  pub last_call : IsLastCall es id pid s.begin
  pub deed : Deed
  pub does : lock_deed last (caller id pid) s.op Done ≡ Some deed
  pub is : s ≡ call_of s.op s.begin Never deed

-- no open call was made behind the one position and before the other
abbrev pub NoneIsOpen : List Entry → Table → ℕ → ℕ → Type 0
NoneIsOpen es last from below = (s : FileCall) → IsOpenCall es last s → from < s.begin → s.begin < below → ⊥

-- just these open calls were made behind the one position and before the other, in this order
abbrev pub AreOpen : List Entry → Table → ℕ → ℕ → List FileCall → Type 0
AreOpen es last from below [] = NoneIsOpen es last from below
AreOpen es last from below (s ∷ ss) = IsOpenCall es last s × (from < s.begin) × (s.begin < below) × NoneIsOpen es last from s.begin × AreOpen es last s.begin below ss

-- the open calls between the two positions come behind the old calls
abbrev pub HasOpened : List Entry → Table → ℕ → ℕ → List FileCall → List FileCall → Type 0
HasOpened es last from below old new = (more : List FileCall) × (new ≡ old ++ more) × AreOpen es last from below more

-- the calls that the clients of a run saw: those of its history, in its order, and behind them calls that are open
pub record IsSeen (shape : ShapeFields) (es : List Entry) (seen : List FileCall) : Type 0 where
  pub history : List Item
  pub is_history : HasHistory shape es history
  pub at_places : EachAtItsPlace es history
  pub answered : List FileCall
  pub last : Table
  pub calls : AreSeen es (empty_table (most_regions shape.version)) history answered last
  pub unanswered : List FileCall
  pub open_calls : AllByRecursion (IsOpenCall es last) unanswered
  pub are : seen ≡ answered ++ unanswered

-- all calls that the clients of a run saw: each that is open is there once
abbrev pub IsAllSeen : ShapeFields → List Entry → List FileCall → Type 0
IsAllSeen shape es seen = (s : IsSeen shape es seen) × AreOpen es s.last 0 (length es + 1) s.unanswered

abbrev pub end_of : AnswerTime → Option ℕ
end_of (At position) = Some position
end_of Never = None

-- the call without its file
abbrev pub client_call : FileCall → ClientCall
client_call s = record { owner = s.owner; begin = s.begin; end = end_of s.end; act = s.act; is_last = false; follows = None }

-- the call, if it is about the file
abbrev pub about : ℕ → FileCall → Option ClientCall
about file s = if s.file == file then Some (client_call s) else None

-- the calls about the file, in their order
abbrev pub calls_about : ℕ → List FileCall → List ClientCall
calls_about file seen = filter_map (about file) seen

-- that many indexes, from this one on
abbrev pub indexes_from : ℕ → ℕ → List ℕ
indexes_from from zero = []
indexes_from from (suc n) = from ∷ indexes_from (from + 1) n

-- one table of record locks explains the calls about each file, as many of them as have replies, in the order in which they stand
abbrev pub AreExplained : List FileCall → Type 0
AreExplained seen = (file : ℕ) → (count : ℕ) × IsExplainedBy always (calls_about file seen) (indexes_from 0 count)

-- one table of record locks explains all that the clients of any run saw, if the run is no longer than a journal may be
abbrev pub EveryRunIsExplained : Type 0
EveryRunIsExplained =
    (shape : ShapeFields) (es : List Entry) (w : WorldState)
    → IsShape shape
    → length es ≤ journal_limit
    → Leads (first_world shape) es w
    → (seen : List FileCall) × IsAllSeen shape es seen × AreExplained seen
