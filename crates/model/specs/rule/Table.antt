-- The one table: the processes that run, the files that are open, and the locks on each byte.
use Rattle.std.specs.Prelude.{ℕ, zero, suc, Bool, true, false, ◌&&◌, ◌==◌, nat_le, if◌then◌else◌, Option, Some, None, Result, Ok, Err, ℤ}
use Rattle.intervals.specs.declared.span.SpanError.{SpanError}
use Rattle.intervals.specs.declared.span.SpanError.TheVariants.{Invalid, Overflow}
use Rattle.intervals.specs.rule.Bytes.{Range, put}
use Rattle.intervals.specs.rule.Segment.{seg}
use Rattle.model.specs.declared.mode.Mode.{Mode}
use Rattle.model.specs.declared.mode.Mode.TheVariants.{Read, Write}
use Rattle.model.specs.declared.owner.Kind.{Kind}
use Rattle.model.specs.declared.owner.Kind.TheVariants.{OfProcess, OfDescription}
use Rattle.model.specs.declared.owner.Owner.{Owner}
use Rattle.model.specs.declared.access.Access.{Access}
use Rattle.model.specs.declared.access.Access.TheVariants.{ReadOnly, WriteOnly, ReadWrite}
use Rattle.model.specs.declared.op.LockCall.{LockCall}
use Rattle.model.specs.declared.op.LockCommand.{LockCommand}
use Rattle.model.specs.declared.op.LockCommand.TheVariants.{Query}
use Rattle.model.specs.declared.process.Process.{Process}
use Rattle.model.specs.declared.opened.Opened.{Opened}
use Rattle.model.specs.declared.reply.Reply.{Reply}
use Rattle.model.specs.declared.reply.Reply.TheVariants.{Done, NoProcess, BadFd, NoLocks, Invalid as InvalidReply, Overflow as OverflowReply}
use Rattle.model.specs.rule.Limits.{most_processes, most_descriptors}
use Rattle.model.specs.rule.Owners.{process_owner, description_owner}
use Rattle.model.specs.rule.Locks.{Locks, no_locks, with_lock, without_owner, without_owner_anywhere, regions}
use Rattle.model.specs.rule.Descriptors.{Processes, no_processes, with_process, with_descriptor, is_open}

-- the greatest number of regions of an owner in a file; the processes of each node in each incarnation; the locks of each file
pub record Table : Type 0 where
  pub limit : ℕ
  pub on : ℕ → ℕ → Processes
  pub locks : Locks

abbrev pub empty_table : ℕ → Table
empty_table limit = record { limit = limit; on = λ node incarnation. no_processes; locks = no_locks }

-- the processes of the node of process p, in p's incarnation
abbrev pub around : Table → Process → Processes
around t p = t.on p.node p.incarnation

abbrev pub is_running : Table → Process → Bool
is_running t p = (around t p).runs p.pid

abbrev pub descriptor : Table → Process → ℕ → Option Opened
descriptor t p fd = (around t p).opened p.pid fd

-- the table after the processes of p's node, in p's incarnation, are replaced by ps
abbrev pub with_processes : Table → Process → Processes → Table
with_processes t p ps = record t { on = λ n i. if (n == p.node) && (i == p.incarnation) then ps else t.on n i }

-- the answer to a call that changes only processes and descriptors; a refusal leaves the table as it was
abbrev pub beside : Table → Process → Result (Processes × Reply) Reply → Table × Reply
beside t p (Ok answer) = (with_processes t p answer.0, answer.1)
beside t p (Err refusal) = (t, refusal)

-- POSIX.1-2017 fcntl(): a read lock needs a descriptor that is open for reading, a write lock one that is open for writing
abbrev pub permits : Access → Mode → Bool
permits ReadOnly Read = true
permits ReadOnly Write = false
permits WriteOnly Read = false
permits WriteOnly Write = true
permits ReadWrite mode = true

-- whether a descriptor with this access will do for a lock of this mode, or for a call that sets no lock
abbrev pub allows : Access → Option Mode → Bool
allows access None = true
allows access (Some mode) = permits access mode

abbrev pub owner_of : Process → Kind → Opened → Owner
owner_of p OfProcess o = process_owner p
owner_of p OfDescription o = description_owner p o.description

-- what a lock call is about: a file, the owner of the lock, and the bytes
pub record LockTarget : Type 0 where
  pub file : ℕ
  pub owner : Owner
  pub span : Range

-- what a lock call is about; an unopened descriptor is reported before a bad segment, and a bad segment before the wrong access
abbrev pub target_at : Process → Option Mode → Kind → Option Opened → Result Range SpanError → Result LockTarget Reply
target_at p need kind None segment = Err BadFd
target_at p need kind (Some o) (Err Invalid) = Err InvalidReply
target_at p need kind (Some o) (Err Overflow) = Err OverflowReply
target_at p need kind (Some o) (Ok span) = if allows o.access need then Ok (record { file = o.file; owner = owner_of p kind o; span = span }) else Err BadFd

-- what a lock call is about, or the first of its tests that fails: process, descriptor, segment, access
abbrev pub target : Table → Process → Option Mode → ℕ → Kind → ℤ → ℤ → Result LockTarget Reply
target t p need fd kind start len = if is_running t p then target_at p need kind (descriptor t p fd) (seg start len) else Err NoProcess

-- what the command needs the descriptor to be open for: a query for nothing
abbrev pub need_of : LockCommand → Mode → Option Mode
need_of Query mode = None
need_of _ mode = Some mode

abbrev pub call_target : Table → Process → LockCall → Result LockTarget Reply
call_target t p call = target t p (need_of call.command call.mode) call.fd call.kind call.start call.len

-- how many regions the owner would have with the bytes set to the mode, or freed
abbrev pub regions_with : Table → LockTarget → Option Mode → ℕ
regions_with t c mode = regions (put (t.locks c.file c.owner) c.span mode)

-- the table after the bytes are set to the mode, or freed
abbrev pub locked : Table → LockTarget → Option Mode → Table
locked t c mode = record t { locks = with_lock t.locks c.file c.owner c.span mode }

-- the answer where the bytes are set or freed, unless the owner would have more regions than the limit
abbrev pub lock_within : Table → LockTarget → Option Mode → Table × Reply
lock_within t c mode = if nat_le (regions_with t c mode) t.limit then (locked t c mode, Done) else (t, NoLocks)

abbrev pub after_unlock : Table → Result LockTarget Reply → Table × Reply
after_unlock t (Err refusal) = (t, refusal)
after_unlock t (Ok c) = lock_within t c None

-- Linux fcntl(2): where no descriptor of description d is left, the description's locks are dropped
abbrev pub after_last_close : Table → Process → ℕ → Table
after_last_close t p d = if is_open (around t p) d then t else record t { locks = without_owner_anywhere t.locks (description_owner p d) }

-- POSIX.1-2017 close(), fcntl(): the descriptor is closed and all locks of the process on its file are dropped, whichever descriptor made them
abbrev pub closed : Table → Process → ℕ → Opened → Table
closed t p fd o =
    after_last_close (record (with_processes t p (with_descriptor (around t p) p.pid fd None)) { locks = without_owner t.locks o.file (process_owner p) }) p o.description

abbrev pub closed_if : Table → Process → ℕ → Option Opened → Table
closed_if t p fd None = t
closed_if t p fd (Some o) = closed t p fd o

-- the answer to a close of a descriptor, by what that descriptor refers to
abbrev pub closed_at : Table → Process → ℕ → Option Opened → Table × Reply
closed_at t p fd None = (t, BadFd)
closed_at t p fd (Some o) = (closed t p fd o, Done)

abbrev pub after_close : Table → Process → ℕ → Table × Reply
after_close t p fd = if is_running t p then closed_at t p fd (descriptor t p fd) else (t, NoProcess)

-- the table after the descriptors of p below n are closed, in order of their numbers
unfoldable pub closed_below : Table → Process → ℕ → Table
closed_below t p zero = t
closed_below t p (suc n) =
    let before = closed_below t p n in
    closed_if before p n (descriptor before p n)

-- POSIX.1-2017 _exit(): all descriptors of the process are closed, and the process ends
abbrev pub exited : Table → Process → Table
exited t p =
    let shut = closed_below t p most_descriptors in
    with_processes shut p (with_process (around shut p) p.pid false (λ fd. None))

abbrev pub after_exit : Table → Process → Table × Reply
after_exit t p = if is_running t p then (exited t p, Done) else (t, NoProcess)

abbrev pub exited_if : Table → Process → Table
exited_if t p = if is_running t p then exited t p else t

-- the table after the node's processes with numbers from 1 to n exit, in order of their numbers
unfoldable pub exited_to : Table → ℕ → ℕ → ℕ → Table
exited_to t node incarnation zero = t
exited_to t node incarnation (suc n) = exited_if (exited_to t node incarnation n) (record { node = node; incarnation = incarnation; pid = suc n })

-- the table after the node fails: all processes of that incarnation exit
abbrev pub gone : Table → ℕ → ℕ → Table
gone t node incarnation = exited_to t node incarnation most_processes
