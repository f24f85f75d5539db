-- What programs may rely on: which calls change nothing, and what is left where descriptors close, and where processes fork and exit.
use Rattle.std.specs.Prelude.{◌≡◌, ℕ, true, false, if◌then◌else◌, Some, None}
use Rattle.intervals.specs.rule.Bytes.{nothing}
use Rattle.model.specs.declared.op.Op.{Op}
use Rattle.model.specs.declared.op.Op.TheVariants as op
use Rattle.model.specs.declared.op.ProcessCall.TheVariants.{Fork}
use Rattle.model.specs.declared.op.LockCall.{LockCall}
use Rattle.model.specs.declared.op.LockCommand.TheVariants.{Wait}
use Rattle.model.specs.declared.lock_info.LockInfo.{LockInfo}
use Rattle.model.specs.declared.opened.Opened.{Opened}
use Rattle.model.specs.declared.process.Process.{Process}
use Rattle.model.specs.declared.reply.Reply.{Reply}
use Rattle.model.specs.declared.reply.Reply.TheVariants.{Done, Fd, Again, Interrupted}
use Rattle.model.specs.rule.Limits.{IsNumber, most_processes}
use Rattle.model.specs.rule.Owners.{process_owner, description_owner}
use Rattle.model.specs.rule.Descriptors.{is_open}
use Rattle.model.specs.rule.Table.{Table, around, descriptor, is_running}
use Rattle.model.specs.rule.Anchors.{IsAnchored, IsOwn}
use Rattle.model.specs.rule.Step.{Step}
use Rattle.model.specs.rule.Replay.{NeverAnswers}

-- POSIX.1-2017 fcntl(): a process that closes any descriptor of a file has no lock there afterwards, whichever descriptor made the lock
abbrev pub ClosedFileHasNoLock : Type 0
ClosedFileHasNoLock =
    (t u : Table) (p : Process) (fd : ℕ) (o : Opened)
    → descriptor t p fd ≡ Some o
    → Step t p (op.Close fd) Done u
    → u.locks o.file (process_owner p) ≡ nothing

-- Linux fcntl(2), F_OFD_SETLK: a description keeps its locks until the node's last descriptor of it is closed, and has none from then on
abbrev pub LastCloseDropsLocks : Type 0
LastCloseDropsLocks =
    (t u : Table) (p : Process) (fd file : ℕ) (o : Opened)
    → descriptor t p fd ≡ Some o
    → Step t p (op.Close fd) Done u
    → u.locks file (description_owner p o.description) ≡ (if is_open (around u p) o.description then t.locks file (description_owner p o.description) else nothing)

-- the process doesn't run, has no descriptor and holds no lock of its own
pub record HasGone (t : Table) (p : Process) : Type 0 where
  pub stopped : is_running t p ≡ false
  pub shut : (fd : ℕ) → descriptor t p fd ≡ None
  pub released : (file : ℕ) → t.locks file (process_owner p) ≡ nothing

-- POSIX.1-2017 _exit(): a process that exits leaves no descriptor and no lock of its own, and its number is free
abbrev pub ExitLeavesNothing : Type 0
ExitLeavesNothing = (t u : Table) (p : Process) → IsAnchored t p.node p.incarnation → Step t p op.Exit Done u → HasGone u p

-- the process with the number pid on the same node, in the same incarnation, as p
abbrev pub sibling : Process → ℕ → Process
sibling p pid = record { node = p.node; incarnation = p.incarnation; pid = pid }

-- the child runs, has each descriptor of its parent on the same description, and holds no process lock
pub record IsChild (t u : Table) (parent child : Process) : Type 0 where
  pub runs : is_running u child ≡ true
  pub inherits : (fd : ℕ) → descriptor u child fd ≡ descriptor t parent fd
  pub unlocked : (file : ℕ) → u.locks file (process_owner child) ≡ nothing

-- POSIX.1-2017 fork(): a child has its parent's descriptors and none of its process locks
abbrev pub ForkSharesDescriptions : Type 0
ForkSharesDescriptions = (t u : Table) (p : Process) (child : ℕ) → IsAnchored t p.node p.incarnation → Step t p (op.Process (Fork child)) Done u → IsChild t u p (sibling p child)

-- a call of a node's process keeps the table of that node's own processes and locks, and no lock outlives its descriptors
abbrev pub CallsKeepAnchors : Type 0
CallsKeepAnchors =
    (t u : Table) (p : Process) (op : Op) (reply : Reply)
    → IsNumber most_processes p.pid
    → IsOwn t p.node p.incarnation
    → Step t p op reply u
    → IsOwn u p.node p.incarnation

-- the reply is of a call that was refused, interrupted, or only asked: neither Done nor a descriptor
abbrev pub TellsNoChange : Reply → Type 0
TellsNoChange Done = ⊥
TellsNoChange (Fd fd) = ⊥
TellsNoChange _ = Unit {0}

-- a call that is answered neither Done nor with a descriptor leaves the table as it was
abbrev pub OnlyDoneCallsChange : Type 0
OnlyDoneCallsChange = (t u : Table) (p : Process) (op : Op) (reply : Reply) → TellsNoChange reply → Step t p op reply u → u ≡ t

-- POSIX.1-2017 fcntl(), F_SETLKW: a call that waits is never answered with a lock in its way, and an interrupted call has changed nothing
pub record WaitsAreNotDenied : Type 0 where
  pub never_again : (t : Table) (p : Process) (call : LockCall) (lock : LockInfo) → call.command ≡ Wait → NeverAnswers t p (op.Lock call) (Again lock)
  pub unchanged : (t u : Table) (p : Process) (op : Op) → Step t p op Interrupted u → u ≡ t
