-- What a single machine's fcntl() may reply to a call, and which table it leaves.
use Rattle.std.specs.Prelude.{◌≡◌, Result, Ok, Err, Some, None}
use Rattle.model.specs.declared.lock_info.LockInfo.{LockInfo}
use Rattle.model.specs.declared.mode.Mode.{Mode}
use Rattle.model.specs.declared.process.Process.{Process}
use Rattle.model.specs.declared.op.Op.{Op}
use Rattle.model.specs.declared.op.Op.TheVariants as op
use Rattle.model.specs.declared.op.ProcessCall.TheVariants.{Fork}
use Rattle.model.specs.declared.op.LockCommand.{LockCommand}
use Rattle.model.specs.declared.op.LockCommand.TheVariants.{Set, Wait, Query}
use Rattle.model.specs.declared.reply.Reply.{Reply}
use Rattle.model.specs.declared.reply.Reply.TheVariants.{Done, Again, NoLocks, Free, Blocked, Interrupted}
use Rattle.model.specs.rule.Locks.{IsFree, Blocks}
use Rattle.model.specs.rule.Limits.{IsNumber, most_processes}
use Rattle.model.specs.rule.Descriptors.{after}
use Rattle.model.specs.rule.Table.{Table, LockTarget, around, beside, target, call_target, lock_within, after_unlock, after_close, after_exit}

-- the reply and the new table are the given answer
abbrev pub Is : Table × Reply → Reply → Table → Type 0
Is answer reply new = (reply ≡ answer.1) × (new ≡ answer.0)

-- no other owner's lock blocks the call
abbrev pub Unblocked : Table → LockTarget → Mode → Type 0
Unblocked t c mode = IsFree (t.locks c.file) c.owner c.span mode

-- the lock is a region of another owner that blocks the call
abbrev pub BlocksCall : Table → LockTarget → Mode → LockInfo → Type 0
BlocksCall t call mode lock = Blocks (t.locks call.file) call.owner call.span mode lock

-- a call that fails one of its tests gets the refusal; else its reply is one that `Answer` admits
abbrev pub AfterTests : Table → Result LockTarget Reply → Reply → Table → (LockTarget → Type 0) → Type 0
AfterTests old (Err refusal) reply new Answer = Is (old, refusal) reply new
AfterTests old (Ok c) reply new Answer = Answer c

-- POSIX.1-2017 fcntl(), F_SETLK: where locks of other owners block, the reply names one of them; else the bytes are set
abbrev pub SetStep : Table → Mode → Reply → Table → LockTarget → Type 0
SetStep old mode (Again lock) new c = Blocks (old.locks c.file) c.owner c.span mode lock × (new ≡ old)
SetStep old mode Done new c = Unblocked old c mode × Is (lock_within old c (Some mode)) Done new
SetStep old mode NoLocks new c = Unblocked old c mode × Is (lock_within old c (Some mode)) NoLocks new
SetStep old mode _ new c = ⊥

-- POSIX.1-2017 fcntl(), F_SETLKW: as F_SETLK where no lock blocks, else no reply yet; an interrupt (EINTR) may come at any time and changes nothing
abbrev pub WaitStep : Table → Mode → Reply → Table → LockTarget → Type 0
WaitStep old mode Interrupted new c = new ≡ old
WaitStep old mode Done new c = Unblocked old c mode × Is (lock_within old c (Some mode)) Done new
WaitStep old mode NoLocks new c = Unblocked old c mode × Is (lock_within old c (Some mode)) NoLocks new
WaitStep old mode _ new c = ⊥

-- POSIX.1-2017 fcntl(), F_GETLK: where locks of other owners would block, the reply names one of them; nothing changes
abbrev pub QueryStep : Table → Mode → Reply → Table → LockTarget → Type 0
QueryStep old mode (Blocked lock) new c = Blocks (old.locks c.file) c.owner c.span mode lock × (new ≡ old)
QueryStep old mode Free new c = Unblocked old c mode × (new ≡ old)
QueryStep old mode _ new c = ⊥

-- what the command may be answered once the tests have passed
abbrev pub LockStep : Table → LockCommand → Mode → Reply → Table → LockTarget → Type 0
LockStep old Set = SetStep old
LockStep old Wait = WaitStep old
LockStep old Query = QueryStep old

-- a process that the operation names has a number that a process can have
abbrev pub IsPossible : Op → Type 0
IsPossible (op.Process (Fork child)) = IsNumber most_processes child
IsPossible _ = Unit {0}

-- the call of process p may get this reply from the old table and leave the new one; a fork's child has a number in range
abbrev pub Step : Table → Process → Op → Reply → Table → Type 0
Step old p (op.Process call) reply new = IsPossible (op.Process call) × Is (beside old p (after (around old p) p.pid call)) reply new
Step old p (op.Close fd) reply new = Is (after_close old p fd) reply new
Step old p op.Exit reply new = Is (after_exit old p) reply new
Step old p (op.Lock call) reply new = AfterTests old (call_target old p call) reply new (LockStep old call.command call.mode reply new)
Step old p (op.Unlock fd kind start len) reply new = Is (after_unlock old (target old p None fd kind start len)) reply new
