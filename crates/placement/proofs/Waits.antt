-- Replies of calls that wait, and of those that do not.
use Rattle.std.proofs.Common.{◌≡◌, ◌≢◌, sym, subst, refl, Result, Ok, Err}
use Rattle.std.specs.Prelude.{IsOkAnd}
use Rattle.model.specs.declared.lock_info.LockInfo.{LockInfo}
use Rattle.model.specs.declared.mode.Mode.{Mode}
use Rattle.model.specs.declared.op.Op.{Op}
use Rattle.model.specs.declared.op.Op.TheVariants as op
use Rattle.model.specs.declared.op.LockCall.{LockCall}
use Rattle.model.specs.declared.op.LockCommand.{LockCommand}
use Rattle.model.specs.declared.op.LockCommand.TheVariants.{Set, Wait, Query}
use Rattle.model.specs.declared.process.Process.{Process}
use Rattle.model.specs.declared.reply.Reply.{Reply}
use Rattle.model.specs.declared.reply.Reply.TheVariants.{Again, Blocked, Interrupted}
use Rattle.model.specs.rule.Table.{Table, LockTarget, call_target}
use Rattle.model.specs.rule.Step.{BlocksCall, AfterTests, LockStep, Step}
use Rattle.model.specs.rule.Replay.{NeverAnswers, NamesNoLock}
use Rattle.model.proofs.ReplayLaws.{passed, replies_are_one, blocked-waits}
use Rattle.placement.specs.code.Indexes.{GoesOn, BlocksOp}

-- a wait alone is interrupted
is_wait : (t : Table) (command : LockCommand) (mode : Mode) (new : Table) (c : LockTarget) → LockStep t command mode Interrupted new c → command ≡ Wait
is_wait t Set mode new c h = absurd h
is_wait t Wait mode new c h = refl
is_wait t Query mode new c h = absurd h

-- a call that the table answers by an interrupt gets no other reply that names no lock
interrupted_one : (t : Table) (p : Process) (o : Op) (b : Reply) (n m : Table) → GoesOn t p o Interrupted → NamesNoLock b → Interrupted ≢ b → Step t p o Interrupted n → Step t p o b m → ⊥
interrupted_one t p o b n m goes none own h k =
    let it = passed t n p o Interrupted (λ sure. sure.1 refl) h in
    let P : Op → Type 0 = λ x. GoesOn t p x Interrupted in
    let Q : Op → Type 0 = λ x. Step t p x b m in
    subst P it.is goes (is_wait t it.call.command it.call.mode n it.about it.step) refl b none own m (subst Q it.is k)

-- a reply that names no lock and is not that of an interrupt is the one that the table gives
pub one_answer : (t : Table) (p : Process) (o : Op) (a b : Reply) (n m : Table) → GoesOn t p o a → NamesNoLock b → Interrupted ≢ b → Step t p o a n → Step t p o b m → a ≡ b
one_answer t p o Interrupted b n m goes none own h k = absurd (interrupted_one t p o b n m goes none own h k)
one_answer t p o a b n m goes none own h k = replies_are_one t p o a b n m (λ e. cc) (none, own) h k

-- a lock that blocks a call that passes its tests
blocked_so : (t : Table) (reply : Reply) (mode : Mode) (lock : LockInfo) (Answer : LockTarget → Type 0) (r : Result LockTarget Reply) → ((c : LockTarget) → BlocksCall t c mode lock → Answer c) → IsOkAnd r (λ c. BlocksCall t c mode lock) → AfterTests t r reply t Answer
blocked_so t reply mode lock Answer (Ok c) answers h = answers c h
blocked_so t reply mode lock Answer (Err e) answers h = absurd h

-- to a set it is named in one way, to a query in another
pub denied : (t : Table) (p : Process) (o : Op) (lock : LockInfo) → BlocksOp t p o Set lock → Step t p o (Again lock) t
denied t p (op.Lock call) lock h =
    let P : LockCommand → Type 0 = λ k. AfterTests t (call_target t p call) (Again lock) t (LockStep t k call.mode (Again lock) t) in
    subst P (sym h.0) (blocked_so t (Again lock) call.mode lock (LockStep t Set call.mode (Again lock) t) (call_target t p call) (λ c b. (b, refl)) h.1)
denied t p _ lock h = absurd h

pub told : (t : Table) (p : Process) (o : Op) (lock : LockInfo) → BlocksOp t p o Query lock → Step t p o (Blocked lock) t
told t p (op.Lock call) lock h =
    let P : LockCommand → Type 0 = λ k. AfterTests t (call_target t p call) (Blocked lock) t (LockStep t k call.mode (Blocked lock) t) in
    subst P (sym h.0) (blocked_so t (Blocked lock) call.mode lock (LockStep t Query call.mode (Blocked lock) t) (call_target t p call) (λ c b. (b, refl)) h.1)
told t p _ lock h = absurd h

-- and it is one that blocks the call
names_blocker : (t : Table) (p : Process) (o : Op) (call : LockCall) (command : LockCommand) (lock : LockInfo) (c : LockTarget) → o ≡ op.Lock call → call.command ≡ command → call_target t p call ≡ Ok c → BlocksCall t c call.mode lock → BlocksOp t p o command lock
names_blocker t p o call command lock c is has found blocks =
    let P : Op → Type 0 = λ x. BlocksOp t p x command lock in
    let Q : Result LockTarget Reply → Type 0 = λ r. IsOkAnd r (λ c. BlocksCall t c call.mode lock) in
    subst P (sym is) (has, subst Q (sym found) blocks)

again_named : (t : Table) (command : LockCommand) (mode : Mode) (lock : LockInfo) (new : Table) (c : LockTarget) → LockStep t command mode (Again lock) new c → (command ≡ Set) × BlocksCall t c mode lock
again_named t Set mode lock new c h = (refl, h.0)
again_named t Wait mode lock new c h = absurd h
again_named t Query mode lock new c h = absurd h

blocked_named : (t : Table) (command : LockCommand) (mode : Mode) (lock : LockInfo) (new : Table) (c : LockTarget) → LockStep t command mode (Blocked lock) new c → (command ≡ Query) × BlocksCall t c mode lock
blocked_named t Set mode lock new c h = absurd h
blocked_named t Wait mode lock new c h = absurd h
blocked_named t Query mode lock new c h = (refl, h.0)

pub never_denied : (t : Table) (p : Process) (o : Op) (lock : LockInfo) → (BlocksOp t p o Set lock → ⊥) → NeverAnswers t p o (Again lock)
never_denied t p o lock none new h =
    let it = passed t new p o (Again lock) (λ sure. (sure.0 lock).0 refl) h in
    let named = again_named t it.call.command it.call.mode lock new it.about it.step in
    none (names_blocker t p o it.call Set lock it.about it.is named.0 it.found named.1)

pub never_told : (t : Table) (p : Process) (o : Op) (lock : LockInfo) → (BlocksOp t p o Query lock → ⊥) → NeverAnswers t p o (Blocked lock)
never_told t p o lock none new h =
    let it = passed t new p o (Blocked lock) (λ sure. (sure.0 lock).1 refl) h in
    let named = blocked_named t it.call.command it.call.mode lock new it.about it.step in
    none (names_blocker t p o it.call Query lock it.about it.is named.0 it.found named.1)

-- a wait that a lock blocks goes on
pub blocked-goes_on : (t : Table) (p : Process) (call : LockCall) (lock : LockInfo) (c : LockTarget) (reply : Reply) → call_target t p call ≡ Ok c → BlocksCall t c call.mode lock → GoesOn t p (op.Lock call) reply
blocked-goes_on t p call lock c reply found blocks waits e other none own = blocked-waits t p call lock c other waits found blocks (none, own)
