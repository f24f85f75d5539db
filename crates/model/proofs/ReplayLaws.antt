-- Equal answers leave equal tables, and a call has one answer unless that names a lock.
use Rattle.std.specs.Prelude.{◌↔◌, IsTrue, MatchOption, ℤ, pos, negsuc, nat_le}
use Rattle.std.proofs.Common.{◌≡◌, ◌≢◌, ℕ, zero, suc, ◌+◌, ◌-◌, ◌≤◌, Bool, true, false, if◌then◌else◌, refl, sym, ◌∙◌, ap, subst, inl, inr, arith, Option, Some, None, Result, Ok, Err}
use Rattle.std.proofs.lemmas.Bool.{both_ways, cases_lt}
use Rattle.std.proofs.lemmas.Bool.Decides.{nat_tests}
use Rattle.intervals.specs.declared.span.SpanError.{SpanError}
use Rattle.intervals.specs.declared.span.SpanError.TheVariants.{Invalid, Overflow}
use Rattle.intervals.specs.rule.Bytes.{Range, greatest, IsRun}
use Rattle.intervals.specs.rule.Segment.{seg, up_to}
use Rattle.intervals.proofs.SpanLaws.{runs_are_one}
use Rattle.model.specs.declared.mode.Mode.{Mode}
use Rattle.model.specs.declared.owner.Kind.{Kind}
use Rattle.model.specs.declared.access.Access.{Access}
use Rattle.model.specs.declared.opened.Opened.{Opened}
use Rattle.model.specs.declared.process.Process.{Process}
use Rattle.model.specs.declared.lock_info.LockInfo.{LockInfo}
use Rattle.model.specs.declared.op.Op.{Op}
use Rattle.model.specs.declared.op.Op.TheVariants as op
use Rattle.model.specs.declared.op.ProcessCall.{ProcessCall}
use Rattle.model.specs.declared.op.ProcessCall.TheVariants.{Spawn, Fork, Open, Dup}
use Rattle.model.specs.declared.op.LockCall.{LockCall}
use Rattle.model.specs.declared.op.LockCommand.{LockCommand}
use Rattle.model.specs.declared.op.LockCommand.TheVariants.{Set, Wait, Query}
use Rattle.model.specs.declared.reply.Reply.{Reply}
use Rattle.model.specs.declared.reply.Reply.TheVariants.{Done, Fd, Again, Free, Blocked, Interrupted, NoProcess, Exists, TooManyFiles, NoLocks}
use Rattle.model.specs.rule.Locks.{excludes, bars}
use Rattle.model.specs.rule.Descriptors.{Processes, again_on, after, after_spawn, after_fork, after_open, after_dup}
use Rattle.model.specs.rule.Table.{Table, LockTarget, around, beside, is_running, descriptor, allows, target_at, target, need_of, call_target, lock_within, after_unlock, closed_at, exited}
use Rattle.model.specs.rule.Step.{BlocksCall, Unblocked, AfterTests, SetStep, WaitStep, QueryStep, LockStep, Step}
use Rattle.model.specs.rule.Replay.{NeverAnswers, NamesNoLock}

-- a segment that is valid has a byte
abbrev HasByte : Result Range SpanError → Type 0
HasByte (Ok s) = s.lo ≤ s.hi
HasByte (Err e) = Unit {0}

byte_if : (b : Bool) (s : Range) (e : SpanError) → (b ≡ true → s.lo ≤ s.hi) → HasByte (if b then Ok s else Err e)
byte_if true s e h = h refl
byte_if false s e h = tt

seg-byte : (start len : ℤ) → HasByte (seg start len)
seg-byte (negsuc s) len = tt
seg-byte (pos s) (pos zero) = byte_if (nat_le s greatest) (record { lo = s; hi = greatest }) Overflow (λ h. within s h)
  where
    within : (s : ℕ) → nat_le s greatest ≡ true → s ≤ greatest
    within s h = grind (arith, nat_tests, h)
seg-byte (pos s) (pos (suc n)) = byte_if (nat_le (s + n) greatest) (record { lo = s; hi = s + n }) Overflow (λ h. omega arith)
seg-byte (pos s) (negsuc n) = before (nat_le (suc n) s)
  where
    before : (b : Bool) → HasByte (if b then up_to (s - suc n) (s - 1) else Err Invalid)
    before true = byte_if (nat_le (s - 1) greatest) (record { lo = s - suc n; hi = s - 1 }) Overflow (λ h. omega arith)
    before false = tt

-- the reply names no lock, and is not `Interrupted`
abbrev pub IsSure : Reply → Type 0
IsSure reply = NamesNoLock reply × (Interrupted ≢ reply)

-- a lock call's span has a byte, and a refusal by its tests names no lock and is not `Interrupted`
abbrev pub IsTarget : Result LockTarget Reply → Type 0
IsTarget (Ok c) = c.span.lo ≤ c.span.hi
IsTarget (Err e) = IsSure e

target_if : (b : Bool) (x y : Result LockTarget Reply) → IsTarget x → IsTarget y → IsTarget (if b then x else y)
target_if true x y p q = p
target_if false x y p q = q

target_at-is : (p : Process) (need : Option Mode) (kind : Kind) (o : Option Opened) (segment : Result Range SpanError) → HasByte segment → IsTarget (target_at p need kind o segment)
target_at-is p need kind None segment h = (λ lock. (λ e. cc, λ e. cc), λ e. cc)
target_at-is p need kind (Some o) (Err Invalid) h = (λ lock. (λ e. cc, λ e. cc), λ e. cc)
target_at-is p need kind (Some o) (Err Overflow) h = (λ lock. (λ e. cc, λ e. cc), λ e. cc)
target_at-is p need kind (Some o) (Ok span) h = target_if (allows o.access need) _ _ h ((λ lock. (λ e. cc, λ e. cc), λ e. cc))

pub target-is : (t : Table) (p : Process) (need : Option Mode) (fd : ℕ) (kind : Kind) (start len : ℤ) → IsTarget (target t p need fd kind start len)
target-is t p need fd kind start len = target_if (is_running t p) _ _ (target_at-is p need kind (descriptor t p fd) (seg start len) (seg-byte start len)) ((λ lock. (λ e. cc, λ e. cc), λ e. cc))

call_target-is : (t : Table) (p : Process) (call : LockCall) → IsTarget (call_target t p call)
call_target-is t p call = target-is t p (need_of call.command call.mode) call.fd call.kind call.start call.len

-- a call beside the locks names none, and is not interrupted
abbrev NamesNone : Table × Reply → Type 0
NamesNone answer = IsSure answer.1

names_none_if : (t : Table) (p : Process) (b : Bool) (x y : Result (Processes × Reply) Reply) → NamesNone (beside t p x) → NamesNone (beside t p y) → NamesNone (beside t p (if b then x else y))
names_none_if t p true x y h k = h
names_none_if t p false x y h k = k

within-names_none : (b : Bool) (t u : Table) → NamesNone (if b then (t, Done) else (u, NoLocks))
within-names_none true t u = (λ lock. (λ e. cc, λ e. cc), λ e. cc)
within-names_none false t u = (λ lock. (λ e. cc, λ e. cc), λ e. cc)

unlock-names_none : (t : Table) (r : Result LockTarget Reply) → IsTarget r → NamesNone (after_unlock t r)
unlock-names_none t (Err e) h = h
unlock-names_none t (Ok c) h = within-names_none _ _ _

-- a call that a lock blocks is not free
blocked_is_not_free : (t : Table) (c : LockTarget) (mode : Mode) (lock : LockInfo) → c.span.lo ≤ c.span.hi → BlocksCall t c mode lock → Unblocked t c mode → ⊥
blocked_is_not_free t c mode lock span blocks free = elim (cases_lt c.span.lo lock.span.lo) [
  | inl above ↦ at lock.span.lo (omega arith) (let s = blocks.starts in omega arith) (omega arith) (let o = blocks.region.ordered in omega arith)
  | inr below ↦ at c.span.lo (omega arith) (omega arith) (omega arith) (let e = blocks.ends in omega arith)
]
  where
    at : (b : ℕ) → c.span.lo ≤ b → b ≤ c.span.hi → lock.span.lo ≤ b → b ≤ lock.span.hi → ⊥
    at b low high from to =
        both_ways (excludes lock.mode mode) (sym (ap (bars mode) (blocks.region.all b from to)) ∙ free lock.owner b blocks.is_other low high) blocks.conflicts

-- a set whose answer names no lock found the span free, and its reply is the one of `lock_within`
settled : (t : Table) (mode : Mode) (b : Reply) (m : Table) (c : LockTarget) → NamesNoLock b → SetStep t mode b m c → Unblocked t c mode × (b ≡ (lock_within t c (Some mode)).1)
settled t mode (Again lock) m c none k = absurd ((none lock).0 refl)
settled t mode Done m c none k = (k.0, k.1.0)
settled t mode NoLocks m c none k = (k.0, k.1.0)
settled t mode _ m c none k = absurd k

set_replies : (t : Table) (mode : Mode) (a b : Reply) (n m : Table) (c : LockTarget) → c.span.lo ≤ c.span.hi → NamesNoLock b → SetStep t mode a n c → SetStep t mode b m c → a ≡ b
set_replies t mode (Again lock) b n m c span none h k = absurd (blocked_is_not_free t c mode lock span h.0 (settled t mode b m c none k).0)
set_replies t mode Done b n m c span none h k = h.1.0 ∙ sym (settled t mode b m c none k).1
set_replies t mode NoLocks b n m c span none h k = h.1.0 ∙ sym (settled t mode b m c none k).1
set_replies t mode _ b n m c span none h k = absurd h

-- a query whose answer names no lock found the span free
query_free : (t : Table) (mode : Mode) (b : Reply) (m : Table) (c : LockTarget) → NamesNoLock b → QueryStep t mode b m c → Unblocked t c mode × (b ≡ Free)
query_free t mode (Blocked lock) m c none k = absurd ((none lock).1 refl)
query_free t mode Free m c none k = (k.0, refl)
query_free t mode _ m c none k = absurd k

query_replies : (t : Table) (mode : Mode) (a b : Reply) (n m : Table) (c : LockTarget) → c.span.lo ≤ c.span.hi → NamesNoLock b → QueryStep t mode a n c → QueryStep t mode b m c → a ≡ b
query_replies t mode (Blocked lock) b n m c span none h k = absurd (blocked_is_not_free t c mode lock span h.0 (query_free t mode b m c none k).0)
query_replies t mode Free b n m c span none h k = sym (query_free t mode b m c none k).1
query_replies t mode _ b n m c span none h k = absurd h

-- what a lock call may be answered after its tests, with the table that it leaves
abbrev LockAnswers : Type 1
LockAnswers = Reply → Table → LockTarget → Type 0

tests_replies : (Answer : LockAnswers) (t : Table) (a b : Reply) (n m : Table) (r : Result LockTarget Reply) → IsTarget r → ((c : LockTarget) → c.span.lo ≤ c.span.hi → Answer a n c → Answer b m c → a ≡ b) → AfterTests t r a n (Answer a n) → AfterTests t r b m (Answer b m) → a ≡ b
tests_replies Answer t a b n m (Err e) is one h k = h.0 ∙ sym k.0
tests_replies Answer t a b n m (Ok c) is one h k = one c is h k

-- a wait that is not interrupted is answered as a set
wait_is_set : (t : Table) (mode : Mode) (a : Reply) (n : Table) (c : LockTarget) → Interrupted ≢ a → WaitStep t mode a n c → SetStep t mode a n c
wait_is_set t mode Interrupted n c sure h = absurd (sure refl)
wait_is_set t mode Done n c sure h = h
wait_is_set t mode NoLocks n c sure h = h
wait_is_set t mode _ n c sure h = absurd h

lock_replies : (t : Table) (command : LockCommand) (mode : Mode) (a b : Reply) (n m : Table) (c : LockTarget) → c.span.lo ≤ c.span.hi → Interrupted ≢ a → IsSure b → LockStep t command mode a n c → LockStep t command mode b m c → a ≡ b
lock_replies t Set mode a b n m c span sure none h k = set_replies t mode a b n m c span none.0 h k
lock_replies t Wait mode a b n m c span sure none h k = set_replies t mode a b n m c span none.0 (wait_is_set t mode a n c sure h) (wait_is_set t mode b m c none.1 k)
lock_replies t Query mode a b n m c span sure none h k = query_replies t mode a b n m c span none.0 h k

-- a call that may get an answer that names no lock gets no other, unless it is interrupted
pub replies_are_one : (t : Table) (p : Process) (o : Op) (a b : Reply) (n m : Table) → Interrupted ≢ a → IsSure b → Step t p o a n → Step t p o b m → a ≡ b
replies_are_one t p (op.Process call) a b n m sure none h k = h.1.0 ∙ sym k.1.0
replies_are_one t p (op.Close fd) a b n m sure none h k = h.0 ∙ sym k.0
replies_are_one t p op.Exit a b n m sure none h k = h.0 ∙ sym k.0
replies_are_one t p (op.Lock call) a b n m sure none h k =
    tests_replies (LockStep t call.command call.mode) t a b n m (call_target t p call) (call_target-is t p call) (λ c span. lock_replies t call.command call.mode a b n m c span sure none) h k
replies_are_one t p (op.Unlock fd kind start len) a b n m sure none h k = h.0 ∙ sym k.0

set_tables : (t : Table) (mode : Mode) (a : Reply) (n m : Table) (c : LockTarget) → SetStep t mode a n c → SetStep t mode a m c → n ≡ m
set_tables t mode (Again lock) n m c h k = h.1 ∙ sym k.1
set_tables t mode Done n m c h k = h.1.1 ∙ sym k.1.1
set_tables t mode NoLocks n m c h k = h.1.1 ∙ sym k.1.1
set_tables t mode _ n m c h k = absurd h

wait_tables : (t : Table) (mode : Mode) (a : Reply) (n m : Table) (c : LockTarget) → WaitStep t mode a n c → WaitStep t mode a m c → n ≡ m
wait_tables t mode Interrupted n m c h k = h ∙ sym k
wait_tables t mode Done n m c h k = h.1.1 ∙ sym k.1.1
wait_tables t mode NoLocks n m c h k = h.1.1 ∙ sym k.1.1
wait_tables t mode _ n m c h k = absurd h

query_tables : (t : Table) (mode : Mode) (a : Reply) (n m : Table) (c : LockTarget) → QueryStep t mode a n c → QueryStep t mode a m c → n ≡ m
query_tables t mode (Blocked lock) n m c h k = h.1 ∙ sym k.1
query_tables t mode Free n m c h k = h.1 ∙ sym k.1
query_tables t mode _ n m c h k = absurd h

lock_tables : (t : Table) (command : LockCommand) (mode : Mode) (a : Reply) (n m : Table) (c : LockTarget) → LockStep t command mode a n c → LockStep t command mode a m c → n ≡ m
lock_tables t Set mode a n m c h k = set_tables t mode a n m c h k
lock_tables t Wait mode a n m c h k = wait_tables t mode a n m c h k
lock_tables t Query mode a n m c h k = query_tables t mode a n m c h k

tests_tables : (Answer : LockAnswers) (t : Table) (a : Reply) (n m : Table) (r : Result LockTarget Reply) → ((c : LockTarget) → Answer a n c → Answer a m c → n ≡ m) → AfterTests t r a n (Answer a n) → AfterTests t r a m (Answer a m) → n ≡ m
tests_tables Answer t a n m (Err e) one h k = h.1 ∙ sym k.1
tests_tables Answer t a n m (Ok c) one h k = one c h k

-- one answer leaves one table
pub tables_are_one : (t : Table) (p : Process) (o : Op) (a : Reply) (n m : Table) → Step t p o a n → Step t p o a m → n ≡ m
tables_are_one t p (op.Process call) a n m h k = h.1.1 ∙ sym k.1.1
tables_are_one t p (op.Close fd) a n m h k = h.1 ∙ sym k.1
tables_are_one t p op.Exit a n m h k = h.1 ∙ sym k.1
tables_are_one t p (op.Lock call) a n m h k = tests_tables (LockStep t call.command call.mode) t a n m (call_target t p call) (lock_tables t call.command call.mode a n m) h k
tables_are_one t p (op.Unlock fd kind start len) a n m h k = h.1 ∙ sym k.1

-- only a lock call is answered with a lock
spawn-names_none : (t : Table) (p : Process) → NamesNone (beside t p (after_spawn (around t p) p.pid))
spawn-names_none t p = names_none_if t p ((around t p).runs p.pid) _ _ ((λ lock. (λ e. cc, λ e. cc), λ e. cc)) ((λ lock. (λ e. cc, λ e. cc), λ e. cc))

opened-names_none : (t : Table) (p : Process) (b : Bool) (ps : Processes) (fd : ℕ) → NamesNone (beside t p (if b then Ok (ps, Fd fd) else Err TooManyFiles))
opened-names_none t p true ps fd = (λ lock. (λ e. cc, λ e. cc), λ e. cc)
opened-names_none t p false ps fd = (λ lock. (λ e. cc, λ e. cc), λ e. cc)

open-names_none : (t : Table) (p : Process) (file : ℕ) (access : Access) → NamesNone (beside t p (after_open (around t p) p.pid file access))
open-names_none t p file access = names_none_if t p (is_running t p) _ (Err NoProcess) (opened-names_none t p _ _ _) ((λ lock. (λ e. cc, λ e. cc), λ e. cc))

fork-names_none : (t : Table) (p : Process) (child : ℕ) → NamesNone (beside t p (after_fork (around t p) p.pid child))
fork-names_none t p child = names_none_if t p (is_running t p) _ (Err NoProcess) (names_none_if t p ((around t p).runs child) (Err Exists) _ ((λ lock. (λ e. cc, λ e. cc), λ e. cc)) ((λ lock. (λ e. cc, λ e. cc), λ e. cc))) ((λ lock. (λ e. cc, λ e. cc), λ e. cc))

again-names_none : (t : Table) (p : Process) (o : Option Opened) → NamesNone (beside t p (again_on (around t p) p.pid o))
again-names_none t p None = (λ lock. (λ e. cc, λ e. cc), λ e. cc)
again-names_none t p (Some o) = opened-names_none t p _ _ _

dup-names_none : (t : Table) (p : Process) (fd : ℕ) → NamesNone (beside t p (after_dup (around t p) p.pid fd))
dup-names_none t p fd = names_none_if t p (is_running t p) _ (Err NoProcess) (again-names_none t p (descriptor t p fd)) ((λ lock. (λ e. cc, λ e. cc), λ e. cc))

closed-names_none : (t : Table) (p : Process) (fd : ℕ) (b : Bool) (o : Option Opened) → NamesNone (if b then closed_at t p fd o else (t, NoProcess))
closed-names_none t p fd true None = (λ lock. (λ e. cc, λ e. cc), λ e. cc)
closed-names_none t p fd true (Some o) = (λ lock. (λ e. cc, λ e. cc), λ e. cc)
closed-names_none t p fd false o = (λ lock. (λ e. cc, λ e. cc), λ e. cc)

exit-names_none : (t : Table) (p : Process) (b : Bool) → NamesNone (if b then (exited t p, Done) else (t, NoProcess))
exit-names_none t p true = (λ lock. (λ e. cc, λ e. cc), λ e. cc)
exit-names_none t p false = (λ lock. (λ e. cc, λ e. cc), λ e. cc)

beside-names_none : (t : Table) (p : Process) (call : ProcessCall) → NamesNone (beside t p (after (around t p) p.pid call))
beside-names_none t p Spawn = spawn-names_none t p
beside-names_none t p (Fork child) = fork-names_none t p child
beside-names_none t p (Open file access) = open-names_none t p file access
beside-names_none t p (Dup fd) = dup-names_none t p fd

-- a lock call that passes its tests, and its answer
pub record Passed (t : Table) (p : Process) (o : Op) (reply : Reply) (new : Table) : Type 0 where
  pub call : LockCall
  pub is : o ≡ op.Lock call
  pub about : LockTarget
  pub found : call_target t p call ≡ Ok about
  pub step : LockStep t call.command call.mode reply new about

after_tests : (Answer : LockTarget → Type 0) (t new : Table) (reply : Reply) (r : Result LockTarget Reply) → IsTarget r → (IsSure reply → ⊥) → AfterTests t r reply new Answer → (c : LockTarget) × (r ≡ Ok c) × Answer c
after_tests Answer t new reply (Err e) is tells h = absurd (tells (subst IsSure (sym h.0) is))
after_tests Answer t new reply (Ok c) is tells h = (c, refl, h)

-- none but a lock call that passes its tests is told of a lock or interrupted
pub passed : (t new : Table) (p : Process) (o : Op) (reply : Reply) → (IsSure reply → ⊥) → Step t p o reply new → Passed t p o reply new
passed t new p (op.Process call) reply tells h = absurd (tells (subst IsSure (sym h.1.0) (beside-names_none t p call)))
passed t new p (op.Close fd) reply tells h = absurd (tells (subst IsSure (sym h.0) (closed-names_none t p fd (is_running t p) (descriptor t p fd))))
passed t new p op.Exit reply tells h = absurd (tells (subst IsSure (sym h.0) (exit-names_none t p (is_running t p))))
passed t new p (op.Lock call) reply tells h =
    let it = after_tests (LockStep t call.command call.mode reply new) t new reply (call_target t p call) (call_target-is t p call) tells h in
    record { call = call; is = refl; about = it.0; found = it.1; step = it.2 }
passed t new p (op.Unlock fd kind start len) reply tells h =
    absurd (tells (subst IsSure (sym h.0) (unlock-names_none t (target t p None fd kind start len) (target-is t p None fd kind start len))))

-- a call that waits is told of no lock
pub wait_never : (t : Table) (p : Process) (call : LockCall) (lock : LockInfo) → call.command ≡ Wait → NeverAnswers t p (op.Lock call) (Again lock)
wait_never t p call lock waits new h =
    let it = after_tests (LockStep t call.command call.mode (Again lock) new) t new (Again lock) (call_target t p call) (call_target-is t p call) (λ sure. (sure.0 lock).0 refl) h in
    let P : LockCommand → Type 0 = λ command. LockStep t command call.mode (Again lock) new it.0 in
    subst P waits it.2

-- while it is blocked it is answered by an interrupt alone
pub blocked-waits : (t : Table) (p : Process) (call : LockCall) (lock : LockInfo) (c : LockTarget) (b : Reply) → call.command ≡ Wait → call_target t p call ≡ Ok c → BlocksCall t c call.mode lock → IsSure b → NeverAnswers t p (op.Lock call) b
blocked-waits t p call lock c b waits is blocks sure new h =
    let P : Result LockTarget Reply → Type 0 = λ r. AfterTests t r b new (LockStep t call.command call.mode b new) in
    let Q : LockCommand → Type 0 = λ command. LockStep t command call.mode b new c in
    let span : c.span.lo ≤ c.span.hi = subst IsTarget is (call_target-is t p call) in
    blocked_is_not_free t c call.mode lock span blocks (settled t call.mode b new c sure.0 (wait_is_set t call.mode b new c sure.1 (subst Q waits (subst P is h)))).0

-- the run that contains the first byte of a span is the one region there
pub found-is_run : (f : ℕ → Option Mode) (s : Range) (v : Mode) (found : Option (Range × Mode)) → s.lo ≤ s.hi → MatchOption found (f s.lo ≡ None) (λ run. IsRun f run.0 run.1 × (run.0.lo ≤ s.lo) × (s.lo ≤ run.0.hi)) → (found ≡ Some (s, v)) ↔ IsRun f s v
found-is_run f s v None ordered none = (λ h. cc, λ run. absurd (let here = run.all s.lo (omega arith) ordered in cc))
found-is_run f s v (Some run) ordered is = (
  λ h. let P : Range × Mode → Type 0 = λ r. IsRun f r.0 r.1 in subst P (the_same h) is.0,
  λ r. let one = runs_are_one f run.0 s run.1 v s.lo is.0 r (is.1, is.2) (omega arith, ordered) in λ i. Some (one.0 i, one.1 i),
)
  where
    the_same : {A : Type 0} {x y : A} → Some x ≡ Some y → x ≡ y
    the_same h = cc

-- the run is found exactly where the region stands
pub found_where_region : (f g : ℕ → Option Mode) (s span : Range) (v : Mode) (found : Option (Range × Mode)) (b : Bool) → f ≡ g → s ≡ span → s.lo ≤ s.hi → MatchOption found (f s.lo ≡ None) (λ run. IsRun f run.0 run.1 × (run.0.lo ≤ s.lo) × (s.lo ≤ run.0.hi)) → IsTrue b ↔ (found ≡ Some (span, v)) → IsTrue b ↔ IsRun g span v
found_where_region f g s span v found b same spans ordered is test =
    let P : Range → Type 0 = λ r. (found ≡ Some (r, v)) ↔ IsRun g r v in
    let Q : (ℕ → Option Mode) → Type 0 = λ h. (found ≡ Some (s, v)) ↔ IsRun h s v in
    let there = subst P spans (subst Q same (found-is_run f s v found ordered is)) in
    (λ t. there.0 (test.0 t), λ r. test.1 (there.1 r))
