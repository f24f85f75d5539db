-- What the rule of a node comes to.
use Rattle.std.specs.Prelude.{◌≡◌, ◌≢◌, ℕ, zero, suc, ◌+◌, ◌-◌, ◌≤◌, ◌<◌, Bool, true, false, not, ◌&&◌, ◌||◌, ◌==◌, nat_le, nat_lt, if◌then◌else◌, is_some, [], ◌∷◌, ◌++◌, Option, Some, None, Result, Ok, Err, IfOk, IsOkAnd, ℤ, pos, negsuc, refl}
use Rattle.std.proofs.Common.{arith, ap, sym, ◌∙◌, subst}
use Rattle.std.proofs.lemmas.Bool.{and_from, eq-eqb, le-leb, lt-ltb}
use Rattle.std.proofs.lemmas.Bool.Decides.{nat_tests}
use Rattle.intervals.specs.declared.span.SpanError.{SpanError}
use Rattle.intervals.specs.declared.span.SpanError.TheVariants.{Invalid, Overflow}
use Rattle.intervals.specs.rule.Bytes.{Range, greatest, is_in}
use Rattle.intervals.specs.rule.Segment.{seg, up_to}
use Rattle.model.specs.declared.mode.Mode.{Mode}
use Rattle.model.specs.declared.mode.Mode.TheVariants.{Read, Write}
use Rattle.model.specs.declared.owner.Kind.{Kind}
use Rattle.model.specs.declared.owner.Kind.TheVariants.{OfProcess, OfDescription}
use Rattle.model.specs.declared.level.Level.{Level}
use Rattle.model.specs.declared.lock_info.LockInfo.{LockInfo}
use Rattle.model.specs.declared.op.Op.{Op}
use Rattle.model.specs.declared.op.Op.TheVariants.{Lock}
use Rattle.model.specs.declared.op.LockCall.{LockCall}
use Rattle.model.specs.declared.op.LockCommand.{LockCommand}
use Rattle.model.specs.declared.op.LockCommand.TheVariants.{Set, Wait, Query}
use Rattle.model.specs.declared.opened.Opened.{Opened}
use Rattle.model.specs.declared.process.Process.{Process}
use Rattle.model.specs.declared.reply.Reply.{Reply}
use Rattle.model.specs.declared.reply.Reply.TheVariants.{Done, NoLocks, NoProcess}
use Rattle.model.specs.rule.Locks.{FileLocks, IsRegion, IsFree, IsOfNode, IsClear}
use Rattle.model.specs.rule.Table.{Table, LockTarget, is_running, descriptor, allows, target_at, target, need_of, call_target, regions_with, locked, lock_within}
use Rattle.model.proofs.BlockerLaws.{is_lowest_blocker}
use Rattle.model.proofs.WayLaws.{clear_has_none}
use Rattle.token_set.specs.rule.Tokens.{Token, level_conflicts, conflicts, covers, lowered_level, lowered, gave_up, after_giving_up, IsGivenUp}
use Rattle.token_set.specs.declared.gave_up.GaveUp.{GaveUp}
use Rattle.token_set.specs.declared.gave_up.GaveUp.TheVariants.{Released, Conflict}
use Rattle.token_set.proofs.TokenLaws.{none_passes-from}
use Rattle.token_set.proofs.ReleaseLaws.{gave_up_is_given_up}
use Rattle.messages.specs.declared.outcome.Outcome.{Outcome}
use Rattle.messages.specs.declared.refusal.StepError.{StepError}
use Rattle.messages.specs.declared.refusal.StepError.TheVariants.{Stranger, Busy, Spent}
use Rattle.messages.specs.rule.Messages.{is_within}
use Rattle.node_core.specs.declared.open_call.OpenCall.{OpenCall}
use Rattle.node_core.specs.rule.State.{FileState, NodeState, Effect, host, process, id_of, open_call_of, target_of, outcome}
use Rattle.node_core.specs.rule.Try.{settled, requested, answered_if, may_free, with_freed, locked_by, answered_here, tried_against}
use Rattle.node_core.specs.rule.Calls.{is_pid, is_in_shape, is_exit, is_busy, lock_call, after_call, call_rule}
use Rattle.node_core.specs.rule.Commands.{in_epoch, answer_to, is_conflict, revoked}
use Rattle.node_core.specs.rule.Interrupts.{interruption_of, interrupted}
use Rattle.node_core.specs.rule.Parts.{IsSpan}
use Rattle.node_core.proofs.PlanLaws.{in_epoch-file}
use Rattle.node_core.specs.rule.Laws.{MayCall, CoveredLockIsDone, IsUntouched, InterruptChangesNothing, GivesUp, ClearRevokeGivesUp}

-- a branch whose test holds is taken
taken : {A : Type 0} (P : A → Type 0) (b : Bool) (x y : A) → b ≡ true → P x → P (if b then x else y)
taken P true x y e h = h
taken P false x y e h = absurd (cc)

passed : {A : Type 0} (P : A → Type 0) (b : Bool) (x y : A) → b ≡ true → P y → P (if not b then x else y)
passed P true x y e h = h
passed P false x y e h = absurd (cc)

not_taken : {A : Type 0} (P : A → Type 0) (b : Bool) (x y : A) → b ≡ false → P y → P (if b then x else y)
not_taken P false x y e h = h
not_taken P true x y e h = absurd (cc)

-- a valid segment is a span of bytes of a file
span_if : (b : Bool) (s : Range) (e : SpanError) → (b ≡ true → IsSpan s) → IfOk (if b then Ok s else Err e) IsSpan
span_if true s e h = h refl
span_if false s e h = tt

up_to-span : (lo hi : ℕ) → lo ≤ hi → IfOk (up_to lo hi) IsSpan
up_to-span lo hi h = span_if (nat_le hi greatest) (record { lo = lo; hi = hi }) Overflow (λ e. record { ordered = h; ends = grind (arith, nat_tests, e) })

seg-span : (start len : ℤ) → IfOk (seg start len) IsSpan
seg-span (negsuc s) len = tt
seg-span (pos s) (pos zero) = span_if (nat_le s greatest) (record { lo = s; hi = greatest }) Overflow (λ e. record { ordered = grind (arith, nat_tests, e); ends = omega arith })
seg-span (pos s) (pos (suc n)) = up_to-span s (s + n) (omega arith)
seg-span (pos s) (negsuc n) = before (nat_le (suc n) s)
  where
    before : (b : Bool) → IfOk (if b then up_to (s - suc n) (s - 1) else Err Invalid) IsSpan
    before true = up_to-span (s - suc n) (s - 1) (omega arith)
    before false = tt

-- a lock call is about a lock of its process's node, on bytes of a file
record IsAbout (p : Process) (t : LockTarget) : Type 0 where
  of_node : t.owner.node ≡ p.node
  of_incarnation : t.owner.incarnation ≡ p.incarnation
  span : IsSpan t.span

about_if : (p : Process) (b : Bool) (x y : Result LockTarget Reply) → IfOk x (IsAbout p) → IfOk y (IsAbout p) → IfOk (if b then x else y) (IsAbout p)
about_if p true x y h k = h
about_if p false x y h k = k

target_at-about : (p : Process) (need : Option Mode) (kind : Kind) (o : Option Opened) (segment : Result Range SpanError) → IfOk segment IsSpan → IfOk (target_at p need kind o segment) (IsAbout p)
target_at-about p need kind None segment h = tt
target_at-about p need kind (Some o) (Err Invalid) h = tt
target_at-about p need kind (Some o) (Err Overflow) h = tt
target_at-about p need OfProcess (Some o) (Ok span) h = about_if p (allows o.access need) _ _ (record { of_node = refl; of_incarnation = refl; span = h }) tt
target_at-about p need OfDescription (Some o) (Ok span) h = about_if p (allows o.access need) _ _ (record { of_node = refl; of_incarnation = refl; span = h }) tt

target-about : (t : Table) (p : Process) (need : Option Mode) (fd : ℕ) (kind : Kind) (start len : ℤ) → IfOk (target t p need fd kind start len) (IsAbout p)
target-about t p need fd kind start len =
    about_if p (is_running t p) (target_at p need kind (descriptor t p fd) (seg start len)) (Err NoProcess) (target_at-about p need kind (descriptor t p fd) (seg start len) (seg-span start len)) tt

-- an effect with a Freed has the same reply
reply_if : (b : Bool) (x y : Effect) → x.reply ≡ y.reply → (if b then x else y).reply ≡ y.reply
reply_if true x y e = e
reply_if false x y e = refl

with_freed-reply : (file : ℕ) (e : Effect) → (with_freed file e).reply ≡ e.reply
with_freed-reply file e = reply_if (e.state.files file).owes_freed _ e refl

locked_by-reply : (s : NodeState) (number : ℕ) (t : LockTarget) (mode : Option Mode) → (locked_by s number t mode).reply ≡ Some (id_of s number, (lock_within s.table t mode).1)
locked_by-reply s number t mode =
    let answer = lock_within s.table t mode in
    let e : Effect = settled s number answer in
    reply_if (may_free mode answer.1) (with_freed t.file e) e (with_freed-reply t.file e)

lock_within-done : (t : Table) (c : LockTarget) (mode : Option Mode) → regions_with t c mode ≤ t.limit → (lock_within t c mode).1 ≡ Done
lock_within-done t c mode h = taken (λ (a : Table × Reply). a.1 ≡ Done) (nat_le (regions_with t c mode) t.limit) (locked t c mode, Done) (t, NoLocks) (le-leb _ _ h) refl

-- the call asks for a lock that the node's own table can give
abbrev Locks : LockCommand → Type 0
Locks its = (s : NodeState) (c : OpenCall) → answered_here s c its ≡ locked_by s c.number (target_of c) (Some c.mode)

-- a call that no lock blocks and the token covers is answered Done
tried-done : (s : NodeState) (c : OpenCall) (r : Option LockInfo) → r ≡ None → Locks c.lock_command → covers (s.files c.file).token c.span c.mode ≡ true → regions_with s.table (target_of c) (Some c.mode) ≤ s.table.limit → (tried_against s c r).reply ≡ Some (id_of s c.number, Done)
tried-done s c r none locks covered few =
    ap (λ (r : Option LockInfo). (tried_against s c r).reply) none
    ∙ taken (λ (e : Effect). e.reply ≡ Some (id_of s c.number, Done)) (covers (s.files c.file).token c.span c.mode) (answered_here s c c.lock_command) (requested s c) covered (
    ap (λ (e : Effect). e.reply) (locks s c)
    ∙ locked_by-reply s c.number (target_of c) (Some c.mode)
    ∙ ap (λ (a : Reply). Some (id_of s c.number, a)) (lock_within-done s.table (target_of c) (Some c.mode) few))

locks_of : (its : LockCommand) → its ≢ Query → Locks its
locks_of Set asks = λ s c. refl
locks_of Wait asks = λ s c. refl
locks_of Query asks = absurd (asks refl)

-- so such a call for a lock is answered Done
lock_call-done : (s : NodeState) (number pid : ℕ) (call : LockCall) (t : LockTarget) → Locks call.command → call_target s.table (process s pid) call ≡ Ok t → IsOfNode (s.table.locks t.file) s.node s.incarnation → IsFree (s.table.locks t.file) t.owner t.span call.mode → covers (s.files t.file).token t.span call.mode ≡ true → regions_with s.table t (Some call.mode) ≤ s.table.limit → (lock_call s number pid call.command call.mode (call_target s.table (process s pid) call)).reply ≡ Some (id_of s number, Done)
lock_call-done s number pid call t locks is own free covered few =
    let mode = call.mode in
    let about : IsAbout (process s pid) t = subst (λ (r : Result LockTarget Reply). IfOk r (IsAbout (process s pid))) is (target-about s.table (process s pid) (need_of call.command mode) call.fd call.kind call.start call.len) in
    let of_node : IsOfNode (s.table.locks t.file) t.owner.node s.incarnation = subst (λ (n : ℕ). IsOfNode (s.table.locks t.file) n s.incarnation) (sym about.of_node) own in
    let of_host : IsOfNode (s.table.locks t.file) t.owner.node t.owner.incarnation = subst (λ (n : ℕ). IsOfNode (s.table.locks t.file) t.owner.node n) (sym about.of_incarnation) of_node in
    let none = sym (is_lowest_blocker (s.table.locks t.file) t.owner t.span mode None of_host about.span.ordered about.span.ends free) in
    let c : OpenCall = record { number = number; pid = pid; lock_command = call.command; file = t.file; owner = t.owner; mode = mode; span = t.span } in
    let opened : NodeState = record s { pending = s.pending ++ c ∷ [] } in
    ap (λ (r : Result LockTarget Reply). (lock_call s number pid call.command mode r).reply) is ∙ tried-done opened c _ none locks covered few

-- the call of a process that may call is taken
call-taken : (s : NodeState) (pid : ℕ) (op : Op) (P : NodeState × Outcome → Type 0) → MayCall s pid → is_in_shape s.shape op ≡ true → is_exit op ≡ false → P (after_call s pid op) → IsOkAnd (call_rule s pid op) P
call-taken s pid op P may known stays h =
    let Q : Result (NodeState × Outcome) StepError → Type 0 = λ r. IsOkAnd r P in
    let busy : is_busy s pid op ≡ false = (λ i. not (stays i) && is_some (may.idle i)) in
    passed Q (is_pid pid && is_in_shape s.shape op) (Err Stranger) _ (and_from _ _ (and_from _ _ (le-leb _ _ may.pid_in.0) (le-leb _ _ may.pid_in.1)) known) (
    not_taken Q (is_busy s pid op) (Err Busy) _ busy (
    taken Q (nat_lt s.calls 4294967295) (Ok (after_call s pid op)) (Err Spent) (lt-ltb _ _ may.left) h))

pub covered_lock_is_done : CoveredLockIsDone
covered_lock_is_done s pid call t asks may is own free covered few =
    let done = lock_call-done (record s { calls = s.calls + 1 }) (s.calls + 1) pid call t (locks_of call.command asks) is own free covered few in
    call-taken s pid (Lock call) (λ r. r.1.reply ≡ Some (id_of s (s.calls + 1), Done)) may refl refl done

-- an effect of a reply, or of none, leaves processes, locks and tokens
answered_if-untouched : (s : NodeState) (number : ℕ) (x : Option Reply) → IsUntouched s (outcome None (answered_if s number x))
answered_if-untouched s number None = record { table = refl; files = refl; silent = refl }
answered_if-untouched s number (Some reply) = record { table = refl; files = refl; silent = refl }

interrupted-untouched : (s : NodeState) (x : Option OpenCall) → IsUntouched s (outcome None (interrupted s x))
interrupted-untouched s None = record { table = refl; files = refl; silent = refl }
interrupted-untouched s (Some c) = answered_if-untouched s c.number (interruption_of c.lock_command)

pub interrupt_changes_nothing : InterruptChangesNothing
interrupt_changes_nothing s pid within =
    taken (λ (r : Result (NodeState × Outcome) StepError). IsOkAnd r (IsUntouched s)) (is_pid pid) (Ok (outcome None (interrupted s (open_call_of s pid)))) (Err Stranger) (and_from _ _ (le-leb _ _ within.0) (le-leb _ _ within.1)) (
    interrupted-untouched s (open_call_of s pid))

-- a lowered level conflicts with no lock of the mode
lowered_level-apart : (x : Option Level) (mode : Mode) → level_conflicts (lowered_level x mode) mode ≡ false
lowered_level-apart x Write = refl
lowered_level-apart None Read = refl
lowered_level-apart (Some level) Read = refl

lowered-apart : (t : Token) (s : Range) (mode : Mode) (b : ℕ) → is_in s b ≡ true → level_conflicts (lowered t s mode b) mode ≡ false
lowered-apart t s mode b within = taken (λ (x : Option Level). level_conflicts x mode ≡ false) (is_in s b) (lowered_level (t b) mode) (t b) within (lowered_level-apart (t b) mode)

gives-apart : (h : FileLocks) (node incarnation : ℕ) (t : Token) (mode : Mode) (required desired : Range) (gives : GaveUp) → IsOfNode h node incarnation → required.lo ≤ required.hi → IsClear h required mode → IsGivenUp (IsRegion h) mode required desired gives → conflicts (after_giving_up t mode gives) required mode ≡ false
gives-apart h node incarnation t mode required desired (Conflict lock) own order clear low = absurd (clear_has_none h node incarnation own required mode lock order clear low.is_one low.in_way)
gives-apart h node incarnation t mode required desired (Released s) own order clear given =
    none_passes-from (λ b. level_conflicts (lowered t s mode b) mode) required.lo (required.hi + 1 - required.lo) (λ b above below. lowered-apart t s mode b (within b above below))
  where
    within : (b : ℕ) → required.lo ≤ b → b < required.lo + (required.hi + 1 - required.lo) → is_in s b ≡ true
    within b above below = and_from _ _ (le-leb s.lo b (let k : s.lo ≤ required.lo = given.1.has_first in omega arith)) (le-leb b s.hi (let k : required.hi ≤ s.hi = given.1.has_last in omega arith))

-- the answer to a revoke gives up a span around the required bytes
record IsReleased (required : Range) (gives : GaveUp) : Type 0 where
  span : Range
  is : gives ≡ Released span
  has_first : span.lo ≤ required.lo
  has_last : required.hi ≤ span.hi

gives-released : (h : FileLocks) (node incarnation : ℕ) (mode : Mode) (required desired : Range) (gives : GaveUp) → IsOfNode h node incarnation → required.lo ≤ required.hi → IsClear h required mode → IsGivenUp (IsRegion h) mode required desired gives → IsReleased required gives
gives-released h node incarnation mode required desired (Conflict lock) own order clear low = absurd (clear_has_none h node incarnation own required mode lock order clear low.is_one low.in_way)
gives-released h node incarnation mode required desired (Released s) own order clear given = record { span = s; is = refl; has_first = given.1.has_first; has_last = given.1.has_last }

pub clear_revoke_gives_up : ClearRevokeGivesUp
clear_revoke_gives_up s file number call mode wanted within next own revocable clear =
    let t = in_epoch s file number in
    let P : NodeState × Outcome → Type 0 = GivesUp s file number call mode wanted.required in
    let Q : Result (NodeState × Outcome) StepError → Type 0 = λ r. IsOkAnd r P in
    let h = s.table.locks file in
    let gives = gave_up h s.node s.incarnation mode wanted.required wanted.desired in
    let given = gave_up_is_given_up h s.node s.incarnation mode wanted.required wanted.desired own revocable in
    let released = gives-released h s.node s.incarnation mode wanted.required wanted.desired gives own revocable.ordered clear given in
    let done = revoked t file number call mode wanted in
    let file_done : FileState = record { token = after_giving_up (t.files file).token mode gives; last = number; answer = Some (answer_to file number (host s) call gives); owes_freed = is_conflict gives || (t.files file).owes_freed } in
    let is_next = next ∙ ap (λ (f : FileState). f.last + 1) (sym (in_epoch-file s file number)) in
    passed Q ((s.node == s.node) && is_within s.shape.files file) (Err Stranger) _ (and_from _ _ (eq-eqb s.node s.node refl) (and_from _ _ (le-leb _ _ within.0) (le-leb _ _ within.1))) (
    taken Q (s.incarnation == s.incarnation) _ _ (eq-eqb s.incarnation s.incarnation refl) (
    taken (λ (e : Effect). P (outcome None e)) (number == (t.files file).last + 1) done _ (eq-eqb _ _ is_next) (record {
      span = released.span;
      has_first = released.has_first;
      has_last = released.has_last;
      answer = ap (λ (g : GaveUp). answer_to file number (host s) call g ∷ []) released.is;
      clear =
          taken (λ (f : FileState). conflicts f.token wanted.required mode ≡ false) (file == file) file_done (t.files file) (eq-eqb file file refl) (
          gives-apart h s.node s.incarnation (t.files file).token mode wanted.required wanted.desired gives own revocable.ordered clear given);
    })))
