-- Calls that are not done leave the table as it was.
use Rattle.std.proofs.Common.{◌≡◌, ℕ, Bool, true, false, if◌then◌else◌, ◌∙◌, refl, subst, nat_le, Option, Some, None, Result, Ok, Err}
use Rattle.model.specs.declared.mode.Mode.{Mode}
use Rattle.model.specs.declared.opened.Opened.{Opened}
use Rattle.model.specs.declared.process.Process.{Process}
use Rattle.model.specs.declared.op.Op.TheVariants as op
use Rattle.model.specs.declared.op.ProcessCall.{ProcessCall}
use Rattle.model.specs.declared.op.ProcessCall.TheVariants.{Spawn, Fork, Open, Dup}
use Rattle.model.specs.declared.op.LockCommand.{LockCommand}
use Rattle.model.specs.declared.op.LockCommand.TheVariants.{Set, Wait, Query}
use Rattle.model.specs.declared.reply.Reply.{Reply}
use Rattle.model.specs.declared.reply.Reply.TheVariants.{Done, Fd, Again, Free, Blocked, Interrupted, NoProcess, Exists, TooManyFiles, NoLocks}
use Rattle.model.specs.rule.Descriptors.{Processes, again_on, after}
use Rattle.model.specs.rule.Table.{Table, LockTarget, around, descriptor, is_running, beside, target, call_target, locked, lock_within, regions_with, after_unlock, closed_at, after_close, exited, after_exit}
use Rattle.model.specs.rule.Step.{Is, AfterTests, SetStep, WaitStep, QueryStep, LockStep}
use Rattle.model.specs.rule.Laws.{TellsNoChange, OnlyDoneCallsChange}

-- a reply that says that nothing changed comes with the old table
abbrev Keeps : Table → Table × Reply → Type 0
Keeps t answer = TellsNoChange answer.1 → answer.0 ≡ t

keeps_if : (t : Table) (p : Process) (b : Bool) (x y : Result (Processes × Reply) Reply) → Keeps t (beside t p x) → Keeps t (beside t p y) → Keeps t (beside t p (if b then x else y))
keeps_if t p true x y h k = h
keeps_if t p false x y h k = k

opened_keeps : (t : Table) (p : Process) (b : Bool) (ps : Processes) (fd : ℕ) → Keeps t (beside t p (if b then Ok (ps, Fd fd) else Err TooManyFiles))
opened_keeps t p true ps fd none = absurd none
opened_keeps t p false ps fd none = refl

again_keeps : (t : Table) (p : Process) (o : Option Opened) → Keeps t (beside t p (again_on (around t p) p.pid o))
again_keeps t p None = λ none. refl
again_keeps t p (Some o) = opened_keeps t p _ _ _

close_keeps : (t : Table) (p : Process) (fd : ℕ) (b : Bool) (o : Option Opened) → Keeps t (if b then closed_at t p fd o else (t, NoProcess))
close_keeps t p fd true None none = refl
close_keeps t p fd true (Some o) none = absurd none
close_keeps t p fd false o none = refl

exit_keeps : (t : Table) (p : Process) (b : Bool) → Keeps t (if b then (exited t p, Done) else (t, NoProcess))
exit_keeps t p true none = absurd none
exit_keeps t p false none = refl

lock_keeps : (t u : Table) (b : Bool) → Keeps t (if b then (u, Done) else (t, NoLocks))
lock_keeps t u true none = absurd none
lock_keeps t u false none = refl

unlock_keeps : (t : Table) (found : Result LockTarget Reply) → Keeps t (after_unlock t found)
unlock_keeps t (Err refusal) = λ none. refl
unlock_keeps t (Ok c) = lock_keeps t (locked t c None) (nat_le (regions_with t c None) t.limit)

answered : (t u : Table) (answer : Table × Reply) (reply : Reply) → Keeps t answer → TellsNoChange reply → Is answer reply u → u ≡ t
answered t u answer reply keeps none h = h.1 ∙ keeps (subst TellsNoChange h.0 none)

tested : (t u : Table) (found : Result LockTarget Reply) (reply : Reply) (Answer : LockTarget → Type 0) → ((c : LockTarget) → Answer c → u ≡ t) → AfterTests t found reply u Answer → u ≡ t
tested t u (Err refusal) reply Answer stays h = h.1
tested t u (Ok c) reply Answer stays h = stays c h

set_stays : (t u : Table) (mode : Mode) (reply : Reply) (c : LockTarget) → TellsNoChange reply → SetStep t mode reply u c → u ≡ t
set_stays t u mode (Again lock) c none h = h.1
set_stays t u mode Done c none h = absurd none
set_stays t u mode NoLocks c none h = answered t u (lock_within t c (Some mode)) NoLocks (lock_keeps t (locked t c (Some mode)) (nat_le (regions_with t c (Some mode)) t.limit)) tt h.1
set_stays t u mode _ c none h = absurd h

wait_stays : (t u : Table) (mode : Mode) (reply : Reply) (c : LockTarget) → TellsNoChange reply → WaitStep t mode reply u c → u ≡ t
wait_stays t u mode Interrupted c none h = h
wait_stays t u mode Done c none h = absurd none
wait_stays t u mode NoLocks c none h = set_stays t u mode NoLocks c tt h
wait_stays t u mode _ c none h = absurd h

query_stays : (t u : Table) (mode : Mode) (reply : Reply) (c : LockTarget) → QueryStep t mode reply u c → u ≡ t
query_stays t u mode (Blocked lock) c h = h.1
query_stays t u mode Free c h = h.1
query_stays t u mode _ c h = absurd h

lock_step_stays : (t u : Table) (command : LockCommand) (mode : Mode) (reply : Reply) (c : LockTarget) → TellsNoChange reply → LockStep t command mode reply u c → u ≡ t
lock_step_stays t u Set mode reply c none h = set_stays t u mode reply c none h
lock_step_stays t u Wait mode reply c none h = wait_stays t u mode reply c none h
lock_step_stays t u Query mode reply c none h = query_stays t u mode reply c h

beside_keeps : (t : Table) (p : Process) (call : ProcessCall) → Keeps t (beside t p (after (around t p) p.pid call))
beside_keeps t p Spawn = keeps_if t p (is_running t p) (Err Exists) _ (λ n. refl) (λ n. absurd n)
beside_keeps t p (Fork child) = keeps_if t p (is_running t p) _ (Err NoProcess) (keeps_if t p ((around t p).runs child) (Err Exists) _ (λ n. refl) (λ n. absurd n)) (λ n. refl)
beside_keeps t p (Open file access) = keeps_if t p (is_running t p) _ (Err NoProcess) (opened_keeps t p _ _ _) (λ n. refl)
beside_keeps t p (Dup fd) = keeps_if t p (is_running t p) _ (Err NoProcess) (again_keeps t p (descriptor t p fd)) (λ n. refl)

pub only_done_change : OnlyDoneCallsChange
only_done_change t u p (op.Process call) reply none h = answered t u (beside t p (after (around t p) p.pid call)) reply (beside_keeps t p call) none h.1
only_done_change t u p (op.Close fd) reply none h = answered t u (after_close t p fd) reply (close_keeps t p fd (is_running t p) (descriptor t p fd)) none h
only_done_change t u p op.Exit reply none h = answered t u (after_exit t p) reply (exit_keeps t p (is_running t p)) none h
only_done_change t u p (op.Lock call) reply none h = tested t u (call_target t p call) reply (LockStep t call.command call.mode reply u) (λ c. lock_step_stays t u call.command call.mode reply c none) h
only_done_change t u p (op.Unlock fd kind start len) reply none h =
    answered t u (after_unlock t (target t p None fd kind start len)) reply (unlock_keeps t (target t p None fd kind start len)) none h
