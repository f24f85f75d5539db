-- No call changes how many regions an owner may have.
use Rattle.std.proofs.Common.{◌≡◌, ℕ, zero, suc, Bool, true, false, if◌then◌else◌, ◌∙◌, refl, ap, nat_le, Option, Some, None, Result, Ok, Err}
use Rattle.model.specs.declared.mode.Mode.{Mode}
use Rattle.model.specs.declared.opened.Opened.{Opened}
use Rattle.model.specs.declared.process.Process.{Process}
use Rattle.model.specs.declared.op.Op.{Op}
use Rattle.model.specs.declared.op.Op.TheVariants as op
use Rattle.model.specs.declared.op.LockCommand.{LockCommand}
use Rattle.model.specs.declared.op.LockCommand.TheVariants.{Set, Wait, Query}
use Rattle.model.specs.declared.reply.Reply.{Reply}
use Rattle.model.specs.declared.reply.Reply.TheVariants.{Done, Again, Free, Blocked, Interrupted, NoProcess, NoLocks}
use Rattle.model.specs.rule.Limits.{most_processes, most_descriptors}
use Rattle.model.specs.rule.Owners.{process_owner, description_owner}
use Rattle.model.specs.rule.Locks.{without_owner, without_owner_anywhere}
use Rattle.model.specs.rule.Descriptors.{Processes, with_descriptor, is_open, after}
use Rattle.model.specs.rule.Table.{Table, LockTarget, around, descriptor, is_running, beside, with_processes, target, call_target, locked, lock_within, regions_with, after_unlock, closed, closed_if, closed_at, closed_below, after_close, exited, exited_if, exited_to, gone, after_exit}
use Rattle.model.specs.rule.Step.{Is, AfterTests, SetStep, WaitStep, QueryStep, LockStep, Step}

beside_limit : (t : Table) (p : Process) (r : Result (Processes × Reply) Reply) → (beside t p r).0.limit ≡ t.limit
beside_limit t p (Ok answer) = refl
beside_limit t p (Err refusal) = refl

pub lock_limit : (t : Table) (c : LockTarget) (mode : Option Mode) → (lock_within t c mode).0.limit ≡ t.limit
lock_limit t c mode =
    let out : Bool → Table × Reply = λ b. if b then (locked t c mode, Done) else (t, NoLocks) in
    elim (nat_le (regions_with t c mode) t.limit) as (λ b. (out b).0.limit ≡ t.limit) [ true ↦ refl | false ↦ refl ]

unlock_limit : (t : Table) (found : Result LockTarget Reply) → (after_unlock t found).0.limit ≡ t.limit
unlock_limit t (Err refusal) = refl
unlock_limit t (Ok c) = lock_limit t c None

pub closed_limit : (t : Table) (p : Process) (fd : ℕ) (o : Opened) → (closed t p fd o).limit ≡ t.limit
closed_limit t p fd o =
    let mid : Table = record (with_processes t p (with_descriptor (around t p) p.pid fd None)) { locks = without_owner t.locks o.file (process_owner p) } in
    let rest : Table = record mid { locks = without_owner_anywhere mid.locks (description_owner p o.description) } in
    elim (is_open (around mid p) o.description) as (λ b. (if b then mid else rest).limit ≡ t.limit) [ true ↦ refl | false ↦ refl ]

pub closed_if_limit : (t : Table) (p : Process) (fd : ℕ) (o : Option Opened) → (closed_if t p fd o).limit ≡ t.limit
closed_if_limit t p fd None = refl
closed_if_limit t p fd (Some o) = closed_limit t p fd o

pub closed_below_limit : (t : Table) (p : Process) (n : ℕ) → (closed_below t p n).limit ≡ t.limit
unfolding closed_below
closed_below_limit t p zero = refl
closed_below_limit t p (suc n) =
    let before = closed_below t p n in
    closed_if_limit before p n (descriptor before p n) ∙ closed_below_limit t p n

pub exited_limit : (t : Table) (p : Process) → (exited t p).limit ≡ t.limit
exited_limit t p = closed_below_limit t p most_descriptors

exited_if_limit : (t : Table) (p : Process) → (exited_if t p).limit ≡ t.limit
exited_if_limit t p = elim (is_running t p) as (λ b. (if b then exited t p else t).limit ≡ t.limit) [ true ↦ exited_limit t p | false ↦ refl ]

exited_to_limit : (t : Table) (node incarnation n : ℕ) → (exited_to t node incarnation n).limit ≡ t.limit
unfolding exited_to
exited_to_limit t node incarnation zero = refl
exited_to_limit t node incarnation (suc n) =
    let p : Process = record { node = node; incarnation = incarnation; pid = suc n } in
    exited_if_limit (exited_to t node incarnation n) p ∙ exited_to_limit t node incarnation n

pub gone_limit : (t : Table) (node incarnation : ℕ) → (gone t node incarnation).limit ≡ t.limit
gone_limit t node incarnation = exited_to_limit t node incarnation most_processes

pub after_close_limit : (t : Table) (p : Process) (fd : ℕ) → (after_close t p fd).0.limit ≡ t.limit
after_close_limit t p fd =
    let out : Bool → Table × Reply = λ b. if b then closed_at t p fd (descriptor t p fd) else (t, NoProcess) in
    elim (is_running t p) as (λ b. (out b).0.limit ≡ t.limit) [
      | true ↦ elim (descriptor t p fd) as (λ x. (closed_at t p fd x).0.limit ≡ t.limit) [ Some o ↦ closed_limit t p fd o | None ↦ refl ]
      | false ↦ refl
    ]

pub after_exit_limit : (t : Table) (p : Process) → (after_exit t p).0.limit ≡ t.limit
after_exit_limit t p =
    let out : Bool → Table × Reply = λ b. if b then (exited t p, Done) else (t, NoProcess) in
    elim (is_running t p) as (λ b. (out b).0.limit ≡ t.limit) [ true ↦ exited_limit t p | false ↦ refl ]

-- a call whose table has the old limit leaves a table with the old limit
is_limit : (t u : Table) (answer : Table × Reply) (reply : Reply) → answer.0.limit ≡ t.limit → Is answer reply u → u.limit ≡ t.limit
is_limit t u answer reply same h = ap (λ (x : Table). x.limit) h.1 ∙ same

tested_limit : (t u : Table) (found : Result LockTarget Reply) (reply : Reply) (Answer : LockTarget → Type 0) → ((c : LockTarget) → Answer c → u.limit ≡ t.limit) → AfterTests t found reply u Answer → u.limit ≡ t.limit
tested_limit t u (Err refusal) reply Answer stays h = ap (λ (x : Table). x.limit) h.1
tested_limit t u (Ok c) reply Answer stays h = stays c h

set_limit : (t u : Table) (mode : Mode) (reply : Reply) (c : LockTarget) → SetStep t mode reply u c → u.limit ≡ t.limit
set_limit t u mode (Again lock) c h = ap (λ (x : Table). x.limit) h.1
set_limit t u mode Done c h = is_limit t u (lock_within t c (Some mode)) Done (lock_limit t c (Some mode)) h.1
set_limit t u mode NoLocks c h = is_limit t u (lock_within t c (Some mode)) NoLocks (lock_limit t c (Some mode)) h.1
set_limit t u mode _ c h = absurd h

wait_limit : (t u : Table) (mode : Mode) (reply : Reply) (c : LockTarget) → WaitStep t mode reply u c → u.limit ≡ t.limit
wait_limit t u mode Interrupted c h = ap (λ (x : Table). x.limit) h
wait_limit t u mode Done c h = set_limit t u mode Done c h
wait_limit t u mode NoLocks c h = set_limit t u mode NoLocks c h
wait_limit t u mode _ c h = absurd h

query_limit : (t u : Table) (mode : Mode) (reply : Reply) (c : LockTarget) → QueryStep t mode reply u c → u.limit ≡ t.limit
query_limit t u mode (Blocked lock) c h = ap (λ (x : Table). x.limit) h.1
query_limit t u mode Free c h = ap (λ (x : Table). x.limit) h.1
query_limit t u mode _ c h = absurd h

lock_step_limit : (t u : Table) (command : LockCommand) (mode : Mode) (reply : Reply) (c : LockTarget) → LockStep t command mode reply u c → u.limit ≡ t.limit
lock_step_limit t u Set mode reply c h = set_limit t u mode reply c h
lock_step_limit t u Wait mode reply c h = wait_limit t u mode reply c h
lock_step_limit t u Query mode reply c h = query_limit t u mode reply c h

pub step_limit : (t u : Table) (p : Process) (o : Op) (reply : Reply) → Step t p o reply u → u.limit ≡ t.limit
step_limit t u p (op.Process call) reply h = is_limit t u (beside t p (after (around t p) p.pid call)) reply (beside_limit t p (after (around t p) p.pid call)) h.1
step_limit t u p (op.Close fd) reply h = is_limit t u (after_close t p fd) reply (after_close_limit t p fd) h
step_limit t u p op.Exit reply h = is_limit t u (after_exit t p) reply (after_exit_limit t p) h
step_limit t u p (op.Lock call) reply h = tested_limit t u (call_target t p call) reply (LockStep t call.command call.mode reply u) (lock_step_limit t u call.command call.mode reply) h
step_limit t u p (op.Unlock fd kind start len) reply h = is_limit t u (after_unlock t (target t p None fd kind start len)) reply (unlock_limit t (target t p None fd kind start len)) h
