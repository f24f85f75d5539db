-- The laws of closes, exits and forks.
use Rattle.std.proofs.Common.{◌≡◌, ℕ, Bool, true, false, if◌then◌else◌, ◌&&◌, ◌==◌, refl, sym, ◌∙◌, ap, subst, Option, Some, None, Result, Ok, Err}
use Rattle.std.proofs.lemmas.Bool.{and_from, eq-eqb, both_ways}
use Rattle.intervals.specs.rule.Bytes.{nothing}
use Rattle.model.specs.declared.mode.Mode.{Mode}
use Rattle.model.specs.declared.opened.Opened.{Opened}
use Rattle.model.specs.declared.process.Process.{Process}
use Rattle.model.specs.declared.op.Op.{Op}
use Rattle.model.specs.declared.op.Op.TheVariants as op
use Rattle.model.specs.declared.op.LockCall.{LockCall}
use Rattle.model.specs.declared.op.LockCommand.{LockCommand}
use Rattle.model.specs.declared.op.LockCommand.TheVariants.{Set, Wait, Query}
use Rattle.model.specs.declared.reply.Reply.{Reply}
use Rattle.model.specs.declared.reply.Reply.TheVariants.{Done, Again, Free, Blocked, Interrupted, Exists, NoProcess, NoLocks}
use Rattle.model.specs.rule.Owners.{same_owner, process_owner, description_owner}
use Rattle.model.specs.rule.Locks.{without_owner, without_owner_anywhere}
use Rattle.model.specs.rule.Descriptors.{Processes, with_process, with_descriptor, is_open}
use Rattle.model.specs.rule.Table.{Table, LockTarget, around, descriptor, is_running, beside, with_processes, need_of, call_target, lock_within, closed, closed_at, exited}
use Rattle.model.specs.rule.Anchors.{IsAnchored, IsOwn}
use Rattle.model.specs.rule.Step.{Step, AfterTests, SetStep, WaitStep, QueryStep, LockStep}
use Rattle.model.specs.rule.Laws.{ClosedFileHasNoLock, LastCloseDropsLocks, HasGone, ExitLeavesNothing, IsChild, sibling, ForkSharesDescriptions, CallsKeepAnchors}
use Rattle.model.proofs.OwnerLaws.{owner_refl}
use Rattle.model.proofs.Hanging.{itself, target_hangs}
use Rattle.model.proofs.Anchors.{exits}
use Rattle.model.proofs.NodeTables.{call_follows, unlock_follows, lock_own, target_own}
use Rattle.model.proofs.Closings.{close_follows, exit_follows}

-- a close that is done closes what the descriptor refers to
close_closes : (t u : Table) (p : Process) (fd : ℕ) (o : Opened) → descriptor t p fd ≡ Some o → Step t p (op.Close fd) Done u → u ≡ closed t p fd o
close_closes t u p fd o there =
    let out : Bool → Table × Reply = λ b. if b then closed_at t p fd (descriptor t p fd) else (t, NoProcess) in
    elim (is_running t p) as (λ b. (Done ≡ (out b).1) × (u ≡ (out b).0) → u ≡ closed t p fd o) [
      | true ↦ λ h. h.1 ∙ ap (λ (x : Option Opened). (closed_at t p fd x).0) there
      | false ↦ λ h. absurd (let said = h.0 in cc)
    ]

module _ (t : Table) (p : Process) (fd : ℕ) (o : Opened) where
  abbrev mid : Table
  mid = record (with_processes t p (with_descriptor (around t p) p.pid fd None)) { locks = without_owner t.locks o.file (process_owner p) }

  abbrev last : Bool → Table
  last b = if b then mid else record mid { locks = without_owner_anywhere mid.locks (description_owner p o.description) }

  file_unlocked : (closed t p fd o).locks o.file (process_owner p) ≡ nothing
  file_unlocked =
      let here : ((o.file == o.file) && same_owner (process_owner p) (process_owner p)) ≡ true = and_from _ _ (eq-eqb o.file o.file refl) (owner_refl (process_owner p)) in
      elim (is_open (around mid p) o.description) as (λ b. (last b).locks o.file (process_owner p) ≡ nothing) [ true ↦ rw here refl | false ↦ without_it here (same_owner (description_owner p o.description) (process_owner p)) ]
    where
      without_it : ((o.file == o.file) && same_owner (process_owner p) (process_owner p)) ≡ true → (b : Bool) → (if b then nothing else mid.locks o.file (process_owner p)) ≡ nothing
      without_it here true = refl
      without_it here false = rw here refl

  last_on : (b : Bool) → (last b).on ≡ mid.on
  last_on true = refl
  last_on false = refl

  description_left : (file : ℕ) → (closed t p fd o).locks file (description_owner p o.description) ≡ (if is_open (around (closed t p fd o) p) o.description then t.locks file (description_owner p o.description) else nothing)
  description_left file =
      let its = description_owner p o.description in
      let same : is_open (around (closed t p fd o) p) o.description ≡ is_open (around mid p) o.description = ap (λ (on : ℕ → ℕ → Processes). is_open (on p.node p.incarnation) o.description) (last_on (is_open (around mid p) o.description)) in
      let here : same_owner its its ≡ true = owner_refl its in
      let other : ((o.file == file) && same_owner (process_owner p) its) ≡ false = not_both (o.file == file) (p.node == p.node) (p.incarnation == p.incarnation) in
      elim (is_open (around mid p) o.description) as (λ b. (last b).locks file its ≡ (if b then t.locks file its else nothing)) [ true ↦ rw other refl | false ↦ rw here refl ]
      ∙ ap (λ (b : Bool). if b then t.locks file its else nothing) (sym same)
    where
      not_both : (a b c : Bool) → (a && (b && (c && (false && (p.pid == o.description))))) ≡ false
      not_both false b c = refl
      not_both true false c = refl
      not_both true true false = refl
      not_both true true true = refl

pub closed_file : ClosedFileHasNoLock
closed_file t u p fd o there step = ap (λ (x : Table). x.locks o.file (process_owner p)) (close_closes t u p fd o there step) ∙ file_unlocked t p fd o

pub last_close : LastCloseDropsLocks
last_close t u p fd file o there step =
    let P : Table → Type 0 = λ x. x.locks file (description_owner p o.description) ≡ (if is_open (around x p) o.description then t.locks file (description_owner p o.description) else nothing) in
    subst P (sym (close_closes t u p fd o there step)) (description_left t p fd o file)

-- a process that does not run has no descriptor and holds no lock
stopped_gone : (t : Table) (p : Process) → IsAnchored t p.node p.incarnation → is_running t p ≡ false → HasGone t p
stopped_gone t p a stopped = record {
  stopped = stopped;
  shut = λ fd. none fd (descriptor t p fd) refl;
  released = λ file. λ j b. unlocked file b (t.locks file (process_owner p) b) refl j;
}
  where
    none : (fd : ℕ) (x : Option Opened) → descriptor t p fd ≡ x → descriptor t p fd ≡ None
    none fd None h = h
    none fd (Some o) h = absurd (both_ways (is_running t p) stopped (a.descriptors p.pid fd o h).0)

    unlocked : (file b : ℕ) (x : Option Mode) → t.locks file (process_owner p) b ≡ x → t.locks file (process_owner p) b ≡ None
    unlocked file b None h = h
    unlocked file b (Some mode) h =
        let hangs = a.locks file (process_owner p) b mode refl refl h in
        absurd (both_ways (is_running t p) stopped (a.descriptors p.pid hangs.0 hangs.1 hangs.2).0)

pub exit_leaves : ExitLeavesNothing
exit_leaves t u p a =
    let out : Bool → Table × Reply = λ b. if b then (exited t p, Done) else (t, NoProcess) in
    elim (is_running t p) as (λ b. (Done ≡ (out b).1) × (u ≡ (out b).0) → HasGone u p) [
      | true ↦ λ h.
          let e = exits p.node p.incarnation p.pid t a in
          subst (λ (x : Table). HasGone x p) (sym h.1) (stopped_gone (exited t p) p e.leaves.anchored e.stopped)
      | false ↦ λ h. absurd (let said = h.0 in cc)
    ]

pub fork_shares : ForkSharesDescriptions
fork_shares t u p child a step =
    let ps = around t p in
    let new = with_process ps child true (ps.opened p.pid) in
    let its = sibling p child in
    elim (ps.runs p.pid) as (λ b. let answer = beside t p (if b then (if ps.runs child then Err Exists else Ok (new, Done)) else Err NoProcess) in (Done ≡ answer.1) × (u ≡ answer.0) → IsChild t u p its) [
      | false ↦ λ h. absurd (let said = h.0 in cc)
      | true ↦ elim (ps.runs child) as (λ b. ps.runs child ≡ b → (let answer = beside t p (if b then Err Exists else Ok (new, Done)) in (Done ≡ answer.1) × (u ≡ answer.0)) → IsChild t u p its) [
        | true ↦ λ idle h. absurd (let said = h.0 in cc)
        | false ↦ λ idle h.
            let v = with_processes t p new in
            let on : v.on p.node p.incarnation ≡ new = rw (itself p.node p.incarnation) refl in
            let here : (child == child) ≡ true = eq-eqb child child refl in
            let gone = stopped_gone t its a idle in
            subst (λ (x : Table). IsChild t x p its) (sym h.1) (record {
              runs = ap (λ (qs : Processes). qs.runs child) on ∙ rw here refl;
              inherits = λ fd. ap (λ (qs : Processes). qs.opened child fd) on ∙ rw here refl;
              unlocked = gone.released;
            })
      ] refl
    ] step.1

-- a lock call keeps the table the node's own, whether or not it passes its tests
tested : (t u : Table) (n i : ℕ) (found : Result LockTarget Reply) (reply : Reply) (Answer : LockTarget → Type 0) → IsOwn t n i → ((c : LockTarget) → found ≡ Ok c → Answer c → IsOwn u n i) → AfterTests t found reply u Answer → IsOwn u n i
tested t u n i (Err refusal) reply Answer own answers h = subst (λ (x : Table). IsOwn x n i) (sym h.1) own
tested t u n i (Ok c) reply Answer own answers h = answers c refl h

-- what a lock call that passes its tests leaves
module _ (t u : Table) (p : Process) (c : LockTarget) (mode : Mode) (own : IsOwn t p.node p.incarnation) (locked : IsOwn (lock_within t c (Some mode)).0 p.node p.incarnation) where
  to : (x : Table) → u ≡ x → IsOwn x p.node p.incarnation → IsOwn u p.node p.incarnation
  to x same o = subst (λ (y : Table). IsOwn y p.node p.incarnation) (sym same) o

  set_own : (reply : Reply) → SetStep t mode reply u c → IsOwn u p.node p.incarnation
  set_own (Again lock) h = to t h.1 own
  set_own Done h = to (lock_within t c (Some mode)).0 h.1.1 locked
  set_own NoLocks h = to (lock_within t c (Some mode)).0 h.1.1 locked
  set_own _ h = absurd h

  wait_own : (reply : Reply) → WaitStep t mode reply u c → IsOwn u p.node p.incarnation
  wait_own Interrupted h = to t h own
  wait_own Done h = set_own Done h
  wait_own NoLocks h = set_own NoLocks h
  wait_own _ h = absurd h

  query_own : (reply : Reply) → QueryStep t mode reply u c → IsOwn u p.node p.incarnation
  query_own (Blocked lock) h = to t h.1 own
  query_own Free h = to t h.1 own
  query_own _ h = absurd h

  lock_step_own : (command : LockCommand) (reply : Reply) → LockStep t command mode reply u c → IsOwn u p.node p.incarnation
  lock_step_own Set reply h = set_own reply h
  lock_step_own Wait reply h = wait_own reply h
  lock_step_own Query reply h = query_own reply h

pub calls_keep : CallsKeepAnchors
calls_keep t u p o reply pid_in own h = by o h
  where
    to : (x : Table) → u ≡ x → IsOwn x p.node p.incarnation → IsOwn u p.node p.incarnation
    to x same own = subst (λ (y : Table). IsOwn y p.node p.incarnation) (sym same) own

    locked : (call : LockCall) (c : LockTarget) → call_target t p call ≡ Ok c → IsOwn (lock_within t c (Some call.mode)).0 p.node p.incarnation
    locked call c found =
        let need = need_of call.command call.mode in
        lock_own t p.node p.incarnation c (Some call.mode)
        (target_own t p.node p.incarnation p.pid need call.fd call.kind call.start call.len c pid_in own found)
        (target_hangs t p need call.fd call.kind call.start call.len c found) own

    by : (o : Op) → Step t p o reply u → IsOwn u p.node p.incarnation
    by (op.Process call) s = to _ s.1.1 (call_follows t p.node p.incarnation p.pid own call pid_in s.0).own
    by (op.Close fd) s = to _ s.1 (close_follows t p.node p.incarnation p.pid fd own).own
    by op.Exit s = to _ s.1 (exit_follows t p.node p.incarnation p.pid own).own
    by (op.Lock call) s =
        tested t u p.node p.incarnation (call_target t p call) reply (LockStep t call.command call.mode reply u) own
        (λ c found. lock_step_own t u p c call.mode own (locked call c found) call.command reply) s
    by (op.Unlock fd kind start len) s = to _ s.1 (unlock_follows t p.node p.incarnation p.pid fd kind start len pid_in own).own
