-- The table of a node joined with those of others: what a call of the node makes of all.
use Rattle.std.proofs.Common.{◌≡◌, ℕ, zero, suc, ◌≤◌, Bool, true, false, if◌then◌else◌, ◌&&◌, ◌==◌, inl, inr, refl, sym, ◌∙◌, ap, subst, arith, ℤ, nat_le, Option, Some, None, Result, Ok, Err}
use Rattle.std.proofs.lemmas.Bool.{and_parts, and_from, eq-eqb, cases_Bool, false≢true}
use Rattle.intervals.specs.rule.Bytes.{Range, IsRun, put, nothing}
use Rattle.intervals.specs.rule.Segment.{seg}
use Rattle.model.specs.declared.mode.Mode.{Mode}
use Rattle.model.specs.declared.lock_info.LockInfo.{LockInfo}
use Rattle.model.specs.declared.owner.Kind.{Kind}
use Rattle.model.specs.declared.owner.Kind.TheVariants.{OfProcess, OfDescription}
use Rattle.model.specs.declared.owner.Owner.{Owner}
use Rattle.model.specs.declared.opened.Opened.{Opened}
use Rattle.model.specs.declared.process.Process.{Process}
use Rattle.model.specs.declared.op.Op.{Op}
use Rattle.model.specs.declared.op.Op.TheVariants as op
use Rattle.model.specs.declared.op.LockCommand.{LockCommand}
use Rattle.model.specs.declared.op.LockCommand.TheVariants.{Set, Wait, Query}
use Rattle.model.specs.declared.reply.Reply.{Reply}
use Rattle.model.specs.declared.reply.Reply.TheVariants.{Done, Again, NoProcess, NoLocks, Free, Blocked, Interrupted}
use Rattle.model.specs.rule.Limits.{most_descriptors}
use Rattle.model.specs.rule.Owners.{same_owner, process_owner, description_owner}
use Rattle.model.specs.rule.Locks.{bars, replace, without_owner, without_owner_anywhere, regions, IsFree, Blocks}
use Rattle.model.specs.rule.Descriptors.{Processes, with_process, with_descriptor, is_open, after}
use Rattle.model.specs.rule.Table.{Table, LockTarget, around, is_running, descriptor, beside, with_processes, target, need_of, call_target, target_at, owner_of, locked, lock_within, regions_with, after_unlock, after_last_close, closed, closed_at, closed_if, closed_below, after_close, exited, after_exit}
use Rattle.model.specs.rule.Step.{Is, AfterTests, SetStep, WaitStep, QueryStep, LockStep, Step}
use Rattle.model.proofs.OwnerLaws.{owner_exact}
use Rattle.cluster_core.specs.rule.Evidence.{IsAbout}
use Rattle.cluster_core.proofs.common.Refusals.{if_then}
use Rattle.model.proofs.Targets.{passes_at}
use Rattle.model.specs.rule.Anchors.{IsOwn}
use Rattle.model.proofs.Hanging.{itself}
use Rattle.model.proofs.NodeTables.{owner_at-node, owner_at-incarnation}
use Rattle.cluster_core.proofs.steps.Tries.{about_maps, IsUnhindered}

-- the owner is one of the node in that incarnation
abbrev pub is_of_host : ℕ → ℕ → Owner → Bool
is_of_host node incarnation o = (o.node == node) && (o.incarnation == incarnation)

-- the processes and locks of one node in one incarnation, and the others' beside them
abbrev pub joined : Table → ℕ → ℕ → Table → Table
joined others node incarnation t = record {
  limit = others.limit;
  on = λ n i. if (n == node) && (i == incarnation) then t.on n i else others.on n i;
  locks = λ file owner. if is_of_host node incarnation owner then t.locks file owner else others.locks file owner;
}

-- a change of the other within one's own part
within_part : {A : Type 0} (own this : Bool) (x y z : A) → (this ≡ true → own ≡ true) → (if own then (if this then x else y) else z) ≡ (if this then x else (if own then y else z))
within_part true true x y z part = refl
within_part true false x y z part = refl
within_part false true x y z part = absurd (false≢true (part refl))
within_part false false x y z part = refl

pub of_host : (node incarnation : ℕ) (o : Owner) → o.node ≡ node → o.incarnation ≡ incarnation → is_of_host node incarnation o ≡ true
of_host node incarnation o same_node same_incarnation = and_from _ _ (eq-eqb o.node node same_node) (eq-eqb o.incarnation incarnation same_incarnation)

-- each owner that holds a byte of a node's own table is of that node
pub holder_of_host : (t : Table) (node incarnation file : ℕ) (o : Owner) (b : ℕ) (mode : Mode) → IsOwn t node incarnation → t.locks file o b ≡ Some mode → is_of_host node incarnation o ≡ true
holder_of_host t node incarnation file o b mode own held =
    let is = (own.locks file).is_own o b mode held in
    of_host node incarnation o (ap (λ (x : Owner). x.node) is.2 ∙ owner_at-node node incarnation is.0) (ap (λ (x : Owner). x.incarnation) is.2 ∙ owner_at-incarnation node incarnation is.0)

-- a lock is of the caller's node
owner_of_host : (p : Process) (kind : Kind) (o : Opened) → is_of_host p.node p.incarnation (owner_of p kind o) ≡ true
owner_of_host p OfProcess o = itself p.node p.incarnation
owner_of_host p OfDescription o = itself p.node p.incarnation

pub target_of_host : (t : Table) (p : Process) (need : Option Mode) (fd : ℕ) (kind : Kind) (start len : ℤ) (c : LockTarget) → target t p need fd kind start len ≡ Ok c → is_of_host p.node p.incarnation c.owner ≡ true
target_of_host t p need fd kind start len c h =
    let runs = if_then (is_running t p) (target_at p need kind (descriptor t p fd) (seg start len)) c NoProcess h in
    let passes = passes_at p need kind (descriptor t p fd) (seg start len) c runs.1 in
    subst (λ (x : LockTarget). is_of_host p.node p.incarnation x.owner ≡ true) passes.is (owner_of_host p kind passes.what)

module _ (others : Table) (p : Process) where
  -- all tables together
  abbrev all : Table → Table
  all t = joined others p.node p.incarnation t

  abbrev is_own : Owner → Bool
  is_own = is_of_host p.node p.incarnation

  abbrev answer_of_all : Table × Reply → Table × Reply
  answer_of_all a = (all a.0, a.1)

  pub around-joined : (t : Table) → around (all t) p ≡ around t p
  around-joined t = rw (itself p.node p.incarnation) refl

  pub locks-joined : (t : Table) (file : ℕ) (o : Owner) → is_own o ≡ true → (all t).locks file o ≡ t.locks file o
  locks-joined t file o own = rw own refl

  pub locks-beside : (t : Table) (file : ℕ) (o : Owner) → is_own o ≡ false → (all t).locks file o ≡ others.locks file o
  locks-beside t file o other = rw other refl

  same-own : (owner o : Owner) (b : Bool) → is_own owner ≡ true → (b && same_owner owner o) ≡ true → is_own o ≡ true
  same-own owner o b own same = ap is_own (sym (owner_exact owner o (and_parts b (same_owner owner o) same).1)) ∙ own

  -- changes of the node's part
  pub joined-with_processes : (t : Table) (ps : Processes) → all (with_processes t p ps) ≡ with_processes (all t) p ps
  joined-with_processes t ps = λ i. record {
    limit = others.limit;
    on = λ n k. within_part ((n == p.node) && (k == p.incarnation)) ((n == p.node) && (k == p.incarnation)) ps (t.on n k) (others.on n k) (λ h. h) i;
    locks = (all t).locks;
  }

  pub joined-replace : (t : Table) (file : ℕ) (owner : Owner) (bytes : ℕ → Option Mode) → is_own owner ≡ true → all (record t { locks = replace t.locks file owner bytes }) ≡ record (all t) { locks = replace (all t).locks file owner bytes }
  joined-replace t file owner bytes own = λ i. record {
    limit = others.limit;
    on = (all t).on;
    locks = λ f o. within_part (is_own o) ((file == f) && same_owner owner o) bytes (t.locks f o) (others.locks f o) (same-own owner o (file == f) own) i;
  }

  pub joined-without_owner : (t : Table) (file : ℕ) (owner : Owner) → is_own owner ≡ true → all (record t { locks = without_owner t.locks file owner }) ≡ record (all t) { locks = without_owner (all t).locks file owner }
  joined-without_owner t file owner own = joined-replace t file owner nothing own

  pub joined-without_owner_anywhere : (t : Table) (owner : Owner) → is_own owner ≡ true → all (record t { locks = without_owner_anywhere t.locks owner }) ≡ record (all t) { locks = without_owner_anywhere (all t).locks owner }
  joined-without_owner_anywhere t owner own = λ i. record {
    limit = others.limit;
    on = (all t).on;
    locks = λ f o. within_part (is_own o) (same_owner owner o) nothing (t.locks f o) (others.locks f o) (same-own owner o true own) i;
  }

  pub joined-locked : (t : Table) (c : LockTarget) (mode : Option Mode) → is_own c.owner ≡ true → all (locked t c mode) ≡ locked (all t) c mode
  joined-locked t c mode own =
      let bytes : (ℕ → Option Mode) → Table = λ f. record (all t) { locks = replace (all t).locks c.file c.owner (put f c.span mode) } in
      joined-replace t c.file c.owner (put (t.locks c.file c.owner) c.span mode) own ∙ ap bytes (sym (locks-joined t c.file c.owner own))

  -- an operation on processes alone, on all tables together
  pub beside-joined : (t : Table) (r : Result (Processes × Reply) Reply) → beside (all t) p r ≡ answer_of_all (beside t p r)
  beside-joined t (Ok answer) = λ i. (sym (joined-with_processes t answer.0) i, answer.1)
  beside-joined t (Err refusal) = refl

  pub target-joined : (t : Table) (need : Option Mode) (fd : ℕ) (kind : Kind) (start len : ℤ) → target (all t) p need fd kind start len ≡ target t p need fd kind start len
  target-joined t need fd kind start len = ap (λ (ps : Processes). if ps.runs p.pid then target_at p need kind (ps.opened p.pid fd) (seg start len) else Err NoProcess) (around-joined t)

  -- the target of a call, in all tables together
  pub about-joined : (t : Table) (op : Op) (mode : Mode) (c : LockTarget) → IsAbout t p op mode c → IsAbout (all t) p op mode c
  about-joined t op mode c a = about_maps t (all t) p op mode c (λ need fd kind start len h. target-joined t need fd kind start len ∙ h) a

  pub lock_within-joined : (t : Table) (c : LockTarget) (mode : Option Mode) → t.limit ≡ others.limit → is_own c.owner ≡ true → lock_within (all t) c mode ≡ answer_of_all (lock_within t c mode)
  lock_within-joined t c mode limit own =
      let same : regions_with (all t) c mode ≡ regions_with t c mode = ap (λ (f : ℕ → Option Mode). regions (put f c.span mode)) (locks-joined t c.file c.owner own) in
      ap (λ (k : ℕ). new (nat_le k others.limit)) same
      ∙ ap (λ (most : ℕ). new (nat_le (regions_with t c mode) most)) (sym limit)
      ∙ either (nat_le (regions_with t c mode) t.limit)
    where
      new : Bool → Table × Reply
      new b = if b then (locked (all t) c mode, Done) else (all t, NoLocks)

      either : (b : Bool) → new b ≡ answer_of_all (if b then (locked t c mode, Done) else (t, NoLocks))
      either true = λ i. (sym (joined-locked t c mode own) i, Done)
      either false = refl

  pub after_unlock-joined : (t : Table) (r : Result LockTarget Reply) → t.limit ≡ others.limit → ((c : LockTarget) → r ≡ Ok c → is_own c.owner ≡ true) → after_unlock (all t) r ≡ answer_of_all (after_unlock t r)
  after_unlock-joined t (Ok c) limit own = lock_within-joined t c None limit (own c refl)
  after_unlock-joined t (Err refusal) limit own = refl

  -- descriptors that close, and processes that exit
  joined-after_last_close : (t : Table) (d : ℕ) → after_last_close (all t) p d ≡ all (after_last_close t p d)
  joined-after_last_close t d = ap (λ (ps : Processes). left (is_open ps d)) (around-joined t) ∙ one (is_open (around t p) d)
    where
      left : Bool → Table
      left b = if b then all t else record (all t) { locks = without_owner_anywhere (all t).locks (description_owner p d) }

      one : (b : Bool) → left b ≡ all (if b then t else record t { locks = without_owner_anywhere t.locks (description_owner p d) })
      one true = refl
      one false = sym (joined-without_owner_anywhere t (description_owner p d) (itself p.node p.incarnation))

  abbrev shut : Table → ℕ → Opened → Table
  shut t fd o = record (with_processes t p (with_descriptor (around t p) p.pid fd None)) { locks = without_owner t.locks o.file (process_owner p) }

  joined-shut : (t : Table) (fd : ℕ) (o : Opened) → shut (all t) fd o ≡ all (shut t fd o)
  joined-shut t fd o =
      let ps = with_descriptor (around t p) p.pid fd None in
      let on : with_processes (all t) p (with_descriptor (around (all t) p) p.pid fd None) ≡ all (with_processes t p ps) = ap (λ (qs : Processes). with_processes (all t) p (with_descriptor qs p.pid fd None)) (around-joined t) ∙ sym (joined-with_processes t ps) in
      let locks = sym (joined-without_owner t o.file (process_owner p) (itself p.node p.incarnation)) in
      λ i. record { limit = others.limit; on = (on i).on; locks = (locks i).locks }

  pub closed-joined : (t : Table) (fd : ℕ) (o : Opened) → closed (all t) p fd o ≡ all (closed t p fd o)
  closed-joined t fd o = ap (λ (u : Table). after_last_close u p o.description) (joined-shut t fd o) ∙ joined-after_last_close (shut t fd o) o.description

  pub closed_if-joined : (t : Table) (fd : ℕ) (o : Option Opened) → closed_if (all t) p fd o ≡ all (closed_if t p fd o)
  closed_if-joined t fd None = refl
  closed_if-joined t fd (Some o) = closed-joined t fd o

  pub closed_below-joined : (t : Table) (n : ℕ) → closed_below (all t) p n ≡ all (closed_below t p n)
  unfolding closed_below
  closed_below-joined t zero = refl
  closed_below-joined t (suc n) =
      let before = closed_below t p n in
      ap (λ (u : Table). closed_if u p n (descriptor u p n)) (closed_below-joined t n)
      ∙ ap (λ (ps : Processes). closed_if (all before) p n (ps.opened p.pid n)) (around-joined before)
      ∙ closed_if-joined before n (descriptor before p n)

  pub exited-joined : (t : Table) → exited (all t) p ≡ all (exited t p)
  exited-joined t =
      let before = closed_below t p most_descriptors in
      let end : Processes → Processes = λ ps. with_process ps p.pid false (λ fd. None) in
      ap (λ (u : Table). with_processes u p (end (around u p))) (closed_below-joined t most_descriptors)
      ∙ ap (λ (ps : Processes). with_processes (all before) p (end ps)) (around-joined before)
      ∙ sym (joined-with_processes before (end (around before p)))

  -- a call of the process, on all tables together, if the process runs
  ran-joined : (t : Table) (one two : Table × Reply) → two ≡ answer_of_all one → (if is_running (all t) p then two else (all t, NoProcess)) ≡ answer_of_all (if is_running t p then one else (t, NoProcess))
  ran-joined t one two same =
      ap (λ (ps : Processes). if ps.runs p.pid then two else (all t, NoProcess)) (around-joined t) ∙ either (is_running t p)
    where
      either : (b : Bool) → (if b then two else (all t, NoProcess)) ≡ answer_of_all (if b then one else (t, NoProcess))
      either true = same
      either false = refl

  closed_at-joined : (t : Table) (fd : ℕ) (o : Option Opened) → closed_at (all t) p fd o ≡ answer_of_all (closed_at t p fd o)
  closed_at-joined t fd None = refl
  closed_at-joined t fd (Some o) = λ i. (closed-joined t fd o i, Done)

  after_close-joined : (t : Table) (fd : ℕ) → after_close (all t) p fd ≡ answer_of_all (after_close t p fd)
  after_close-joined t fd =
      ran-joined t (closed_at t p fd (descriptor t p fd)) (closed_at (all t) p fd (descriptor (all t) p fd))
      (ap (λ (ps : Processes). closed_at (all t) p fd (ps.opened p.pid fd)) (around-joined t) ∙ closed_at-joined t fd (descriptor t p fd))

  after_exit-joined : (t : Table) → after_exit (all t) p ≡ answer_of_all (after_exit t p)
  after_exit-joined t = ran-joined t (exited t p, Done) (exited (all t) p, Done) (λ i. (exited-joined t i, Done))

  -- the locks that block, in all tables together
  pub blocks-joined : (t : Table) (file : ℕ) (owner : Owner) (s : Range) (mode : Mode) (lock : LockInfo) → IsOwn t p.node p.incarnation → Blocks (t.locks file) owner s mode lock → Blocks ((all t).locks file) owner s mode lock
  blocks-joined t file owner s mode lock own b =
      let first = b.region.all lock.span.lo (omega arith) b.region.ordered in
      let holder = holder_of_host t p.node p.incarnation file lock.owner lock.span.lo lock.mode own first in
      record {
        is_other = b.is_other;
        region = subst (λ (f : ℕ → Option Mode). IsRun f lock.span lock.mode) (sym (locks-joined t file lock.owner holder)) b.region;
        conflicts = b.conflicts;
        starts = b.starts;
        ends = b.ends;
      }

  pub free-joined : (t : Table) (file : ℕ) (owner : Owner) (s : Range) (mode : Mode) → ((o : Owner) (b : ℕ) → is_own o ≡ false → s.lo ≤ b → b ≤ s.hi → bars mode (others.locks file o b) ≡ false) → IsFree (t.locks file) owner s mode → IsFree ((all t).locks file) owner s mode
  free-joined t file owner s mode elsewhere here o b other above below = elim (cases_Bool (is_own o)) [
    | inl own ↦ ap (λ (f : ℕ → Option Mode). bars mode (f b)) (locks-joined t file o own) ∙ here o b other above below
    | inr apart ↦ ap (λ (f : ℕ → Option Mode). bars mode (f b)) (locks-beside t file o apart) ∙ elsewhere o b apart above below
  ]

  -- an answer of the node's table is one of all together
  is-joined : (answer now : Table × Reply) (reply : Reply) (u : Table) → now ≡ answer_of_all answer → Is answer reply u → Is now reply (all u)
  is-joined answer now reply u same h = (h.0 ∙ ap (λ (a : Table × Reply). a.1) (sym same), ap all h.1 ∙ ap (λ (a : Table × Reply). a.0) (sym same))

  -- no lock beside the node's table blocks the bytes
  abbrev pub IsFreeAt : Mode → LockTarget → Type 0
  IsFreeAt mode c = (o : Owner) (b : ℕ) → is_own o ≡ false → c.span.lo ≤ b → b ≤ c.span.hi → bars mode (others.locks c.file o b) ≡ false

  set-joined : (t u : Table) (mode : Mode) (reply : Reply) (c : LockTarget) → t.limit ≡ others.limit → IsOwn t p.node p.incarnation → is_own c.owner ≡ true → (IsUnhindered reply → IsFreeAt mode c) → SetStep t mode reply u c → SetStep (all t) mode reply (all u) c
  set-joined t u mode (Again lock) c limit own of elsewhere h = (blocks-joined t c.file c.owner c.span mode lock own h.0, ap all h.1)
  set-joined t u mode Done c limit own of elsewhere h = (free-joined t c.file c.owner c.span mode (elsewhere tt) h.0, is-joined (lock_within t c (Some mode)) (lock_within (all t) c (Some mode)) Done u (lock_within-joined t c (Some mode) limit of) h.1)
  set-joined t u mode NoLocks c limit own of elsewhere h = (free-joined t c.file c.owner c.span mode (elsewhere tt) h.0, is-joined (lock_within t c (Some mode)) (lock_within (all t) c (Some mode)) NoLocks u (lock_within-joined t c (Some mode) limit of) h.1)
  set-joined t u mode _ c limit own of elsewhere h = absurd h

  wait-joined : (t u : Table) (mode : Mode) (reply : Reply) (c : LockTarget) → t.limit ≡ others.limit → IsOwn t p.node p.incarnation → is_own c.owner ≡ true → (IsUnhindered reply → IsFreeAt mode c) → WaitStep t mode reply u c → WaitStep (all t) mode reply (all u) c
  wait-joined t u mode Interrupted c limit own of elsewhere h = ap all h
  wait-joined t u mode Done c limit own of elsewhere h = set-joined t u mode Done c limit own of elsewhere h
  wait-joined t u mode NoLocks c limit own of elsewhere h = set-joined t u mode NoLocks c limit own of elsewhere h
  wait-joined t u mode _ c limit own of elsewhere h = absurd h

  query-joined : (t u : Table) (mode : Mode) (reply : Reply) (c : LockTarget) → IsOwn t p.node p.incarnation → (IsUnhindered reply → IsFreeAt mode c) → QueryStep t mode reply u c → QueryStep (all t) mode reply (all u) c
  query-joined t u mode (Blocked lock) c own elsewhere h = (blocks-joined t c.file c.owner c.span mode lock own h.0, ap all h.1)
  query-joined t u mode Free c own elsewhere h = (free-joined t c.file c.owner c.span mode (elsewhere tt) h.0, ap all h.1)
  query-joined t u mode _ c own elsewhere h = absurd h

  lock-joined : (t u : Table) (command : LockCommand) (mode : Mode) (reply : Reply) (c : LockTarget) → t.limit ≡ others.limit → IsOwn t p.node p.incarnation → is_own c.owner ≡ true → (IsUnhindered reply → IsFreeAt mode c) → LockStep t command mode reply u c → LockStep (all t) command mode reply (all u) c
  lock-joined t u Set mode reply c limit own of elsewhere h = set-joined t u mode reply c limit own of elsewhere h
  lock-joined t u Wait mode reply c limit own of elsewhere h = wait-joined t u mode reply c limit own of elsewhere h
  lock-joined t u Query mode reply c limit own of elsewhere h = query-joined t u mode reply c own elsewhere h

  -- where a call goes unhindered, no lock beside the table is in its way
  abbrev pub IsFreeBeside : Table → Op → Reply → Type 0
  IsFreeBeside t op reply = (mode : Mode) (c : LockTarget) → IsUnhindered reply → IsAbout t p op mode c → IsFreeAt mode c

  -- a step of the node's table is a step of all together
  pub step-joined : (t u : Table) (op : Op) (reply : Reply) → t.limit ≡ others.limit → IsOwn t p.node p.incarnation → IsFreeBeside t op reply → Step t p op reply u → Step (all t) p op reply (all u)
  step-joined t u (op.Process call) reply limit own elsewhere h =
      let r : Processes → Result (Processes × Reply) Reply = λ ps. after ps p.pid call in
      (h.0, is-joined (beside t p (r (around t p))) (beside (all t) p (r (around (all t) p))) reply u (ap (λ ps. beside (all t) p (r ps)) (around-joined t) ∙ beside-joined t (r (around t p))) h.1)
  step-joined t u (op.Close fd) reply limit own elsewhere h = is-joined (after_close t p fd) (after_close (all t) p fd) reply u (after_close-joined t fd) h
  step-joined t u op.Exit reply limit own elsewhere h = is-joined (after_exit t p) (after_exit (all t) p) reply u (after_exit-joined t) h
  step-joined t u (op.Lock call) reply limit own elsewhere h =
      let need = need_of call.command call.mode in
      let P : Result LockTarget Reply → Type 0 = λ x. AfterTests (all t) x reply (all u) (LockStep (all t) call.command call.mode reply (all u)) in
      subst P (sym (target-joined t need call.fd call.kind call.start call.len))
      (elim (call_target t p call) as (λ x. call_target t p call ≡ x → AfterTests t x reply u (LockStep t call.command call.mode reply u) → P x) [
        | Err refusal ↦ λ is step. (step.0, ap all step.1)
        | Ok c ↦ λ is step. lock-joined t u call.command call.mode reply c limit own (target_of_host t p need call.fd call.kind call.start call.len c is) (λ unhindered. elsewhere call.mode c unhindered (refl, is)) step
      ] refl h)
  step-joined t u (op.Unlock fd kind start len) reply limit own elsewhere h =
      let found = target t p None fd kind start len in
      is-joined (after_unlock t found) (after_unlock (all t) (target (all t) p None fd kind start len)) reply u (ap (after_unlock (all t)) (target-joined t None fd kind start len) ∙ after_unlock-joined t found limit (λ c is. target_of_host t p None fd kind start len c is)) h
