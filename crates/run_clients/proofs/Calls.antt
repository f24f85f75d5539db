-- Calls of processes: their deeds lead from the locks before to those after.
use Rattle.std.proofs.Common.{◌≡◌, ℕ, ◌+◌, ◌<◌, ◌≤◌, Bool, true, false, ◌||◌, refl, sym, ◌∙◌, ap, arith, Option, Some, None, if◌then◌else◌, subst, nat_le, Result, Ok, Err, ◌&&◌, ◌==◌, inl, inr, ℤ, nat_lt}
use Rattle.std.proofs.lemmas.Bool.{both_ways, and_parts, and_from, eqb-true, eq-eqb, cases_Bool}
use Rattle.intervals.specs.rule.Search.{some_passes}
use Rattle.model.specs.declared.opened.Opened.{Opened}
use Rattle.model.specs.declared.process.Process.{Process}
use Rattle.model.specs.rule.Limits.{most_processes, most_descriptors, IsHost, IsNumber}
use Rattle.model.specs.rule.Descriptors.{Processes, is_of, is_open, no_processes, with_process, with_descriptor, lowest_fd, lowest_description, on_lowest_fd, again_on, after, after_spawn, after_fork, after_open, after_dup}
use Rattle.model.specs.rule.Table.{Table, around, descriptor, is_running, LockTarget, locked, regions_with, after_unlock, beside, with_processes, target, need_of, call_target, target_at, owner_of, closed_at, exited}
use Rattle.model.proofs.DescriptorLaws.{none_refers, lowest_fd-free}
use Rattle.model.proofs.SearchLaws.{some_passes-found}
use Rattle.descriptors.proofs.RowLaws.{some_passes-zero, some_passes-more}
use Rattle.run_clients.specs.code.Times.{has_description, AreAnchored}
use Rattle.model.specs.declared.lock_info.LockInfo.{LockInfo}
use Rattle.model.specs.declared.mode.Mode.{Mode}
use Rattle.model.specs.declared.op.LockCommand.{LockCommand}
use Rattle.model.specs.declared.op.LockCommand.TheVariants.{Set, Wait, Query}
use Rattle.model.specs.declared.reply.Reply.{Reply}
use Rattle.model.specs.declared.reply.Reply.TheVariants.{Done, Again, NoLocks, Free, Blocked, Interrupted, Fd, NoProcess, Exists, TooManyFiles}
use Rattle.model.specs.rule.Locks.{Blocks, with_lock, no_locks}
use Rattle.model.specs.rule.Step.{Is, Unblocked, AfterTests, SetStep, WaitStep, QueryStep, LockStep, Step}
use Rattle.client_history.specs.rule.Explained.{IsBlocked}
use Rattle.run_clients.specs.rule.Seen.{DeedsLead, listed, locking, unlocking, asking, commanding, call_deeds, closing, exit_deeds}
use Rattle.std.proofs.lemmas.Bool.Decides.{nat_tests}
use Rattle.std.proofs.lemmas.Option.{none-some}
use Rattle.intervals.specs.rule.Segment.{seg}
use Rattle.model.specs.declared.owner.Kind.{Kind}
use Rattle.model.specs.declared.owner.Kind.TheVariants.{OfProcess, OfDescription}
use Rattle.model.specs.declared.owner.Owner.{Owner}
use Rattle.model.specs.declared.access.Access.{Access}
use Rattle.model.specs.declared.op.Op.{Op}
use Rattle.model.specs.declared.op.Op.TheVariants as op
use Rattle.model.specs.declared.op.ProcessCall.{ProcessCall}
use Rattle.model.specs.declared.op.ProcessCall.TheVariants.{Spawn, Fork, Open, Dup}
use Rattle.model.specs.rule.Owners.{same_owner}
use Rattle.model.specs.rule.Anchors.{Hangs, AreAnchored as AreAnchoredOn, IsAnchored, IsOwn}
use Rattle.model.proofs.OwnerLaws.{owner_exact}
use Rattle.model.proofs.Hanging.{hangs_on, itself, target_hangs}
use Rattle.model.proofs.NodeTables.{call_follows}
use Rattle.model.proofs.Refusals.{if_then}
use Rattle.model.proofs.Targets.{passes_at}
use Rattle.run_clients.proofs.Drops.{close_leads, exit_leads, step_keeps, closed_keeps, exit_keeps}

-- a process that doesn't run has no descriptor
pub idle_has_none : (t : Table) (p : Process) (d : ℕ) → ((fd : ℕ) (o : Opened) → descriptor t p fd ≡ Some o → is_running t p ≡ true) → is_running t p ≡ false → false ≡ has_description (around t p) d p.pid
idle_has_none t p d runs idle = sym (none_refers (λ fd. descriptor t p fd) d most_descriptors (λ fd. none fd (descriptor t p fd) refl))
  where
    none : (fd : ℕ) (x : Option Opened) → descriptor t p fd ≡ x → descriptor t p fd ≡ None
    none fd None is = is
    none fd (Some o) is = absurd (both_ways (is_running t p) idle (runs fd o is))

pub none_yet : (passes : ℕ → Bool) (lo : ℕ) → some_passes passes lo 0 ≡ false
none_yet passes lo = some_passes-zero passes lo

pub none_more : (passes : ℕ → Bool) (lo n i : ℕ) → i ≡ lo + n → some_passes passes lo n ≡ false → passes i ≡ false → some_passes passes lo (n + 1) ≡ false
none_more passes lo n i is none here = some_passes-more passes lo n ∙ (ap (λ (b : Bool). b || passes (lo + n)) none ∙ (ap passes (sym is) ∙ here))

pub has_found : (ps : Processes) (d pid fd : ℕ) → fd < most_descriptors → is_of d (ps.opened pid fd) ≡ true → true ≡ has_description ps d pid
has_found ps d pid fd below hit = sym (some_passes-found (λ k. is_of d (ps.opened pid k)) 0 most_descriptors fd (omega arith) (omega arith) hit)

pub open_found : (ps : Processes) (d pid : ℕ) → 1 ≤ pid → pid ≤ most_processes → has_description ps d pid ≡ true → true ≡ is_open ps d
open_found ps d pid first below hit = sym (some_passes-found (has_description ps d) 1 most_processes pid first (omega arith) hit)

-- a call that leaves the table leaves the locks
pub same_locks : (t u : Table) → u ≡ t → t.locks ≡ u.locks
same_locks t u same = ap (λ (x : Table). x.locks) (sym same)

-- the answer of a call that sets bytes, or is refused for want of regions
abbrev pub sets : Table → LockTarget → Option Mode → Bool → Table × Reply
sets t c mode b = if b then (locked t c mode, Done) else (t, NoLocks)

pub done_sets : (t u : Table) (c : LockTarget) (mode : Option Mode) (b : Bool) → Is (sets t c mode b) Done u → u ≡ locked t c mode
done_sets t u c mode true h = h.1
done_sets t u c mode false h = absurd (let e = h.0 in cc)

pub refused_sets : (t u : Table) (c : LockTarget) (mode : Option Mode) (b : Bool) → Is (sets t c mode b) NoLocks u → u ≡ t
refused_sets t u c mode true h = absurd (let e = h.0 in cc)
refused_sets t u c mode false h = h.1

-- a lock that is named blocks, and all that is told applies to it
is_told : (t : Table) (c : LockTarget) (mode : Mode) (lock : LockInfo) → Blocks (t.locks c.file) c.owner c.span mode lock → IsBlocked t.locks c.file c.owner c.span mode (record { mode = Some lock.mode; span = Some lock.span; owner = Some lock.owner })
is_told t c mode lock blocks = record { lock = lock; blocks = blocks; named = record { mode = refl; span = refl; owner = refl } }

granted : (t u : Table) (c : LockTarget) (mode : Mode) → Unblocked t c mode → u ≡ locked t c (Some mode) → DeedsLead t.locks (listed (locking mode Done (Ok c))) u.locks
granted t u c mode free is = (with_lock t.locks c.file c.owner c.span (Some mode), (free, refl), ap (λ (x : Table). x.locks) (sym is))

set_leads : (t u : Table) (mode : Mode) (reply : Reply) (c : LockTarget) → SetStep t mode reply u c → DeedsLead t.locks (listed (locking mode reply (Ok c))) u.locks
set_leads t u mode (Again lock) c h = (t.locks, (is_told t c mode lock h.0, refl), same_locks t u h.1)
set_leads t u mode Done c h = granted t u c mode h.0 (done_sets t u c (Some mode) (nat_le (regions_with t c (Some mode)) t.limit) h.1)
set_leads t u mode NoLocks c h = same_locks t u (refused_sets t u c (Some mode) (nat_le (regions_with t c (Some mode)) t.limit) h.1)
set_leads t u mode _ c h = absurd h

wait_leads : (t u : Table) (mode : Mode) (reply : Reply) (c : LockTarget) → WaitStep t mode reply u c → DeedsLead t.locks (listed (locking mode reply (Ok c))) u.locks
wait_leads t u mode Interrupted c h = same_locks t u h
wait_leads t u mode Done c h = granted t u c mode h.0 (done_sets t u c (Some mode) (nat_le (regions_with t c (Some mode)) t.limit) h.1)
wait_leads t u mode NoLocks c h = same_locks t u (refused_sets t u c (Some mode) (nat_le (regions_with t c (Some mode)) t.limit) h.1)
wait_leads t u mode _ c h = absurd h

query_leads : (t u : Table) (mode : Mode) (reply : Reply) (c : LockTarget) → QueryStep t mode reply u c → DeedsLead t.locks (listed (asking mode reply (Ok c))) u.locks
query_leads t u mode (Blocked lock) c h = (t.locks, (is_told t c mode lock h.0, refl), same_locks t u h.1)
query_leads t u mode Free c h = (t.locks, (h.0, refl), same_locks t u h.1)
query_leads t u mode _ c h = absurd h

freed : (t u : Table) (c : LockTarget) (reply : Reply) (b : Bool) → Is (sets t c None b) reply u → DeedsLead t.locks (listed (unlocking reply (Ok c))) u.locks
freed t u c reply true h = subst (λ (r : Reply). DeedsLead t.locks (listed (unlocking r (Ok c))) u.locks) (sym h.0) (with_lock t.locks c.file c.owner c.span None, refl, ap (λ (x : Table). x.locks) (sym h.1))
freed t u c reply false h = subst (λ (r : Reply). DeedsLead t.locks (listed (unlocking r (Ok c))) u.locks) (sym h.0) (same_locks t u h.1)

set_tested : (t u : Table) (mode : Mode) (reply : Reply) (found : Result LockTarget Reply) → AfterTests t found reply u (SetStep t mode reply u) → DeedsLead t.locks (listed (locking mode reply found)) u.locks
set_tested t u mode reply (Err refusal) h = same_locks t u h.1
set_tested t u mode reply (Ok c) h = set_leads t u mode reply c h

wait_tested : (t u : Table) (mode : Mode) (reply : Reply) (found : Result LockTarget Reply) → AfterTests t found reply u (WaitStep t mode reply u) → DeedsLead t.locks (listed (locking mode reply found)) u.locks
wait_tested t u mode reply (Err refusal) h = same_locks t u h.1
wait_tested t u mode reply (Ok c) h = wait_leads t u mode reply c h

query_tested : (t u : Table) (mode : Mode) (reply : Reply) (found : Result LockTarget Reply) → AfterTests t found reply u (QueryStep t mode reply u) → DeedsLead t.locks (listed (asking mode reply found)) u.locks
query_tested t u mode reply (Err refusal) h = same_locks t u h.1
query_tested t u mode reply (Ok c) h = query_leads t u mode reply c h

pub lock_tested : (t u : Table) (command : LockCommand) (mode : Mode) (reply : Reply) (found : Result LockTarget Reply) → AfterTests t found reply u (LockStep t command mode reply u) → DeedsLead t.locks (listed (commanding command mode reply found)) u.locks
lock_tested t u Set mode reply found h = set_tested t u mode reply found h
lock_tested t u Wait mode reply found h = wait_tested t u mode reply found h
lock_tested t u Query mode reply found h = query_tested t u mode reply found h

pub unlock_tested : (t u : Table) (reply : Reply) (found : Result LockTarget Reply) → Is (after_unlock t found) reply u → DeedsLead t.locks (listed (unlocking reply found)) u.locks
unlock_tested t u reply (Err refusal) h = same_locks t u h.1
unlock_tested t u reply (Ok c) h = freed t u c reply (nat_le (regions_with t c None) t.limit) h

-- calls about processes and descriptors leave the locks
beside_same : (t u : Table) (p : Process) (r : Result (Processes × Reply) Reply) (reply : Reply) → Is (beside t p r) reply u → t.locks ≡ u.locks
beside_same t u p (Ok a) reply h = ap (λ (x : Table). x.locks) (sym h.1)
beside_same t u p (Err refusal) reply h = same_locks t u h.1

module _ (t u : Table) (p : Process) (a : IsAnchored t p.node p.incarnation) where
  closes_if : (fd : ℕ) (reply : Reply) (b : Bool) (x : Option Opened) → descriptor t p fd ≡ x → Is (if b then closed_at t p fd x else (t, NoProcess)) reply u → DeedsLead t.locks (call_deeds t p (op.Close fd) reply) u.locks
  closes_if fd reply false x is h = subst (λ (r : Reply). DeedsLead t.locks (call_deeds t p (op.Close fd) r) u.locks) (sym h.0) (same_locks t u h.1)
  closes_if fd reply true None is h = subst (λ (r : Reply). DeedsLead t.locks (call_deeds t p (op.Close fd) r) u.locks) (sym h.0) (same_locks t u h.1)
  closes_if fd reply true (Some o) is h =
      subst (λ (r : Reply). DeedsLead t.locks (call_deeds t p (op.Close fd) r) u.locks) (sym h.0)
      (subst (λ (x : Option Opened). DeedsLead t.locks (closing t p fd x) u.locks) (sym is)
      (subst (λ (x : Table). DeedsLead t.locks (closing t p fd (Some o)) x.locks) (sym h.1) (close_leads t p fd o a is)))

  exits_if : (reply : Reply) (b : Bool) → Is (if b then (exited t p, Done) else (t, NoProcess)) reply u → DeedsLead t.locks (call_deeds t p op.Exit reply) u.locks
  exits_if reply false h = subst (λ (r : Reply). DeedsLead t.locks (call_deeds t p op.Exit r) u.locks) (sym h.0) (same_locks t u h.1)
  exits_if reply true h =
      subst (λ (r : Reply). DeedsLead t.locks (call_deeds t p op.Exit r) u.locks) (sym h.0)
      (subst (λ (x : Table). DeedsLead t.locks (exit_deeds t p) x.locks) (sym h.1) (exit_leads p.node p.incarnation p.pid t a).leads)

  pub step_leads : (op : Op) (reply : Reply) → Step t p op reply u → DeedsLead t.locks (call_deeds t p op reply) u.locks
  step_leads (op.Process call) reply h = beside_same t u p (after (around t p) p.pid call) reply h.1
  step_leads (op.Close fd) reply h = closes_if fd reply (is_running t p) (descriptor t p fd) refl h
  step_leads op.Exit reply h = exits_if reply (is_running t p) h
  step_leads (op.Lock call) reply h = lock_tested t u call.command call.mode reply (call_target t p call) h
  step_leads (op.Unlock fd kind start len) reply h = unlock_tested t u reply (target t p None fd kind start len) h

-- each descriptor that there was stays
abbrev Extends : Processes → Result (Processes × Reply) Reply → Type 0
Extends ps (Err refusal) = Unit {0}
Extends ps (Ok x) = (q fd : ℕ) (o : Opened) → ps.opened q fd ≡ Some o → x.0.opened q fd ≡ Some o

-- a table of these processes alone
abbrev alone : Processes → ℕ → ℕ → Table
alone ps n i = record { limit = 0; on = λ m k. if (m == n) && (k == i) then ps else no_processes; locks = no_locks }

module _ (t : Table) (p : Process) (host : IsHost p.node p.incarnation) (a : AreAnchored t) where
  abbrev ps : Processes
  ps = around t p

  abbrev its : Table
  its = alone ps p.node p.incarnation

  abbrev anchored : IsAnchored t p.node p.incarnation
  anchored = a.anchored p.node p.incarnation

  here : its.on p.node p.incarnation ≡ ps
  here = rw (itself p.node p.incarnation) refl

  is_own : IsOwn its p.node p.incarnation
  is_own = record {
    others = λ m k h. rw h refl;
    descriptions = λ pid fd o h. a.descriptions p.node p.incarnation pid fd o (ap (λ (x : Processes). x.opened pid fd) (sym here) ∙ h);
    locks = λ file. record { is_own = λ o b mode h. absurd (none-some mode h); ends = λ o b h. refl };
    anchored = subst (λ (x : Processes). AreAnchoredOn x no_locks p.node p.incarnation) (sym here) (record {
      numbers = anchored.numbers;
      descriptors = anchored.descriptors;
      agree = anchored.agree;
      locks = λ file owner b mode node incarnation held. absurd (none-some mode held);
    });
  }

  -- a call about processes and descriptors
  beside_keeps : (u : Table) (r : Result (Processes × Reply) Reply) (reply : Reply) → IsOwn (beside its p r).0 p.node p.incarnation → Extends ps r → Is (beside t p r) reply u → AreAnchored u
  beside_keeps u (Err refusal) reply own stays h = subst AreAnchored (sym h.1) a
  beside_keeps u (Ok x) reply own stays h =
      let v = with_processes t p x.0 in
      let on_v : v.on p.node p.incarnation ≡ x.0 = rw (itself p.node p.incarnation) refl in
      let on_its : (with_processes its p x.0).on p.node p.incarnation ≡ x.0 = rw (itself p.node p.incarnation) refl in
      let after : AreAnchoredOn x.0 no_locks p.node p.incarnation = subst (λ (y : Processes). AreAnchoredOn y no_locks p.node p.incarnation) on_its own.anchored in
      let anchored_v : AreAnchoredOn x.0 t.locks p.node p.incarnation = record {
        numbers = after.numbers;
        descriptors = after.descriptors;
        agree = after.agree;
        locks = λ file owner b mode node incarnation held. hangs_on file owner.kind owner.number ps x.0 stays (anchored.locks file owner b mode node incarnation held);
      } in
      subst AreAnchored (sym h.1) (step_keeps p.node p.incarnation t v a
      (record { others = λ m k e. rw e refl; their_locks = λ file owner e. refl })
      (λ pid runs. host)
      (λ pid fd o opened. own.descriptions pid fd o (ap (λ (y : Processes). y.opened pid fd) on_its ∙ (ap (λ (y : Processes). y.opened pid fd) (sym on_v) ∙ opened)))
      (subst (λ (y : Processes). AreAnchoredOn y t.locks p.node p.incarnation) (sym on_v) anchored_v))

  -- a process that begins had no descriptor, so all others stay
  begins_stay : (child : ℕ) (fds : ℕ → Option Opened) → ps.runs child ≡ false → (q fd : ℕ) (o : Opened) → ps.opened q fd ≡ Some o → (with_process ps child true fds).opened q fd ≡ Some o
  begins_stay child fds idle q fd o h = elim (cases_Bool (q == child)) [
    | inl same ↦ absurd (both_ways (ps.runs child) idle (ap ps.runs (sym (eqb-true q child same)) ∙ (anchored.descriptors q fd o h).0))
    | inr other ↦ rw other h
  ]

  -- a descriptor that opens was not open, so all others stay
  opens_stay : (fd : ℕ) (x : Opened) → ps.opened p.pid fd ≡ None → (q k : ℕ) (o : Opened) → ps.opened q k ≡ Some o → (with_descriptor ps p.pid fd (Some x)).opened q k ≡ Some o
  opens_stay fd x free q k o h = elim (cases_Bool ((q == p.pid) && (k == fd))) [
    | inl same ↦
        let both = and_parts (q == p.pid) (k == fd) same in
        let at : ps.opened q k ≡ ps.opened p.pid fd = ap (λ (n : ℕ). ps.opened n k) (eqb-true q p.pid both.0) ∙ ap (ps.opened p.pid) (eqb-true k fd both.1) in
        absurd (none-some o (sym free ∙ (sym at ∙ h)))
    | inr other ↦ rw other h
  ]

  lowest_stays : (x : Opened) → Extends ps (on_lowest_fd ps p.pid x (lowest_fd ps p.pid))
  lowest_stays x =
      let fd = lowest_fd ps p.pid in
      elim (nat_lt fd most_descriptors) as (λ b. nat_lt fd most_descriptors ≡ b → Extends ps (if b then Ok (with_descriptor ps p.pid fd (Some x), Fd fd) else Err TooManyFiles)) [
        | true ↦ λ h. opens_stay fd x (lowest_fd-free ps p.pid (below fd h))
        | false ↦ λ h. tt
      ] refl
    where
      below : (k : ℕ) → nat_lt k 64 ≡ true → k < 64
      below k h = grind (arith, nat_tests, h)

  spawn_stays : Extends ps (after_spawn ps p.pid)
  spawn_stays = elim (ps.runs p.pid) as (λ b. ps.runs p.pid ≡ b → Extends ps (if b then Err Exists else Ok (with_process ps p.pid true (λ fd. None), Done))) [
    | true ↦ λ h. tt
    | false ↦ λ h. begins_stay p.pid (λ fd. None) h
  ] refl

  fork_stays : (child : ℕ) → Extends ps (after_fork ps p.pid child)
  fork_stays child = elim (ps.runs p.pid) as (λ b. Extends ps (if b then (if ps.runs child then Err Exists else Ok (with_process ps child true (ps.opened p.pid), Done)) else Err NoProcess)) [
    | false ↦ tt
    | true ↦ elim (ps.runs child) as (λ b. ps.runs child ≡ b → Extends ps (if b then Err Exists else Ok (with_process ps child true (ps.opened p.pid), Done))) [
      | true ↦ λ h. tt
      | false ↦ λ h. begins_stay child (ps.opened p.pid) h
    ] refl
  ]

  open_stays : (file : ℕ) (access : Access) → Extends ps (after_open ps p.pid file access)
  open_stays file access =
      let x : Opened = record { file = file; description = lowest_description ps; access = access } in
      elim (ps.runs p.pid) as (λ b. Extends ps (if b then on_lowest_fd ps p.pid x (lowest_fd ps p.pid) else Err NoProcess)) [
        | true ↦ lowest_stays x
        | false ↦ tt
      ]

  dup_stays : (fd : ℕ) → Extends ps (after_dup ps p.pid fd)
  dup_stays fd = elim (ps.runs p.pid) as (λ b. Extends ps (if b then again_on ps p.pid (ps.opened p.pid fd) else Err NoProcess)) [
    | false ↦ tt
    | true ↦ elim (ps.opened p.pid fd) as (λ x. Extends ps (again_on ps p.pid x)) [ Some o ↦ lowest_stays o | None ↦ tt ]
  ]

  call_stays : (call : ProcessCall) → Extends ps (after ps p.pid call)
  call_stays Spawn = spawn_stays
  call_stays (Fork child) = fork_stays child
  call_stays (Open file access) = open_stays file access
  call_stays (Dup fd) = dup_stays fd

  -- what a lock call is about is its node's
  target_owner : (need : Option Mode) (fd : ℕ) (kind : Kind) (start len : ℤ) (c : LockTarget) → target t p need fd kind start len ≡ Ok c → (c.owner.node ≡ p.node) × (c.owner.incarnation ≡ p.incarnation)
  target_owner need fd kind start len c h =
      let runs = if_then (is_running t p) (target_at p need kind (descriptor t p fd) (seg start len)) c NoProcess h in
      let passes = passes_at p need kind (descriptor t p fd) (seg start len) c runs.1 in
      subst (λ (x : LockTarget). (x.owner.node ≡ p.node) × (x.owner.incarnation ≡ p.incarnation)) passes.is (of_kind kind passes.what)
    where
      of_kind : (k : Kind) (o : Opened) → ((owner_of p k o).node ≡ p.node) × ((owner_of p k o).incarnation ≡ p.incarnation)
      of_kind OfProcess o = (refl, refl)
      of_kind OfDescription o = (refl, refl)

  -- a lock call locks or frees bytes of its target
  locked_keeps : (need : Option Mode) (fd : ℕ) (kind : Kind) (start len : ℤ) (c : LockTarget) (mode : Option Mode) → target t p need fd kind start len ≡ Ok c → AreAnchored (locked t c mode)
  locked_keeps need fd kind start len c mode found =
      let hangs = target_hangs t p need fd kind start len c found in
      let own = target_owner need fd kind start len c found in
      step_keeps p.node p.incarnation t (locked t c mode) a
      (record { others = λ m k e. refl; their_locks = λ file owner e. theirs file owner own e })
      (λ pid runs. host)
      (λ pid fd' o opened. a.descriptions p.node p.incarnation pid fd' o opened)
      (record {
        numbers = anchored.numbers;
        descriptors = anchored.descriptors;
        agree = anchored.agree;
        locks = λ file owner b m node incarnation held. elim (cases_Bool ((c.file == file) && same_owner c.owner owner)) [
          | inl this ↦
              let both = and_parts (c.file == file) (same_owner c.owner owner) this in
              subst (λ (f : ℕ). Hangs ps f owner.kind owner.number) (eqb-true c.file file both.0) (subst (λ (x : Owner). Hangs ps c.file x.kind x.number) (owner_exact c.owner owner both.1) hangs)
          | inr other ↦ anchored.locks file owner b m node incarnation (rw other at held)
        ];
      })
    where
      theirs : (file : ℕ) (owner : Owner) → (c.owner.node ≡ p.node) × (c.owner.incarnation ≡ p.incarnation) → ((owner.node == p.node) && (owner.incarnation == p.incarnation)) ≡ false → (locked t c mode).locks file owner ≡ t.locks file owner
      theirs file owner own e = elim (cases_Bool ((c.file == file) && same_owner c.owner owner)) [
        | inl this ↦
            let is = owner_exact c.owner owner (and_parts (c.file == file) (same_owner c.owner owner) this).1 in
            let node : owner.node ≡ p.node = ap (λ (x : Owner). x.node) (sym is) ∙ own.0 in
            let incarnation : owner.incarnation ≡ p.incarnation = ap (λ (x : Owner). x.incarnation) (sym is) ∙ own.1 in
            absurd (both_ways ((owner.node == p.node) && (owner.incarnation == p.incarnation)) e (and_from (owner.node == p.node) (owner.incarnation == p.incarnation) (eq-eqb owner.node p.node node) (eq-eqb owner.incarnation p.incarnation incarnation)))
        | inr other ↦ rw other refl
      ]

  -- so a lock call leaves the table or locks bytes
  chosen_keeps : (u : Table) (c : LockTarget) (mode : Option Mode) (reply : Reply) (b : Bool) → AreAnchored (locked t c mode) → Is (sets t c mode b) reply u → AreAnchored u
  chosen_keeps u c mode reply true locks h = subst AreAnchored (sym h.1) locks
  chosen_keeps u c mode reply false locks h = subst AreAnchored (sym h.1) a

  same_keeps : (u : Table) → u ≡ t → AreAnchored u
  same_keeps u same = subst AreAnchored (sym same) a

  set_keeps : (u : Table) (mode : Mode) (reply : Reply) (c : LockTarget) → AreAnchored (locked t c (Some mode)) → SetStep t mode reply u c → AreAnchored u
  set_keeps u mode (Again lock) c locks h = same_keeps u h.1
  set_keeps u mode Done c locks h = chosen_keeps u c (Some mode) Done (nat_le (regions_with t c (Some mode)) t.limit) locks h.1
  set_keeps u mode NoLocks c locks h = chosen_keeps u c (Some mode) NoLocks (nat_le (regions_with t c (Some mode)) t.limit) locks h.1
  set_keeps u mode _ c locks h = absurd h

  wait_keeps : (u : Table) (mode : Mode) (reply : Reply) (c : LockTarget) → AreAnchored (locked t c (Some mode)) → WaitStep t mode reply u c → AreAnchored u
  wait_keeps u mode Interrupted c locks h = same_keeps u h
  wait_keeps u mode Done c locks h = set_keeps u mode Done c locks h
  wait_keeps u mode NoLocks c locks h = set_keeps u mode NoLocks c locks h
  wait_keeps u mode _ c locks h = absurd h

  query_keeps : (u : Table) (mode : Mode) (reply : Reply) (c : LockTarget) → QueryStep t mode reply u c → AreAnchored u
  query_keeps u mode (Blocked lock) c h = same_keeps u h.1
  query_keeps u mode Free c h = same_keeps u h.1
  query_keeps u mode _ c h = absurd h

  lock_keeps : (u : Table) (command : LockCommand) (mode : Mode) (reply : Reply) (c : LockTarget) → AreAnchored (locked t c (Some mode)) → LockStep t command mode reply u c → AreAnchored u
  lock_keeps u Set mode reply c locks h = set_keeps u mode reply c locks h
  lock_keeps u Wait mode reply c locks h = wait_keeps u mode reply c locks h
  lock_keeps u Query mode reply c locks h = query_keeps u mode reply c h

  tested_keeps : (u : Table) (reply : Reply) (found : Result LockTarget Reply) (Answer : LockTarget → Type 0) → ((c : LockTarget) → found ≡ Ok c → Answer c → AreAnchored u) → AfterTests t found reply u Answer → AreAnchored u
  tested_keeps u reply (Err refusal) Answer keeps h = same_keeps u h.1
  tested_keeps u reply (Ok c) Answer keeps h = keeps c refl h

  unlock_keeps : (u : Table) (fd : ℕ) (kind : Kind) (start len : ℤ) (reply : Reply) (found : Result LockTarget Reply) → target t p None fd kind start len ≡ found → Is (after_unlock t found) reply u → AreAnchored u
  unlock_keeps u fd kind start len reply (Err refusal) is h = same_keeps u h.1
  unlock_keeps u fd kind start len reply (Ok c) is h = chosen_keeps u c None reply (nat_le (regions_with t c None) t.limit) (locked_keeps None fd kind start len c None is) h

  closes_keep : (u : Table) (fd : ℕ) (reply : Reply) (b : Bool) (x : Option Opened) → descriptor t p fd ≡ x → Is (if b then closed_at t p fd x else (t, NoProcess)) reply u → AreAnchored u
  closes_keep u fd reply false x is h = same_keeps u h.1
  closes_keep u fd reply true None is h = same_keeps u h.1
  closes_keep u fd reply true (Some o) is h = subst AreAnchored (sym h.1) (closed_keeps p t fd o a is host)

  exits_keep_if : (u : Table) (reply : Reply) (b : Bool) → Is (if b then (exited t p, Done) else (t, NoProcess)) reply u → AreAnchored u
  exits_keep_if u reply false h = same_keeps u h.1
  exits_keep_if u reply true h = subst AreAnchored (sym h.1) (exit_keeps p t a host)

  pub calls_keep_anchored : (u : Table) (op : Op) (reply : Reply) → IsNumber most_processes p.pid → Step t p op reply u → AreAnchored u
  calls_keep_anchored u (op.Process call) reply number h =
      let own = (call_follows its p.node p.incarnation p.pid is_own call number h.0).own in
      beside_keeps u (after ps p.pid call) reply (subst (λ (x : Processes). IsOwn (beside its p (after x p.pid call)).0 p.node p.incarnation) here own) (call_stays call) h.1
  calls_keep_anchored u (op.Close fd) reply number h = closes_keep u fd reply (is_running t p) (descriptor t p fd) refl h
  calls_keep_anchored u op.Exit reply number h = exits_keep_if u reply (is_running t p) h
  calls_keep_anchored u (op.Lock call) reply number h =
      let locks : (c : LockTarget) → call_target t p call ≡ Ok c → AreAnchored (locked t c (Some call.mode)) = λ c. locked_keeps (need_of call.command call.mode) call.fd call.kind call.start call.len c (Some call.mode) in
      tested_keeps u reply (call_target t p call) (LockStep t call.command call.mode reply u) (λ c found. lock_keeps u call.command call.mode reply c (locks c found)) h
  calls_keep_anchored u (op.Unlock fd kind start len) reply number h = unlock_keeps u fd kind start len reply (target t p None fd kind start len) refl h
