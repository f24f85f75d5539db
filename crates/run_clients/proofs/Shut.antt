-- Processes whose descriptors are closed one after the other.
use Rattle.std.proofs.Common.{◌≡◌, ℕ, zero, suc, ◌+◌, ◌-◌, ◌<◌, ◌≤◌, Bool, true, false, if◌then◌else◌, inl, inr, refl, sym, ◌∙◌, ap, arith, List, [], ◌++◌, append-nil, append_assoc, Option, Some, None}
use Rattle.std.proofs.lemmas.Bool.{cases_eq, false≢true, false_from_ne_true}
use Rattle.std.proofs.lemmas.Option.{none-some}
use Rattle.model.specs.declared.opened.Opened.{Opened}
use Rattle.model.specs.declared.process.Process.{Process}
use Rattle.model.specs.declared.reply.Reply.{Reply}
use Rattle.model.specs.declared.reply.Reply.TheVariants.{Done, NoProcess}
use Rattle.model.specs.rule.Limits.{IsHost, most_descriptors}
use Rattle.model.specs.rule.Owners.{process_owner, description_owner}
use Rattle.model.specs.rule.Locks.{without_owner, without_owner_anywhere}
use Rattle.model.specs.rule.Descriptors.{Processes, with_process, with_descriptor, is_open}
use Rattle.model.specs.rule.Table.{Table, around, descriptor, is_running, with_processes, closed, closed_if, closed_below, exited, exited_to, after_exit}
use Rattle.model.specs.rule.Step.{Is}
use Rattle.model.proofs.Hanging.{itself}
use Rattle.model.proofs.Closings.{open_if}
use Rattle.model.proofs.FailLaws.{exited-by, exited_to-none}
use Rattle.run_clients.specs.code.Times.{AreAnchored}
use Rattle.run_clients.specs.declared.deed.Deed.{Deed}
use Rattle.run_clients.specs.rule.Seen.{closing, closings_below, exit_deeds, exit_deeds_if, exits_to}
use Rattle.run_clients.proofs.Drops.{closed_below-zero, closed_below-suc, closings-suc, exits_to-zero, exits_to-suc}

-- before the first descriptor there are no deeds
pub none_at_first : (ds es : List Deed) → es ≡ [] → ds ≡ ds ++ es
none_at_first ds es none = sym (ap (λ (xs : List Deed). ds ++ xs) none ∙ append-nil ds)

-- the deeds of one more descriptor come last
more_deeds : (old cur new ds bs cs : List Deed) → cur ≡ old ++ ds → new ≡ cur ++ bs → cs ≡ ds ++ bs → new ≡ old ++ cs
more_deeds old cur new ds bs cs so_far added is = added ∙ (ap (λ (xs : List Deed). xs ++ bs) so_far ∙ (append_assoc old ds bs ∙ ap (λ (xs : List Deed). old ++ xs) (sym is)))

module _ (t : Table) (p : Process) where
  pub closings_more : (u : Table) (n : ℕ) (old cur new : List Deed) → u ≡ closed_below t p n → cur ≡ old ++ closings_below t p n → new ≡ cur ++ closing u p n (descriptor u p n) → new ≡ old ++ closings_below t p (n + 1)
  closings_more u n old cur new is so_far added =
      let next : n + 1 ≡ suc n = omega arith in
      more_deeds old cur new (closings_below t p n) (closing (closed_below t p n) p n (descriptor (closed_below t p n) p n)) (closings_below t p (n + 1)) so_far
      (added ∙ ap (λ (x : Table). cur ++ closing x p n (descriptor x p n)) is)
      (ap (closings_below t p) next ∙ closings-suc t p n)

  abbrev fewer : ℕ → Processes
  fewer fd = with_descriptor (around t p) p.pid fd None

  abbrev mid : ℕ → Opened → Table
  mid fd o = record (with_processes t p (fewer fd)) { locks = without_owner t.locks o.file (process_owner p) }

  abbrev either : ℕ → Opened → Bool → Table
  either fd o b = if b then mid fd o else record (mid fd o) { locks = without_owner_anywhere (mid fd o).locks (description_owner p o.description) }

  around_either : (fd : ℕ) (o : Opened) (b : Bool) → around (either fd o b) p ≡ fewer fd
  around_either fd o true = rw (itself p.node p.incarnation) refl
  around_either fd o false = rw (itself p.node p.incarnation) refl

  around_closed : (fd : ℕ) (o : Opened) → around (closed t p fd o) p ≡ fewer fd
  around_closed fd o = around_either fd o (is_open (around (mid fd o) p) o.description)

  -- after the close of a descriptor the process runs as before
  pub runs_closed : (fd : ℕ) (x : Option Opened) → is_running (closed_if t p fd x) p ≡ is_running t p
  runs_closed fd None = refl
  runs_closed fd (Some o) = ap (λ (ps : Processes). ps.runs p.pid) (around_closed fd o)

  -- after the close of a descriptor the process doesn't have it
  shut_at : (fd : ℕ) (x : Option Opened) → descriptor t p fd ≡ x → descriptor (closed_if t p fd x) p fd ≡ None
  shut_at fd None none = none
  shut_at fd (Some o) there = ap (λ (ps : Processes). ps.opened p.pid fd) (around_closed fd o) ∙ rw (itself p.pid fd) refl

-- a descriptor that was closed stays closed
stays_shut : (t : Table) (p : Process) (fd k : ℕ) (x : Option Opened) → descriptor t p fd ≡ None → descriptor (closed_if t p k x) p fd ≡ None
stays_shut t p fd k x none = none_left (descriptor (closed_if t p k x) p fd) refl
  where
    none_left : (y : Option Opened) → descriptor (closed_if t p k x) p fd ≡ y → descriptor (closed_if t p k x) p fd ≡ None
    none_left None is = is
    none_left (Some o) is = absurd (none-some o (sym none ∙ open_if p t k x p.pid fd o is))

pub shut_runs : (t : Table) (p : Process) (k : ℕ) → is_running (closed_below t p k) p ≡ is_running t p
shut_runs t p zero = ap (λ (x : Table). is_running x p) (closed_below-zero t p)
shut_runs t p (suc k) = ap (λ (x : Table). is_running x p) (closed_below-suc t p k) ∙ (runs_closed (closed_below t p k) p k (descriptor (closed_below t p k) p k) ∙ shut_runs t p k)

shut_none : (t : Table) (p : Process) (k fd : ℕ) → fd < k → descriptor (closed_below t p k) p fd ≡ None
shut_none t p zero fd lt = absurd (omega arith)
shut_none t p (suc k) fd lt =
    let u = closed_below t p k in
    let next : Table = closed_if u p k (descriptor u p k) in
    ap (λ (x : Table). descriptor x p fd) (closed_below-suc t p k) ∙ elim (cases_eq fd k) [
      | inl same ↦ ap (descriptor next p) same ∙ shut_at u p k (descriptor u p k) refl
      | inr other ↦ stays_shut u p fd k (descriptor u p k) (shut_none t p k fd (omega arith))
    ]

-- where no descriptor is open, closing all changes nothing
shut_again : (t : Table) (p : Process) (k : ℕ) → k ≤ most_descriptors → ((fd : ℕ) → fd < most_descriptors → descriptor t p fd ≡ None) → closed_below t p k ≡ t
shut_again t p zero le none = closed_below-zero t p
shut_again t p (suc k) le none =
    let before = shut_again t p k (omega arith) none in
    closed_below-suc t p k ∙ (ap (λ (x : Table). closed_if x p k (descriptor x p k)) before ∙ ap (closed_if t p k) (none k (omega arith)))

abbrev exit_answer : Table → Process → Bool → Table × Reply
exit_answer t p b = if b then (exited t p, Done) else (t, NoProcess)

abbrev ended : Table → Process → Table
ended t p = with_processes t p (with_process (around t p) p.pid false (λ fd. None))

-- a process whose descriptors were closed exits
pub exit_shut : (t u new : Table) (p : Process) (fd : ℕ) (reply : Reply) → is_running t p ≡ true → u ≡ closed_below t p fd → most_descriptors ≤ fd → fd ≤ most_descriptors → Is (after_exit u p) reply new → new ≡ exited t p
exit_shut t u new p fd reply runs is least most step =
    let same : fd ≡ most_descriptors = omega arith in
    let shut : u ≡ closed_below t p most_descriptors = is ∙ ap (closed_below t p) same in
    let ran : is_running u p ≡ true = ap (λ (x : Table). is_running x p) is ∙ (shut_runs t p fd ∙ runs) in
    let none : (k : ℕ) → k < most_descriptors → descriptor u p k ≡ None = λ k lt. ap (λ (x : Table). descriptor x p k) shut ∙ shut_none t p most_descriptors k lt in
    let goes : new ≡ exited u p = ended_if (is_running u p) ran step.1 in
    let last : exited u p ≡ ended u p = ap (λ (x : Table). ended x p) (shut_again u p most_descriptors (omega arith) none) in
    exited-by t u new p most_descriptors shut refl (goes ∙ last)
  where
    ended_if : (b : Bool) → b ≡ true → new ≡ (exit_answer u p b).0 → new ≡ exited u p
    ended_if true h is = is
    ended_if false h is = absurd (false≢true h)

-- a node on which no process runs
module _ (t : Table) (n i : ℕ) (idle : (pid : ℕ) → (t.on n i).runs pid ≡ false) where
  pub none_exit : (k : ℕ) → exits_to t n i k ≡ []
  none_exit zero = exits_to-zero t n i
  none_exit (suc k) =
      let p : Process = record { node = n; incarnation = i; pid = suc k } in
      let here : exit_deeds_if (exited_to t n i k) p ≡ [] = ap (λ (x : Table). exit_deeds_if x p) (exited_to-none t n i k idle) ∙ ap (λ (b : Bool). if b then exit_deeds t p else []) (idle (suc k)) in
      exits_to-suc t n i k ∙ (ap (λ (ds : List Deed). ds ++ exit_deeds_if (exited_to t n i k) p) (none_exit k) ∙ here)

-- the processes before this one have exited, and one more does
pub exits_more : (t u : Table) (n i pid : ℕ) (old cur new : List Deed) → 1 ≤ pid → u ≡ exited_to t n i (pid - 1) → cur ≡ old ++ exits_to t n i (pid - 1) → new ≡ cur ++ exit_deeds_if u (record { node = n; incarnation = i; pid = pid }) → new ≡ old ++ exits_to t n i (pid + 1 - 1)
exits_more t u n i pid old cur new first is so_far added =
    let this : pid ≡ suc (pid - 1) = omega arith in
    let next : pid + 1 - 1 ≡ suc (pid - 1) = omega arith in
    more_deeds old cur new (exits_to t n i (pid - 1)) (exit_deeds_if (exited_to t n i (pid - 1)) (record { node = n; incarnation = i; pid = suc (pid - 1) })) (exits_to t n i (pid + 1 - 1)) so_far
    (added ∙ (ap (λ (x : Table). cur ++ exit_deeds_if x (record { node = n; incarnation = i; pid = pid })) is ∙ ap (λ (k : ℕ). cur ++ exit_deeds_if (exited_to t n i (pid - 1)) (record { node = n; incarnation = i; pid = k })) this))
    (ap (exits_to t n i) next ∙ exits_to-suc t n i (pid - 1))

-- a node that can't exist has no process that runs
pub no_host_idle : (t : Table) (n i : ℕ) → AreAnchored t → (IsHost n i → ⊥) → (pid : ℕ) → (t.on n i).runs pid ≡ false
no_host_idle t n i a none pid = false_from_ne_true ((t.on n i).runs pid) (λ runs. none (a.hosts n i pid runs))
