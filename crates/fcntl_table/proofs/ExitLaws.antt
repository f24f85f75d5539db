-- What closes of descriptors and exits of processes make of the whole table.
use Rattle.std.proofs.Common.{◌≡◌, ℕ, ◌==◌, ◌&&◌, zero, suc, Bool, true, false, not, if◌then◌else◌, refl, sym, ◌∙◌, ap, List, Option, Some, None}
use Rattle.model.specs.declared.host.Host.{Host}
use Rattle.model.specs.declared.opened.Opened.{Opened}
use Rattle.model.specs.declared.process.Process.{Process}
use Rattle.model.specs.rule.Owners.{process_owner, description_owner}
use Rattle.model.specs.rule.Locks.{Locks, without_owner, without_owner_anywhere}
use Rattle.model.specs.rule.Descriptors.{Processes, is_open, with_process, with_descriptor}
use Rattle.model.specs.rule.Table.{Table, around, is_running, descriptor, with_processes, closed_if, closed_below}
use Rattle.lock_table.specs.rule.Tables.{TableParts, held}
use Rattle.model.proofs.OwnerLaws.{host_refl}
use Rattle.descriptors.specs.declared.process_entry.ProcessEntry.{ProcessEntry}
use Rattle.descriptors.specs.rule.Rows.{processes}
use Rattle.fcntl_table.specs.rule.Hosts.{Closes, process_at, shown, with_host}
use Rattle.fcntl_table.proofs.TableLaws.{host_of}

-- the processes of a host after they are replaced
pub at_node : (on : ℕ → ℕ → Processes) (host : Host) (ps : Processes) → with_host on host ps host.node host.incarnation ≡ ps
at_node on host ps = ap (λ (b : Bool). if b then ps else on host.node host.incarnation) (host_refl host)

-- processes that are replaced twice are the second ones
twice : (on : ℕ → ℕ → Processes) (host : Host) (first second : Processes) → with_host (with_host on host first) host second ≡ with_host on host second
twice on host first second i = λ n k. either ((n == host.node) && (k == host.incarnation)) second first (on n k) i
  where
    either : {A : Type 0} (b : Bool) (x y z : A) → (if b then x else (if b then y else z)) ≡ (if b then x else z)
    either true x y z = refl
    either false x y z = refl

-- whether the process runs in the table
pub runs-at : (on : ℕ → ℕ → Processes) (host : Host) (rows : List ProcessEntry) (locks : TableParts) (pid : ℕ) → is_running (shown on host rows locks) (process_at host pid) ≡ (processes rows).runs pid
runs-at on host rows locks pid = ap (λ (ps : Processes). ps.runs pid) (at_node on host (processes rows))

-- a close of a descriptor that isn't open changes nothing
pub closed-none : (on : ℕ → ℕ → Processes) (host : Host) (rows new : List ProcessEntry) (locks : TableParts) (pid fd : ℕ) → Closes (processes rows) pid fd None (processes new) → (processes rows).runs pid ≡ true → shown on host new locks ≡ closed_if (shown on host rows locks) (process_at host pid) fd (descriptor (shown on host rows locks) (process_at host pid) fd)
closed-none on host rows new locks pid fd closes runs =
    let t : Table = shown on host rows locks in
    let nothing_there : descriptor t (process_at host pid) fd ≡ None = ap (λ (ps : Processes). ps.opened pid fd) (at_node on host (processes rows)) ∙ closes.0 runs in
    let same : shown on host new locks ≡ t = λ i. record { limit = locks.limit; on = with_host on host (closes.1 i); locks = held locks } in
    same ∙ sym (ap (closed_if t (process_at host pid) fd) nothing_there)

-- a close of an open descriptor drops the process's locks in that file, and the description's locks if it is closed too
pub closed-some : (on : ℕ → ℕ → Processes) (host : Host) (rows new : List ProcessEntry) (locks left : TableParts) (pid fd : ℕ) (opened : Opened) (went : Bool) → Closes (processes rows) pid fd (Some (opened, went)) (processes new) → left.limit ≡ locks.limit → held left ≡ (if went then without_owner_anywhere (without_owner (held locks) opened.file (process_owner (process_at host pid))) (description_owner (process_at host pid) opened.description) else without_owner (held locks) opened.file (process_owner (process_at host pid))) → shown on host new left ≡ closed_if (shown on host rows locks) (process_at host pid) fd (descriptor (shown on host rows locks) (process_at host pid) fd)
closed-some on host rows new locks left pid fd opened went closes same_limit dropped_too =
    let p : Process = process_at host pid in
    let t : Table = shown on host rows locks in
    let fewer : Processes = with_descriptor (around t p) pid fd None in
    let dropped : Locks = without_owner (held locks) opened.file (process_owner p) in
    let anywhere : Locks = without_owner_anywhere dropped (description_owner p opened.description) in
    let shut : Table = record (with_processes t p fewer) { locks = dropped } in
    let own : around t p ≡ processes rows = at_node on host (processes rows) in
    let is_fewer : processes new ≡ fewer = closes.1 ∙ ap (λ (ps : Processes). with_descriptor ps pid fd None) (sym own) in
    let here : around shut p ≡ processes new = at_node t.on host fewer ∙ sym is_fewer in
    let there : descriptor t p fd ≡ Some opened = ap (λ (ps : Processes). ps.opened pid fd) own ∙ closes.0 in
    let now : with_host on host (processes new) ≡ shut.on = ap (with_host on host) is_fewer ∙ sym (twice on host (processes rows) fewer) in
    let tables : Bool → Table = λ b. if b then shut else record shut { locks = anywhere } in
    (λ i. record { limit = same_limit i; on = now i; locks = dropped_too i })
    ∙ (by shut anywhere (is_open (processes new) opened.description) went closes.2
    ∙ (ap (λ (ps : Processes). tables (is_open ps opened.description)) (sym here)
    ∙ sym (ap (closed_if t p fd) there)))
  where
    by : (shut : Table) (anywhere : Locks) (b w : Bool) → w ≡ not b → record shut { locks = if w then anywhere else shut.locks } ≡ (if b then shut else record shut { locks = anywhere })
    by shut anywhere true w e = ap (λ (x : Bool). record shut { locks = if x then anywhere else shut.locks }) e
    by shut anywhere false w e = ap (λ (x : Bool). record shut { locks = if x then anywhere else shut.locks }) e

-- a process that closes a descriptor still runs
closed_if-runs : (t : Table) (p : Process) (fd : ℕ) (o : Option Opened) → is_running (closed_if t p fd o) p ≡ is_running t p
closed_if-runs t p fd None = refl
closed_if-runs t p fd (Some o) = last (is_open (around shut p) o.description)
  where
    shut : Table
    shut = record (with_processes t p (with_descriptor (around t p) p.pid fd None)) { locks = without_owner t.locks o.file (process_owner p) }

    here : is_running shut p ≡ is_running t p
    here = ap (λ (ps : Processes). ps.runs p.pid) (at_node t.on (host_of p) (with_descriptor (around t p) p.pid fd None))

    last : (b : Bool) → is_running (if b then shut else record shut { locks = without_owner_anywhere shut.locks (description_owner p o.description) }) p ≡ is_running t p
    last true = here
    last false = here

still-runs : (t : Table) (p : Process) (n : ℕ) → is_running (closed_below t p n) p ≡ is_running t p
unfolding closed_below
still-runs t p zero = refl
still-runs t p (suc n) = closed_if-runs (closed_below t p n) p n (descriptor (closed_below t p n) p n) ∙ still-runs t p n

pub closed_below-runs : (t now : Table) (p : Process) (n : ℕ) → now ≡ closed_below t p n → is_running t p ≡ true → is_running now p ≡ true
closed_below-runs t now p n so_far runs = ap (λ (x : Table). is_running x p) so_far ∙ (still-runs t p n ∙ runs)

-- the table after a process ends
pub ended-table : (on : ℕ → ℕ → Processes) (host : Host) (rows new : List ProcessEntry) (locks : TableParts) (pid : ℕ) → processes new ≡ with_process (processes rows) pid false (λ fd. None) → shown on host new locks ≡ with_processes (shown on host rows locks) (process_at host pid) (with_process (around (shown on host rows locks) (process_at host pid)) pid false (λ fd. None))
ended-table on host rows new locks pid is =
    let none : Processes = with_process (around (shown on host rows locks) (process_at host pid)) pid false (λ fd. None) in
    let gone : processes new ≡ none = is ∙ ap (λ (ps : Processes). with_process ps pid false (λ fd. None)) (sym (at_node on host (processes rows))) in
    let now : with_host on host (processes new) ≡ with_host (with_host on host (processes rows)) host none = ap (with_host on host) gone ∙ sym (twice on host (processes rows) none) in
    λ i. record { limit = locks.limit; on = now i; locks = held locks }
