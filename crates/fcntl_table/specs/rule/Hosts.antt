-- The processes of each host; a host is a node in one of its incarnations.
use Rattle.std.specs.Prelude.{◌≡◌, ℕ, ◌==◌, ◌&&◌, not, Bool, true, if◌then◌else◌, List, [], Option, Some, None, IsSome, unwrap_or}
use Rattle.std.specs.Map.{lookup}
use Rattle.model.specs.declared.host.Host.{Host}
use Rattle.model.specs.declared.opened.Opened.{Opened}
use Rattle.model.specs.declared.process.Process.{Process}
use Rattle.model.specs.rule.Limits.{IsHost}
use Rattle.model.specs.rule.Descriptors.{Processes, is_open, with_descriptor}
use Rattle.model.specs.rule.Table.{Table}
use Rattle.model.specs.rule.Owners.{same_host}
use Rattle.lock_table.specs.rule.Tables.{TableParts, held}
use Rattle.descriptors.specs.declared.process_entry.ProcessEntry.{ProcessEntry}
use Rattle.descriptors.specs.rule.Rows.{processes}

-- the rows of each host's processes
abbrev pub HostRows : Type 0
HostRows = List (Host × List ProcessEntry)

-- each entry is of a node and an incarnation with numbers in range
abbrev pub AreHosts : HostRows → Type 0
AreHosts hosts = (q : Host) (rows : List ProcessEntry) → lookup (same_host q) hosts ≡ Some rows → IsHost q.node q.incarnation

-- the processes of each node in each incarnation; none where there is no entry
unfoldable pub processes_of : HostRows → ℕ → ℕ → Processes
processes_of hosts node incarnation = processes (unwrap_or (lookup (same_host (record { node = node; incarnation = incarnation })) hosts) [])

-- the processes of all nodes after the ones of a host are replaced by ps
abbrev pub with_host : (ℕ → ℕ → Processes) → Host → Processes → ℕ → ℕ → Processes
with_host on host ps n i = if (n == host.node) && (i == host.incarnation) then ps else on n i

-- the process pid of the host
abbrev pub process_at : Host → ℕ → Process
process_at host pid = record { node = host.node; incarnation = host.incarnation; pid = pid }

-- the table with these processes and these locks
abbrev pub table_with : HostRows → TableParts → Table
table_with hosts locks = record { limit = locks.limit; on = processes_of hosts; locks = held locks }

-- there is an entry for the host
abbrev pub IsKept : HostRows → Host → Type 0
IsKept hosts host = IsSome (lookup (same_host host) hosts)

-- the table in which the host has these processes, with these locks
abbrev pub shown : (ℕ → ℕ → Processes) → Host → List ProcessEntry → TableParts → Table
shown on host rows locks = record { limit = locks.limit; on = with_host on host (processes rows); locks = held locks }

-- the descriptor is closed: `closed` has what it referred to, and whether its description is closed too; if it wasn't open nothing changes
abbrev pub Closes : Processes → ℕ → ℕ → Option (Opened × Bool) → Processes → Type 0
Closes old pid fd None new = (old.runs pid ≡ true → old.opened pid fd ≡ None) × (new ≡ old)
Closes old pid fd (Some closed) new = (old.opened pid fd ≡ Some closed.0) × (new ≡ with_descriptor old pid fd None) × (closed.1 ≡ not (is_open new closed.0.description))
