use Rattle.std.proofs.Common.{◌≡◌, ℕ}
use Rattle.model.specs.rule.Descriptors.{Processes}
use Rattle.model.specs.rule.Table.{closed_below}
use Rattle.fcntl_table.specs.rule.Hosts.{process_at, shown}
use Rattle.fcntl_table.proofs.shut.exit_at.Given as goal

abbrev pub invariant-loop-fd : goal.invariant-loop-fd
invariant-loop-fd l = (on : ℕ → ℕ → Processes) → shown on l.host l.processes l.locks ≡ closed_below (shown on l.host l.fn.processes l.fn.locks) (process_at l.host l.pid) l.fd
