use Rattle.std.proofs.Common.{◌≡◌, ◌≤◌, ◌+◌, ◌-◌, false}
use Rattle.intervals.specs.rule.Search.{some_passes}
use Rattle.model.specs.rule.Limits.{most_processes}
use Rattle.model.specs.rule.Table.{around}
use Rattle.fcntl_table.specs.rule.Tables.{table_of}
use Rattle.run_clients.specs.code.Times.{has_description}
use Rattle.run_clients.proofs.references.is_open.Given as goal

-- none of the processes below this one has a descriptor of the description
abbrev pub invariant-loop-pid : goal.invariant-loop-pid
invariant-loop-pid l = record {
  first : 1 ≤ l.pid;
  below : l.pid ≤ most_processes + 1;
  none : some_passes (has_description (around (table_of l.table) l.fn.process) l.description) 1 (l.pid - 1) ≡ false;
}
