use Rattle.std.proofs.Common.{◌≡◌, ◌≤◌, ◌+◌, ◌-◌, ◌++◌}
use Rattle.model.specs.rule.Limits.{most_processes}
use Rattle.model.specs.rule.Table.{exited_to}
use Rattle.fcntl_table.specs.rule.Tables.{table_of}
use Rattle.run_clients.specs.rule.Seen.{exits_to}
use Rattle.run_clients.proofs.closing.fail.Given as goal

-- the processes below this one have exited
abbrev pub invariant-loop-pid : goal.invariant-loop-pid
invariant-loop-pid l = record {
  first : 1 ≤ l.pid;
  below : l.pid ≤ most_processes + 1;
  table : table_of l.table ≡ exited_to (table_of l.fn.table) l.node l.incarnation (l.pid - 1);
  deeds : l.deeds.items ≡ l.fn.deeds.items ++ exits_to (table_of l.fn.table) l.node l.incarnation (l.pid - 1);
}
