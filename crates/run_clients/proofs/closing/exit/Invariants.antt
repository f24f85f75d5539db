use Rattle.std.proofs.Common.{◌≡◌, ◌≤◌, ◌++◌}
use Rattle.model.specs.rule.Limits.{most_descriptors}
use Rattle.model.specs.rule.Table.{closed_below}
use Rattle.fcntl_table.specs.rule.Tables.{table_of}
use Rattle.run_clients.specs.rule.Seen.{closings_below}
use Rattle.run_clients.proofs.closing.exit.Given as goal

-- the descriptors below this one are closed
abbrev pub invariant-loop-fd : goal.invariant-loop-fd
invariant-loop-fd l = record {
  below : l.fd ≤ most_descriptors;
  table : table_of l.table ≡ closed_below (table_of l.fn.table) l.process l.fd;
  deeds : l.deeds.items ≡ l.fn.deeds.items ++ closings_below (table_of l.fn.table) l.process l.fd;
}
