use Rattle.std.proofs.Common.{◌≤◌, ◌+◌, length}
use Rattle.fcntl_table.specs.rule.Tables.{table_of}
use Rattle.run_clients.specs.rule.Seen.{HasOpened}
use Rattle.run_clients.proofs.open_calls.push_open_calls.Given as goal

abbrev pub invariant-loop-index : goal.invariant-loop-index
invariant-loop-index l = record {
  below : l.index ≤ length l.entries;
  opened : HasOpened l.entries (table_of l.table) 0 (l.index + 1) l.fn.seen.items l.seen.items;
}
