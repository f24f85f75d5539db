use Rattle.std.proofs.Common.{drop}
use Rattle.fcntl_table.specs.rule.Tables.{table_of}
use Rattle.placement.proofs.Replays.{Follows}
use Rattle.placement.proofs.legal.legal.Given as goal

abbrev pub invariant-loop-item : goal.invariant-loop-item
invariant-loop-item l = Follows l.history.version l.history.items (drop l.item-index l.item-items) (table_of l.table)
