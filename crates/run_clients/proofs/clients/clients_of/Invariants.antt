use Rattle.std.proofs.Common.{drop}
use Rattle.model.specs.rule.Table.{empty_table}
use Rattle.messages.specs.rule.Shapes.{most_regions}
use Rattle.fcntl_table.specs.rule.Tables.{table_of}
use Rattle.placement.proofs.Replays.{Follows}
use Rattle.run_clients.specs.code.Times.{AreAnchored}
use Rattle.run_clients.proofs.EachOpen.{SeenSoFar}
use Rattle.run_clients.proofs.clients.clients_of.Given as goal

abbrev pub invariant-loop-item : goal.invariant-loop-item
invariant-loop-item l = record {
  follows : Follows l.journal.shape.version l.item-items (drop l.item-index l.item-items) (table_of l.table);
  anchored : AreAnchored (table_of l.table);
  seen : SeenSoFar l.journal.entries (empty_table (most_regions l.journal.shape.version)) l.item-items (table_of l.table) (drop l.item-index l.item-items) l.seen.items;
}
