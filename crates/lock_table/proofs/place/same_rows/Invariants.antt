use Rattle.std.proofs.Common.{◌++◌, length}
use Rattle.lock_table.specs.rule.Tables.{all_rows}
use Rattle.lock_table.specs.code.Rows.{AreSome}
use Rattle.lock_table.proofs.RowLemmas.{Left}
use Rattle.lock_table.proofs.place.same_rows.Given as goal

abbrev pub invariant-loop-row : goal.invariant-loop-row
invariant-loop-row l = record {
  left : Left (all_rows l.blocks) (all_rows l.others) (l.rows ++ all_rows l.left) (l.twins ++ all_rows l.behind);
  some : AreSome l.left;
  others : AreSome l.behind;
}

abbrev pub decreases-loop-row : goal.decreases-loop-row
decreases-loop-row l = length (l.rows ++ all_rows l.left)
