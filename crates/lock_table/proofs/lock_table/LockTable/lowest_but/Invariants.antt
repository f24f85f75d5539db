use Rattle.std.proofs.Common.{take}
use Rattle.lock_table.specs.rule.Tables.{all_rows, rows_held}
use Rattle.lock_table.specs.code.Blockers.{IsLowestBut}
use Rattle.lock_table.proofs.lock_table.LockTable.lowest_but.Given as goal

abbrev pub invariant-loop-block : goal.invariant-loop-block
invariant-loop-block l = IsLowestBut (rows_held (all_rows (take l.block-index l.block-items)) l.file) l.out l.span l.mode l.lowest
