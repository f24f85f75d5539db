use Rattle.std.proofs.Common.{take}
use Rattle.lock_table.specs.rule.Tables.{all_rows, rows_held, ListsRegions}
use Rattle.lock_table.proofs.lock_table.LockTable.locks.Given as goal

abbrev pub invariant-loop-block : goal.invariant-loop-block
invariant-loop-block l = ListsRegions (rows_held (all_rows (take l.block-index l.block-items)) l.file) l.locks.items
