use Rattle.std.proofs.Common.{take}
use Rattle.intervals.specs.rule.Bytes.{IsLargest}
use Rattle.model.specs.rule.Locks.{IsRegion}
use Rattle.lock_table.specs.rule.Tables.{all_rows, rows_held, HasInWay}
use Rattle.lock_table.proofs.lock_table.LockTable.free_around.Given as goal

abbrev pub invariant-loop-block : goal.invariant-loop-block
invariant-loop-block l = IsLargest (HasInWay (IsRegion (rows_held (all_rows (take l.block-index l.block-items)) l.file)) l.mode) l.required l.fn.within l.span
