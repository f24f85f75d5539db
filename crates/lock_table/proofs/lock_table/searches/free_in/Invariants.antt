use Rattle.std.proofs.Common.{◌-◌, ◌≤◌, length, take}
use Rattle.intervals.specs.rule.Bytes.{IsLargest}
use Rattle.model.specs.rule.Locks.{IsRegion}
use Rattle.lock_table.specs.rule.Tables.{rows_held, HasInWay}
use Rattle.lock_table.proofs.lock_table.searches.free_in.Given as goal

abbrev pub invariant-loop-at : goal.invariant-loop-at
invariant-loop-at l = record { within : l.at ≤ length l.rows; largest : IsLargest (HasInWay (IsRegion (rows_held (take l.at l.rows) l.file)) l.mode) l.required l.fn.within l.span }

abbrev pub decreases-loop-at : goal.decreases-loop-at
decreases-loop-at l = length l.rows - l.at
