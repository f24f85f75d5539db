use Rattle.std.proofs.Common.{◌-◌, ◌≤◌, length, take}
use Rattle.lock_table.specs.rule.Tables.{rows_held}
use Rattle.lock_table.specs.code.Blockers.{IsLowestBut}
use Rattle.lock_table.proofs.lock_table.searches.lowest_in.Given as goal

abbrev pub invariant-loop-at : goal.invariant-loop-at
invariant-loop-at l = record { within : l.at ≤ length l.rows; lowest : IsLowestBut (rows_held (take l.at l.rows) l.file) l.out l.span l.mode l.lowest }

abbrev pub decreases-loop-at : goal.decreases-loop-at
decreases-loop-at l = length l.rows - l.at
