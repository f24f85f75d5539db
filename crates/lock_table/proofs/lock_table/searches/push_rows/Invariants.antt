use Rattle.std.proofs.Common.{◌≡◌, ◌++◌, List, take}
use Rattle.model.specs.declared.lock_info.LockInfo.{LockInfo}
use Rattle.lock_table.specs.rule.Tables.{rows_held, ListsRegions}
use Rattle.lock_table.proofs.lock_table.searches.push_rows.Given as goal

abbrev pub invariant-loop-row : goal.invariant-loop-row
invariant-loop-row l = (more : List LockInfo) × (l.locks.items ≡ l.initial.locks.items ++ more) × ListsRegions (rows_held (take l.row-index l.row-items) l.file) more
