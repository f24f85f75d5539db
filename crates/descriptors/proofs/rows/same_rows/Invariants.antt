use Rattle.std.proofs.Common.{◌<◌, ℕ}
use Rattle.descriptors.specs.code.Rows.{IsSameRow}
use Rattle.descriptors.specs.rule.Rows.{row}
use Rattle.descriptors.proofs.rows.same_rows.Given as goal

abbrev pub invariant-loop-pid : goal.invariant-loop-pid
invariant-loop-pid l = (k : ℕ) → k < l.pid → IsSameRow (row l.rows k) (row l.others k)
