use Rattle.std.proofs.Common.{arith}
use Rattle.intervals.proofs.row.Row.has_runs_of.Goals as goal

pub loop-run-smaller : goal.loop-run-smaller
loop-run-smaller g c = rw c.in-Some.ensures.next (omega arith)
