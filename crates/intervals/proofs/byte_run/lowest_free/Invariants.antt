use Rattle.std.proofs.Common.{length}
use Rattle.intervals.proofs.Around.{LeftBelow}
use Rattle.intervals.proofs.byte_run.lowest_free.Given as goal

abbrev pub invariant-loop-run : goal.invariant-loop-run
invariant-loop-run g l = LeftBelow l.runs l.rest l.bar l.low l.from

abbrev pub decreases-loop-run : goal.decreases-loop-run
decreases-loop-run g l = length l.rest
