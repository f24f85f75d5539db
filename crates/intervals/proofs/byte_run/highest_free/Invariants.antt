use Rattle.std.proofs.Common.{drop, ◌+◌}
use Rattle.intervals.proofs.Find.{BarredLeft}
use Rattle.intervals.proofs.byte_run.highest_free.Given as goal

-- the barred bytes above `to` are in the runs that are left
abbrev pub invariant-loop-run : goal.invariant-loop-run
invariant-loop-run g l = BarredLeft l.runs (drop l.run-index l.runs) l.bar (record { lo = l.to + 1; hi = l.high })
