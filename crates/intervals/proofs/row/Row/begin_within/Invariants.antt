use Rattle.std.proofs.Common.{◌≡◌, ◌+◌, ◌++◌, take}
use Rattle.intervals.specs.code.Parts.{all_runs, part_at}
use Rattle.intervals.proofs.Starts.{begin_below}
use Rattle.intervals.proofs.row.Row.begin_within.Given as goal

-- the runs of the parts so far that begin between the bytes are counted
abbrev pub invariant-loop-part : goal.invariant-loop-part
invariant-loop-part g l = begin_below (part_at l.self l.at ++ all_runs (take l.part-index l.above)) l.lo + l.count ≡ begin_below (part_at l.self l.at ++ all_runs (take l.part-index l.above)) l.hi
