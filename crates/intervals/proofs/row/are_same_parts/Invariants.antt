use Rattle.std.proofs.Common.{◌≡◌, take}
use Rattle.intervals.proofs.row.are_same_parts.Given as goal

abbrev pub invariant-loop-i : goal.invariant-loop-i
invariant-loop-i g l = take l.i l.parts ≡ take l.i l.others
