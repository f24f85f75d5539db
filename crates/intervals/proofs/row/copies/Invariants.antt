use Rattle.std.proofs.Common.{◌≡◌, take}
use Rattle.intervals.proofs.row.copies.Given as goal

abbrev pub invariant-loop-part : goal.invariant-loop-part
invariant-loop-part g l = l.copies.items ≡ take l.part-index l.parts
