use Rattle.std.proofs.Common.{◌≡◌, ◌+◌, length, take}
use Rattle.intervals.specs.code.Parts.{all_runs, part_at}
use Rattle.intervals.proofs.row.Row.count.Given as goal

abbrev pub invariant-loop-part : goal.invariant-loop-part
invariant-loop-part g l = l.count ≡ length (part_at l.self l.at) + length (all_runs (take l.part-index l.near))
