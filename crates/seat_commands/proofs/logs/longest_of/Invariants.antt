use Rattle.std.proofs.Common.{◌≡◌, ◌<◌, length}
use Rattle.std.specs.Prelude.{◌⊎◌}
use Rattle.seat_commands.proofs.logs.longest_of.Given as goal

abbrev pub invariant-loop-index : goal.invariant-loop-index
invariant-loop-index l = (l.longest ≡ 0) ⊎ (l.longest < length l.logs)
