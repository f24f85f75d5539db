use Rattle.std.proofs.Common.{◌≡◌, take}
use Rattle.seat_commands.specs.rule.Merging.{told_earlier}
use Rattle.seat_commands.proofs.logs.told_earlier.Given as goal

abbrev pub invariant-loop-change : goal.invariant-loop-change
invariant-loop-change l = l.earlier.items ≡ told_earlier (take l.change-index l.list)
