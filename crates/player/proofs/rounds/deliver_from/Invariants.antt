use Rattle.std.proofs.Common.{◌-◌, ◌^◌}
use Rattle.player.specs.code.Rounds.{GoesQuietly}
use Rattle.player.proofs.Arrivals.{ArrivesTo}
use Rattle.player.proofs.rounds.deliver_from.Given as goal

abbrev pub invariant-loop-place : goal.invariant-loop-place
invariant-loop-place l = record {
  arrives : ArrivesTo l.initial.run l.first l.run l.place;
  goes : GoesQuietly l.initial.run l.run;
}

abbrev pub decreases-loop-place : goal.decreases-loop-place
decreases-loop-place l = 2 ^ 64 - l.place
