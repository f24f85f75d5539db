use Rattle.std.proofs.Common.{◌≡◌, ◌-◌, ◌^◌}
use Rattle.player.specs.code.Rounds.{GoesQuietly}
use Rattle.player.proofs.player.Player.deliver_rest.Given as goal

abbrev pub invariant-loop-alloc : goal.invariant-loop-alloc
invariant-loop-alloc l = record {
  goes : GoesQuietly l.initial.self.run l.self.run;
  refused : l.self.refused ≡ l.initial.self.refused;
}

abbrev pub decreases-loop-alloc : goal.decreases-loop-alloc
decreases-loop-alloc l = 2 ^ 64 - l.self.settled.cursor
