use Rattle.std.proofs.Common.{◌≡◌, ◌≤◌, ◌-◌, ◌^◌}
use Rattle.player.specs.code.Rounds.{settled_in}
use Rattle.player.proofs.settled.Settled.advance.Given as goal

abbrev pub invariant-loop-self : goal.invariant-loop-self
invariant-loop-self l = record {
  same : settled_in l.self ≡ settled_in l.initial.self;
  rises : l.initial.self.cursor ≤ l.self.cursor;
}

abbrev pub decreases-loop-self : goal.decreases-loop-self
decreases-loop-self l = 2 ^ 64 - l.self.cursor
