use Rattle.std.proofs.Common.{◌≡◌, ◌-◌, length}
use Rattle.cluster_core.specs.rule.World.{journal_limit}
use Rattle.player.specs.code.Rounds.{EndsInRound}
use Rattle.player.proofs.rounds.rounds.Given as goal

abbrev pub invariant-loop-alloc : goal.invariant-loop-alloc
invariant-loop-alloc l = record {
  ends : EndsInRound l.fn.run l.run;
  shape : l.run.world.shape ≡ l.shape;
}

abbrev pub decreases-loop-alloc : goal.decreases-loop-alloc
decreases-loop-alloc l = journal_limit - length l.run.entries
