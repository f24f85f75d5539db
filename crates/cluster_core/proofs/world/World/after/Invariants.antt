use Rattle.cluster_core.specs.rule.Parts.{world_state}
use Rattle.cluster_core.proofs.runs.Replayed.{Replayed}
use Rattle.cluster_core.proofs.world.World.after.Given as goal

abbrev pub invariant-loop-entry : goal.invariant-loop-entry
invariant-loop-entry l = Replayed l.journal.shape l.journal.entries l.entry-index (world_state l.world)
