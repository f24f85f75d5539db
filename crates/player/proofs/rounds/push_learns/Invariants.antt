use Rattle.cluster_core.specs.rule.Parts.{world_state}
use Rattle.player.specs.code.Rounds.{Adds, IsLearnOf, OfUpTo}
use Rattle.player.proofs.rounds.push_learns.Given as goal

abbrev pub invariant-loop-index : goal.invariant-loop-index
invariant-loop-index l = Adds (OfUpTo (IsLearnOf (world_state l.world)) l.index) l.initial.events.items l.events.items
