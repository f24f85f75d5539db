use Rattle.cluster_core.specs.rule.Parts.{world_state}
use Rattle.player.specs.code.Rounds.{Adds, IsLearnAt, OfUpTo}
use Rattle.player.proofs.rounds.push_learns_of.Given as goal

abbrev pub invariant-loop-index : goal.invariant-loop-index
invariant-loop-index l = Adds (OfUpTo (IsLearnAt (world_state l.world) l.file) l.index) l.initial.events.items l.events.items
