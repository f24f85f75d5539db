use Rattle.cluster_core.specs.rule.Parts.{world_state}
use Rattle.cluster_core.specs.rule.Listings.{Adds, IsTokenBefore}
use Rattle.cluster_core.proofs.listings.TokenLists.{IsOfFirstFiles}
use Rattle.cluster_core.proofs.world.World.push_node_tokens.Given as goal

abbrev pub invariant-loop-index : goal.invariant-loop-index
invariant-loop-index l = Adds (IsOfFirstFiles (world_state l.self) l.node l.index) IsTokenBefore l.initial.tokens.items l.tokens.items
