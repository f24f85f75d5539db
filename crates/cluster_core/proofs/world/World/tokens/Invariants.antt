use Rattle.std.proofs.Common.{[]}
use Rattle.cluster_core.specs.rule.Parts.{world_state}
use Rattle.cluster_core.specs.rule.Listings.{Adds, IsTokenBefore}
use Rattle.cluster_core.proofs.listings.TokenLists.{IsOfFirstNodes}
use Rattle.cluster_core.proofs.world.World.tokens.Given as goal

abbrev pub invariant-loop-index : goal.invariant-loop-index
invariant-loop-index l = Adds (IsOfFirstNodes (world_state l.self) l.index) IsTokenBefore [] l.tokens.items
