use Rattle.std.proofs.Common.{[]}
use Rattle.cluster_core.specs.rule.Parts.{world_state}
use Rattle.cluster_core.specs.rule.Listings.{Adds, IsHeldBefore}
use Rattle.cluster_core.proofs.listings.LockLists.{IsHeldInFirst}
use Rattle.cluster_core.proofs.world.World.locks.Given as goal

abbrev pub invariant-loop-index : goal.invariant-loop-index
invariant-loop-index l = Adds (IsHeldInFirst (world_state l.self) l.index) IsHeldBefore [] l.locks.items
