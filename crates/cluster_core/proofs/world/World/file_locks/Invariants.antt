use Rattle.lock_table.specs.rule.Tables.{ListsRegions}
use Rattle.cluster_core.specs.rule.Parts.{world_state}
use Rattle.cluster_core.proofs.listings.LockLists.{first_locks}
use Rattle.cluster_core.proofs.world.World.file_locks.Given as goal

abbrev pub invariant-loop-index : goal.invariant-loop-index
invariant-loop-index l = ListsRegions (first_locks (world_state l.self) l.file l.index) l.locks.items
