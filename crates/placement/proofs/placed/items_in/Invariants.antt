use Rattle.std.proofs.Common.{◌≡◌, take}
use Rattle.cluster_core.specs.code.Calls.{items_in}
use Rattle.placement.specs.code.Indexes.{standing}
use Rattle.placement.proofs.placed.items_in.Given as goal

abbrev pub invariant-loop-index : goal.invariant-loop-index
invariant-loop-index l = l.items.items ≡ items_in (standing l.entries 0 (take l.index l.slots))
