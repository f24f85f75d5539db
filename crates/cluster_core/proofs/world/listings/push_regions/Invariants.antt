use Rattle.std.proofs.Common.{◌≡◌, ◌++◌, map, take}
use Rattle.cluster_core.specs.rule.Listings.{held_lock}
use Rattle.cluster_core.proofs.world.listings.push_regions.Given as goal

abbrev pub invariant-loop-lock : goal.invariant-loop-lock
invariant-loop-lock l = l.locks.items ≡ l.initial.locks.items ++ map (held_lock l.file) (take l.lock-index l.regions)
