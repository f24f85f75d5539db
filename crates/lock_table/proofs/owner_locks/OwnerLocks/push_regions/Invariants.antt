use Rattle.std.proofs.Common.{◌+◌, ◌-◌}
use Rattle.intervals.specs.rule.Bytes.{greatest}
use Rattle.lock_table.proofs.ListingLemmas.{Listed}
use Rattle.lock_table.proofs.owner_locks.OwnerLocks.push_regions.Given as goal

abbrev pub invariant-loop-region : goal.invariant-loop-region
invariant-loop-region l = Listed l.self l.from l.initial.locks.items l.locks.items

abbrev pub decreases-loop-region : goal.decreases-loop-region
decreases-loop-region l = greatest + 1 - l.from
