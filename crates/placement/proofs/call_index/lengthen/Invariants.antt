use Rattle.std.proofs.Common.{◌≡◌, ◌+◌, ◌-◌, ℕ}
use Rattle.placement.specs.code.Indexes.{list_at}
use Rattle.placement.proofs.call_index.lengthen.Given as goal

abbrev pub invariant-loop-alloc : goal.invariant-loop-alloc
invariant-loop-alloc g l = (k : ℕ) → list_at l.lists.items k ≡ list_at l.fn.lists.items k

abbrev pub decreases-loop-alloc : goal.decreases-loop-alloc
decreases-loop-alloc g l = l.place + 1 - l.lists.len
