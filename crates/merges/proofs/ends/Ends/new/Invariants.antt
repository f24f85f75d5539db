use Rattle.std.specs.Prelude.{ℕ, ◌<◌}
use Rattle.std.specs.List.{Contains}
use Rattle.std.specs.BinaryHeap.{heap_items, IsHeap}
use Rattle.std.specs.Ordering.{nat_cmp, ordering_then}
use Rattle.merges.specs.code.Merging.{last_moment}
use Rattle.merges.proofs.ends.Ends.new.Given as goal

abbrev pub invariant-loop-index : goal.invariant-loop-index
invariant-loop-index l = record {
  ordered : IsHeap (λ x y. ordering_then (nat_cmp x.0 y.0) (nat_cmp x.1 y.1)) (heap_items l.heap);
  there : (k : ℕ) → k < l.index → Contains (heap_items l.heap) (last_moment, k);
}
