use Rattle.std.proofs.Common.{◌≡◌, ℕ, inl, inr, subst, arith}
use Rattle.std.proofs.lemmas.Bool.{cases_lt}
use Rattle.std.proofs.lemmas.List.Sorted.{Contains-permutation}
use Rattle.std.specs.List.{Contains}
use Rattle.std.specs.BinaryHeap.{heap_items}
use Rattle.merges.specs.code.Merging.{last_moment}
use Rattle.merges.proofs.Covering.{contains_behind, contains_first}
use Rattle.merges.proofs.ends.Ends.new.Goals as goal

pub loop-index-preserved : goal.loop-index-preserved
loop-index-preserved c = record {
  ordered = c.in_ok-push.ensures.heap_order c.loop-index.invariant.ordered;
  there = λ k below. elim (cases_lt k c.loop-index.index) [
    | inl earlier ↦ Contains-permutation _ _ (last_moment, k) c.in_ok-push.ensures.permutation (contains_behind (last_moment, c.loop-index.index) (last_moment, k) (heap_items c.loop-index.heap) (c.loop-index.invariant.there k earlier))
    | inr later ↦
        let here : c.loop-index.index ≡ k = omega (arith, later, below) in
        subst (λ (j : ℕ). Contains (heap_items c.push.new.self) (last_moment, j)) here
        (Contains-permutation _ _ (last_moment, c.loop-index.index) c.in_ok-push.ensures.permutation (contains_first (last_moment, c.loop-index.index) (heap_items c.loop-index.heap)))
  ];
}

pub returns : goal.returns
returns c logs few k d within = (last_moment, c.loop-index.invariant.there k (omega (arith, within, few, c.loop-index-test.false)), λ j y inside. omega arith)
