use Rattle.std.proofs.Common.{ℕ, subst, sym, arith, List}
use Rattle.std.specs.BinaryHeap.{heap_items}
use Rattle.merges.specs.code.Merging.{Covers}
use Rattle.merges.proofs.Covering.{of_log, renewed}
use Rattle.merges.proofs.ends.Ends.renew.Goals.{in-Some-get, in-None}
use Rattle.merges.proofs.ends.Ends.renew.Goals as goal

pub returns : goal.returns
returns c covers =
    let old = subst (λ (ends : List (ℕ × ℕ)). Covers ends c.args.logs.now) (sym c.self.view_is) covers in
    elim c.match-get.branch [
      | in-Some-get w ↦
          renewed (heap_items c.self.inside.heap) (heap_items c.pop.new.self) (heap_items c.push.new.self) c.args.logs.now c.in-Some.field-0-0 c.in-Some.index c.match-get.end c.in-Some.ensures.permutation c.in_ok-push.ensures.permutation
          (of_log c.args.logs.now c.in-Some.index w.least_end-end.result c.match-get.end w.in-Some-get.log.now w.in-Some-get.ensures.lookup.1 w.end-is w.least_end-end.ensures.lower) old
      | in-None w ↦
          renewed (heap_items c.self.inside.heap) (heap_items c.pop.new.self) (heap_items c.push.new.self) c.args.logs.now c.in-Some.field-0-0 c.in-Some.index c.match-get.end c.in-Some.ensures.permutation c.in_ok-push.ensures.permutation
          (λ within d k y inside. omega (arith, w.end-is)) old
    ]
