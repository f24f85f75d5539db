use Rattle.std.proofs.Common.{◌≡◌, ◌+◌, ◌≤◌, le-leb, length, ap, sym, arith}
use Rattle.intervals.specs.rule.Bytes.{Range, greatest, number_of_runs, put}
use Rattle.intervals.specs.code.Runs.{AreRuns, EndsBelow}
use Rattle.intervals.specs.rule.Runs.{value_at}
use Rattle.intervals.proofs.StartsWith.{number-few}
use Rattle.intervals.proofs.Rows.{few_runs}
use Rattle.intervals.proofs.tree_map.TreeMap.stays_within.Goals as goal

pub overflow_add-self-inside : goal.overflow_add-self-inside
overflow_add-self-inside g c = omega (arith, few_runs _ (greatest + 1) c.self.invariant.0 c.self.invariant.1, c.self.invariant.3)

pub returns-then-self-most : goal.returns-then-self-most
returns-then-self-most g c =
    let now = c.args.self.now in
    let lo : c.span.inside.lo ≡ c.args.span.lo = ap (λ (s : Range). s.lo) c.span.view_is in
    let hi : c.span.inside.hi ≡ c.args.span.hi = ap (λ (s : Range). s.hi) c.span.view_is in
    let runs : AreRuns now = rw (← c.self.view_is) c.self.invariant.0 in
    let ends : EndsBelow now (greatest + 1) = rw (← c.self.view_is) c.self.invariant.1 in
    let len : c.self.inside.starts ≡ length now = rw (← c.self.view_is) c.self.invariant.3 in
    let few : number_of_runs g.V.PartialEq.eq (put (value_at now) c.args.span c.args.value) ≤ length now + 2 = number-few g.V.PartialEq.eq g.met.V.Exact.exact g.met.V.Eq.laws.refl now c.args.span c.args.value runs ends (omega (arith, lo, hi, c.span.invariant.0)) (omega (arith, hi, c.span.invariant.1)) in
    sym (le-leb _ _ (omega (arith, few, len, c.if-self-most.true)))
