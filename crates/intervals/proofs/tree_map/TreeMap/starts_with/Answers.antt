use Rattle.std.proofs.Common.{◌≡◌, ℕ, ◌+◌, ◌≤◌, length, ap, if◌then◌else◌, ◌∙◌, arith}
use Rattle.intervals.specs.rule.Bytes.{Range, greatest, begins_after, starts_below}
use Rattle.intervals.specs.code.Runs.{AreRuns, EndsBelow}
use Rattle.intervals.specs.rule.Runs.{value_at}
use Rattle.intervals.specs.code.Parts.{row_runs}
use Rattle.intervals.proofs.StartsWith.{before, before-is, one_few, number-written}
use Rattle.intervals.proofs.Rows.{few_runs}
use Rattle.intervals.proofs.tree_map.TreeMap.starts_with.Goals as goal

pub overflow_add-result : goal.overflow_add-result
overflow_add-result g c = omega (arith, few_runs _ (greatest + 1) c.self.invariant.0 c.self.invariant.1, c.self.invariant.3, one_few (begins_after g.V.PartialEq.eq c.before-2.result c.args.value), c.begin_after-first.ensures)

pub overflow_add-result-2 : goal.overflow_add-result-2
overflow_add-result-2 g c = omega (arith, few_runs _ (greatest + 1) c.self.invariant.0 c.self.invariant.1, c.self.invariant.3, one_few (begins_after g.V.PartialEq.eq c.before-2.result c.args.value), one_few (begins_after g.V.PartialEq.eq c.args.value c.get.result), c.begin_after-first.ensures, c.begin_after-next.ensures)

pub returns : goal.returns
returns g c =
    let eq = g.V.PartialEq.eq in
    let now = c.args.self.now in
    let lo : c.span.inside.lo ≡ c.args.span.lo = ap (λ (s : Range). s.lo) c.span.view_is in
    let hi : c.span.inside.hi ≡ c.args.span.hi = ap (λ (s : Range). s.hi) c.span.view_is in
    let top : c.span.inside.hi + 2 ≡ c.args.span.hi + 1 + 1 = omega (arith, hi) in
    let here : row_runs c.self.inside.row ≡ now = c.self.view_is in
    let count : starts_below eq (value_at c.args.self.now) c.args.span.lo + c.begin_within-within.result ≡ starts_below eq (value_at c.args.self.now) (c.args.span.hi + 1 + 1) = rw (← lo, ← top, ← here) c.begin_within-within.ensures.count in
    let few : starts_below eq (value_at c.args.self.now) (c.args.span.hi + 1 + 1) ≤ length now = rw (← top, ← here) c.begin_within-within.ensures.within in
    let before_it : c.before-2.result ≡ before (value_at c.args.self.now) c.args.span.lo = before-is (value_at c.args.self.now) c.span.inside.lo c.before-2.result c.before-2.ensures.first c.before-2.ensures.other ∙ ap (before (value_at c.args.self.now)) lo in
    let first : c.begin_after-first.result ≡ (if begins_after eq (before (value_at c.args.self.now) c.args.span.lo) c.args.value then 1 else 0) = c.begin_after-first.ensures ∙ ap (λ x. if begins_after eq x c.args.value then 1 else 0) before_it in
    let after_it = c.get.ensures ∙ ap (λ (n : ℕ). value_at c.args.self.now (n + 1)) hi in
    let next : c.begin_after-next.result ≡ (if begins_after eq c.args.value (value_at c.args.self.now (c.args.span.hi + 1)) then 1 else 0) = c.begin_after-next.ensures ∙ ap (λ x. if begins_after eq c.args.value x then 1 else 0) after_it in
    let runs : AreRuns now = rw (← c.self.view_is) c.self.invariant.0 in
    let ends : EndsBelow now (greatest + 1) = rw (← c.self.view_is) c.self.invariant.1 in
    let len : c.self.inside.starts ≡ length now = rw (← c.self.view_is) c.self.invariant.3 in
    let all = number-written eq g.met.V.Exact.exact g.met.V.Eq.laws.refl now c.args.span c.args.value (starts_below eq (value_at c.args.self.now) c.args.span.lo) (starts_below eq (value_at c.args.self.now) (c.args.span.hi + 1 + 1)) c.begin_after-first.result c.begin_after-next.result runs ends (omega (arith, lo, hi, c.span.invariant.0)) (omega (arith, hi, c.span.invariant.1)) (λ i. starts_below eq (value_at c.args.self.now) c.args.span.lo) (λ i. starts_below eq (value_at c.args.self.now) (c.args.span.hi + 1 + 1)) few first next in
    omega (arith, len, count, few, all)
