use Rattle.std.proofs.Common.{◌≡◌, ℕ, ◌+◌, ◌≤◌, length, ap, subst, if◌then◌else◌, ◌∙◌, arith}
use Rattle.intervals.specs.rule.Bytes.{Range, greatest, begins_after, starts_below}
use Rattle.intervals.specs.code.Runs.{AreRuns, EndsBelow}
use Rattle.intervals.specs.rule.Runs.{value_at}
use Rattle.intervals.proofs.StartsWith.{before, before-is, number-written}
use Rattle.intervals.proofs.vec_map.VecMap.starts_with.Goals as goal

pub returns : goal.returns
returns g c =
    let eq = g.V.PartialEq.eq in
    let now = c.args.self.now in
    let lo : c.span.inside.lo ≡ c.args.span.lo = ap (λ (s : Range). s.lo) c.span.view_is in
    let hi : c.span.inside.hi ≡ c.args.span.hi = ap (λ (s : Range). s.hi) c.span.view_is in
    let top : c.span.inside.hi + 2 ≡ c.args.span.hi + 1 + 1 = omega (arith, hi) in
    let here : c.deref.result.now ≡ now = c.deref.ensures.value ∙ c.self.view_is in
    let again : c.deref-2.result.now ≡ now = c.deref-2.ensures.value ∙ c.self.view_is in
    let low : c.begin_below-below.result ≡ starts_below eq (value_at now) c.args.span.lo = c.begin_below-below.ensures.count ∙ (λ i. starts_below eq (value_at (here i)) (lo i)) in
    let high : c.begin_below.result ≡ starts_below eq (value_at now) (c.args.span.hi + 1 + 1) = c.begin_below.ensures.count ∙ (λ i. starts_below eq (value_at (again i)) (top i)) in
    let few : c.begin_below.result ≤ length now = subst (λ l. c.begin_below.result ≤ length l) again c.begin_below.ensures.within in
    let before_it : c.before-2.result ≡ before (value_at now) c.args.span.lo = before-is (value_at now) c.span.inside.lo c.before-2.result c.before-2.ensures.first c.before-2.ensures.other ∙ ap (before (value_at now)) lo in
    let first : c.begin_after-first.result ≡ (if begins_after eq (before (value_at now) c.args.span.lo) c.args.value then 1 else 0) = c.begin_after-first.ensures ∙ ap (λ x. if begins_after eq x c.args.value then 1 else 0) before_it in
    let after_it = c.get.ensures ∙ ap (λ (n : ℕ). value_at now (n + 1)) hi in
    let next : c.begin_after-next.result ≡ (if begins_after eq c.args.value (value_at now (c.args.span.hi + 1)) then 1 else 0) = c.begin_after-next.ensures ∙ ap (λ x. if begins_after eq c.args.value x then 1 else 0) after_it in
    let runs : AreRuns now = subst AreRuns c.self.view_is c.self.invariant.0 in
    let ends : EndsBelow now (greatest + 1) = subst (λ l. EndsBelow l (greatest + 1)) c.self.view_is c.self.invariant.1 in
    let same : length c.self.inside.runs.items ≡ length now = ap length c.self.view_is in
    let len : c.len.result ≡ length now = omega (arith, same) in
    rw len (number-written eq g.met.V.Exact.exact g.met.V.Eq.laws.refl now c.args.span c.args.value c.begin_below-below.result c.begin_below.result c.begin_after-first.result c.begin_after-next.result runs ends (omega (arith, lo, hi, c.span.invariant.0)) (omega (arith, hi, c.span.invariant.1)) low high few first next)
