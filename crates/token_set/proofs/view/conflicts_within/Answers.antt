use Rattle.std.specs.Prelude.{max}
use Rattle.std.proofs.Common.{sym, ap, ◌∙◌, arith}
use Rattle.intervals.specs.rule.Bytes.{Range}
use Rattle.token_set.proofs.view.conflicts_within.Goals as goal

pub returns-clause-some : goal.returns-clause-some
returns-clause-some c = λ yes.
    let over_lo = ap (λ (s : Range). s.lo) c.over.view_is in
    let over_hi = ap (λ (s : Range). s.hi) c.over.view_is in
    let lo = ap (λ (s : Range). s.lo) c.span.view_is in
    let hi = ap (λ (s : Range). s.hi) c.span.view_is in
    let b = max c.args.over.lo c.args.span.lo in
    (b, omega arith, omega (arith, over_lo, over_hi, lo, hi, c.over.invariant.0, c.if-over-span.false), omega arith, omega (arith, over_lo, over_hi, lo, hi, c.span.invariant.0, c.if-span-over.false), sym c.is_in_way.ensures ∙ yes)
