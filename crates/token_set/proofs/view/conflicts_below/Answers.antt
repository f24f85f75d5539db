use Rattle.std.proofs.Common.{sym, ap, ◌∙◌, arith}
use Rattle.intervals.specs.rule.Bytes.{Range}
use Rattle.token_set.proofs.TokenLaws.{none-conflicts}
use Rattle.token_set.proofs.ViewLaws.{conflict-byte}
use Rattle.token_set.proofs.view.conflicts_below.Goals as goal

pub returns-clause-some : goal.returns-clause-some
returns-clause-some c = λ yes.
    let over_lo = ap (λ (s : Range). s.lo) c.over.view_is in
    let over_hi = ap (λ (s : Range). s.hi) c.over.view_is in
    let lo = ap (λ (s : Range). s.lo) c.span.view_is in
    let hi = ap (λ (s : Range). s.hi) c.span.view_is in
    let x = conflict-byte _ (record { lo = c.span.inside.lo; hi = c.min.result }) _ (sym c.conflicts.ensures ∙ yes) in
    (x.0, omega (arith, x.2, over_lo, c.min.ensures, c.if-over-span.false), omega (arith, x.1, lo), omega (arith, x.2, hi, c.min.ensures), x.3)

pub returns-clause-none : goal.returns-clause-none
returns-clause-none c = λ no b below from to here.
    let over_lo = ap (λ (s : Range). s.lo) c.over.view_is in
    let over_hi = ap (λ (s : Range). s.hi) c.over.view_is in
    let lo = ap (λ (s : Range). s.lo) c.span.view_is in
    let hi = ap (λ (s : Range). s.hi) c.span.view_is in
    none-conflicts _ (record { lo = c.span.inside.lo; hi = c.min.result }) _ (sym c.conflicts.ensures ∙ no) b (omega (arith, from, lo)) (omega (arith, below, to, over_lo, hi, c.min.ensures)) here
