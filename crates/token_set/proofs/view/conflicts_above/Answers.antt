use Rattle.std.proofs.Common.{sym, ap, ◌∙◌, arith}
use Rattle.intervals.specs.rule.Bytes.{Range}
use Rattle.token_set.proofs.TokenLaws.{none-conflicts}
use Rattle.token_set.proofs.ViewLaws.{conflict-byte}
use Rattle.token_set.proofs.view.conflicts_above.Goals as goal

pub returns-clause-some : goal.returns-clause-some
returns-clause-some c = λ yes.
    let over_lo = ap (λ (s : Range). s.lo) c.over.view_is in
    let over_hi = ap (λ (s : Range). s.hi) c.over.view_is in
    let lo = ap (λ (s : Range). s.lo) c.span.view_is in
    let hi = ap (λ (s : Range). s.hi) c.span.view_is in
    let x = conflict-byte _ (record { lo = c.max.result; hi = c.span.inside.hi }) _ (sym c.conflicts.ensures ∙ yes) in
    (x.0, omega (arith, x.1, over_hi, c.max.ensures), omega (arith, x.1, lo, c.max.ensures), omega (arith, x.2, hi), x.3)

pub returns-clause-none : goal.returns-clause-none
returns-clause-none c = λ no b above from to here.
    let over_lo = ap (λ (s : Range). s.lo) c.over.view_is in
    let over_hi = ap (λ (s : Range). s.hi) c.over.view_is in
    let lo = ap (λ (s : Range). s.lo) c.span.view_is in
    let hi = ap (λ (s : Range). s.hi) c.span.view_is in
    none-conflicts _ (record { lo = c.max.result; hi = c.span.inside.hi }) _ (sym c.conflicts.ensures ∙ no) b (omega (arith, above, from, over_hi, lo, c.max.ensures)) (omega (arith, to, hi)) here
