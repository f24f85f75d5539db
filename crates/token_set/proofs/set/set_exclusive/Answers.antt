use Rattle.std.proofs.Common.{◌≡◌, ap, arith}
use Rattle.intervals.specs.rule.Bytes.{Range}
use Rattle.token_set.proofs.TokenLaws.{done-start, done-more, done-end, done-none}
use Rattle.token_set.proofs.set.set_exclusive.Goals as goal

pub loop-lo-init : goal.loop-lo-init
loop-lo-init c = done-start _ _ _ _ (omega (arith, c.span.invariant))

pub loop-lo-preserved : goal.loop-lo-preserved
loop-lo-preserved c =
    let hi : c.exclusive.inside.hi ≡ c.in-Some.exclusive.hi = ap (λ (s : Range). s.hi) c.exclusive.view_is in
    rw (c.in_ok-set.ensures.ok, hi) (done-more _ _ _ _ _ _ c.in-Some.exclusive c.loop-lo.invariant c.in-Some.ensures)

pub returns-after-loop-lo : goal.returns-after-loop-lo
returns-after-loop-lo c = rw (← c.span.view_is) (done-end _ _ _ _ _ _ c.loop-lo.invariant c.loop-lo-test.false)

pub returns-in_default : goal.returns-in_default
returns-in_default c = rw (← c.span.view_is) (done-none _ _ _ _ _ _ c.loop-lo.invariant c.in_default.ensures)
