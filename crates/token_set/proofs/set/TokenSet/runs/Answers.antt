use Rattle.std.proofs.Common.{◌≡◌, ap, arith}
use Rattle.intervals.specs.rule.Bytes.{Range}
use Rattle.token_set.proofs.TokenLaws.{listed_more}
use Rattle.token_set.proofs.set.TokenSet.runs.Goals as goal

pub loop-next-preserved : goal.loop-next-preserved
loop-next-preserved c =
    let hi : c.span.inside.hi ≡ c.in-Some.next.0.hi = ap (λ (s : Range). s.hi) c.span.view_is in
    record {
      listed = rw (c.in_ok-push.ensures.items, hi) (listed_more _ _ _ c.loop-next.invariant.listed c.in-Some.next.0 c.in-Some.next.1 (rw (← c.self.view_is) c.in-Some.ensures));
      within = omega arith;
    }
