use Rattle.std.proofs.Common.{◌≡◌, ap}
use Rattle.intervals.specs.rule.Bytes.{Range}
use Rattle.lock_table.proofs.ListingLemmas.{listed-start, listed-more, listed-end}
use Rattle.lock_table.proofs.owner_locks.OwnerLocks.push_regions.Goals as goal

pub loop-region-init : goal.loop-region-init
loop-region-init c = listed-start _ _

pub loop-region-preserved : goal.loop-region-preserved
loop-region-preserved c =
    let hi : c.span.inside.hi ≡ c.in-Some.region.span.hi = ap (λ (s : Range). s.hi) c.span.view_is in
    rw (c.in_ok-push.ensures.items, hi) (listed-more _ _ _ _ c.loop-region.invariant c.in-Some.region c.in-Some.ensures)

pub returns : goal.returns
returns c = listed-end _ _ _ _ c.loop-region.invariant c.in_default.ensures
