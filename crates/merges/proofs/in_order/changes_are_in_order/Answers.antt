use Rattle.merges.specs.declared.logged.LoggedChange.{LoggedChange}
use Rattle.merges.proofs.Orders.{one_more}
use Rattle.merges.proofs.in_order.changes_are_in_order.Goals as goal

pub loop-index-preserved : goal.loop-index-preserved
loop-index-preserved c = one_more LoggedChange (λ x. x.interval.ended) c.args.changes.now c.loop-index.index _ _ c.loop-index-test.true c.loop-index.invariant c.if-changes-index.false
