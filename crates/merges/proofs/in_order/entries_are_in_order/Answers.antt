use Rattle.merges.specs.declared.logged.LoggedEntry.{LoggedEntry}
use Rattle.merges.proofs.Orders.{one_more}
use Rattle.merges.proofs.in_order.entries_are_in_order.Goals as goal

pub loop-index-preserved : goal.loop-index-preserved
loop-index-preserved c = one_more LoggedEntry (λ x. x.interval.ended) c.args.entries.now c.loop-index.index _ _ c.loop-index-test.true c.loop-index.invariant c.if-entries-index.false
