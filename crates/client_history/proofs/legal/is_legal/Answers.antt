use Rattle.std.proofs.lemmas.Bool.{false≢true}
use Rattle.model.specs.rule.Locks.{no_locks}
use Rattle.lock_table.specs.rule.Tables.{held}
use Rattle.client_history.proofs.Orders.{is_at}
use Rattle.client_history.proofs.Steps.{leads_more, leads_nowhere}
use Rattle.client_history.proofs.legal.is_legal.Goals as goal

pub returns-then-not-branch : goal.returns-then-not-branch
returns-then-not-branch c =
    let calls = c.args.calls.now in
    let order = c.args.order.now in
    let at = is_at calls order c.loop-i.i-index c.index-calls-i.result c.requires c.loop-i-test.true c.index-calls-i.is in
    let done = c.in_ok-follow.ensures {u = tt} in
    (λ no. absurd (false≢true no), λ legal. absurd (leads_nowhere calls order c.loop-i.i-index c.index-calls-i.result at no_locks (held c.loop-i.table) c.loop-i.invariant.leads (done.never c.if-not-branch.true) legal.0 legal.1))

pub loop-i-preserved : goal.loop-i-preserved
loop-i-preserved c =
    let calls = c.args.calls.now in
    let order = c.args.order.now in
    let at = is_at calls order c.loop-i.i-index c.index-calls-i.result c.requires c.loop-i-test.true c.index-calls-i.is in
    let done = c.in_ok-follow.ensures {u = tt} in
    record {
      limit = c.follow.ensures.limit;
      leads = leads_more calls order c.loop-i.i-index c.index-calls-i.result at no_locks (held c.loop-i.table) c.loop-i.invariant.leads (held c.follow.new.table) (done.taken c.if-not-branch.false);
    }
