use Rattle.std.proofs.Common.{sym, append-nil}
use Rattle.std.proofs.lemmas.Result.{IfOk-from_err}
use Rattle.cluster_core.specs.rule.Listings.{held_lock}
use Rattle.cluster_core.proofs.common.Lists.{mapped_more, mapped_all}
use Rattle.cluster_core.proofs.world.listings.push_regions.Goals as goal

pub loop-lock-init : goal.loop-lock-init
loop-lock-init c = sym (append-nil c.args.locks.now.items)

pub loop-lock-preserved : goal.loop-lock-preserved
loop-lock-preserved c =
    mapped_more (held_lock c.args.file) c.args.regions.now c.loop-lock.lock-index c.args.locks.now.items c.loop-lock.locks.items c.loop-lock.invariant c.lock-item.result c.push.new.self.items c.loop-lock-test.true c.lock-item.is c.in_ok-push.ensures.items

pub returns : goal.returns
returns c = mapped_all (held_lock c.args.file) c.args.regions.now c.loop-lock.lock-index c.args.locks.now.items c.loop-lock.locks.items c.loop-lock.invariant c.loop-lock-test.false

pub returns-in_err-push : goal.returns-in_err-push
returns-in_err-push c = IfOk-from_err c.from_residual.result _ c.from_residual.ensures.0
