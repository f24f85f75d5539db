use Rattle.std.proofs.Common.{sym, append-nil}
use Rattle.std.proofs.lemmas.Result.{IfOk-from_err}
use Rattle.cluster_core.specs.rule.Listings.{token_run}
use Rattle.cluster_core.proofs.common.Lists.{mapped_more, mapped_all}
use Rattle.cluster_core.proofs.world.listings.push_runs.Goals as goal

pub loop-run-init : goal.loop-run-init
loop-run-init c = sym (append-nil c.args.tokens.now.items)

pub loop-run-preserved : goal.loop-run-preserved
loop-run-preserved c =
    mapped_more (token_run c.args.node c.args.incarnation c.args.file) c.args.runs.now c.loop-run.run-index c.args.tokens.now.items c.loop-run.tokens.items c.loop-run.invariant c.run-item.result c.push.new.self.items c.loop-run-test.true c.run-item.is c.in_ok-push.ensures.items

pub returns : goal.returns
returns c =
    mapped_all (token_run c.args.node c.args.incarnation c.args.file) c.args.runs.now c.loop-run.run-index c.args.tokens.now.items c.loop-run.tokens.items c.loop-run.invariant c.loop-run-test.false

pub returns-in_err-push : goal.returns-in_err-push
returns-in_err-push c = IfOk-from_err c.from_residual.result _ c.from_residual.ensures.0
