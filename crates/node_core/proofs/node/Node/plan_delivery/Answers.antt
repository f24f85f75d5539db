use Rattle.std.proofs.Common.{subst}
use Rattle.node_core.specs.declared.event.NodeEvent.TheVariants.{Deliver}
use Rattle.node_core.specs.rule.Parts.{IsNode}
use Rattle.node_core.proofs.PlanLaws.{step-fits}
use Rattle.node_core.proofs.node.Node.plan_delivery.Goals as goal

pub returns-clause-fits : goal.returns-clause-fits
returns-clause-fits c = step-fits c.args.self.now (Deliver c.args.message.now) c.plan_message.result (subst IsNode c.self.view_is c.self.invariant) c.plan_message.ensures.ok c.plan_message.ensures.fits
