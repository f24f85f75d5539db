use Rattle.std.proofs.Common.{subst}
use Rattle.messages.specs.declared.event.NodeInput.TheVariants.{Call, Interrupt, Retry}
use Rattle.node_core.specs.declared.event.NodeEvent.TheVariants.{Input}
use Rattle.node_core.specs.rule.Parts.{IsNode}
use Rattle.node_core.proofs.PlanLaws.{step-fits}
use Rattle.node_core.proofs.node.Node.plan_input.Goals as goal

pub returns-in-Call-clause-fits : goal.returns-in-Call-clause-fits
returns-in-Call-clause-fits c = step-fits c.args.self.now (Input (Call c.in-Call.pid c.in-Call.op)) c.plan_call.result (subst IsNode c.self.view_is c.self.invariant) c.plan_call.ensures.ok c.plan_call.ensures.fits

pub returns-in-Interrupt-clause-fits : goal.returns-in-Interrupt-clause-fits
returns-in-Interrupt-clause-fits c = step-fits c.args.self.now (Input (Interrupt c.in-Interrupt.pid)) c.plan_interrupt.result (subst IsNode c.self.view_is c.self.invariant) c.plan_interrupt.ensures.ok c.plan_interrupt.ensures.fits

pub returns-in-Retry-clause-fits : goal.returns-in-Retry-clause-fits
returns-in-Retry-clause-fits c = step-fits c.args.self.now (Input (Retry c.in-Retry.pid)) c.plan_retry.result (subst IsNode c.self.view_is c.self.invariant) c.plan_retry.ensures.ok c.plan_retry.ensures.fits
