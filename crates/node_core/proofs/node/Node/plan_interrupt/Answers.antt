use Rattle.std.specs.Prelude.{Ok, Err, None}
use Rattle.std.proofs.Common.{ap, sym, ◌∙◌}
use Rattle.messages.specs.declared.refusal.StepError.TheVariants.{Stranger}
use Rattle.node_core.specs.rule.State.{open_call_of, outcome}
use Rattle.node_core.specs.rule.Interrupts.{interrupted}
use Rattle.node_core.specs.rule.Calls.{is_pid}
use Rattle.node_core.specs.rule.Parts.{node_state}
use Rattle.node_core.proofs.PlanLaws.{on, outcome-planned}
use Rattle.node_core.proofs.node.Node.plan_interrupt.Goals as goal

pub returns-clause-ok : goal.returns-clause-ok
returns-clause-ok c =
    let p = c.args.self.now in
    let s = node_state p in
    let came = ap (interrupted s) (sym c.open_call_of.ensures.value) ∙ c.in_ok-effect.ensures.value in
    on (is_pid c.args.pid) (Ok (outcome None (interrupted s (open_call_of s c.args.pid)))) (Err Stranger) (sym c.is_pid.ensures ∙ c.if-not-is_pid.false)
    ∙ ap Ok (outcome-planned p (interrupted s (open_call_of s c.args.pid)) c.in_ok-effect.effect None c.change.result came c.change.ensures)
