use Rattle.std.specs.Prelude.{Ok, Err, None}
use Rattle.std.proofs.Common.{ap, sym, ◌∙◌}
use Rattle.messages.specs.declared.refusal.StepError.TheVariants.{Stranger}
use Rattle.node_core.specs.rule.State.{open_call_of, outcome}
use Rattle.node_core.specs.rule.Try.{tried_if}
use Rattle.node_core.specs.rule.Calls.{is_pid}
use Rattle.node_core.specs.rule.Parts.{node_state}
use Rattle.node_core.specs.code.Plans.{drafted}
use Rattle.node_core.proofs.PlanLaws.{on, outcome-planned}
use Rattle.node_core.proofs.node.Node.plan_retry.Goals as goal

pub returns-clause-ok : goal.returns-clause-ok
returns-clause-ok c =
    let p = c.args.self.now in
    let s = node_state p in
    let came = (λ i. tried_if (drafted p (sym c.none.ensures i)) (sym c.open_call_of.ensures.value i)) ∙ c.in_ok-effect.ensures.value in
    on (is_pid c.args.pid) (Ok (outcome None (tried_if s (open_call_of s c.args.pid)))) (Err Stranger) (sym c.is_pid.ensures ∙ c.if-not-is_pid.false)
    ∙ ap Ok (outcome-planned p (tried_if s (open_call_of s c.args.pid)) c.in_ok-effect.effect None c.change.result came c.change.ensures)
