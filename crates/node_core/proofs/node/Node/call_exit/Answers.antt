use Rattle.std.specs.Prelude.{◌≡◌, IfOk}
use Rattle.std.proofs.Common.{ap, sym, subst, ◌∙◌}
use Rattle.model.specs.rule.Descriptors.{has_open}
use Rattle.descriptors.specs.rule.Rows.{processes}
use Rattle.node_core.specs.rule.State.{Effect}
use Rattle.node_core.specs.rule.Try.{with_freed_of}
use Rattle.node_core.specs.rule.Parts.{NodeParts, node_state}
use Rattle.node_core.specs.code.Plans.{effect_of}
use Rattle.node_core.proofs.ShutLaws.{exit-done, exit-refused}
use Rattle.node_core.proofs.node.Node.call_exit.Goals as goal

pub returns-then-not-is_running-clause-value : goal.returns-then-not-is_running-clause-value
returns-then-not-is_running-clause-value c =
    let stopped = ap (λ (q : NodeParts). (processes q.processes).runs c.args.pid) (sym c.self.view_is) ∙ sym c.is_running.ensures ∙ c.if-not-is_running.true in
    subst (λ (x : Effect). IfOk c.answer_exit.result (λ e. x ≡ effect_of c.args.self.now e)) (sym (exit-refused c.args.self.now c.args.pid stopped)) c.answer_exit.ensures.value

pub returns-clause-value : goal.returns-clause-value
returns-clause-value c =
    let p : NodeParts = c.args.self.now in
    let runs = ap (λ (q : NodeParts). (processes q.processes).runs c.args.pid) (sym c.self.view_is) ∙ sym c.is_running.ensures ∙ c.if-not-is_running.false in
    let all = exit-done p c.args.pid runs ∙ ap (with_freed_of (has_open (processes p.processes) c.args.pid) (node_state p).shape.files) c.in_ok-effect.ensures.value in
    subst (λ (x : Effect). IfOk c.tell_open.result (λ e. x ≡ effect_of p e)) (sym all) c.tell_open.ensures.value
