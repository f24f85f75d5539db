use Rattle.std.specs.Prelude.{◌≡◌, ◌+◌, Ok, Err, IfOk}
use Rattle.std.proofs.Common.{ap, sym, subst, ◌∙◌}
use Rattle.model.specs.declared.reply.Reply.{Reply}
use Rattle.model.specs.rule.Limits.{IsNumber}
use Rattle.descriptors.specs.code.Rows.{resolved}
use Rattle.descriptors.specs.rule.Rows.{processes}
use Rattle.node_core.specs.rule.State.{Effect}
use Rattle.node_core.specs.rule.Try.{settled, with_freed}
use Rattle.node_core.specs.rule.Parts.{NodeParts, node_state}
use Rattle.node_core.specs.code.Plans.{numbered, effect_of}
use Rattle.node_core.proofs.ShutLaws.{close-found, close-refused, opened-within-shape}
use Rattle.node_core.proofs.node.Node.call_close.Goals as goal

pub tell_freed-requires-clause-file : goal.tell_freed-requires-clause-file
tell_freed-requires-clause-file c = rw (← c.self.view_is) (opened-within-shape _ c.args.pid c.args.fd c.in-Ok.opened c.self.invariant (sym c.in-Ok.ensures.value))

pub returns-in_ok-effect-in-Ok-clause-value : goal.returns-in_ok-effect-in-Ok-clause-value
returns-in_ok-effect-in-Ok-clause-value c =
    let p : NodeParts = c.args.self.now in
    let o = c.in-Ok.opened in
    let is = subst (λ (q : NodeParts). resolved (processes q.processes) c.args.pid c.args.fd ≡ Ok o) c.self.view_is (sym c.in-Ok.ensures.value) in
    let within : IsNumber (node_state p).shape.files o.file = rw (← c.self.view_is) (opened-within-shape _ c.args.pid c.args.fd o c.self.invariant (sym c.in-Ok.ensures.value)) in
    let all = close-found p c.args.pid c.args.fd o is within ∙ ap (with_freed o.file) c.in_ok-effect-in-Ok.ensures.value in
    subst (λ (x : Effect). IfOk c.tell_freed.result (λ e. x ≡ effect_of p e)) (sym all) c.tell_freed.ensures.value

pub returns-in-Err-clause-value : goal.returns-in-Err-clause-value
returns-in-Err-clause-value c =
    let p : NodeParts = c.args.self.now in
    let is = subst (λ (q : NodeParts). resolved (processes q.processes) c.args.pid c.args.fd ≡ Err c.in-Err.error) c.self.view_is (sym c.in-Err.ensures.value) in
    let refused =
    close-refused p c.args.pid c.args.fd c.in-Err.error is
    ∙ ap (λ (r : Reply). settled (numbered (node_state p)) ((node_state p).calls + 1) ((node_state p).table, r)) (sym c.reply.ensures) in
    subst (λ (x : Effect). IfOk c.answer_call-in-Err.result (λ e. x ≡ effect_of p e)) (sym refused) c.answer_call-in-Err.ensures.value
