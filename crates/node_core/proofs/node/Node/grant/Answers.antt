use Rattle.std.specs.Prelude.{◌≡◌, IfOk}
use Rattle.std.proofs.Common.{ap, sym, subst, ◌∙◌}
use Rattle.messages.specs.declared.message.Message.{Message}
use Rattle.node_core.specs.declared.token_command.TokenCommand.{TokenCommand}
use Rattle.node_core.specs.rule.State.{open_call}
use Rattle.node_core.specs.rule.Try.{tried_if}
use Rattle.node_core.specs.rule.Commands.{in_epoch, before, granted}
use Rattle.node_core.specs.rule.Parts.{node_state, after_grant}
use Rattle.node_core.specs.code.Plans.{effect_of}
use Rattle.node_core.proofs.PlanLaws.{in_order-next, granted-in, effect-before}
use Rattle.node_core.proofs.node.Node.grant.Goals as goal

pub returns-clause-value : goal.returns-clause-value
returns-clause-value c =
    let p = c.args.self.now in
    let s = node_state p in
    let k = c.args.command.now in
    let t = in_epoch s k.file k.number in
    let does = tried_if (after_grant s k c.args.span) (open_call s k.call.number) in
    let waits = c.open_call-waiting.ensures.value ∙ ap (λ (k : TokenCommand). open_call s k.call.number) c.command.view_is in
    let tries = (λ i. tried_if (sym c.in_ok-draft.ensures.state i) (sym waits i)) ∙ c.in_ok-effect.ensures.value in
    let sends = effect-before p does c.message.result c.in_ok-effect.effect c.with_first.result tries c.with_first.ensures in
    let made = subst (λ (m : Message). IfOk c.with_first.result (λ e. before m does ≡ effect_of p e)) (c.message.ensures ∙ c.taken.ensures) sends in
    let same = granted-in s k.file k.number k.call k.mode c.args.span in
    in_order-next t p k.file k.number (granted t k.file k.number k.call k.mode c.args.span) (granted s k.file k.number k.call k.mode c.args.span) c.with_first.result (sym c.is_next.ensures ∙ c.if-not-is_next.false) same made
