use Rattle.std.proofs.Common.{◌∙◌, List, subst, sym}
use Rattle.messages.specs.declared.event.Event.{Event}
use Rattle.cluster_core.specs.rule.Parts.{world_state}
use Rattle.player.specs.code.Rounds.{Adds, IsResendAt}
use Rattle.player.proofs.DueLists.{adds_none, no_resend, one_resend}
use Rattle.player.proofs.rounds.push_resend.Goals as goal

pub returns-then-not-is_working : goal.returns-then-not-is_working
returns-then-not-is_working c =
    let w = world_state c.args.world.now in
    adds_none (IsResendAt w c.args.file) c.args.events.now.items
    (λ event is. no_resend w c.args.file event (sym c.is_working.ensures ∙ c.if-not-is_working.true) is)

pub returns : goal.returns
returns c =
    let w = world_state c.args.world.now in
    subst (λ (l : List Event). Adds (IsResendAt w c.args.file) c.args.events.now.items l) (sym c.in_ok-push.ensures.items)
    (one_resend w c.args.file c.args.events.now.items (sym c.is_working.ensures ∙ c.if-not-is_working.false))
