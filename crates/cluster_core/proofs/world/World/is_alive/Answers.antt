use Rattle.std.specs.Option.{is_some}
use Rattle.std.proofs.Common.{◌≡◌, ℕ, Option, ap, ◌∙◌}
use Rattle.messages.specs.rule.Members.{live_incarnation, members_state}
use Rattle.cluster_core.specs.rule.Parts.{WorldParts, alive_at}
use Rattle.cluster_core.proofs.steps.MemberSteps.{alive_there, opened}
use Rattle.cluster_core.proofs.world.World.is_alive.Goals as goal

pub returns : goal.returns
returns c =
    let P : WorldParts → Type 0 = λ q. is_some (live_incarnation (members_state c.self.inside.members.nodes) c.args.node) ≡ alive_at q c.args.node in
    c.is_some.ensures
    ∙ (ap (λ (o : Option ℕ). is_some o) c.alive.ensures.value
    ∙ opened P _ _ c.args.node c.self.view_is c.requires (λ number. alive_there _ c.self.invariant c.args.node number))
