use Rattle.std.proofs.Common.{◌≡◌, ◌∙◌}
use Rattle.messages.specs.rule.Members.{was_declared as was_declared_of, members_state}
use Rattle.cluster_core.specs.rule.World.{was_declared}
use Rattle.cluster_core.specs.rule.Parts.{WorldParts, world_state}
use Rattle.cluster_core.proofs.steps.MemberSteps.{declared_there, opened}
use Rattle.cluster_core.proofs.world.World.was_declared.Goals as goal

pub returns : goal.returns
returns c =
    let P : WorldParts → Type 0 = λ q. was_declared_of (members_state c.self.inside.members.nodes) c.args.node c.args.incarnation ≡ was_declared (world_state q) c.args.node c.args.incarnation in
    c.declared.ensures ∙ opened P _ _ c.args.node c.self.view_is c.requires (λ number. declared_there _ c.self.invariant c.args.node number c.args.incarnation)
