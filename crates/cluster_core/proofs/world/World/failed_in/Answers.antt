use Rattle.std.proofs.Common.{◌≡◌, ◌∙◌}
use Rattle.messages.specs.rule.Members.{was_declared, members_state}
use Rattle.cluster_core.specs.rule.World.{has_failed}
use Rattle.cluster_core.specs.rule.Parts.{WorldParts, world_state}
use Rattle.cluster_core.proofs.steps.EpochSteps.{failed_there, opened}
use Rattle.cluster_core.proofs.world.World.failed_in.Goals as goal

pub returns : goal.returns
returns c =
    let P : WorldParts → Type 0 = λ q. was_declared (members_state c.self.inside.members.servers) c.args.file c.args.epoch ≡ has_failed (world_state q) c.args.file c.args.epoch in
    c.failed.ensures ∙ opened P _ _ c.args.file c.self.view_is c.requires (λ number. failed_there _ c.self.invariant c.args.file number c.args.epoch)
