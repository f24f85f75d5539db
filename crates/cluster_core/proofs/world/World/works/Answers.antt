use Rattle.std.specs.Option.{is_some}
use Rattle.std.proofs.Common.{◌≡◌, ℕ, Option, ap, ◌∙◌}
use Rattle.messages.specs.rule.Members.{live_incarnation, members_state}
use Rattle.cluster_core.specs.rule.Parts.{WorldParts, works_at}
use Rattle.cluster_core.proofs.steps.EpochSteps.{works_there, opened}
use Rattle.cluster_core.proofs.world.World.works.Goals as goal

pub returns : goal.returns
returns c =
    let P : WorldParts → Type 0 = λ q. is_some (live_incarnation (members_state c.self.inside.members.servers) c.args.file) ≡ works_at q c.args.file in
    c.is_some.ensures
    ∙ (ap (λ (o : Option ℕ). is_some o) c.epoch.ensures.value
    ∙ opened P _ _ c.args.file c.self.view_is c.requires (λ number. works_there _ c.self.invariant c.args.file number))
