use Rattle.std.proofs.Common.{◌≡◌, true, rules, Ok}
use Rattle.messages.specs.rule.Messages.{is_within}
use Rattle.messages.specs.declared.entry.Entry.{Entry}
use Rattle.cluster_core.specs.rule.World.{WorldState}
use Rattle.cluster_core.specs.rule.Next.{restart_rule}
use Rattle.cluster_core.specs.rule.Parts.{WorldParts, world_state}
use Rattle.cluster_core.proofs.steps.MemberSteps.{restart_is, opened}
use Rattle.cluster_core.proofs.world.World.may_restart.Goals as goal

pub returns-clause-ok : goal.returns-clause-ok
returns-clause-ok c =
    let number : is_within c.args.self.now.shape.nodes c.args.node ≡ true = search rules in
    let P : WorldParts → Type 0 = λ q. (is_within q.shape.nodes c.args.node ≡ true) × (made : WorldState × Entry) × (restart_rule (world_state q) c.args.node ≡ Ok made) in
    opened P _ _ c.args.node c.self.view_is number (λ before. let is = restart_is _ c.self.invariant c.args.node before _ _ c.in_ok-next.ensures.ok in (before, is.0, is.1))
