use Rattle.std.proofs.Common.{◌∙◌, sym, subst, ◌≡◌}
use Rattle.node_core.specs.rule.Parts.{node_state}
use Rattle.cluster_core.specs.rule.Journals.{RunFields}
use Rattle.cluster_core.specs.rule.Parts.{world_state}
use Rattle.cluster_core.proofs.steps.Actors.{restart_keeps}
use Rattle.cluster_core.proofs.run.Run.restart.Goals as goal

pub returns-clause-begun : goal.returns-clause-begun
returns-clause-begun c =
    let P : RunFields → Type 0 = λ r. node_state c.in_ok-begun.begun.value ≡ (world_state r.world).nodes c.args.node in
    let went = c.in_ok-take.ensures.ok in
    let was : P c.args.self.now = subst P c.self.view_is c.in_ok-begun.ensures in
    was ∙ sym (restart_keeps (world_state c.args.self.now.world) c.args.node _ went.1)
