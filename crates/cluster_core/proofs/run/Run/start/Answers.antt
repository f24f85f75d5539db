use Rattle.std.proofs.Common.{◌≡◌, ◌∙◌, sym, subst}
use Rattle.token_server.specs.rule.Parts.{server_state}
use Rattle.cluster_core.specs.rule.Journals.{RunFields}
use Rattle.cluster_core.specs.rule.Next.{next_server}
use Rattle.cluster_core.specs.rule.Parts.{world_state}
use Rattle.cluster_core.proofs.steps.Actors.{start_gives}
use Rattle.cluster_core.proofs.run.Run.start.Goals as goal

pub returns-clause-begun : goal.returns-clause-begun
returns-clause-begun c =
    let P : RunFields → Type 0 = λ r. server_state c.in_ok-begun.begun.value ≡ next_server (world_state r.world) c.args.file in
    let went = c.in_ok-take.ensures.ok in
    let was : P c.args.self.now = subst P c.self.view_is c.in_ok-begun.ensures.begins in
    was ∙ sym (start_gives (world_state c.args.self.now.world) c.args.file _ went.1)
