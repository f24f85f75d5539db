use Rattle.std.proofs.Common.{◌∙◌, ap}
use Rattle.messages.specs.declared.outcome.Outcome.{Outcome}
use Rattle.token_server.specs.rule.Parts.{server_state}
use Rattle.cluster_core.specs.rule.Parts.{WorldParts}
use Rattle.cluster_core.specs.code.Changes.{IsStart}
use Rattle.cluster_core.proofs.steps.EpochSteps.{may_start, opened}
use Rattle.cluster_core.proofs.world.World.next_server.Goals as goal

pub returns-clause-ok : goal.returns-clause-ok
returns-clause-ok c =
    let P : WorldParts → Type 0 = λ q. IsStart q c.args.file c.in_ok-begun-2.begun.value c.in_ok-begun.outcome.sends in
    let begins = ap server_state c.in_ok-begun-2.ensures.ok ∙ c.in_ok-begun.ensures.state in
    let asks = ap (λ (o : Outcome). o.sends) c.in_ok-begun.ensures.outcome in
    opened P _ _ c.args.file c.self.view_is c.requires (λ number. may_start _ c.self.invariant c.args.file number _ _ c.in_ok-begun-2.begun.value c.in_ok-begun.outcome.sends c.in_ok-epoch.ensures.ok (begins, asks))
