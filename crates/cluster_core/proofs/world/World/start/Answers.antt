use Rattle.std.proofs.Common.{◌≡◌, ◌<◌, ◌≤◌, ◌∙◌, ◌++◌, false, List, ap, sym, subst, Ok, Err}
use Rattle.std.proofs.lemmas.Result.{err_from_is_err_and}
use Rattle.messages.specs.declared.refusal.Refused.{Refused}
use Rattle.messages.specs.rule.Members.{incarnation_in}
use Rattle.messages.specs.declared.message.Message.{Message}
use Rattle.token_server.specs.rule.Parts.{ServerParts}
use Rattle.cluster_core.specs.rule.World.{journal_limit, most_incarnations}
use Rattle.cluster_core.specs.rule.Next.{start_rule}
use Rattle.cluster_core.specs.rule.Parts.{WorldParts, works_at, world_state}
use Rattle.cluster_core.specs.code.Changes.{IsStart}
use Rattle.cluster_core.proofs.steps.EpochSteps.{started_parts, started_world, started_done, start_taken, opened}
use Rattle.cluster_core.proofs.world.World.start.Goals as goal

pub invariant_of-self-2 : goal.invariant_of-self-2
invariant_of-self-2 c =
    let made = subst (λ (s : ServerParts). IsStart c.args.self.now c.args.file s c.args.sends) (sym c.into_inner.ensures) c.requires.made in
    let before = subst (λ (q : WorldParts). IsStart q c.args.file c.into_inner.result c.args.sends) (sym c.self.view_is) made in
    let room = subst (λ (q : WorldParts). q.length < journal_limit) (sym c.self.view_is) c.requires.room in
    let sent : c.extend.new.self ≡ c.self.inside.sent ++ c.args.sends = c.in_ok-extend.ensures.ok ∙ ap (λ (xs : List Message). c.self.inside.sent ++ xs) c.as_slice.ensures in
    rw sent (started_world _ c.self.invariant c.args.file before.number _ c.start_server.ensures.others c.into_inner.result _ c.args.sends before.begins before.asks c.in-Ok.ensures.ok room)

pub returns-clause-ok : goal.returns-clause-ok
returns-clause-ok c =
    let made = subst (λ (s : ServerParts). IsStart c.args.self.now c.args.file s c.args.sends) (sym c.into_inner.ensures) c.requires.made in
    let before = subst (λ (q : WorldParts). IsStart q c.args.file c.into_inner.result c.args.sends) (sym c.self.view_is) made in
    let sent : c.extend.new.self ≡ c.self.inside.sent ++ c.args.sends = c.in_ok-extend.ensures.ok ∙ ap (λ (xs : List Message). c.self.inside.sent ++ xs) c.as_slice.ensures in
    let done = started_done _ c.self.invariant c.args.file before.number _ c.start_server.ensures.others c.into_inner.result _ c.args.sends before.begins before.asks c.in-Ok.ensures.ok c.sending-outcome.result c.at_node.result c.sending-outcome.ensures c.at_node.ensures in
    let here : WorldParts = record { shape = c.self.inside.shape; nodes = c.self.inside.nodes.items; members = c.self.inside.members; servers = c.self.inside.servers.items; sent = c.self.inside.sent; length = c.self.inside.length } in
    rw sent (subst (λ (q : WorldParts). start_rule (world_state q) c.args.file ≡ Ok (world_state (started_parts here c.args.file c.into_inner.result c.start_server.new.self c.args.sends), c.at_node.result)) c.self.view_is done)

pub returns-in_err-extend-clause-err : goal.returns-in_err-extend-clause-err
returns-in_err-extend-clause-err c =
    let plan = c.requires.made in
    let told = err_from_is_err_and c.from_residual.result c.from_residual.ensures.1 in
    let P : WorldParts → Type 0 = λ q. works_at q c.args.file ≡ false → incarnation_in q.members.servers c.args.file ≤ most_incarnations → (e : Refused) → start_rule (world_state q) c.args.file ≡ Err e → ⊥ in
    rw told.1 (opened P _ _ c.args.file c.self.view_is plan.number (λ number. start_taken _ c.self.invariant c.args.file number) plan.failed plan.few)
