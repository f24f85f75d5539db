use Rattle.std.specs.Prelude.{◌-◌, slice_index_or, Ok}
use Rattle.std.proofs.Common.{◌≡◌, ◌∙◌, ◌<◌, ◌++◌, true, length, arith, rules, refl, ap, sym, subst}
use Rattle.std.proofs.lemmas.Result.{err_from_is_err_and}
use Rattle.token_server.specs.rule.Parts.{ServerParts, server_state}
use Rattle.token_server.specs.code.Edits.{planned}
use Rattle.token_server.specs.rule.Server.{server_rule}
use Rattle.cluster_core.specs.rule.Parts.{WorldParts, world_state}
use Rattle.messages.specs.rule.Messages.{is_within}
use Rattle.cluster_core.proofs.common.Numbered.{within_is}
use Rattle.cluster_core.proofs.steps.CertainRefusals.{server_goes}
use Rattle.cluster_core.proofs.steps.WorldSteps.{one_there, server_names, server_returns, server_settled}
use Rattle.cluster_core.proofs.world.World.change_server.Goals as goal

-- the token server makes the planned step
does : (c : goal.After-self-2-1) → server_rule ((world_state c.args.self.now).servers c.args.file) c.requires.made.step ≡ Ok (server_state c.apply-outcome.new.self, c.apply-outcome.result)
does c =
    let plan = c.requires.made in
    let p : ServerParts = plan.server in
    let read = subst (λ (q : WorldParts). p ≡ slice_index_or q.servers (c.args.file - 1) p) (sym c.self.view_is) plan.there in
    let bounds = within_is c.self.inside.shape.files c.args.file (subst (λ (q : WorldParts). is_within q.shape.files c.args.file ≡ true) (sym c.self.view_is) plan.number) in
    let within : c.args.file - 1 < length c.self.inside.servers.items = omega (arith, bounds.0, bounds.1, c.self.invariant.servers_there) in
    let here = one_there c.self.inside.servers.items (c.args.file - 1) p c.index_mut-server.result.now within read c.index_mut-server.ensures.value in
    let state = c.apply-outcome.ensures.state ∙ ap (λ (q : ServerParts). planned q c.args.change.edit) (sym here) in
    plan.done ∙ (λ i. Ok (sym state i, sym c.apply-outcome.ensures.outcome i))

sends : (c : goal.After-self-2-1) → c.extend.new.self ≡ c.self.inside.sent ++ c.apply-outcome.result.sends
sends c = search rules

pub new-requires-clause-named : goal.new-requires-clause-named
new-requires-clause-named c =
    let plan = c.requires.made in
    (server_names c.args.event c.args.file plan.step ((world_state c.args.self.now).servers c.args.file) (server_state c.apply-outcome.new.self) c.apply-outcome.result plan.takes (does c)).0

pub returns-clause-ok : goal.returns-clause-ok
returns-clause-ok c =
    let plan = c.requires.made in
    plan.gives ∙ server_returns _ _ c.self.view_is c.self.invariant c.apply-outcome.result _ _ (sends c.before) refl c.args.file plan.step c.apply-outcome.new.self _ refl c.args.event c.new.result plan.number (does c.before) c.new.ensures

pub returns-in_err-reply-clause-err : goal.returns-in_err-reply-clause-err
returns-in_err-reply-clause-err c =
    let plan = c.requires.made in
    let p = err_from_is_err_and c.from_residual.result c.from_residual.ensures.1 in
    rw p.1 (λ e refused. server_goes (world_state c.args.self.now) c.args.event c.args.file _ _ _ e plan.done plan.gives refused)

pub returns-in_err-extend-clause-err : goal.returns-in_err-extend-clause-err
returns-in_err-extend-clause-err c =
    let plan = c.requires.made in
    let p = err_from_is_err_and c.from_residual-in_err-extend.result c.from_residual-in_err-extend.ensures.1 in
    rw p.1 (λ e refused. server_goes (world_state c.args.self.now) c.args.event c.args.file _ _ _ e plan.done plan.gives refused)

pub invariant_of-self-2 : goal.invariant_of-self-2
invariant_of-self-2 c =
    let plan = c.requires.made in
    server_settled _ _ c.self.view_is c.self.invariant c.apply-outcome.result _ _ (sends c.before) refl c.args.file plan.step c.apply-outcome.new.self _ refl c.requires.room plan.number (does c.before)
