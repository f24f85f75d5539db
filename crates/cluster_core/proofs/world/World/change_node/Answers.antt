use Rattle.std.specs.Prelude.{◌-◌, slice_index_or, Ok}
use Rattle.std.proofs.Common.{◌≡◌, ◌∙◌, ◌<◌, ◌++◌, true, length, arith, rules, refl, ap, sym, subst}
use Rattle.std.proofs.lemmas.Result.{err_from_is_err_and}
use Rattle.messages.specs.rule.Messages.{is_within}
use Rattle.node_core.specs.rule.Parts.{NodeParts, node_state}
use Rattle.node_core.specs.code.Plans.{planned}
use Rattle.node_core.specs.rule.Node.{node_rule}
use Rattle.cluster_core.specs.rule.Parts.{WorldParts, world_state}
use Rattle.cluster_core.proofs.common.Numbered.{within_is}
use Rattle.cluster_core.proofs.steps.CertainRefusals.{node_goes}
use Rattle.cluster_core.proofs.steps.WorldSteps.{node_settled, node_named, node_returns, one_there}
use Rattle.cluster_core.proofs.world.World.change_node.Goals as goal

-- the node makes the planned step
does : (c : goal.After-self-2-1) → node_rule ((world_state c.args.self.now).nodes c.args.node) c.requires.made.step ≡ Ok (node_state c.apply-outcome.new.self, c.apply-outcome.result)
does c =
    let plan = c.requires.made in
    let p : NodeParts = plan.node in
    let read = subst (λ (q : WorldParts). p ≡ slice_index_or q.nodes (c.args.node - 1) p) (sym c.self.view_is) plan.there in
    let bounds = within_is c.self.inside.shape.nodes c.args.node (subst (λ (q : WorldParts). is_within q.shape.nodes c.args.node ≡ true) (sym c.self.view_is) plan.number) in
    let within : c.args.node - 1 < length c.self.inside.nodes.items = omega (arith, bounds.0, bounds.1, c.self.invariant.nodes_there) in
    let here = one_there c.self.inside.nodes.items (c.args.node - 1) p c.index_mut-stepping.result.now within read c.index_mut-stepping.ensures.value in
    let state = c.apply-outcome.ensures.state ∙ ap (λ (q : NodeParts). planned q c.args.change.edit) (sym here) in
    plan.done ∙ (λ i. Ok (sym state i, sym c.apply-outcome.ensures.outcome i))

sends : (c : goal.After-self-2-1) → c.extend.new.self ≡ c.self.inside.sent ++ c.apply-outcome.result.sends
sends c = search rules

pub at_node-requires-clause-named : goal.at_node-requires-clause-named
at_node-requires-clause-named c =
    let plan = c.requires.made in
    node_named _ _ c.self.view_is c.self.invariant c.apply-outcome.result _ _ (sends c) refl c.args.node plan.step c.apply-outcome.new.self _ refl plan.number plan.alive (does c) c.args.event plan.takes

pub at_node-requires-clause-incarnated : goal.at_node-requires-clause-incarnated
at_node-requires-clause-incarnated c = c.requires.made.incarnated

pub invariant_of-self-2 : goal.invariant_of-self-2
invariant_of-self-2 c =
    let plan = c.requires.made in
    node_settled _ _ c.self.view_is c.self.invariant c.apply-outcome.result _ _ (sends c.before) refl c.args.node plan.step c.apply-outcome.new.self _ refl plan.number plan.alive (does c.before) c.requires.room

pub returns-clause-ok : goal.returns-clause-ok
returns-clause-ok c =
    let plan = c.requires.made in
    plan.gives ∙ node_returns _ _ c.self.view_is c.self.invariant c.apply-outcome.result _ _ (sends c.before) refl c.args.node plan.step c.apply-outcome.new.self _ refl plan.number plan.alive (does c.before) c.args.event _ c.at_node.result plan.incarnation_is c.at_node.ensures

pub returns-in_err-reply-clause-err : goal.returns-in_err-reply-clause-err
returns-in_err-reply-clause-err c =
    let plan = c.requires.made in
    let p = err_from_is_err_and c.from_residual.result c.from_residual.ensures.1 in
    rw p.1 (λ e refused. node_goes (world_state c.args.self.now) c.args.event c.args.node _ _ _ e plan.done plan.gives refused)

pub returns-in_err-extend-clause-err : goal.returns-in_err-extend-clause-err
returns-in_err-extend-clause-err c =
    let plan = c.requires.made in
    let p = err_from_is_err_and c.from_residual-in_err-extend.result c.from_residual-in_err-extend.ensures.1 in
    rw p.1 (λ e refused. node_goes (world_state c.args.self.now) c.args.event c.args.node _ _ _ e plan.done plan.gives refused)
