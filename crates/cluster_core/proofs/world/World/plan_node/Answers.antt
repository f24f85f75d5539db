use Rattle.std.proofs.Common.{◌∙◌, ap, refl, sym, subst, Err}
use Rattle.std.proofs.lemmas.Result.{err_from_is_err_and}
use Rattle.messages.specs.rule.Entries.{refused_by}
use Rattle.messages.specs.declared.refusal.Refused.{Refused}
use Rattle.messages.specs.declared.event.Event.{Event}
use Rattle.messages.specs.declared.event.Event.TheVariants.{AtNode}
use Rattle.node_core.specs.declared.event.NodeEvent.TheVariants.{Input}
use Rattle.cluster_core.specs.rule.Parts.{world_state}
use Rattle.cluster_core.proofs.steps.Actors.{own_node_input}
use Rattle.cluster_core.proofs.steps.CertainRefusals.{err_is, node_refused}
use Rattle.cluster_core.proofs.world.World.plan_node.Goals as goal

pub returns-clause-ok : goal.returns-clause-ok
returns-clause-ok c =
    let event : Event = AtNode c.args.node c.args.input.now in
    let found = c.in_ok-change.ensures.ok in
    record {
      step = Input c.args.input.now;
      number = c.requires.node;
      alive = c.requires.alive;
      takes = own_node_input c.args.node c.args.input.now;
      node = found.0;
      there = found.1;
      fits = found.2;
      done = found.3;
      incarnation_is = c.named_incarnation-incarnation.ensures.value;
      incarnated = c.named_incarnation-incarnation.ensures.incarnated;
      gives = refl;
    }

pub returns-in_err-change-clause-refused : goal.returns-in_err-change-clause-refused
returns-in_err-change-clause-refused c = λ e refused.
    let own = node_refused (world_state c.args.self.now) (AtNode c.args.node c.args.input.now) c.args.node _ e refused in
    let made = err_from_is_err_and c.from_residual.result c.from_residual.ensures.1 in
    let same = sym c.in_err-change.was ∙ c.node_plan.ensures.refused own.0 own.1 in
    made.1 ∙ ap (λ (r : Refused). Err r) (made.2 ∙ ap refused_by (err_is _ _ same) ∙ own.2)
