use Rattle.std.proofs.Common.{◌∙◌, ap, refl, sym, subst, Err}
use Rattle.std.proofs.lemmas.Result.{err_from_is_err_and}
use Rattle.messages.specs.rule.Entries.{refused_by}
use Rattle.messages.specs.declared.refusal.Refused.{Refused}
use Rattle.messages.specs.declared.event.Event.TheVariants.{Deliver}
use Rattle.messages.specs.declared.actor.Actor.TheVariants.{Node as ANode}
use Rattle.node_core.specs.declared.event.NodeEvent.TheVariants as own
use Rattle.cluster_core.specs.rule.Parts.{world_state}
use Rattle.cluster_core.proofs.steps.Actors.{own_node_delivery}
use Rattle.cluster_core.proofs.steps.CertainRefusals.{err_is, node_refused}
use Rattle.cluster_core.proofs.world.World.plan_node_delivery.Goals as goal

pub returns-clause-ok : goal.returns-clause-ok
returns-clause-ok c =
    let m = c.args.message.now in
    let found = c.in_ok-change.ensures.ok in
    record {
      step = own.Deliver m;
      number = c.requires.node;
      alive = c.requires.alive;
      takes = own_node_delivery c.args.node m c.requires.to;
      node = found.0;
      there = found.1;
      fits = found.2;
      done = found.3;
      incarnation_is = refl;
      incarnated = refl;
      gives = refl;
    }

pub returns-in_err-change-clause-refused : goal.returns-in_err-change-clause-refused
returns-in_err-change-clause-refused c = λ e refused.
    let refusal = node_refused (world_state c.args.self.now) (Deliver c.args.message.now) c.args.node _ e refused in
    let made = err_from_is_err_and c.from_residual.result c.from_residual.ensures.1 in
    let same = sym c.in_err-change.was ∙ c.node_delivery.ensures.refused refusal.0 refusal.1 in
    made.1 ∙ ap (λ (r : Refused). Err r) (made.2 ∙ ap refused_by (err_is _ _ same) ∙ refusal.2)
