use Rattle.std.proofs.Common.{◌∙◌, ap, refl, sym, Err}
use Rattle.std.proofs.lemmas.Result.{err_from_is_err_and}
use Rattle.messages.specs.rule.Entries.{refused_by}
use Rattle.messages.specs.declared.refusal.Refused.{Refused}
use Rattle.messages.specs.declared.event.Event.TheVariants.{Deliver}
use Rattle.token_server.specs.declared.event.ServerEvent.TheVariants as served
use Rattle.cluster_core.specs.rule.Parts.{world_state}
use Rattle.cluster_core.proofs.steps.Actors.{own_server_delivery}
use Rattle.cluster_core.proofs.steps.CertainRefusals.{err_is, server_refused}
use Rattle.cluster_core.proofs.world.World.plan_server_delivery.Goals as goal

pub returns-clause-ok : goal.returns-clause-ok
returns-clause-ok c =
    let m = c.args.message.now in
    let found = c.in_ok-change.ensures.ok in
    record {
      step = served.Deliver m;
      number = c.requires.file;
      takes = own_server_delivery c.args.file m c.requires.to;
      server = found.0;
      there = found.1;
      fits = found.2;
      done = found.3;
      gives = refl;
    }

pub returns-in_err-change-clause-refused : goal.returns-in_err-change-clause-refused
returns-in_err-change-clause-refused c = λ e unspent refused.
    let own = server_refused (world_state c.args.self.now) (Deliver c.args.message.now) c.args.file _ e refused in
    let made = err_from_is_err_and c.from_residual.result c.from_residual.ensures.1 in
    let same = sym c.in_err-change.was ∙ c.server_delivery.ensures.refused own.0 (λ spent. unspent (sym own.2 ∙ ap refused_by spent)) own.1 in
    made.1 ∙ ap (λ (r : Refused). Err r) (made.2 ∙ ap refused_by (err_is _ _ same) ∙ own.2)
