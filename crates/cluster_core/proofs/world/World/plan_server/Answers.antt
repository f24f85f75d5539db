use Rattle.std.proofs.Common.{◌∙◌, ap, refl, sym, Err}
use Rattle.std.proofs.lemmas.Result.{err_from_is_err_and}
use Rattle.messages.specs.rule.Entries.{refused_by}
use Rattle.messages.specs.declared.refusal.Refused.{Refused}
use Rattle.messages.specs.declared.event.Event.TheVariants.{AtServer}
use Rattle.token_server.specs.declared.event.ServerEvent.TheVariants.{Input}
use Rattle.cluster_core.specs.rule.Parts.{world_state}
use Rattle.cluster_core.proofs.steps.Actors.{own_server_input}
use Rattle.cluster_core.proofs.steps.CertainRefusals.{err_is, server_refused}
use Rattle.cluster_core.proofs.world.World.plan_server.Goals as goal

pub returns-clause-ok : goal.returns-clause-ok
returns-clause-ok c =
    let found = c.in_ok-change.ensures.ok in
    record {
      step = Input c.args.input.now;
      number = c.requires;
      takes = own_server_input c.args.file c.args.input.now;
      server = found.0;
      there = found.1;
      fits = found.2;
      done = found.3;
      gives = refl;
    }

pub returns-in_err-change-clause-refused : goal.returns-in_err-change-clause-refused
returns-in_err-change-clause-refused c = λ e unspent refused.
    let own = server_refused (world_state c.args.self.now) (AtServer c.args.file c.args.input.now) c.args.file _ e refused in
    let made = err_from_is_err_and c.from_residual.result c.from_residual.ensures.1 in
    let same = sym c.in_err-change.was ∙ c.server_plan.ensures.refused own.0 (λ spent. unspent (sym own.2 ∙ ap refused_by spent)) own.1 in
    made.1 ∙ ap (λ (r : Refused). Err r) (made.2 ∙ ap refused_by (err_is _ _ same) ∙ own.2)
