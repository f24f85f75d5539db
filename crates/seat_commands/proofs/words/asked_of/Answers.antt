use Rattle.std.proofs.Common.{rules, subst, inr, map, ◌≡◌, Option, List}
use Rattle.std.proofs.lemmas.Result.{err_from_is_err_and}
use Rattle.clap.specs.Words.{Row, Text, app_of, kind_of}
use Rattle.clap.specs.declared.error.kind.ErrorKind.TheVariants.{ValueValidation}
use Rattle.command_line.proofs.CommandLine.{not_shown}
use Rattle.seat_commands.specs.rule.Asking.{IsMet}
use Rattle.seat_commands.proofs.Asking.{has_kind, is_free, is_plain}
use Rattle.seat_commands.proofs.words.asked_of.Goals as goal

pub returns-in_err-matches-clause-kind : goal.returns-in_err-matches-clause-kind
returns-in_err-matches-clause-kind g c =
    let p = err_from_is_err_and c.from_residual.result c.from_residual.ensures.1 in
    let words = map g.S.AsStr.text c.args.words.now in
    let app = app_of c.args.command.now in
    rw (p.1, p.2) (has_kind words app c.in_err-matches.field-0.0 c.requires (c.in_err-matches.ensures.kinds (is_free app c.requires)))

pub returns-in-Some-clause-asked : goal.returns-in-Some-clause-asked
returns-in-Some-clause-asked g c =
    let app = app_of c.args.command.now in
    let rows_are = (c.in_ok-matches.ensures.ok.2 (is_plain app c.requires)).1 in
    let P : Option (Text × List Row) → Type 0 = λ met. IsMet met c.in-Some.line in
    record {
      app = app;
      table = c.requires;
      taken = c.in_ok-matches.ensures.kinds (is_free app c.requires);
      met = subst P rows_are (rw c.in-Some.is at c.in_ok-met.ensures.met);
    }

pub returns-in-Ok-clause-kind : goal.returns-in-Ok-clause-kind
returns-in-Ok-clause-kind g c =
    let app = app_of c.args.command.now in
    let taken = c.in_ok-matches.ensures.kinds (is_free app c.requires) in
    let invalid : kind_of c.in-Ok.error ≡ ValueValidation = search rules in
    inr (app, c.requires, inr (not_shown _ invalid, taken))
