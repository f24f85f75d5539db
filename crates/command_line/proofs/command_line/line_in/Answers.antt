use Rattle.std.proofs.Common.{ap, sym, subst, inl, inr, ◌∙◌, map, Option, List}
use Rattle.std.proofs.lemmas.Result.{err_from_is_err_and}
use Rattle.clap.specs.Words.{App, HasKind, Row, Text, fault_of, is_simple, is_simple_and_free, subcommand_of, subcommand_rows_of}
use Rattle.command_line.specs.rule.Words.{IsLineOf, IsMet}
use Rattle.command_line.specs.rule.Tasks.{task_of}
use Rattle.command_line.proofs.CommandLine.{fails_so, is_free_program, is_simple_program, not_shown}
use Rattle.command_line.proofs.command_line.line_in.Goals as goal

pub returns-in_err-matches-clause-kind : goal.returns-in_err-matches-clause-kind
returns-in_err-matches-clause-kind g c =
    let app = c.in_ok-command.ensures in
    let p = err_from_is_err_and c.from_residual-in_err-matches.result c.from_residual-in_err-matches.ensures.1 in
    let words = map g.S.AsStr.text c.args.words.now in
    let P : App → Type 0 = λ a. HasKind (fault_of a words) c.in_err-matches.field-0.0 in
    rw (p.1, p.2) (fails_so words c.in_err-matches.field-0.0 (subst P app (c.in_err-matches.ensures.kinds (ap is_simple_and_free app ∙ is_free_program))))

pub returns-in-Some-clause-asked : goal.returns-in-Some-clause-asked
returns-in-Some-clause-asked g c =
    let app = c.in_ok-command.ensures in
    let words = map g.S.AsStr.text c.args.words.now in
    let rows_are = (c.in_ok-matches.ensures.ok.2 (ap is_simple app ∙ is_simple_program)).1 in
    let P : Option (Text × List Row) → Type 0 = λ met. IsMet met (task_of c.in-Some.line) in
    record {
      taken = ap (λ (a : App). fault_of a words) (sym app) ∙ c.in_ok-matches.ensures.kinds (ap is_simple_and_free app ∙ is_free_program);
      met = subst P (rows_are ∙ ap (λ (a : App). subcommand_of a words) app) (subst (IsLineOf (subcommand_rows_of c.in_ok-matches.matches)) c.in-Some.is c.in_ok-met.ensures);
    }

pub returns-clause-kind : goal.returns-clause-kind
returns-clause-kind g c =
    let app = c.in_ok-command.ensures in
    let words = map g.S.AsStr.text c.args.words.now in
    let rows_are = (c.in_ok-matches.ensures.ok.2 (ap is_simple app ∙ is_simple_program)).1 in
    let taken = ap (λ (a : App). fault_of a words) (sym app) ∙ c.in_ok-matches.ensures.kinds (ap is_simple_and_free app ∙ is_free_program) in
    elim c.unserved.ensures [
      | inl invalid ↦ inr (inr (
        not_shown _ invalid,
        (
          taken,
          λ task asks.
              let P : Option (Text × List Row) → Type 0 = λ met. IsMet met task in
              (subst (IsLineOf (subcommand_rows_of c.in_ok-matches.matches)) c.in-None.is c.in_ok-met.ensures) task (subst P (sym (rows_are ∙ ap (λ (a : App). subcommand_of a words) app)) asks.met),
        ),
      ))
      | inr short ↦ inl short
    ]
