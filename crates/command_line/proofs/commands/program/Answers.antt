use Rattle.std.proofs.Common.{ap₂, ◌∙◌}
use Rattle.std.proofs.lemmas.Result.{IfOk-weaker}
use Rattle.clap.specs.Words.{App, with_subcommand}
use Rattle.command_line.proofs.commands.program.Goals as goal

pub returns : goal.returns
returns c =
    let with_top : App → App → App = λ a command. with_subcommand a command.top in
    let run = c.in_ok-program.ensures ∙ ap₂ with_top c.bare_program.ensures c.in_ok-run_command.ensures in
    let threads = c.in_ok-program-2.ensures ∙ ap₂ with_top run c.in_ok-threads_command.ensures in
    let audit = c.in_ok-program-3.ensures ∙ ap₂ with_top threads c.in_ok-audit_command.ensures in
    let history = c.in_ok-program-4.ensures ∙ ap₂ with_top audit c.in_ok-history_command.ensures in
    let state = c.in_ok-program-5.ensures ∙ ap₂ with_top history c.in_ok-state_command.ensures in
    IfOk-weaker c.with_command-6.result _ _ (λ r is. is ∙ ap₂ with_top state c.in_ok-judge_command.ensures) c.with_command-6.ensures
