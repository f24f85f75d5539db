use Rattle.std.proofs.Common.{ap, ap₂, ◌∙◌}
use Rattle.std.proofs.lemmas.Result.{IfOk-weaker}
use Rattle.clap.specs.Words.{App, app_of, with_subcommand}
use Rattle.seat_commands.proofs.table.program.Goals as goal

pub returns : goal.returns
returns c =
    let with_top : App → App → App = λ a command. with_subcommand a command.top in
    let command = app_of c.in_ok-seat_command.field-0 in
    let seat = c.in_ok-program.ensures ∙ ap (λ (a : App). with_top a command) c.bare_program.ensures in
    let members = c.in_ok-program-2.ensures ∙ ap₂ with_top seat c.in_ok-members_command.ensures in
    let merge = c.in_ok-program-3.ensures ∙ ap₂ with_top members c.in_ok-merge_command.ensures in
    IfOk-weaker c.with_command-4.result _ _ (λ r is. (command, c.in_ok-seat_command.ensures, is ∙ ap₂ with_top merge c.play_command.ensures)) c.with_command-4.ensures
