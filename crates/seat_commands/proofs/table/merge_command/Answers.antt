use Rattle.std.proofs.Common.{ap₂, ◌∙◌, ◌≡◌, codes, rules}
use Rattle.std.proofs.lemmas.Result.{IfOk-weaker}
use Rattle.clap.specs.Words.{rule_of, with_rule}
use Rattle.command_line.specs.rule.Words.{paths_rule}
use Rattle.seat_commands.specs.rule.Table.{skew_rule}
use Rattle.seat_commands.proofs.table.merge_command.Goals as goal

pub returns : goal.returns
returns c =
    let logs_is : rule_of c.action.result ≡ paths_rule (codes "LOG") = search rules in
    let skew_is : rule_of c.value_parser.result ≡ skew_rule = search rules in
    let logs = c.in_ok-command.ensures ∙ ap₂ with_rule c.bare_command-command.ensures logs_is in
    let journal = c.in_ok-command-2.ensures ∙ ap₂ with_rule logs c.option.ensures in
    let members = c.in_ok-command-3.ensures ∙ ap₂ with_rule journal c.option-2.ensures in
    let check = c.in_ok-command-4.ensures ∙ ap₂ with_rule members c.flag.ensures in
    IfOk-weaker c.with_argument-5.result _ _ (λ r is. is ∙ ap₂ with_rule check skew_is) c.with_argument-5.ensures
