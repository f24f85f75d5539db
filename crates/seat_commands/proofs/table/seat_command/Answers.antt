use Rattle.std.proofs.Common.{refl, ap₂, ◌∙◌, ◌≡◌, rules}
use Rattle.std.proofs.lemmas.Result.{IfOk-weaker}
use Rattle.clap.specs.Words.{rule_of, with_rule}
use Rattle.seat_commands.specs.rule.Table.{past_rule}
use Rattle.seat_commands.proofs.table.seat_command.Goals as goal

pub returns : goal.returns
returns c =
    let kind_rule = rule_of c.kind_argument.result in
    let policy_rule = rule_of c.policy_argument.result in
    let past_is : rule_of c.default_value-past.result ≡ past_rule = search rules in
    let kind = c.in_ok-command.ensures ∙ ap₂ with_rule c.bare_command-command.ensures refl in
    let number = c.in_ok-command-2.ensures ∙ ap₂ with_rule kind c.number_argument.ensures in
    let nodes = c.in_ok-command-3.ensures ∙ ap₂ with_rule number c.nodes_argument.ensures in
    let files = c.in_ok-command-4.ensures ∙ ap₂ with_rule nodes c.files_argument.ensures in
    let policy = c.in_ok-command-5.ensures ∙ ap₂ with_rule files refl in
    let again = c.in_ok-command-6.ensures ∙ ap₂ with_rule policy c.flag.ensures in
    let past = c.in_ok-command-7.ensures ∙ ap₂ with_rule again past_is in
    let log = c.in_ok-command-8.ensures ∙ ap₂ with_rule past c.option.ensures in
    IfOk-weaker c.with_argument-9.result _ _ (λ r is. (kind_rule, policy_rule, c.kind_argument.ensures, c.policy_argument.ensures, is ∙ ap₂ with_rule log c.clock_argument.ensures)) c.with_argument-9.ensures
