use Rattle.std.proofs.Common.{ap, ap₂, codes, Some, [], ◌∷◌, ◌∙◌}
use Rattle.std.proofs.lemmas.Result.{IfOk-weaker}
use Rattle.clap.specs.Words.{Rule, rule_of, with_rule}
use Rattle.clap.specs.declared.builder.action.ArgAction.TheVariants.{Append}
use Rattle.command_line.proofs.commands.judge_command.Goals as goal

pub returns : goal.returns
returns c =
    let histories = ap rule_of c.action-histories.ensures ∙ ap (λ (r : Rule). record r { action = Some Append }) c.word.ensures in
    let steps = ap rule_of c.default_value-steps.ensures ∙ ap (λ (r : Rule). record r { defaults = codes "10000000" ∷ [] }) c.number.ensures in
    let rules = ap rule_of c.action-rules.ensures ∙ ap (λ (r : Rule). record r { action = Some Append }) c.option-2.ensures in
    let first = c.in_ok-command.ensures ∙ ap₂ with_rule c.bare_command-command.ensures histories in
    let with-2 = c.in_ok-command-2.ensures ∙ ap₂ with_rule first steps in
    let with-3 = c.in_ok-command-3.ensures ∙ ap₂ with_rule with-2 c.option.ensures in
    let with-4 = c.in_ok-command-4.ensures ∙ ap₂ with_rule with-3 rules in
    let with-5 = c.in_ok-command-5.ensures ∙ ap₂ with_rule with-4 c.flag.ensures in
    let with-6 = c.in_ok-command-6.ensures ∙ ap₂ with_rule with-5 c.flag-2.ensures in
    let with-7 = c.in_ok-command-7.ensures ∙ ap₂ with_rule with-6 c.flag-3.ensures in
    IfOk-weaker c.with_argument-8.result _ _ (λ r is. is ∙ ap₂ with_rule with-7 c.flag-4.ensures) c.with_argument-8.ensures
