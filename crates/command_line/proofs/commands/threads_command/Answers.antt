use Rattle.std.proofs.Common.{ap, ap₂, codes, [], ◌∷◌, ◌∙◌}
use Rattle.std.proofs.lemmas.Result.{IfOk-weaker}
use Rattle.clap.specs.Words.{Rule, rule_of, with_rule}
use Rattle.command_line.proofs.commands.threads_command.Goals as goal

pub returns : goal.returns
returns c =
    let first = c.in_ok-command.ensures ∙ ap₂ with_rule c.bare_command-command.ensures c.word.ensures in
    let seed = ap rule_of c.default_value-seed.ensures ∙ ap (λ (r : Rule). record r { defaults = codes "1" ∷ [] }) c.number.ensures in
    let with-2 = c.in_ok-command-2.ensures ∙ ap₂ with_rule first seed in
    let with-3 = c.in_ok-command-3.ensures ∙ ap₂ with_rule with-2 c.flag.ensures in
    let with-4 = c.in_ok-command-4.ensures ∙ ap₂ with_rule with-3 c.flag-2.ensures in
    IfOk-weaker c.with_argument-5.result _ _ (λ r is. is ∙ ap₂ with_rule with-4 c.journal_file.ensures) c.with_argument-5.ensures
