use Rattle.std.proofs.Common.{sym, ◌∙◌}
use Rattle.texts.proofs.Pairs.{same-split}
use Rattle.texts.proofs.SingleWords.{one-word}
use Rattle.texts.specs.rule.Layout.{space}
use Rattle.message_text.proofs.fields.first_field.Goals as goal

pub returns-in_err-value : goal.returns-in_err-value
returns-in_err-value g c =
    rw c.from_residual-in_err-value.ensures (λ x rest fits e. c.in_err-value.ensures x fits (same-split space c.in_ok-word.word.now (g.A.Text.text_of x) c.in_ok-word.rest.now rest c.in_ok-word.ensures.0 (one-word (g.A.Text.text_of x) (c.is_one_field.ensures x fits)) (sym c.in_ok-word.ensures.1 ∙ e)).0)
