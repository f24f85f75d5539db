use Rattle.std.proofs.Common.{sym, subst, ◌∙◌}
use Rattle.messages.specs.declared.version.Version.{Version}
use Rattle.texts.specs.rule.Reads.{Both, Reads}
use Rattle.message_text.specs.rule.Texts.{IsCommandNumber, command_text}
use Rattle.message_text.proofs.fields.NumberedText.read.Goals as goal

pub returns-in-Second : goal.returns-in-Second
returns-in-Second g c =
    subst (λ (v : Version). Reads (command_text v g.B.Text.text_of) (Both (IsCommandNumber v) g.B.Text.is_served) c.args.text.now c.of_epoch.result) (sym c.in-Second.is ∙ c.version.ensures) c.of_epoch.ensures
