use Rattle.std.proofs.Common.{ℕ, String, ap, subst, ◌∙◌}
use Rattle.std.specs.Global.{Global}
use Rattle.std.specs.Prelude.{string_bytes}
use Rattle.std.proofs.lemmas.Result.{IfOk-weaker}
use Rattle.messages.specs.declared.version.Version.{Version}
use Rattle.messages.specs.rule.Shapes.{ShapeFields}
use Rattle.states.specs.rule.Texts.{IsStateText}
use Rattle.replay.specs.rule.Commands.{position_of, IsStateBehind}
use Rattle.replay.proofs.state.told_text.Goals as goal

pub returns : goal.returns
returns c =
    let j = c.args.journal.now in
    let told = c.in_ok-told.told in
    let position = position_of j c.args.at in
    let behind = subst (λ (n : ℕ). IsStateBehind j n told) c.position_in-position.ensures c.in_ok-told.ensures in
    let version = c.version-version.ensures ∙ ap (λ (s : ShapeFields). s.version) c.shape.ensures.value in
    IfOk-weaker c.state_text.result _ _ (λ (text : String Global) is.
    let here = subst (λ (v : Version). IsStateText v c.position_in-position.result told (string_bytes text)) version is in
    (c.requires, (told, behind, subst (λ (n : ℕ). IsStateText j.shape.version n told (string_bytes text)) c.position_in-position.ensures here))
    ) c.state_text.ensures
