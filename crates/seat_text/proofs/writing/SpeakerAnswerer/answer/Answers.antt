use Rattle.std.proofs.Common.{◌∙◌, ap, inl, inr, refl}
use Rattle.std.proofs.lemmas.Result.{on_ok_weaker}
use Rattle.seat_text.specs.rule.SeatLines.{column_of}
use Rattle.seat_text.proofs.SeatLines.{refuses}
use Rattle.seat_text.proofs.writing.SpeakerAnswerer.answer.Goals as goal

pub returns-in_default : goal.returns-in_default
returns-in_default g c =
    on_ok_weaker _ (refuses g.S.Seated.does c.args.self.now c.args.line.now 1 _ _ (inr (inl (record { short = c.requires; no_text = c.in_default.ensures.cases.0; column_is = refl })))) c.push_bad.ensures

pub returns-in-None : goal.returns-in-None
returns-in-None g c =
    let text = c.in-Ok.ensures.cases in
    on_ok_weaker _
    (refuses g.S.Seated.does c.args.self.now c.args.line.now c.bad_column.result _ _
    (inr (inr (record { short = c.requires; is_text = text.1; no_line = λ told fits is. c.in-None.ensures told fits (text.0 ∙ is); column_is = c.bad_column.ensures ∙ ap column_of text.0 }))))
    c.push_bad-in-None.ensures
