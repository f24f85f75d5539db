use Rattle.std.proofs.Common.{◌∙◌, ◌+◌, ap, sym, if◌then◌else◌, length}
use Rattle.seat_text.proofs.SeatLines.{column_behind}
use Rattle.seat_text.proofs.seat_line.bad_column.Goals as goal

pub returns-in_default : goal.returns-in_default
returns-in_default c =
    let word = c.in-Some.word.now in
    sym (column_behind _ word _ c.in-Some.ensures.0 c.in-Some.ensures.1 ∙ ap (λ b. if b then length word + 2 else 1) (sym c.has_operands.ensures ∙ c.if-has_operands.false))
