use Rattle.std.specs.Prelude.{◌≡◌, ◌+◌, get_or}
use Rattle.std.proofs.Common.{◌∙◌, [], ◌∷◌, sym, ap, inl, inr, arith, decimal}
use Rattle.std.proofs.lemmas.Fmt.{decimal_digit, decimal_is_IsNumeral}
use Rattle.std.proofs.lemmas.Str.Parse.{digit_at}
use Rattle.texts.proofs.number.digit_of.Goals as goal

pub returns-then-is_ascii_digit : goal.returns-then-is_ascii_digit
returns-then-is_ascii_digit c =
    let is = c.from.ensures in
    let digit = c.if-is_ascii_digit.ensures.cases in
    let byte : c.args.byte ≡ 48 + c.from.result = omega (arith, is, digit) in
    (omega (arith, is, digit), ap (λ b. b ∷ []) byte ∙ sym (decimal_digit c.from.result (omega (arith, is, digit))))

pub returns-else-is_ascii_digit : goal.returns-else-is_ascii_digit
returns-else-is_ascii_digit c = λ n small e.
    let numeral = (decimal_is_IsNumeral n small).0 in
    let digit = digit_at (decimal n) 0 numeral.1 numeral.0 in
    let byte = ap (λ bs. get_or bs 0 0) e in
    elim c.if-is_ascii_digit.ensures.cases [
      | inl below ↦ omega (arith, byte, digit, below)
      | inr above ↦ omega (arith, byte, digit, above)
    ]
