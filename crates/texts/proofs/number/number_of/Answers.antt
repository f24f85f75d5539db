use Rattle.std.proofs.Common.{◌≡◌, arith, ◌∙◌, sym}
use Rattle.std.proofs.lemmas.Fmt.{decimal_injective}
use Rattle.texts.proofs.number.number_of.Goals as goal

pub returns-then-number-least : goal.returns-then-number-least
returns-then-number-least c = λ n fits e.
    let same : c.in-Some.number ≡ n = decimal_injective c.in-Some.number n c.in-Some.ensures.0 (omega (arith, fits.1, c.ranges.most.fits)) (sym c.in-Some.ensures.1 ∙ e) in
    absurd (omega (arith, same, fits.0, c.if-number-least.true))

pub returns-then-most-number : goal.returns-then-most-number
returns-then-most-number c = λ n fits e.
    let same : c.in-Some.number ≡ n = decimal_injective c.in-Some.number n c.in-Some.ensures.0 (omega (arith, fits.1, c.ranges.most.fits)) (sym c.in-Some.ensures.1 ∙ e) in
    absurd (omega (arith, same, fits.1, c.if-most-number.true))
