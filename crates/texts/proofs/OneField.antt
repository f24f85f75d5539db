-- Numbers are written as one field.
use Rattle.std.proofs.Common.{◌≡◌, ℕ, ◌<◌, ◌≤◌, ◌^◌, true, List, [], ◌∷◌, ◌++◌, ℤ, pos, negsuc, suc, refl, arith, decimal, FitsSigned, w64}
use Rattle.std.specs.Fmt.{signed_decimal}
use Rattle.std.specs.Str.Parse.{AllDigits}
use Rattle.std.proofs.lemmas.Fmt.{decimal_is_IsNumeral}
use Rattle.std.proofs.lemmas.Str.Parse.{digit_at}
use Rattle.texts.specs.rule.Reads.{has_no_space}

no_space-digits : (ds : List ℕ) → AllDigits 10 ds → has_no_space ds ≡ true
no_space-digits [] digits = refl
no_space-digits (d ∷ ds) digits =
    let digit = digit_at (d ∷ ds) 0 digits (omega arith) in
    grind (arith, digit.0, no_space-digits ds digits.1)

pub decimal_is_one_field : (n : ℕ) → n < 2 ^ 64 → has_no_space (decimal n) ≡ true
decimal_is_one_field n small = no_space-digits (decimal n) (decimal_is_IsNumeral n small).0.1

-- a number between limits is written as one field
pub bounded_is_one_field : (least most : ℕ) → most < 2 ^ 64 → (n : ℕ) → (least ≤ n) × (n ≤ most) → has_no_space (decimal n) ≡ true
bounded_is_one_field least most small n served = decimal_is_one_field n (omega (arith, small, served.1))

pub signed_is_one_field : (z : ℤ) → FitsSigned w64 z → has_no_space (signed_decimal z) ≡ true
signed_is_one_field (pos n) fits = decimal_is_one_field n (omega (arith, fits))
signed_is_one_field (negsuc n) fits = grind (arith, decimal_is_one_field (suc n) (omega (arith, fits)))

-- two texts without a space have none together
pub append_is_one_field : (x y : List ℕ) → has_no_space x ≡ true → has_no_space y ≡ true → has_no_space (x ++ y) ≡ true
append_is_one_field [] y no_x no_y = no_y
append_is_one_field (b ∷ x) y no_x no_y = grind (arith, no_x, append_is_one_field x y)
