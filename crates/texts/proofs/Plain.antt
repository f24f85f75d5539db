-- A numeral without a `+` or needless zeros in front is the decimal text of its number.
use Rattle.std.proofs.Common.{◌≡◌, ◌≢◌, ◌∙◌, ℕ, ◌<◌, ◌^◌, List, [], ◌∷◌, ℤ, pos, negsuc, zero, suc, length, get_or, sym, ap, subst, refl, arith, decimal, Bool, true, false, cond, drop, neg_ℤ, ◌==◌, FitsSigned, w64}
use Rattle.std.specs.Fmt.{signed_decimal}
use Rattle.std.specs.Str.Parse.{IsNumeral, digits_value, signed_digits_value, without_leading_plus, without_leading_sign}
use Rattle.std.specs.List.{slice_index}
use Rattle.std.proofs.lemmas.Bool.{eqb-true}
use Rattle.std.proofs.lemmas.Fmt.{decimal_is_IsNumeral, decimal_digit, decimal-digits_value, first_decimal}
use Rattle.std.proofs.lemmas.Str.Parse.{digit_at, numerals_by_value, tells_digits, without_leading_plus_none}
use Rattle.texts.specs.rule.Reads.{IsPlain, IsPlainSigned}

-- a plain numeral is the decimal text of its number
pub plain_numeral : (bs : List ℕ) → IsPlain bs → IsNumeral 10 (without_leading_plus bs) → digits_value 10 (without_leading_plus bs) < 2 ^ 64 → decimal (digits_value 10 (without_leading_plus bs)) ≡ bs
plain_numeral bs plain numeral small =
    let bare = without_leading_plus_none bs plain.0 in
    let digits : IsNumeral 10 bs = subst (IsNumeral 10) bare numeral in
    let fits : digits_value 10 bs < 2 ^ 64 = subst (λ ds. digits_value 10 ds < 2 ^ 64) bare small in
    ap (λ ds. decimal (digits_value 10 ds)) bare ∙ decimal-digits_value (numerals_by_value _ tells_digits) bs digits.1 digits.0 plain.1 fits

-- the decimal text of a number is plain
pub decimal_is_plain : (n : ℕ) → n < 2 ^ 64 → IsPlain (decimal n)
decimal_is_plain zero small =
    let text = decimal_digit 0 (omega arith) in
    (λ e. absurd (omega (arith, e, ap (λ ds. get_or ds 0 0) text)), λ _. ap length text)
decimal_is_plain (suc n) small =
    let first = first_decimal (suc n) (omega arith) small in
    (λ e. absurd (omega (arith, e, first)), λ e. absurd (omega (arith, e, first)))

-- the digits behind a `-`
behind_minus : (ds : List ℕ) → slice_index ds 0 ≢ 48 → IsNumeral 10 ds → (v : ℕ) → digits_value 10 ds ≡ v → FitsSigned w64 (neg_ℤ (pos v)) → signed_decimal (neg_ℤ (pos v)) ≡ 45 ∷ ds
behind_minus ds first digits zero value fits =
    let text = decimal-digits_value (numerals_by_value _ tells_digits) ds digits.1 digits.0 (λ e. absurd (first e)) (omega (arith, value)) in
    absurd (first (ap (λ bs. get_or bs 0 0) (sym text ∙ ap decimal value ∙ decimal_digit 0 (omega arith))))
behind_minus ds first digits (suc v) value fits =
    let text = decimal-digits_value (numerals_by_value _ tells_digits) ds digits.1 digits.0 (λ e. absurd (first e)) (omega (arith, value, fits.sfits)) in
    ap (λ bs. 45 ∷ bs) (ap decimal (sym value) ∙ text)

-- a plain numeral with a sign is the decimal text of its number
pub plain_signed_numeral : (bs : List ℕ) → IsPlainSigned bs → IsNumeral 10 (without_leading_sign bs) → FitsSigned w64 (signed_digits_value 10 bs) → signed_decimal (signed_digits_value 10 bs) ≡ bs
plain_signed_numeral bs plain digits fits = by_sign bs (slice_index bs 0 == 45) refl plain digits fits
  where
    by_sign : (bs : List ℕ) (minus : Bool) → (slice_index bs 0 == 45) ≡ minus → IsPlainSigned bs → IsNumeral 10 (without_leading_sign bs) → FitsSigned w64 (signed_digits_value 10 bs) → signed_decimal (signed_digits_value 10 bs) ≡ bs
    by_sign bs false is plain digits fits =
        let same : without_leading_sign bs ≡ without_leading_plus bs = ap (λ t. cond t (drop 1 bs) (without_leading_plus bs)) is in
        let value : signed_digits_value 10 bs ≡ pos (digits_value 10 (without_leading_plus bs)) = ap (λ t. cond t (neg_ℤ (pos (digits_value 10 (without_leading_sign bs)))) (pos (digits_value 10 (without_leading_sign bs)))) is ∙ ap (λ ds. pos (digits_value 10 ds)) same in
        let small : FitsSigned w64 (pos (digits_value 10 (without_leading_plus bs))) = subst (FitsSigned w64) value fits in
        ap signed_decimal value ∙ plain_numeral bs plain.0 (subst (IsNumeral 10) same digits) (omega (arith, small.sfits))
    by_sign [] true is plain digits fits = absurd (omega (arith, digits.0))
    by_sign (b ∷ ds) true is plain digits fits =
        let minus : b ≡ 45 = eqb-true b 45 is in
        let same : without_leading_sign (b ∷ ds) ≡ ds = ap (λ t. cond t ds (without_leading_plus (b ∷ ds))) is in
        let value : signed_digits_value 10 (b ∷ ds) ≡ neg_ℤ (pos (digits_value 10 ds)) = ap (λ t. cond t (neg_ℤ (pos (digits_value 10 (without_leading_sign (b ∷ ds))))) (pos (digits_value 10 (without_leading_sign (b ∷ ds))))) is ∙ ap (λ xs. neg_ℤ (pos (digits_value 10 xs))) same in
        ap signed_decimal value ∙ behind_minus ds (plain.1 minus) (subst (IsNumeral 10) same digits) (digits_value 10 ds) refl (subst (FitsSigned w64) value fits) ∙ ap (λ x. x ∷ ds) (sym minus)

-- the decimal text of a number with a sign is plain
pub signed_is_plain : (z : ℤ) → FitsSigned w64 z → IsPlainSigned (signed_decimal z)
signed_is_plain (pos n) fits =
    let plain = decimal_is_plain n (omega (arith, fits.sfits)) in
    let digits = (decimal_is_IsNumeral n (omega (arith, fits.sfits))).0 in
    let first = digit_at (decimal n) 0 digits.1 digits.0 in
    (plain, λ e. absurd (omega (arith, e, first)))
signed_is_plain (negsuc n) fits =
    let first = first_decimal (suc n) (omega arith) (omega (arith, fits.sfits)) in
    ((λ e. absurd (omega (arith, e)), λ e. absurd (omega (arith, e))), λ _ e. absurd (omega (arith, e, first)))
