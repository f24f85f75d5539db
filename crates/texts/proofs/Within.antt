-- Numbers within limits that a type can hold.
use Rattle.std.proofs.Common.{◌≡◌, ℕ, ◌<◌, ◌≤◌, ◌^◌, min, true, List, Option, Some, None, MatchOption, sym, ap, ◌∙◌, arith, decimal}
use Rattle.std.proofs.lemmas.Fmt.{decimal_injective}
use Rattle.texts.specs.rule.Reads.{IsWithin, Reads, has_no_space}
use Rattle.texts.proofs.OneField.{decimal_is_one_field}

module _ {A : Type 0} (number : A → ℕ) (greatest least most : ℕ) (small : most < 2 ^ 64) where
  abbrev Fits : A → Type 0
  Fits value = IsWithin least (min most greatest) (number value)

  pub within_is_small : (value : A) → Fits value → number value < 2 ^ 64
  within_is_small value fits = omega (arith, small, fits.1)

  pub within_is_one_field : (value : A) → Fits value → has_no_space (decimal (number value)) ≡ true
  within_is_one_field value fits = decimal_is_one_field (number value) (within_is_small value fits)

  pub value-within : (bytes : List ℕ) (n : ℕ) → least ≤ n → n ≤ most → bytes ≡ decimal n → (value : Option A) → MatchOption value (greatest < n) (λ v. (number v ≡ n) × (n ≤ greatest))
      → Reads (λ v. decimal (number v)) Fits bytes value
  value-within bytes n low high written None past = λ v fits e.
      let same = decimal_injective n (number v) (omega (arith, high, small)) (omega (arith, fits.1, small)) (sym written ∙ e) in
      absurd (omega (arith, same, fits.1, past))
  value-within bytes n low high written (Some v) is =
      ((omega (arith, low, is.0), omega (arith, high, is.0, is.1)), written ∙ ap decimal (sym is.0))
