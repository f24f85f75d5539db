-- The texts of numbers.
use Rattle.std.proofs.Common.{◌≡◌, ◌≤◌, ℕ, List, Option, Some, None, arith, refl, sym, ◌∙◌}
use Rattle.std.specs.Prelude.{Result, Ok, Err}
use Rattle.std.specs.Str.Parse.{IsNumeral, ParsesUnsigned, digits_value, without_leading_plus}
use Rattle.clap.specs.Words.{ReadsOne, Text}
use Rattle.command_line.specs.rule.Words.{IsNumber}
use Rattle.command_line.specs.rule.Tasks.{greatest_seed}

-- how a text of 32 bits is read
abbrev Reads : {E : Type 0} → (List ℕ → Result ℕ E → Type 0) → Type 0
Reads {E} G = (u : List ℕ) (x : Result ℕ E) → G u x → ParsesUnsigned 32 10 u x

-- a text that is not read as a number of 32 bits writes no number below them
pub no_number_read : {E : Type 0} (G : List ℕ → Result ℕ E → Type 0) → Reads G → (least greatest : ℕ) → greatest ≤ greatest_seed
    → (text : Text) (number : ℕ) (r : Option ℕ) → ReadsOne G text r → r ≡ None → IsNumber least greatest text number → ⊥
no_number_read G only least greatest fits text number (Some v) reads none is = cc
no_number_read G only least greatest fits text number None reads none is = only text (Err reads.0) reads.1 (is.digits, omega (arith, fits, is.value, is.within))

-- one that is read has the digits of what is read
record IsRead (text : Text) (number : ℕ) : Type 0 where
  pub digits : IsNumeral 10 (without_leading_plus text)
  pub value : number ≡ digits_value 10 (without_leading_plus text)

found : {E : Type 0} (G : List ℕ → Result ℕ E → Type 0) → Reads G → (text : Text) (number : ℕ) (r : Option ℕ) → ReadsOne G text r → r ≡ Some number → IsRead text number
found G only text number None reads some = absurd (cc)
found G only text number (Some v) reads some =
    let same : v ≡ number = cc in
    let parsed = only text (Ok v) reads in
    record { digits = parsed.0.0; value = sym same ∙ parsed.1 }

-- so it writes that number, where it lies between the bounds, and no other
pub number_read : {E : Type 0} (G : List ℕ → Result ℕ E → Type 0) → Reads G → (least greatest : ℕ) → (value : Option Text) (number : ℕ) (r : Option ℕ) → (value ≡ None → r ≡ None)
    → ((t : Text) → value ≡ Some t → ReadsOne G t r) → r ≡ Some number → least ≤ number → number ≤ greatest → (text : Text) × (value ≡ Some text) × IsNumber least greatest text number
number_read G only least greatest None number r none some is above below =
    let nothing = none refl in
    absurd (cc)
number_read G only least greatest (Some text) number r none some is above below =
    let read = found G only text number r (some text refl) is in
    (text, refl, record { digits = read.digits; value = read.value; from_least = above; within = below })

pub one_number : {E : Type 0} (G : List ℕ → Result ℕ E → Type 0) → Reads G → (least greatest : ℕ) → (text : Text) (number other : ℕ) (r : Option ℕ) → ReadsOne G text r → r ≡ Some number
    → IsNumber least greatest text other → (least ≤ number) × (number ≤ greatest)
one_number G only least greatest text number other r reads is writes =
    let read = found G only text number r reads is in
    (omega (arith, read.value, writes.value, writes.from_least), omega (arith, read.value, writes.value, writes.within))
