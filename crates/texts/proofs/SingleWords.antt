-- Texts that are one field, and splits of texts at a byte.
use Rattle.std.proofs.Common.{◌≡◌, ◌≢◌, ◌∙◌, ap, get_or, length, ℕ, zero, suc, ◌<◌, ◌≤◌, ◌^◌, ◌++◌, Option, Some, None, MatchOption, Bor, ℤ, pos, negsuc, true, not, List, [], ◌∷◌, refl, sym, arith, eqb, decimal, codes, FitsSigned, w64}
use Rattle.std.specs.List.{list_all}
use Rattle.std.specs.Fmt.{signed_decimal}
use Rattle.std.proofs.Math.Seq.{get_or-append_seam}
use Rattle.std.proofs.lemmas.Fmt.{decimal_is_IsNumeral}
use Rattle.std.proofs.lemmas.List.{length-append}
use Rattle.std.proofs.lemmas.Str.Parse.{digit_at}
use Rattle.std.proofs.lemmas.Str.Pattern.{IsSplitOnceResult, split_parts, split_after}
use Rattle.model.specs.rule.Limits.{IsNumber}
use Rattle.model.specs.declared.mode.Mode.TheVariants.{Read, Write}
use Rattle.model.specs.declared.owner.Kind.TheVariants.{OfProcess, OfDescription}
use Rattle.texts.specs.rule.Layout.{space}
use Rattle.texts.specs.rule.Reads.{IsWithin, Lacks}
use Rattle.texts.specs.rule.Words.{kind_text, mode_text}
use Rattle.std.specs.Prelude.{⊤}
use Rattle.texts.proofs.Pairs.{AreWords, heads, same-split, tails}

-- a text lacks a byte if each of its bytes is tested not to be it
pub lacks-tested : (c : ℕ) (bytes : List ℕ) → list_all (λ b. not (eqb b c)) bytes ≡ true → Lacks c bytes
lacks-tested c [] test i lt = absurd (omega (arith, lt))
lacks-tested c (b ∷ bytes) test zero lt = grind (arith, test)
lacks-tested c (b ∷ bytes) test (suc i) lt = lacks-tested c bytes (grind (arith, test)) i (omega (arith, lt))

-- a word whose bytes are tested not to be spaces is one field
pub one-word : (word : List ℕ) → list_all (λ b. not (eqb b space)) word ≡ true → Lacks space word
one-word word test = lacks-tested space word test

-- one text has one first field
pub first-word : (word front operands rest : List ℕ) → Lacks space word → list_all (λ b. not (eqb b space)) front ≡ true → word ++ space ∷ operands ≡ front ++ space ∷ rest → word ≡ front
first-word word front operands rest lacks test e = (same-split space word front operands rest lacks (one-word front test) e).0

-- a text with a space is not a word without one
pub not-one : (word operands front : List ℕ) → Lacks space word → list_all (λ b. not (eqb b space)) front ≡ true → word ++ space ∷ operands ≢ front
not-one [] operands [] lacks test e = cc
not-one [] operands (c ∷ front) lacks test e = one-word (c ∷ front) test 0 (omega arith) (sym (heads space c operands front e))
not-one (b ∷ word) operands [] lacks test e = cc
not-one (b ∷ word) operands (c ∷ front) lacks test e =
    not-one word operands front (λ i lt. lacks (suc i) (omega (arith, lt))) (grind (arith, test)) (tails b c (word ++ space ∷ operands) front e)

-- the decimal text of a number lacks each byte that is no digit
pub decimal-lacks : (c : ℕ) → ((d : ℕ) → 48 ≤ d → d ≤ 57 → d ≢ c) → (n : ℕ) → n < 2 ^ 64 → Lacks c (decimal n)
decimal-lacks c apart n small i lt =
    let digit = digit_at (decimal n) i (decimal_is_IsNumeral n small).0.1 lt in
    apart _ digit.0 digit.1

pub Lacks-decimal : (n : ℕ) → n < 2 ^ 64 → Lacks space (decimal n)
Lacks-decimal n small = decimal-lacks space (λ d low high e. omega (arith, low, e)) n small

pub Lacks-signed_decimal : (z : ℤ) → FitsSigned w64 z → Lacks space (signed_decimal z)
Lacks-signed_decimal (pos n) fits i lt = Lacks-decimal n (omega (arith, fits)) i lt
Lacks-signed_decimal (negsuc n) fits zero lt = λ e. omega (arith, e)
Lacks-signed_decimal (negsuc n) fits (suc i) lt = Lacks-decimal (suc n) (omega (arith, fits)) i (omega (arith, lt))

-- a split of a text at the first place of a byte
pub split-first : (c : ℕ) → c < 128 → (bs : List ℕ) (r : Option (Bor (List ℕ) × Bor (List ℕ))) → IsSplitOnceResult c bs r
    → MatchOption r ((word rest : List ℕ) → Lacks c word → bs ≢ word ++ c ∷ rest) (λ x. Lacks c x.0.now × (bs ≡ x.0.now ++ c ∷ x.1.now))
split-first c ascii bs None split = λ word rest lacks e. split_after c bs word rest None split (omega (arith, ascii)) e lacks
split-first c ascii bs (Some x) split =
    let parts = split_parts c bs (Some x) split (omega (arith, ascii)) in
    (parts.1, parts.0)

-- a text that lacks a byte has no first part before it
pub not-parted : (c : ℕ) (bs word rest : List ℕ) → Lacks c bs → bs ≢ word ++ c ∷ rest
not-parted c bs word rest lacks e =
    let at : length word < length bs = omega (arith, ap length e, length-append word (c ∷ rest)) in
    lacks (length word) at (ap (λ (b : List ℕ). get_or b (length word) 0) e ∙ get_or-append_seam word c rest 0)

-- a split of a text at the first space
pub split-first_field : (bs : List ℕ) (r : Option (Bor (List ℕ) × Bor (List ℕ)))
    → MatchOption r (Lacks space bs) (λ x. Lacks space x.0.now × (bs ≡ x.0.now ++ space ∷ x.1.now))
    → MatchOption r ((word rest : List ℕ) → Lacks space word → bs ≢ word ++ space ∷ rest) (λ x. Lacks space x.0.now × (bs ≡ x.0.now ++ space ∷ x.1.now))
split-first_field bs None lacks = λ word rest _. not-parted space bs word rest lacks
split-first_field bs (Some x) parts = parts

pub number_words : (most : ℕ) → most < 2 ^ 64 → AreWords decimal (IsNumber most)
number_words most small n fits = Lacks-decimal n (omega (arith, small, fits.1))

pub byte_words : AreWords decimal (IsWithin 0 255)
byte_words n fits = Lacks-decimal n (omega (arith, fits.1))

pub offset_words : AreWords signed_decimal (FitsSigned w64)
offset_words = Lacks-signed_decimal

pub mode_words : AreWords mode_text (λ _. ⊤)
mode_words Read fits = one-word (codes "read") refl
mode_words Write fits = one-word (codes "write") refl

pub kind_words : AreWords kind_text (λ _. ⊤)
kind_words OfProcess fits = one-word (codes "proc") refl
kind_words OfDescription fits = one-word (codes "desc") refl
