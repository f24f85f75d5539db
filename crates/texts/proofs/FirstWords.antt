-- Values whose texts begin with one of a few words.
use Rattle.std.proofs.Common.{◌≡◌, ◌≢◌, ℕ, zero, suc, Bool, false, true, eqb, if◌then◌else◌, List, [], ◌∷◌, ◌++◌, None, inl, inr, refl, sym, ap, ◌∙◌, arith}
use Rattle.std.specs.Prelude.{◌⊎◌, ⊤}
use Rattle.std.specs.Cmp.Lexicographic.{pointwise}
use Rattle.texts.specs.rule.Layout.{space}
use Rattle.texts.specs.rule.Reads.{IsOneField, Lacks, Reads, has_no_space}

-- the bytes before the first space
abbrev pub first_word : List ℕ → List ℕ
first_word [] = []
first_word (b ∷ bytes) = if eqb b space then [] else b ∷ first_word bytes

abbrev pub is_among : List (List ℕ) → List ℕ → Bool
is_among [] word = false
is_among (w ∷ words) word = if pointwise eqb word w then true else is_among words word

-- the text of a value begins with one of the words `with_fields` and has more fields, or is one of the words `alone`
pub record BeginsWithWord {A : Type 0} (text : A → List ℕ) (Fits : A → Type 0) (with_fields alone : List (List ℕ)) : Type 0 where
  pub told : (x : A) → Fits x → (is_among with_fields (first_word (text x)) ≡ true) × (has_no_space (text x) ≡ false) ⊎ (is_among alone (text x) ≡ true) × (has_no_space (text x) ≡ true)

-- the word is none of the given words
abbrev pub IsOther : List (List ℕ) → List ℕ → Type 0
IsOther [] word = ⊤
IsOther (w ∷ words) word = (word ≢ w) × IsOther words word

pointwise-same : (v w : List ℕ) → pointwise eqb v w ≡ true → v ≡ w
pointwise-same [] [] e = refl
pointwise-same [] (c ∷ w) e = cc
pointwise-same (b ∷ v) [] e = cc
pointwise-same (b ∷ v) (c ∷ w) e = grind (arith, e, pointwise-same v w)

not-among : (words : List (List ℕ)) (word : List ℕ) → IsOther words word → is_among words word ≢ true
not-among [] word other e = cc
not-among (w ∷ words) word other e = grind (arith, e, other.0, pointwise-same word w, not-among words word other.1)

first_word-behind : (word rest : List ℕ) → Lacks space word → first_word (word ++ space ∷ rest) ≡ word
first_word-behind [] rest lacks = refl
first_word-behind (b ∷ word) rest lacks =
    let first : b ≢ space = lacks 0 (omega arith) in
    grind (arith, first, first_word-behind word rest (λ i lt. lacks (suc i) (omega (arith, lt))))

has_space-behind : (word rest : List ℕ) → has_no_space (word ++ space ∷ rest) ≡ false
has_space-behind [] rest = refl
has_space-behind (b ∷ word) rest = grind (arith, has_space-behind word rest)

-- a text without a space is one field
pub has_no_space-one : (bytes : List ℕ) → IsOneField bytes → has_no_space bytes ≡ true
has_no_space-one [] one = refl
has_no_space-one (b ∷ bytes) one =
    let first : b ≢ space = λ e. one [] bytes (λ i lt. absurd (omega (arith, lt))) (ap (λ (c : ℕ). c ∷ bytes) e) in
    let more : IsOneField bytes = λ word rest lacks e. one (b ∷ word) rest (lacks-more b word first lacks) (ap (λ (r : List ℕ). b ∷ r) e) in
    grind (arith, first, has_no_space-one bytes more)
  where
    lacks-more : (b : ℕ) (word : List ℕ) → b ≢ space → Lacks space word → Lacks space (b ∷ word)
    lacks-more b word first lacks zero lt = first
    lacks-more b word first lacks (suc i) lt = lacks i (omega (arith, lt))

-- a text that begins with none of the words is the text of no value, whatever stands behind its first field
pub none-with : {A : Type 0} {text : A → List ℕ} {Fits : A → Type 0} {with_fields alone : List (List ℕ)} → BeginsWithWord text Fits with_fields alone
    → (word rest : List ℕ) → Lacks space word → IsOther with_fields word → Reads text Fits (word ++ space ∷ rest) None
none-with {text = text} {with_fields = with_fields} begins word rest lacks other x fits e =
    elim (begins.told x fits) [
      | inl (among, _) ↦ not-among with_fields word other (ap (is_among with_fields) (sym (first_word-behind word rest lacks) ∙ ap first_word e) ∙ among)
      | inr (_, one) ↦ absurd (let two = sym (has_space-behind word rest) ∙ ap has_no_space e ∙ one in cc)
    ]

-- a text of one field that is none of the words is the text of no value
pub none-alone : {A : Type 0} {text : A → List ℕ} {Fits : A → Type 0} {with_fields alone : List (List ℕ)} → BeginsWithWord text Fits with_fields alone
    → (word : List ℕ) → IsOneField word → IsOther alone word → Reads text Fits word None
none-alone {alone = alone} begins word one other x fits e =
    elim (begins.told x fits) [
      | inl (_, two) ↦ absurd (let same = sym (has_no_space-one word one) ∙ ap has_no_space e ∙ two in cc)
      | inr (among, _) ↦ not-among alone word other (ap (is_among alone) e ∙ among)
    ]
