-- What it means to read a value from its text.
use Rattle.std.specs.List.{list_all}
use Rattle.std.specs.Prelude.{Bool, not, nat_eq, ◌≡◌, ◌≢◌, ℕ, ◌<◌, ◌≤◌, List, ◌∷◌, ◌++◌, length, slice_index, Option, Some, None}
use Rattle.texts.specs.rule.Layout.{space}

-- the bytes are the text of the value that is found and it is within its limits, or they are the text of no value within its limits
abbrev pub Reads : {A : Type 0} → (A → List ℕ) → (A → Type 0) → List ℕ → Option A → Type 0
Reads text Fits bytes None = (x : _) → Fits x → bytes ≢ text x
Reads text Fits bytes (Some x) = Fits x × (bytes ≡ text x)

-- the bytes don't begin with `+`, and begin with a zero only if that is all
abbrev pub IsPlain : List ℕ → Type 0
IsPlain bytes = (slice_index bytes 0 ≢ 43) × (slice_index bytes 0 ≡ 48 → length bytes ≡ 1)

-- the bytes don't begin with `+` or a needless zero, and have no zero right behind a leading `-`
abbrev pub IsPlainSigned : List ℕ → Type 0
IsPlainSigned bytes = IsPlain bytes × (slice_index bytes 0 ≡ 45 → slice_index bytes 1 ≢ 48)

-- n is a number from `least` to `most`
abbrev pub IsWithin : (least most : ℕ) → ℕ → Type 0
IsWithin least most n = (least ≤ n) × (n ≤ most)

-- no byte of the text is b
abbrev pub Lacks : ℕ → List ℕ → Type 0
Lacks b bytes = (i : ℕ) → i < length bytes → slice_index bytes i ≢ b

-- the text is one field: no space ends a first field of it
abbrev pub IsOneField : List ℕ → Type 0
IsOneField bytes = (word rest : List ℕ) → Lacks space word → bytes ≢ word ++ space ∷ rest

-- the text of a value behind a fixed text
abbrev pub after_text : {A : Type 0} → List ℕ → (A → List ℕ) → A → List ℕ
after_text front text x = front ++ text x

-- the texts of two values with a space between them
abbrev pub pair_text : {A B : Type 0} → (A → List ℕ) → (B → List ℕ) → A × B → List ℕ
pair_text first second p = first p.0 ++ space ∷ second p.1

-- the texts of two values with the byte c between them
abbrev pub joined_text : {A B : Type 0} → ℕ → (A → List ℕ) → (B → List ℕ) → A × B → List ℕ
joined_text c first second p = first p.0 ++ c ∷ second p.1

abbrev pub Both : {A B : Type 0} → (A → Type 0) → (B → Type 0) → A × B → Type 0
Both P Q p = P p.0 × Q p.1

-- whether no byte of the text is a space
abbrev pub has_no_space : List ℕ → Bool
has_no_space bytes = list_all (λ b. not (nat_eq b space)) bytes
