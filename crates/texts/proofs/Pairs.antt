-- Lines of several fields.
use Rattle.std.proofs.Common.{◌≡◌, ◌≢◌, ℕ, suc, List, [], ◌∷◌, ◌++◌, Option, Some, None, refl, sym, ap, ◌∙◌, arith}
use Rattle.std.specs.Option.{option_zip}
use Rattle.texts.specs.rule.Layout.{space}
use Rattle.texts.specs.rule.Reads.{Reads, Lacks, IsOneField, after_text, joined_text, pair_text, Both}

-- the first byte of a text and the bytes after it
pub heads : (a b : ℕ) (x y : List ℕ) → a ∷ x ≡ b ∷ y → a ≡ b
heads a b x y e = cc

pub tails : (a b : ℕ) (x y : List ℕ) → a ∷ x ≡ b ∷ y → x ≡ y
tails a b x y e = cc

-- two fields that lack the byte behind them end at the same place
pub same-split : (c : ℕ) (a b x y : List ℕ) → Lacks c a → Lacks c b → a ++ c ∷ x ≡ b ++ c ∷ y → (a ≡ b) × (x ≡ y)
same-split c [] [] x y no_a no_b e = (refl, tails c c x y e)
same-split c [] (b ∷ bs) x y no_a no_b e = absurd (no_b 0 (omega arith) (sym (heads c b x (bs ++ c ∷ y) e)))
same-split c (a ∷ as') [] x y no_a no_b e = absurd (no_a 0 (omega arith) (heads a c (as' ++ c ∷ x) y e))
same-split c (a ∷ as') (b ∷ bs) x y no_a no_b e =
    let rest = same-split c as' bs x y (λ i lt. no_a (suc i) (omega (arith, lt))) (λ i lt. no_b (suc i) (omega (arith, lt))) (tails a b (as' ++ c ∷ x) (bs ++ c ∷ y) e) in
    (cc (heads a b (as' ++ c ∷ x) (bs ++ c ∷ y) e, rest.0), rest.1)

-- every text of a value that fits is one field
abbrev pub AreWords : {A : Type 0} → (A → List ℕ) → (A → Type 0) → Type 0
AreWords text Fits = (x : _) → Fits x → Lacks space (text x)

-- two values that fit and have one text are one
abbrev pub AreApart : {A : Type 0} → (A → List ℕ) → (A → Type 0) → Type 0
AreApart text Fits = (x y : _) → Fits x → Fits y → text x ≡ text y → x ≡ y

pub cancel-front : (front x y : List ℕ) → front ++ x ≡ front ++ y → x ≡ y
cancel-front [] x y e = e
cancel-front (b ∷ front) x y e = cancel-front front x y (tails b b (front ++ x) (front ++ y) e)

-- the text of each value that fits lacks the byte c
abbrev pub AllLack : {A : Type 0} → ℕ → (A → List ℕ) → (A → Type 0) → Type 0
AllLack c text Fits = (x : _) → Fits x → Lacks c (text x)

-- a text without a first part is the text of no pair
pub reads-joined_none : {A B : Type 0} (c : ℕ) (f : A → List ℕ) (g : B → List ℕ) (P : A → Type 0) (Q : B → Type 0) (bytes : List ℕ) → AllLack c f P
    → ((word rest : List ℕ) → Lacks c word → bytes ≢ word ++ c ∷ rest) → Reads (joined_text c f g) (Both P Q) bytes None
reads-joined_none c f g P Q bytes words single p fits e = single (f p.0) (g p.1) (words p.0 fits.0) e

-- a text of two parts is the text of the pair of the values of its parts
pub reads-joined : {A B : Type 0} (c : ℕ) (f : A → List ℕ) (g : B → List ℕ) (P : A → Type 0) (Q : B → Type 0) (bytes word rest : List ℕ) → AllLack c f P → Lacks c word → bytes ≡ word ++ c ∷ rest
    → (a : Option A) (b : Option B) → Reads f P word a → Reads g Q rest b → Reads (joined_text c f g) (Both P Q) bytes (option_zip a b)
reads-joined c f g P Q bytes word rest words lacks parts None b no_first second = λ p fits e.
    no_first p.0 fits.0 (same-split c word (f p.0) rest (g p.1) lacks (words p.0 fits.0) (sym parts ∙ e)).0
reads-joined c f g P Q bytes word rest words lacks parts (Some x) None first no_second = λ p fits e.
    no_second p.1 fits.1 (same-split c word (f p.0) rest (g p.1) lacks (words p.0 fits.0) (sym parts ∙ e)).1
reads-joined c f g P Q bytes word rest words lacks parts (Some x) (Some y) first second =
    ((first.0, second.0), parts ∙ ap (λ (w : List ℕ). w ++ c ∷ rest) first.1 ∙ ap (λ (r : List ℕ). f x ++ c ∷ r) second.1)

-- a text of one field is the text of no pair
pub reads-pair_none : {A B : Type 0} (f : A → List ℕ) (g : B → List ℕ) (P : A → Type 0) (Q : B → Type 0) (bytes : List ℕ) → AreWords f P → IsOneField bytes → Reads (pair_text f g) (Both P Q) bytes None
reads-pair_none f g P Q bytes words single = reads-joined_none space f g P Q bytes words single

-- a text of two fields is the text of the pair of the values of its fields
pub reads-pair : {A B : Type 0} (f : A → List ℕ) (g : B → List ℕ) (P : A → Type 0) (Q : B → Type 0) (bytes word rest : List ℕ) → AreWords f P → Lacks space word → bytes ≡ word ++ space ∷ rest
    → (a : Option A) (b : Option B) → Reads f P word a → Reads g Q rest b → Reads (pair_text f g) (Both P Q) bytes (option_zip a b)
reads-pair f g P Q bytes word rest words lacks parts a b first second = reads-joined space f g P Q bytes word rest words lacks parts a b first second

-- a text whose first field is the text of no value is the text of no pair
pub reads-first_none : {A B : Type 0} (f : A → List ℕ) (g : B → List ℕ) (P : A → Type 0) (Q : B → Type 0) (bytes word rest : List ℕ) → AreWords f P → Lacks space word → bytes ≡ word ++ space ∷ rest
    → Reads f P word None → Reads (pair_text f g) (Both P Q) bytes None
reads-first_none f g P Q bytes word rest words lacks parts none p fits e = none p.0 fits.0 (same-split space word (f p.0) rest (g p.1) lacks (words p.0 fits.0) (sym parts ∙ e)).0

-- a text without the front is the text of no value
pub reads-after_none : {A : Type 0} (front : List ℕ) (f : A → List ℕ) (P : A → Type 0) (bytes : List ℕ) → ((rest : List ℕ) → bytes ≢ front ++ rest) → Reads (after_text front f) P bytes None
reads-after_none front f P bytes absent x fits e = absent (f x) e

-- a text with the front is the text of the value that is written behind the front
pub reads-after : {A : Type 0} (front : List ℕ) (f : A → List ℕ) (P : A → Type 0) (bytes rest : List ℕ) → bytes ≡ front ++ rest → (a : Option A) → Reads f P rest a → Reads (after_text front f) P bytes a
reads-after front f P bytes rest parts None none = λ x fits e. none x fits (cancel-front front rest (f x) (sym parts ∙ e))
reads-after front f P bytes rest parts (Some x) some = (some.0, parts ∙ ap (λ (r : List ℕ). front ++ r) some.1)

-- two pairs have one text only if both their parts have
pub apart-joined : {A B : Type 0} (c : ℕ) (f : A → List ℕ) (g : B → List ℕ) (P : A → Type 0) (Q : B → Type 0) → AllLack c f P → AreApart f P → AreApart g Q → AreApart (joined_text c f g) (Both P Q)
apart-joined {A} {B} c f g P Q words one two p q p_fits q_fits e =
    let parts = same-split c (f p.0) (f q.0) (g p.1) (g q.1) (words p.0 p_fits.0) (words q.0 q_fits.0) e in
    ap (λ (x : A). (x, p.1)) (one p.0 q.0 p_fits.0 q_fits.0 parts.0) ∙ ap (λ (y : B). (q.0, y)) (two p.1 q.1 p_fits.1 q_fits.1 parts.1)

pub apart-pair : {A B : Type 0} (f : A → List ℕ) (g : B → List ℕ) (P : A → Type 0) (Q : B → Type 0) → AreWords f P → AreApart f P → AreApart g Q → AreApart (pair_text f g) (Both P Q)
apart-pair f g P Q words one two = apart-joined space f g P Q words one two

pub apart-after : {A : Type 0} (front : List ℕ) (f : A → List ℕ) (P : A → Type 0) → AreApart f P → AreApart (after_text front f) P
apart-after front f P one x y x_fits y_fits e = one x y x_fits y_fits (cancel-front front (f x) (f y) e)
