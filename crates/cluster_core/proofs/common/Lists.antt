-- Lists of all things of a kind, put together.
use Rattle.std.specs.Prelude.{◌≡◌, ℕ, suc, ◌+◌, ◌<◌, ◌≤◌, ◌⊎◌, List, [], ◌∷◌, ◌++◌, All, AllPairs, Contains, length, map, take, get_or}
use Rattle.std.proofs.Common.{sym, ap, ◌∙◌, subst, inl, inr, arith, append_assoc}
use Rattle.std.proofs.lemmas.Bool.{cases_lt}
use Rattle.std.proofs.lemmas.List.{append-nil, get_or-map, length-map, map-append, take_all}
use Rattle.std.proofs.lemmas.List.Elements.{All-nil, All-append, All-head, All-tail, All-map, All-weaker, Contains-append_left, Contains-append_right}
use Rattle.std.proofs.lemmas.List.Kept.{AllPairs-cons}
use Rattle.cluster_core.specs.rule.Listings.{Lists, Adds}
use Rattle.cluster_core.proofs.common.Places.{take_read}

-- what follows from two facts of an element follows for each element of a list
pub All-both : {A : Type 0} (P Q R : A → Type 0) → ((x : A) → P x → Q x → R x) → (xs : List A) → All P xs → All Q xs → All R xs
All-both P Q R f xs a b k d lt = f _ (a k d lt) (b k d lt)

some_of : {A : Type 0} (xs : List A) (n : ℕ) → n < length xs → A
some_of [] n lt = absurd (omega arith)
some_of (x ∷ xs) n lt = x

-- the list of all elements of a kind, mapped by f
pub lists_map : {A B : Type 0} (Is : A → Type 0) (Before : A → A → Type 0) (f : B → A) (g : A → B) (xs : List B) → All (λ (b : B). Is (f b)) xs → ((x : A) → Is x → Contains xs (g x) × (f (g x) ≡ x)) → AllPairs (λ (a b : B). Before (f a) (f b)) xs → Lists Is Before (map f xs)
lists_map {A} {B} Is Before f g xs each complete rises = record {
  each = All-map Is f xs each;
  complete = λ x is.
      let found = complete x is in
      let place = found.0 in
      (place.0, rw (length-map xs f) place.1, get_or-map f xs place.0 (g x) x place.1 ∙ (ap f place.2 ∙ found.1));
  rises = λ i j d lt within.
      let inside : j < length xs = rw (← length-map xs f) within in
      let e : B = some_of xs j inside in
      rw (get_or-map f xs i e d (omega arith), get_or-map f xs j e d inside) (rises i j e lt inside);
}

pub all_pairs-append : {A : Type 0} (R : A → A → Type 0) (xs ys : List A) → AllPairs R xs → AllPairs R ys → All (λ (x : A). All (R x) ys) xs → AllPairs R (xs ++ ys)
all_pairs-append R [] ys p q h = q
all_pairs-append R (x ∷ xs) ys p q h =
    AllPairs-cons R x (xs ++ ys)
    (All-append (R x) xs ys (λ k d lt. p 0 (suc k) d (omega arith) (omega arith)) (All-head (λ (z : _). All (R z) ys) x xs h))
    (all_pairs-append R xs ys (λ i j d lt within. p (suc i) (suc j) d (omega arith) (omega arith)) q (All-tail (λ (z : _). All (R z) ys) x xs h))

-- the elements of one kind, and then those of another, are all elements of either kind
pub lists_join : {A : Type 0} (P Q R : A → Type 0) (Before : A → A → Type 0) (xs ys : List A) → ((x : A) → P x → R x) → ((x : A) → Q x → R x) → ((x : A) → R x → P x ⊎ Q x) → ((x y : A) → P x → Q y → Before x y) → Lists P Before xs → Lists Q Before ys → Lists R Before (xs ++ ys)
lists_join P Q R Before xs ys left right cases before p q = record {
  each = All-append R xs ys (All-weaker P R left xs p.each) (All-weaker Q R right ys q.each);
  complete = λ x is. elim (cases x is) [
    | inl first ↦ Contains-append_left xs ys x (p.complete x first)
    | inr second ↦ Contains-append_right xs ys x (q.complete x second)
  ];
  rises = all_pairs-append Before xs ys p.rises q.rises (All-weaker P (λ x. All (Before x) ys) (λ x first. All-weaker Q (Before x) (λ y second. before x y first second) ys q.each) xs p.each);
}

pub lists_same : {A : Type 0} (P Q : A → Type 0) (Before : A → A → Type 0) (xs : List A) → ((x : A) → P x → Q x) → ((x : A) → Q x → P x) → Lists P Before xs → Lists Q Before xs
lists_same P Q Before xs to from l = record {
  each = All-weaker P Q to xs l.each;
  complete = λ x is. l.complete x (from x is);
  rises = l.rises;
}

-- no element of a kind is added where there is none
pub adds_none : {A : Type 0} (P : A → Type 0) (Before : A → A → Type 0) (old : List A) → ((x : A) → P x → ⊥) → Adds P Before old old
adds_none P Before old none = (
  [],
  sym (append-nil old),
  record {
    each = All-nil P;
    complete = λ x is. absurd (none x is);
    rises = λ i j d lt within. absurd (omega arith);
  },
)

pub adds_join : {A : Type 0} (P Q R : A → Type 0) (Before : A → A → Type 0) (old mid new : List A) → ((x : A) → P x → R x) → ((x : A) → Q x → R x) → ((x : A) → R x → P x ⊎ Q x) → ((x y : A) → P x → Q y → Before x y) → Adds P Before old mid → Adds Q Before mid new → Adds R Before old new
adds_join P Q R Before old mid new left right cases before p q = (
  p.0 ++ q.0,
  q.1 ∙ (ap (λ (l : List _). l ++ q.0) p.1 ∙ append_assoc old p.0 q.0),
  lists_join P Q R Before p.0 q.0 left right cases before p.2 q.2,
)

pub adds_same : {A : Type 0} (P Q : A → Type 0) (Before : A → A → Type 0) (old new : List A) → ((x : A) → P x → Q x) → ((x : A) → Q x → P x) → Adds P Before old new → Adds Q Before old new
adds_same P Q Before old new to from p = (p.0, p.1, lists_same P Q Before p.0 to from p.2)

-- elements that are added to the empty list are the whole list
pub adds_all : {A : Type 0} (P : A → Type 0) (Before : A → A → Type 0) (new : List A) → Adds P Before [] new → Lists P Before new
adds_all P Before new p = subst (Lists P Before) (sym p.1) p.2

-- what f makes of a list, added element by element
module _ {A B : Type 0} (f : A → B) (xs : List A) (i : ℕ) (old now : List B) (so_far : now ≡ old ++ map f (take i xs)) where
  pub mapped_more : (x : A) (next : List B) → i < length xs → x ≡ get_or xs i x → next ≡ now ++ f x ∷ [] → next ≡ old ++ map f (take (i + 1) xs)
  mapped_more x next lt is made =
      let all : map f (take (i + 1) xs) ≡ map f (take i xs) ++ f x ∷ [] = ap (map f) (take_read xs i x lt is) ∙ map-append f (take i xs) (x ∷ []) in
      made ∙ ap (λ (l : List B). l ++ f x ∷ []) so_far ∙ append_assoc old (map f (take i xs)) (f x ∷ []) ∙ ap (λ (l : List B). old ++ l) (sym all)

  pub mapped_all : length xs ≤ i → now ≡ old ++ map f xs
  mapped_all past = so_far ∙ ap (λ (l : List A). old ++ map f l) (take_all i xs past)

-- elements of a kind, each with a number
module _ {A : Type 0} (Is : A → Type 0) (number : A → ℕ) where
  abbrev pub IsAt : ℕ → A → Type 0
  IsAt n x = Is x × (number x ≡ n)

  abbrev pub IsUpTo : ℕ → A → Type 0
  IsUpTo n x = Is x × (number x ≤ n)

  module _ (Before : A → A → Type 0) where
    pub adds_first : (old : List A) → ((x : A) → Is x → 1 ≤ number x) → Adds (IsUpTo 0) Before old old
    adds_first old least = adds_none (IsUpTo 0) Before old (λ x is. let first = least x is.0 in absurd (omega (arith, is.1)))

    pub adds_next : (i : ℕ) (old mid new : List A) → ((x y : A) → Is x → Is y → number x < number y → Before x y) → Adds (IsUpTo i) Before old mid → Adds (IsAt (i + 1)) Before mid new → Adds (IsUpTo (i + 1)) Before old new
    adds_next i old mid new rises =
        adds_join (IsUpTo i) (IsAt (i + 1)) (IsUpTo (i + 1)) Before old mid new
        (λ x is. (is.0, omega (arith, is.1)))
        (λ x is. (is.0, omega (arith, is.1)))
        (λ x is. elim (cases_lt (number x) (i + 1)) [ inl lt ↦ inl (is.0, omega arith) | inr ge ↦ inr (is.0, omega (arith, is.1)) ])
        (λ x y is next. rises x y is.0 next.0 (omega (arith, is.1, next.1)))

    pub adds_last : (i : ℕ) (old new : List A) → ((x : A) → Is x → number x ≤ i) → Adds (IsUpTo i) Before old new → Adds Is Before old new
    adds_last i old new most = adds_same (IsUpTo i) Is Before old new (λ x is. is.0) (λ x is. (is, most x is))
