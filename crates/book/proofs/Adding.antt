-- The exchange that appends an item keeps the rule of a trail.
use Rattle.std.proofs.Common.{◌≡◌, ℕ, zero, suc, ◌<◌, ◌≤◌, List, [], ◌∷◌, ◌++◌, length, Some, slice_get, refl, arith, ◌+◌, ◌==◌, Bool, true, false, ap, sym, subst, inl, length-append, MatchBool, None}
use mathlib.Core.List.{IsPrefix}
use Rattle.std.proofs.lemmas.List.{append-nil}
use Rattle.std.proofs.lemmas.Bool.Decides.{nat_tests}
use prog.Atomic.{either}
use Rattle.logbook.specs.Pages.{Cell, cell, keeps, no_nib, step, Moves, Goes}
use Rattle.book.specs.rule.Trails.{IsKept, Adds}

-- a prefix as long as the whole is the whole
pub prefix_whole : {A : Type 0} (xs ys : List A) → IsPrefix xs ys → length ys ≤ length xs → xs ≡ ys
prefix_whole [] [] p le = refl
prefix_whole [] (y ∷ ys) p le = absurd (omega arith)
prefix_whole (x ∷ xs) [] p le = absurd (cc (p.1))
prefix_whole (x ∷ xs) (y ∷ ys) p le =
    let rest = prefix_whole xs ys (p.0, cc (p.1)) (omega arith) in cc (p.1, rest)

-- an element of a prefix is at the same place of the whole
pub prefix_get : {A : Type 0} (xs ys : List A) (k : ℕ) → IsPrefix xs ys → k < length xs → slice_get xs k ≡ slice_get ys k
prefix_get [] ys k p h = absurd (omega arith)
prefix_get (y ∷ xs) [] k p h = absurd (cc (p.1))
prefix_get (y ∷ xs) (z ∷ ys) zero p h = cc (p.1)
prefix_get (y ∷ xs) (z ∷ ys) (suc k) p h = prefix_get xs ys k (p.0, cc (p.1)) (omega arith)

-- the element that was appended is at the place that was the length
pub last_get : {A : Type 0} (xs : List A) (x : A) → slice_get (xs ++ x ∷ []) (length xs) ≡ Some x
last_get [] x = refl
last_get (y ∷ xs) x = last_get xs x

abbrev pub shown : {E : Type 0} → List E → List E
shown log = []

abbrev pub moved : {E : Type 0} → List E → List E → ℕ → Type 0
moved xs ys n = Unit {0}

pub adds_goes : {E : Type 0} (log v : List E) (e : E) (old : ℕ) → length v ≡ old → IsPrefix v log
    → (b : Bool) → (length log == old) ≡ b
    → Goes IsKept shown moved 0 (v, (no_nib, None)) (λ n. either (n == old) (old + 1) n) (Adds (step 0 old (old + 1) e) (v, (no_nib, None))) ((length log, true) ∷ (0, true) ∷ []) log
adds_goes log v e old len pre true is =
    let here : length log ≡ old = grind (arith, nat_tests) in
    let same : v ≡ log = prefix_whole v log pre (omega arith) in
    let n : either (length log == old) (old + 1) (length log) ≡ length (log ++ e ∷ []) = rw is (omega (arith, length-append log (e ∷ []))) in (
      keeps,
      e ∷ [],
      None,
      tt,
      ap (λ (k : ℕ). (k, true) ∷ (0, true) ∷ []) n,
      inl (refl, refl),
      rw is (ap (λ w. w ++ e ∷ []) (sym same)),
    )
adds_goes log v e old len pre false is =
    let all : log ++ [] ≡ log = append-nil log in
    let n : either (length log == old) (old + 1) (length log) ≡ length (log ++ []) = rw is (ap length (sym all)) in (
      keeps,
      [],
      None,
      tt,
      ap (λ (k : ℕ). (k, true) ∷ (0, true) ∷ []) n,
      inl (refl, refl),
      rw is (ap length all),
    )

-- whatever the list is, the exchange appends the item to all that was seen, or finds that the list is longer
pub adds_moves : {E : Type 0} (v : List E) (e : E) (old : ℕ) → length v ≡ old
    → Moves IsKept shown moved 0 (v, (no_nib, None)) (λ n. either (n == old) (old + 1) n) (Adds (step 0 old (old + 1) e) (v, (no_nib, None)))
adds_moves v e old len cs log kept pre away =
    let P : List Cell → Type 0 = λ c. (0 < length c) × ((cell c 0).1 ≡ true) × Goes IsKept shown moved 0 (v, (no_nib, None)) (λ n. either (n == old) (old + 1) n) (Adds (step 0 old (old + 1) e) (v, (no_nib, None))) c log in
    subst P (sym kept) (omega arith, refl, adds_goes log v e old len pre (length log == old) refl)

-- where the expected length was found, the item was appended to all that had been seen
pub added : {E : Type 0} (item : E) (before after : List E) (old found : ℕ) → found ≡ old → MatchBool (found == old) (after ≡ before ++ item ∷ []) (length after ≡ found) → after ≡ before ++ item ∷ []
added item before after old found same told =
    let yes : (found == old) ≡ true = grind (arith, nat_tests, same) in
    subst (λ (b : Bool). MatchBool b (after ≡ before ++ item ∷ []) (length after ≡ found)) yes told
