-- What searches over numbers give.
use Rattle.std.specs.Prelude.{◌≡◌, ℕ, ◌+◌, ◌<◌, ◌≤◌, Bool, true, false, nat_lt}
use Rattle.std.proofs.Common.{arith, ap, ◌∙◌, inl, inr}
use Rattle.std.proofs.lemmas.Bool.{cases_order, cases_lt, both_ways}
use Rattle.std.proofs.lemmas.Bool.Decides.{nat_tests}
use Rattle.intervals.specs.rule.Search.{first, some_passes, IsFirst}
use Rattle.intervals.proofs.SearchLaws.{first_is_first}

none : (j lo : ℕ) → lo ≤ j → j < lo → ⊥
none j lo above below = omega arith

-- the numbers from lo that come before i don't pass
pub record Failed (passes : ℕ → Bool) (lo i : ℕ) : Type 0 where
  pub all : (j : ℕ) → lo ≤ j → j < i → passes j ≡ false

pub failed-start : (passes : ℕ → Bool) (lo : ℕ) → Failed passes lo lo
failed-start passes lo = record { all = λ j above below. absurd (none j lo above below) }

pub failed-more : (passes : ℕ → Bool) (lo i : ℕ) → Failed passes lo i → passes i ≡ false → Failed passes lo (i + 1)
failed-more passes lo i f no_i = record { all = λ j above below. elim (cases_lt j i) [ inl lt ↦ f.all j above lt | inr le ↦ ap passes (same j le below) ∙ no_i ] }
  where
    same : (j : ℕ) → i ≤ j → j < i + 1 → j ≡ i
    same j le below = omega arith

-- a number that passes after numbers that do not is the one that `first` gives
pub first-found : (passes : ℕ → Bool) (lo n i : ℕ) → Failed passes lo i → lo ≤ i → i < lo + n → passes i ≡ true → first passes lo n ≡ i
first-found passes lo n i f above below is = met (first passes lo n) (first_is_first passes lo n)
  where
    met : (k : ℕ) → IsFirst passes lo n k → k ≡ i
    met k k_first = elim (cases_order k i) [
      | inl same ↦ same
      | inr rest ↦ elim rest [ inl lt ↦ absurd (both_ways (passes k) (f.all k k_first.least lt) (k_first.here (omega arith))) | inr gt ↦ absurd (both_ways (passes i) (k_first.none_before i above gt) is) ]
    ]

-- where none of the n numbers passes, the search gives the number after them
pub first-none : (passes : ℕ → Bool) (lo n i : ℕ) → Failed passes lo i → lo + n ≤ i → first passes lo n ≡ lo + n
first-none passes lo n i f far = met (first passes lo n) (first_is_first passes lo n)
  where
    met : (k : ℕ) → IsFirst passes lo n k → k ≡ lo + n
    met k k_first = elim (cases_lt k (lo + n)) [
      | inl lt ↦ absurd (both_ways (passes k) (f.all k k_first.least (omega arith)) (k_first.here lt))
      | inr le ↦ let within = k_first.within in omega arith
    ]

pub some_passes-found : (passes : ℕ → Bool) (lo n i : ℕ) → lo ≤ i → i < lo + n → passes i ≡ true → some_passes passes lo n ≡ true
some_passes-found passes lo n i above below is = met (first passes lo n) (first_is_first passes lo n)
  where
    met : (k : ℕ) → IsFirst passes lo n k → nat_lt k (lo + n) ≡ true
    met k k_first = elim (cases_lt k (lo + n)) [
      | inl lt ↦ grind (arith, nat_tests, lt)
      | inr le ↦ absurd (both_ways (passes i) (k_first.none_before i above (omega arith)) is)
    ]

pub some_passes-none : (passes : ℕ → Bool) (lo n i : ℕ) → Failed passes lo i → lo + n ≤ i → some_passes passes lo n ≡ false
some_passes-none passes lo n i f far = met (first passes lo n) (first-none passes lo n i f far)
  where
    met : (k : ℕ) → k ≡ lo + n → nat_lt k (lo + n) ≡ false
    met k k_is = grind (arith, nat_tests, k_is)

-- k is one of the n numbers from lo, and passes
pub record Passes (passes : ℕ → Bool) (lo n k : ℕ) : Type 0 where
  pub least : lo ≤ k
  pub below : k < lo + n
  pub here : passes k ≡ true

pub first-passes : (passes : ℕ → Bool) (lo n : ℕ) → some_passes passes lo n ≡ true → Passes passes lo n (first passes lo n)
first-passes passes lo n some = met (first passes lo n) (first_is_first passes lo n) some
  where
    met : (k : ℕ) → IsFirst passes lo n k → nat_lt k (lo + n) ≡ true → Passes passes lo n k
    met k k_first lt = let under : k < lo + n = grind (arith, nat_tests, lt) in record { least = k_first.least; below = under; here = k_first.here under }
