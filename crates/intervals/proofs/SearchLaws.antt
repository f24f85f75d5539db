-- What the search `first` gives, by cases.
use Rattle.std.specs.Prelude.{◌≡◌, ℕ, zero, suc, ◌+◌, ◌<◌, ◌≤◌, Bool, true, false, refl}
use Rattle.std.proofs.Common.{arith}
use Rattle.intervals.specs.rule.Search.{first, IsFirst, FirstIsFirst}

none : (j lo : ℕ) → lo ≤ j → j < lo → ⊥
none j lo above below = omega arith

-- `first` gives lo where lo passes
at_once : (passes : ℕ → Bool) (lo n : ℕ) → passes lo ≡ true → IsFirst passes lo n lo
at_once passes lo n yes_lo = record {
  least = omega arith;
  within = omega arith;
  none_before = λ j above below. absurd (none j lo above below);
  here = λ h. yes_lo;
}

-- `first` gives lo where no number is asked
at_end : (passes : ℕ → Bool) (lo : ℕ) → IsFirst passes lo 0 lo
at_end passes lo = record {
  least = omega arith;
  within = omega arith;
  none_before = λ j above below. absurd (none j lo above below);
  here = λ h. absurd (too_far h);
}
  where
    too_far : lo < lo + 0 → ⊥
    too_far h = omega arith

-- `first` gives the first of the numbers after lo where lo doesn't pass
later : (passes : ℕ → Bool) (lo n k : ℕ) → passes lo ≡ false → IsFirst passes (lo + 1) n k → IsFirst passes lo (suc n) k
later passes lo n k no_lo f = record {
  least = below k f.least;
  within = reach k f.within;
  none_before = λ j above under. grind (arith, no_lo, f.none_before j, above, under);
  here = λ h. f.here (inside k h);
}
  where
    below : (k : ℕ) → lo + 1 ≤ k → lo ≤ k
    below k h = omega arith

    reach : (k : ℕ) → k ≤ lo + 1 + n → k ≤ lo + suc n
    reach k h = omega arith

    inside : (k : ℕ) → k < lo + suc n → k < lo + 1 + n
    inside k h = omega arith

pub first_is_first : FirstIsFirst
unfolding first
first_is_first passes lo zero = at_end passes lo
first_is_first passes lo (suc n) =
    elim (passes lo) as (λ b. passes lo ≡ b → IsFirst passes lo (suc n) (elim b [ true ↦ lo | false ↦ first passes (lo + 1) n ]))
    [ true ↦ λ h. at_once passes lo (suc n) h | false ↦ λ h. later passes lo n (first passes (lo + 1) n) h (first_is_first passes (lo + 1) n) ]
    refl
