-- What the searches for spans give.
use Rattle.std.proofs.Common.{◌≡◌, ℕ, zero, suc, pred, ◌+◌, ◌-◌, ◌<◌, ◌≤◌, Bool, true, false, not, refl, inl, inr, arith}
use Rattle.std.proofs.lemmas.Bool.{cases_lt, cases_Bool}
use Rattle.std.proofs.lemmas.Bool.Decides.{nat_tests}
use Rattle.intervals.specs.rule.Search.{first, all_pass}
use Rattle.intervals.specs.rule.Bytes.{LargestIsLargest}
use Rattle.intervals.specs.code.Runs.{IsLowestFree, IsHighestFree}
use Rattle.intervals.proofs.SearchLaws.{first_is_first}
use Rattle.intervals.proofs.Around.{largest_from}

-- where all of the numbers pass, each does
all_pass-each : (passes : ℕ → Bool) (lo n : ℕ) → all_pass passes lo n ≡ true → (k : ℕ) → lo ≤ k → k < lo + n → passes k ≡ true
all_pass-each passes lo n all k low high =
    let is = first_is_first (λ b. not (passes b)) lo n in
    let end : lo + n ≤ first (λ b. not (passes b)) lo n = grind (arith, nat_tests) in
    let none = is.none_before k low (omega arith) in
    elim (cases_Bool (passes k)) [ inl t ↦ t | inr f ↦ absurd (let h : not (passes k) ≡ true = rw f refl in cc) ]

-- where not all of the numbers pass, one doesn't
not_all-one : (passes : ℕ → Bool) (lo n : ℕ) → all_pass passes lo n ≡ false → (k : ℕ) × (lo ≤ k) × (k < lo + n) × (passes k ≡ false)
not_all-one passes lo n some =
    let is = first_is_first (λ b. not (passes b)) lo n in
    let k = first (λ b. not (passes b)) lo n in
    let inside : k < lo + n = grind (arith, nat_tests) in
    let here = is.here inside in
    (k, is.least, inside, elim (cases_Bool (passes k)) [ inl t ↦ absurd (let h : not (passes k) ≡ false = rw t refl in cc) | inr f ↦ f ])

not-true : (b : Bool) → not b ≡ true → b ≡ true → ⊥
not-true b fails is = let other : not b ≡ false = rw is refl in cc

not-false : (b : Bool) → not b ≡ false → b ≡ true
not-false b fails = elim (cases_Bool b) [ inl t ↦ t | inr f ↦ absurd (let h : not b ≡ true = rw f refl in cc) ]

-- a number from 1 on is one more than its predecessor
pred-above : (n : ℕ) → 1 ≤ n → pred n + 1 ≡ n
pred-above zero le = absurd (omega arith)
pred-above (suc n) le = omega arith

module _ (barred : ℕ → Bool) where
  -- no byte from l on and below `from` is barred
  abbrev free_below : ℕ → ℕ → Bool
  free_below from l = all_pass (λ b. not (barred b)) l (from - l)

  free_below-each : (from l : ℕ) → free_below from l ≡ true → (b : ℕ) → l ≤ b → b < from → barred b ≡ true → ⊥
  free_below-each from l all b ge lt hit = not-true (barred b) (all_pass-each (λ k. not (barred k)) l (from - l) all b ge (omega arith)) hit

  -- the search downwards finds how far down the bytes are free
  lowest_is_lowest : (low from : ℕ) → low ≤ from → IsLowestFree (λ b. barred b ≡ true) low from (first (free_below from) low (from - low))
  lowest_is_lowest low from order =
      let is = first_is_first (free_below from) low (from - low) in
      let lo = first (free_below from) low (from - low) in
      let end : lo ≤ from = omega (arith, is.within) in
      let free : (b : ℕ) → lo ≤ b → b < from → barred b ≡ true → ⊥ = λ b ge lt hit. free_below-each from lo (is.here (omega arith)) b ge lt hit in
      record {
        above = is.least;
        below = end;
        free = free;
        full_below = λ b next le.
            let one = not_all-one (λ k. not (barred k)) b (from - b) (is.none_before b le (omega arith)) in
            let hit = not-false (barred one.0) one.3 in
            elim (cases_lt b one.0) [
              | inl lt ↦ absurd (free one.0 (omega arith) (omega (arith, one.2)) hit)
              | inr ge ↦ let same : one.0 ≡ b = omega (arith, one.1) in rw (← same) hit
            ];
      }

  -- the search upwards finds how far up the bytes are free
  highest_is_highest : (to high : ℕ) → to ≤ high → IsHighestFree (λ b. barred b ≡ true) to high (pred (first barred (to + 1) (high - to)))
  highest_is_highest to high order =
      let is = first_is_first barred (to + 1) (high - to) in
      let end = first barred (to + 1) (high - to) in
      let next : pred end + 1 ≡ end = pred-above end (omega (arith, is.least)) in
      record {
        above = omega (arith, is.least);
        below = omega (arith, is.within);
        free = λ b lt le hit. absurd (let fails = is.none_before b (omega arith) (omega arith) in cc);
        full_above = λ lt. rw next (is.here (omega arith));
      }

pub largest_is_largest : LargestIsLargest
largest_is_largest barred required within order starts ends free =
    largest_from (λ b. barred b ≡ true) required within _ _ free (lowest_is_lowest barred within.lo required.lo starts) (highest_is_highest barred required.hi within.hi ends)
