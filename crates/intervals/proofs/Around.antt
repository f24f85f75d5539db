-- How far bytes that are not barred go on, downwards and upwards.
use Rattle.std.proofs.Common.{◌≡◌, ℕ, ◌+◌, ◌-◌, ◌<◌, ◌≤◌, ◌⊎◌, max, length, List, [], ◌∷◌, ◌++◌, Option, Some, None, refl, sym, ◌∙◌, inl, inr, arith}
use Rattle.std.proofs.lemmas.Bool.{cases_lt}
use Rattle.std.proofs.lemmas.Bool.Decides.{nat_tests}
use Rattle.intervals.specs.declared.byte_run.ByteRun.{ByteRun}
use Rattle.intervals.specs.rule.Bytes.{Range, IsRun, IsBarred, NoneIn, IsLargest}
use Rattle.intervals.specs.code.Runs.{IsBarredValue, AreRuns, EndsBelow, EndsFrom, IsLowestFree, IsHighestFree}
use Rattle.intervals.specs.rule.Runs.{bytes_of, value_at}
use Rattle.intervals.proofs.Runs.{ends_below_le, at-past, at-append}
use Rattle.intervals.proofs.Find.{BarredLeft, left-none, barred-some, barred-value, barred-along, not_barred-none, before-none, first-some}
use Rattle.intervals.proofs.Split.{ends-before, runs-front, at-front, barred-back}

module _ {V : Type 0} (runs : List (ByteRun V)) (bar : Option V) (to high : ℕ) (order : to ≤ high) where
  -- where no barred run is left the bytes are free up to `high`
  pub highest_end : BarredLeft runs [] bar (record { lo = to + 1; hi = high }) → IsHighestFree (IsBarred (value_at runs) bar) to high high
  highest_end left = record {
    above = order;
    below = omega arith;
    free = λ b lt le. left-none runs bar (record { lo = to + 1; hi = high }) left b (omega arith) le;
    full_above = λ lt. absurd (omega arith);
  }

  -- where the runs that are left begin above `high` the bytes are free up to `high`
  pub highest_stop : (rest : List (ByteRun V)) (r : ByteRun V) → BarredLeft runs (r ∷ rest) bar (record { lo = to + 1; hi = high }) → AreRuns (r ∷ rest) → high < r.lo → IsHighestFree (IsBarred (value_at runs) bar) to high high
  highest_stop rest r left made over = record {
    above = order;
    below = omega arith;
    free = λ b lt le barred. not_barred-none (value_at (r ∷ rest)) bar b (before-none r rest b made (omega arith)) (left b (omega arith) le barred);
    full_above = λ lt. absurd (omega arith);
  }

  -- where the next run is barred the bytes are free up to the byte below it
  pub highest_before : (rest : List (ByteRun V)) (r : ByteRun V) (hi : ℕ) → BarredLeft runs (r ∷ rest) bar (record { lo = to + 1; hi = high }) → AreRuns (r ∷ rest) → IsRun (value_at runs) (bytes_of r) r.value → IsBarredValue bar r.value → to < r.hi → r.lo ≤ high → hi ≡ max (r.lo - 1) to → IsHighestFree (IsBarred (value_at runs) bar) to high hi
  highest_before rest r hi left made run barred over starts e = record {
    above = omega arith;
    below = omega arith;
    free = λ b lt le hit. not_barred-none (value_at (r ∷ rest)) bar b (before-none r rest b made (omega arith)) (left b (omega arith) (omega arith) hit);
    full_above = λ lt. barred-some (value_at runs) bar (hi + 1) r.value (run.all (hi + 1) (omega arith) (omega (arith, made.0))) barred;
  }

-- the barred bytes from `low` on and below `from` are in the runs that are left
pub record LeftBelow {V : Type 0} (runs rest : List (ByteRun V)) (bar : Option V) (low from : ℕ) : Type 0 where
  pub made : AreRuns rest
  pub ended : EndsBelow rest from
  pub part : (b : ℕ) (v : V) → value_at rest b ≡ Some v → value_at runs b ≡ Some v
  pub left : (b : ℕ) → low ≤ b → b < from → IsBarred (value_at runs) bar b → IsBarred (value_at rest) bar b

ends-front : {V : Type 0} (l m : List (ByteRun V)) (n : ℕ) → EndsBelow (l ++ m) n → EndsBelow l n
ends-front [] m n ends = tt
ends-front (r ∷ l) m n ends = (ends.0, ends-front l m n ends.1)

pub ends-last : {V : Type 0} (l : List (ByteRun V)) (r : ByteRun V) (n : ℕ) → EndsBelow (l ++ r ∷ []) n → r.hi < n
ends-last [] r n ends = ends.0
ends-last (s ∷ l) r n ends = ends-last l r n ends.1

order-last : {V : Type 0} (l : List (ByteRun V)) (r : ByteRun V) → AreRuns (l ++ r ∷ []) → r.lo ≤ r.hi
order-last [] r runs = runs.0
order-last (s ∷ l) r runs = order-last l r runs.2

-- a byte past the last run has no value
none_past : {V : Type 0} (l : List (ByteRun V)) (r : ByteRun V) (b : ℕ) → AreRuns (l ++ r ∷ []) → r.hi < b → value_at (l ++ r ∷ []) b ≡ None
none_past l r b runs past =
    let ended = ends-before l [] r runs in
    let order = order-last l r runs in
    let none = at-past l b (ends_below_le l r.lo b (omega arith) ended) in
    let at = at-append l r b ended in
    grind (arith, nat_tests)

-- a byte of the last run has its value
some_last : {V : Type 0} (l : List (ByteRun V)) (r : ByteRun V) (b : ℕ) → AreRuns (l ++ r ∷ []) → r.lo ≤ b → b ≤ r.hi → value_at (l ++ r ∷ []) b ≡ Some r.value
some_last l r b runs lo hi = let at = at-append l r b (ends-before l [] r runs) in grind (arith, nat_tests)

-- a byte outside the last run has the value that the runs before it give
other_last : {V : Type 0} (l : List (ByteRun V)) (r : ByteRun V) (b : ℕ) → AreRuns (l ++ r ∷ []) → b < r.lo → value_at (l ++ r ∷ []) b ≡ value_at l b
other_last l r b runs lt = let at = at-append l r b (ends-before l [] r runs) in grind (arith, nat_tests)

module _ {V : Type 0} (runs : List (ByteRun V)) (bar : Option V) (low from : ℕ) where
  pub lowest_start : AreRuns runs → EndsBelow runs from → LeftBelow runs runs bar low from
  lowest_start made ended = record { made = made; ended = ended; part = λ b v some. some; left = λ b lo hi barred. barred }

  -- where no run is left the bytes are free down to `low`
  pub lowest_end : (rest : List (ByteRun V)) → length rest ≡ 0 → low ≤ from → LeftBelow runs rest bar low from → IsLowestFree (IsBarred (value_at runs) bar) low from low
  lowest_end (r ∷ rest) none order w = absurd (omega arith)
  lowest_end [] none order w = record {
    above = omega arith;
    below = order;
    free = λ b lo hi barred. not_barred-none (value_at []) bar b (at-past [] b tt) (w.left b lo hi barred);
    full_below = λ b e le. absurd (omega arith);
  }

  module _ (l : List (ByteRun V)) (r : ByteRun V) (w : LeftBelow runs (l ++ r ∷ []) bar low from) where
    -- where the last run that is left ends below `low` the bytes are free down to `low`
    pub lowest_stop : low ≤ from → r.hi < low → IsLowestFree (IsBarred (value_at runs) bar) low from low
    lowest_stop order under = record {
      above = omega arith;
      below = order;
      free = λ b lo hi barred. not_barred-none (value_at (l ++ r ∷ [])) bar b (none_past l r b w.made (omega arith)) (w.left b lo hi barred);
      full_below = λ b e le. absurd (omega arith);
    }

    -- where the last run that is left is barred the bytes are free down to the byte above it
    pub lowest_after : low ≤ r.hi → IsBarredValue bar r.value → IsLowestFree (IsBarred (value_at runs) bar) low from (r.hi + 1)
    lowest_after over barred = record {
      above = omega arith;
      below = omega (arith, ends-last l r from w.ended);
      free = λ b lo hi hit. not_barred-none (value_at (l ++ r ∷ [])) bar b (none_past l r b w.made (omega arith)) (w.left b (omega arith) hi hit);
      full_below = λ b e le. barred-some (value_at runs) bar b r.value (w.part b r.value (some_last l r b w.made (omega (arith, order-last l r w.made)) (omega arith))) barred;
    }

    -- a run with another value than the barred one is passed over
    pub lowest_skip : (IsBarredValue bar r.value → ⊥) → LeftBelow runs l bar low from
    lowest_skip free = record {
      made = runs-front l (r ∷ []) w.made;
      ended = ends-front l (r ∷ []) from w.ended;
      part = λ b v some. w.part b v (at-front l (r ∷ []) b v some);
      left = λ b lo hi hit. elim (cases_lt b r.lo) [
        | inl lt ↦ barred-along (value_at (l ++ r ∷ [])) (value_at l) bar b (other_last l r b w.made lt) (w.left b lo hi hit)
        | inr ge ↦ elim (cases_lt r.hi b) [
          | inl past ↦ absurd (not_barred-none (value_at (l ++ r ∷ [])) bar b (none_past l r b w.made past) (w.left b lo hi hit))
          | inr le ↦ absurd (free (barred-value (value_at (l ++ r ∷ [])) bar b r.value (some_last l r b w.made ge le) (w.left b lo hi hit)))
        ]
      ];
    }

-- a byte that has no value in the first part has the value that the last part gives
at-other : {V : Type 0} (l m : List (ByteRun V)) (b : ℕ) → value_at l b ≡ None → value_at (l ++ m) b ≡ value_at m b
unfolding value_at
at-other [] m b none = refl
at-other (r ∷ l) m b none = let more = at-other l m b in grind (arith, nat_tests, more)

module _ {V : Type 0} (l m : List (ByteRun V)) (bar : Option V) where
  -- a barred byte is one of the first part or of the last
  barred_parts : (b : ℕ) (x : Option V) → value_at l b ≡ x → IsBarred (value_at (l ++ m)) bar b → IsBarred (value_at l) bar b ⊎ IsBarred (value_at m) bar b
  barred_parts b None is barred = inr (barred-along (value_at (l ++ m)) (value_at m) bar b (at-other l m b is) barred)
  barred_parts b (Some v) is barred = inl (barred-along (value_at (l ++ m)) (value_at l) bar b (at-front l m b v is ∙ sym is) barred)

  -- a byte that is barred in the first part is barred in the whole
  barred_front : (b : ℕ) (x : Option V) → value_at l b ≡ x → IsBarred (value_at l) bar b → IsBarred (value_at (l ++ m)) bar b
  barred_front b None is barred = absurd (not_barred-none (value_at l) bar b is barred)
  barred_front b (Some v) is barred = barred-along (value_at l) (value_at (l ++ m)) bar b (is ∙ sym (at-front l m b v is)) barred

-- a barred byte of runs that end at `from` or above, up to `from`, makes `from` barred
barred_up : {V : Type 0} (m : List (ByteRun V)) (bar : Option V) (b from : ℕ) → AreRuns m → EndsFrom m from → b ≤ from → IsBarred (value_at m) bar b → IsBarred (value_at m) bar from
barred_up [] bar b from made ends le barred = absurd (not_barred-none (value_at []) bar b (at-past [] b tt) barred)
barred_up (r ∷ m) bar b from made ends le barred = elim (cases_lt b r.lo) [
  | inl lt ↦ absurd (not_barred-none (value_at (r ∷ m)) bar b (before-none r m b made lt) barred)
  | inr ge ↦ barred-some (value_at (r ∷ m)) bar from r.value (first-some r m from (omega arith) ends) (barred-value (value_at (r ∷ m)) bar b r.value (first-some r m b ge (omega arith)) barred)
]

module _ {V : Type 0} (l m : List (ByteRun V)) (bar : Option V) where
  -- the runs that end below `from` say how far down the bytes are free, if `from` is free
  pub lowest_all : (low from lo : ℕ) → AreRuns m → EndsBelow l from → EndsFrom m from → (IsBarred (value_at (l ++ m)) bar from → ⊥) → IsLowestFree (IsBarred (value_at l) bar) low from lo → IsLowestFree (IsBarred (value_at (l ++ m)) bar) low from lo
  lowest_all low from lo made ended reached free w = record {
    above = w.above;
    below = w.below;
    free = λ b ge lt barred. elim (barred_parts l m bar b (value_at l b) refl barred) [
      | inl first ↦ w.free b ge lt first
      | inr last ↦ free ((barred-back l m bar from from ended (omega arith)).0 (barred_up m bar b from made reached (omega arith) last))
    ];
    full_below = λ b e le. barred_front l m bar b (value_at l b) refl (w.full_below b e le);
  }

  -- the runs that end above `to` say how far up the bytes are free
  pub highest_all : (to high hi : ℕ) → EndsBelow l (to + 1) → IsHighestFree (IsBarred (value_at m) bar) to high hi → IsHighestFree (IsBarred (value_at (l ++ m)) bar) to high hi
  highest_all to high hi ended w = record {
    above = w.above;
    below = w.below;
    free = λ b lt le barred. w.free b lt le ((barred-back l m bar (to + 1) b ended (omega arith)).1 barred);
    full_above = λ lt. (barred-back l m bar (to + 1) (hi + 1) ended (omega (arith, w.above))).0 (w.full_above lt);
  }

-- free bytes that go on as far as they can at both ends are a largest span
pub largest_from : (P : ℕ → Type 0) (required within : Range) (lo hi : ℕ) → NoneIn P required → IsLowestFree P within.lo required.lo lo → IsHighestFree P required.hi within.hi hi → IsLargest P required within (record { lo = lo; hi = hi })
largest_from P required within lo hi free lowest highest = record {
  has_first = lowest.below;
  has_last = highest.above;
  starts_within = lowest.above;
  ends_within = highest.below;
  free = λ b ge le holds. elim (cases_lt b required.lo) [
    | inl under ↦ lowest.free b ge under holds
    | inr from ↦ elim (cases_lt required.hi b) [
      | inl over ↦ highest.free b over le holds
      | inr to ↦ free b from to holds
    ]
  ];
  full_below = lowest.full_below;
  full_above = highest.full_above;
}

-- a largest span is found from the runs that end below `required` and the ones that end above it
pub largest_all : {V : Type 0} (runs l m k n : List (ByteRun V)) (bar : Option V) (required within r w : Range) (lo hi : ℕ) → runs ≡ l ++ m → runs ≡ k ++ n → r ≡ required → w ≡ within → r.lo ≤ r.hi → AreRuns m → EndsBelow l r.lo → EndsFrom m r.lo → EndsBelow k (r.hi + 1) → NoneIn (IsBarred (value_at runs) bar) required → IsLowestFree (IsBarred (value_at l) bar) w.lo r.lo lo → IsHighestFree (IsBarred (value_at n) bar) r.hi w.hi hi → IsLargest (IsBarred (value_at runs) bar) required within (record { lo = lo; hi = hi })
largest_all runs l m k n bar required within r w lo hi one two is_required is_within order made ended reached ended_past free lowest highest =
    let all_free : NoneIn (IsBarred (value_at runs) bar) r = rw is_required free in
    let free_here : IsBarred (value_at (l ++ m)) bar r.lo → ⊥ = rw (← one) (λ hit. all_free r.lo (omega arith) order hit) in
    let below : IsLowestFree (IsBarred (value_at runs) bar) w.lo r.lo lo = rw one (lowest_all l m bar w.lo r.lo lo made ended reached free_here lowest) in
    let above : IsHighestFree (IsBarred (value_at runs) bar) r.hi w.hi hi = rw two (highest_all k n bar r.hi w.hi hi ended_past highest) in
    rw (← is_required, ← is_within) (largest_from (IsBarred (value_at runs) bar) r w lo hi all_free below above)
