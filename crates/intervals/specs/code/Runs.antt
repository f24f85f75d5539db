-- Runs of bytes that have one value, and what a list of runs has at each byte.
use Rattle.std.specs.Prelude.{◌≡◌, ℕ, ◌+◌, ◌<◌, ◌≤◌, ◌≢◌, Option, Some, None, List, [], ◌∷◌}
use Rattle.intervals.specs.declared.byte_run.ByteRun.{ByteRun}

-- v is the barred value, or no barred value is named
abbrev pub IsBarredValue : {V : Type 0} → Option V → V → Type 0
IsBarredValue None v = Unit {0}
IsBarredValue (Some w) v = v ≡ w

-- the byte at which the first run begins; 0 where there is no run
abbrev pub begins_at : {V : Type 0} → List (ByteRun V) → ℕ
begins_at [] = 0
begins_at (r ∷ rest) = r.lo

-- run r and the first run behind it don't overlap, and have different values where they are adjacent
abbrev pub Follows : {V : Type 0} → ByteRun V → List (ByteRun V) → Type 0
Follows r [] = Unit {0}
Follows r (s ∷ rest) = (r.hi < s.lo) × (r.hi + 1 ≡ s.lo → r.value ≢ s.value)

-- runs in ascending order, each as long as can be: adjacent runs have different values
abbrev pub AreRuns : {V : Type 0} → List (ByteRun V) → Type 0
AreRuns [] = Unit {0}
AreRuns (r ∷ rest) = (r.lo ≤ r.hi) × Follows r rest × AreRuns rest

-- each of the runs ends below byte n
abbrev pub EndsBelow : {V : Type 0} → List (ByteRun V) → ℕ → Type 0
EndsBelow [] n = Unit {0}
EndsBelow (r ∷ rest) n = (r.hi < n) × EndsBelow rest n

-- the first of the runs, if there is one, ends at byte n or above it
abbrev pub EndsFrom : {V : Type 0} → List (ByteRun V) → ℕ → Type 0
EndsFrom [] n = Unit {0}
EndsFrom (r ∷ rest) n = n ≤ r.hi

-- lo is the lowest byte, from `low` on, such that P holds at no byte from lo on and below `from`
pub record IsLowestFree (P : ℕ → Type 0) (low from lo : ℕ) : Type 0 where
  pub above : low ≤ lo
  pub below : lo ≤ from
  pub free : (b : ℕ) → lo ≤ b → b < from → P b → ⊥
  pub full_below : (b : ℕ) → b + 1 ≡ lo → low ≤ b → P b

-- hi is the highest byte, up to `high`, such that P holds at no byte above `to` and up to hi
pub record IsHighestFree (P : ℕ → Type 0) (to high hi : ℕ) : Type 0 where
  pub above : to ≤ hi
  pub below : hi ≤ high
  pub free : (b : ℕ) → to < b → b ≤ hi → P b → ⊥
  pub full_above : hi < high → P (hi + 1)
