-- Rows: runs that are kept in parts, in ascending order.
use Rattle.std.specs.Prelude.{◌≡◌, ℕ, zero, suc, ◌+◌, ◌<◌, ◌≤◌, length, get_or, take, drop, Option, List, [], ◌∷◌, ◌++◌}
use Rattle.intervals.specs.declared.byte_run.ByteRun.{ByteRun}
use Rattle.intervals.specs.declared.row.Row.{Row}
use Rattle.intervals.specs.rule.Bytes.{Range, greatest, put}
use Rattle.intervals.specs.code.Runs.{AreRuns, EndsBelow}
use Rattle.intervals.specs.rule.Runs.{value_at}

-- the runs of all parts, in order
abbrev pub all_runs : {V : Type 0} → List (List (ByteRun V)) → List (ByteRun V)
all_runs [] = []
all_runs (part ∷ rest) = part ++ all_runs rest

-- each of the parts has some runs
abbrev pub AreSome : {V : Type 0} → List (List (ByteRun V)) → Type 0
AreSome [] = Unit {0}
AreSome (part ∷ rest) = (0 < length part) × AreSome rest

-- the runs of a row: the ones of its first part, then the ones of the other parts
abbrev pub row_runs : {V : Type 0} → Row V → List (ByteRun V)
row_runs row = row.first ++ all_runs row.rest.items

-- there is a first run, and it begins at byte n or below it
abbrev pub BeginsTo : {V : Type 0} → List (ByteRun V) → ℕ → Type 0
BeginsTo [] n = ⊥
BeginsTo (r ∷ rest) n = r.lo ≤ n

-- the runs of all parts below place i; the first part of a row is at place 0
abbrev pub runs_below : {V : Type 0} → Row V → ℕ → List (ByteRun V)
runs_below row zero = []
runs_below row (suc i) = row.first ++ all_runs (take i row.rest.items)

-- the runs of the part at place i
abbrev pub part_at : {V : Type 0} → Row V → ℕ → List (ByteRun V)
part_at row zero = row.first
part_at row (suc i) = get_or row.rest.items i []

-- the runs of all parts above place i
abbrev pub runs_above : {V : Type 0} → Row V → ℕ → List (ByteRun V)
runs_above row i = all_runs (drop i row.rest.items)

-- the runs of all parts up to place i
abbrev pub runs_to : {V : Type 0} → Row V → ℕ → List (ByteRun V)
runs_to row i = row.first ++ all_runs (take i row.rest.items)

-- the runs of the part at place i and of the n parts above it
abbrev pub runs_within : {V : Type 0} → Row V → ℕ → ℕ → List (ByteRun V)
runs_within row i n = part_at row i ++ all_runs (take n (drop i row.rest.items))

-- the row `is` has `runs` in place of the runs that `was` has in the part at place i and the n parts above it
pub record IsPut {V : Type 0} (was is : Row V) (i n : ℕ) (runs : List (ByteRun V)) : Type 0 where
  pub whole : row_runs is ≡ runs_below was i ++ (runs ++ runs_above was (i + n))
  pub some : AreSome is.rest.items

-- `is` is `was` with v (or no value) on the span in the part at place i and the n parts above it, whose runs are counted before and after
pub record IsRewritten {V : Type 0} (was is : Row V) (i n : ℕ) (s : Range) (v : Option V) (had has : ℕ) : Type 0 where
  pub runs : List (ByteRun V)
  pub placed : IsPut was is i n runs
  pub made : AreRuns runs
  pub bounded : EndsBelow runs (greatest + 1)
  pub bytes : (b : ℕ) → value_at runs b ≡ put (value_at (runs_within was i n)) s v b
  pub before : had ≡ length (runs_within was i n)
  pub now : has ≡ length runs
