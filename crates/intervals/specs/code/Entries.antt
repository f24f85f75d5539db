-- How runs stand about a byte.
use Rattle.std.specs.Prelude.{◌≡◌, ℕ, ◌<◌, ◌≤◌, ◌++◌, Option, None, List, [], ◌∷◌}
use Rattle.intervals.specs.declared.byte_run.ByteRun.{ByteRun}
use Rattle.intervals.specs.rule.Bytes.{greatest, IsRun}
use Rattle.intervals.specs.rule.Runs.{bytes_of}

-- each of the runs begins above byte n
abbrev pub BeginAbove : {V : Type 0} → List (ByteRun V) → ℕ → Type 0
BeginAbove [] n = Unit {0}
BeginAbove (r ∷ rest) n = (n < r.lo) × BeginAbove rest n

-- r is the last of the runs that begins at byte n or below it
pub record IsLastTo {V : Type 0} (runs : List (ByteRun V)) (n : ℕ) (r : ByteRun V) : Type 0 where
  pub before : List (ByteRun V)
  pub after : List (ByteRun V)
  pub whole : runs ≡ before ++ r ∷ after
  pub begins : r.lo ≤ n
  pub above : BeginAbove after n

-- no byte from `first` on has a value
abbrev pub NoneFrom : {V : Type 0} → (ℕ → Option V) → ℕ → Type 0
NoneFrom f first = (b : ℕ) → first ≤ b → f b ≡ None

-- no byte below `last` has a value
abbrev pub NoneBelow : {V : Type 0} → (ℕ → Option V) → ℕ → Type 0
NoneBelow f last = (b : ℕ) → b < last → f b ≡ None

-- r is a longest run, and the first one that ends at byte n or above it
pub record IsNext {V : Type 0} (f : ℕ → Option V) (n : ℕ) (r : ByteRun V) : Type 0 where
  pub run : IsRun f (bytes_of r) r.value
  pub reached : n ≤ r.hi
  pub bounded : r.hi ≤ greatest
  pub none_before : (b : ℕ) → n ≤ b → b < r.lo → f b ≡ None

-- r is a longest run, and the last one that begins below byte n
pub record IsPrevious {V : Type 0} (f : ℕ → Option V) (n : ℕ) (r : ByteRun V) : Type 0 where
  pub run : IsRun f (bytes_of r) r.value
  pub begins : r.lo < n
  pub bounded : r.hi ≤ greatest
  pub none_after : (b : ℕ) → r.hi < b → b < n → f b ≡ None
