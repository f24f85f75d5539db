-- The token that a map of levels stands for, as it is and as it will be after a planned write.
use Rattle.std.specs.Prelude.{◌≡◌, ◌≢◌, ℕ, false, ◌&&◌, if◌then◌else◌, ◌<◌, ◌≤◌, Option, Some, None, IsSome, List, All, AllPairs, Contains}
use Rattle.intervals.specs.rule.Bytes.{Range, is_in, AllAre, IsRun}
use Rattle.model.specs.declared.mode.Mode.{Mode}
use Rattle.model.specs.declared.mode.Mode.TheVariants.{Read, Write}
use Rattle.model.specs.declared.level.Level.{Level}
use Rattle.model.specs.declared.level.Level.TheVariants.{Exclusive}
use Rattle.token_set.specs.rule.Tokens.{Token, level_conflicts}

-- the level of the bytes that conflict with a lock of the mode on another node: exclusive for read, any level for write
abbrev pub bar_of : Mode → Option Level
bar_of Read = Some Exclusive
bar_of Write = None

-- no byte is exclusive
abbrev pub ExcludesNone : Token → Type 0
ExcludesNone t = (b : ℕ) → level_conflicts (t b) Read ≡ false

-- each byte of the span has a level
abbrev pub HasLevels : Token → Range → Type 0
HasLevels t s = (b : ℕ) → s.lo ≤ b → b ≤ s.hi → IsSome (t b)

-- s is the first run of exclusive bytes in the span
pub record IsFirstExclusive (t : Token) (span s : Range) : Type 0 where
  pub starts_within : span.lo ≤ s.lo
  pub ordered : s.lo ≤ s.hi
  pub ends_within : s.hi ≤ span.hi
  pub here : AllAre t s (Some Exclusive)
  pub none_before : (b : ℕ) → span.lo ≤ b → b < s.lo → t b ≢ Some Exclusive

-- f, but with the level at each byte of the span that is exclusive in t
abbrev pub at_exclusive : Token → Range → Level → Token → Token
at_exclusive t s level f b = if is_in s b && level_conflicts (t b) Read then Some level else f b

-- no byte from `first` on has a level
abbrev pub NothingFrom : Token → ℕ → Type 0
NothingFrom t first = (b : ℕ) → first ≤ b → t b ≡ None

-- the span is a longest run at the level, and contains the lowest byte from `first` on that has a level
pub record IsNextRun (t : Token) (first : ℕ) (s : Range) (level : Level) : Type 0 where
  pub run : IsRun t s level
  pub byte : ℕ
  pub above : first ≤ byte
  pub starts : s.lo ≤ byte
  pub ends : byte ≤ s.hi
  pub none_before : (b : ℕ) → first ≤ b → b < byte → t b ≡ None

-- the list has each longest run once, with its level, in ascending order
pub record ListsRuns (t : Token) (runs : List (Range × Level)) : Type 0 where
  pub each : All (λ r. IsRun t r.0 r.1) runs
  pub complete : (s : Range) (level : Level) → IsRun t s level → Contains runs (s, level)
  pub rises : AllPairs (λ r q. r.0.lo < q.0.lo) runs
