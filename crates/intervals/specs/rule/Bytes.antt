-- Bytes of a file, spans of them, and functions from bytes to values.
use Rattle.std.specs.Prelude.{◌≡◌, ◌≢◌, ℕ, zero, suc, pred, ◌+◌, ◌-◌, ◌≤◌, ◌<◌, Bool, true, false, not, ◌&&◌, nat_le, if◌then◌else◌, Option, Some, None, IsSome}
use Rattle.intervals.specs.rule.Search.{first, all_pass}

-- the greatest offset of a byte: the greatest `off_t` of 64 bits
abbrev pub greatest : ℕ
greatest = 9223372036854775807

-- the bytes from lo to hi, both included
pub record Range : Type 0 where
  pub lo : ℕ
  pub hi : ℕ

-- all bytes of a file
abbrev pub whole : Range
whole = record { lo = 0; hi = greatest }

-- whether byte b is in the span
abbrev pub is_in : Range → ℕ → Bool
is_in s b = nat_le s.lo b && nat_le b s.hi

-- the number of bytes in the span
abbrev pub size : Range → ℕ
size s = s.hi + 1 - s.lo

-- the function that gives no byte a value
abbrev pub nothing : {V : Type 0} → ℕ → Option V
nothing b = None

-- the function f, but with v at each byte of the span
abbrev pub put : {V : Type 0} → (ℕ → Option V) → Range → Option V → ℕ → Option V
put f s v b = if is_in s b then v else f b

-- f has v at each byte of the span
abbrev pub AllAre : {V : Type 0} → (ℕ → Option V) → Range → Option V → Type 0
AllAre f s v = (b : ℕ) → s.lo ≤ b → b ≤ s.hi → f b ≡ v

-- whether x is the value v
abbrev pub has : {V : Type 0} → (V → V → Bool) → V → Option V → Bool
has same v None = false
has same v (Some w) = same w v

-- whether a run begins at a byte with the second value, if the byte below it has the first one
abbrev pub begins_after : {V : Type 0} → (V → V → Bool) → Option V → Option V → Bool
begins_after same x None = false
begins_after same x (Some v) = not (has same v x)

-- a longest run of bytes with one value begins at the byte
unfoldable pub is_start : {V : Type 0} → (V → V → Bool) → (ℕ → Option V) → ℕ → Bool
is_start same f zero = begins_after same None (f zero)
is_start same f (suc b) = begins_after same (f b) (f (suc b))

-- the number of longest runs that begin below byte n; never unfolded, since it counts byte by byte
unfoldable pub starts_below : {V : Type 0} → (V → V → Bool) → (ℕ → Option V) → ℕ → ℕ
starts_below same f zero = 0
starts_below same f (suc n) = starts_below same f n + (if is_start same f n then 1 else 0)

-- the number of bytes that a file can have: one more than the greatest offset
unfoldable pub all_bytes : ℕ
all_bytes = greatest + 1

-- the number of longest runs of f
abbrev pub number_of_runs : {V : Type 0} → (V → V → Bool) → (ℕ → Option V) → ℕ
number_of_runs same f = starts_below same f all_bytes

-- the bytes from lo up to the last one that still has the value v
abbrev pub run_from : {V : Type 0} → (V → V → Bool) → (ℕ → Option V) → ℕ → V → Range
run_from same f lo v = record { lo = lo; hi = pred (first (λ b. not (has same v (f b))) (lo + 1) (greatest - lo)) }

-- the span is a longest run of bytes that have v
pub record IsRun {V : Type 0} (f : ℕ → Option V) (s : Range) (v : V) : Type 0 where
  pub ordered : s.lo ≤ s.hi
  pub all : AllAre f s (Some v)
  pub begins : (b : ℕ) → b + 1 ≡ s.lo → f b ≢ Some v
  pub ends : f (s.hi + 1) ≢ Some v

-- byte b is barred: it has the barred value, or any value where no barred one is named
abbrev pub IsBarred : {V : Type 0} → (ℕ → Option V) → Option V → ℕ → Type 0
IsBarred f None b = IsSome (f b)
IsBarred f (Some v) b = f b ≡ Some v

-- P holds at no byte of the span
abbrev pub NoneIn : (ℕ → Type 0) → Range → Type 0
NoneIn P s = (b : ℕ) → s.lo ≤ b → b ≤ s.hi → P b → ⊥

-- b is the first byte of the span at which P holds
pub record IsFirstIn (P : ℕ → Type 0) (s : Range) (b : ℕ) : Type 0 where
  pub above : s.lo ≤ b
  pub below : b ≤ s.hi
  pub here : P b
  pub none_before : (c : ℕ) → s.lo ≤ c → c < b → P c → ⊥

-- the span contains `required`, lies in `within`, has no byte at which P holds, and can't be longer at either end
pub record IsLargest (P : ℕ → Type 0) (required within s : Range) : Type 0 where
  pub has_first : s.lo ≤ required.lo
  pub has_last : required.hi ≤ s.hi
  pub starts_within : within.lo ≤ s.lo
  pub ends_within : s.hi ≤ within.hi
  pub free : NoneIn P s
  pub full_below : (b : ℕ) → b + 1 ≡ s.lo → within.lo ≤ b → P b
  pub full_above : s.hi < within.hi → P (s.hi + 1)

-- the largest span that contains `required`, lies in `within` and has no barred byte; `required` is given to lie in `within` and to have none
abbrev pub largest_around : (ℕ → Bool) → Range → Range → Range
largest_around barred required within = record {
  lo = first (λ l. all_pass (λ b. not (barred b)) l (required.lo - l)) within.lo (required.lo - within.lo);
  hi = pred (first barred (required.hi + 1) (within.hi - required.hi));
}

-- `largest_around` gives the largest span, as `IsLargest` says
abbrev pub LargestIsLargest : Type 0
LargestIsLargest =
    (barred : ℕ → Bool) (required within : Range)
    → required.lo ≤ required.hi
    → within.lo ≤ required.lo
    → required.hi ≤ within.hi
    → NoneIn (λ b. barred b ≡ true) required
    → IsLargest (λ b. barred b ≡ true) required within (largest_around barred required within)
