-- Runs, first bytes and largest spans are each determined by the map.
use Rattle.std.specs.Prelude.{◌≡◌, ℕ, ◌≤◌, Option}
use Rattle.intervals.specs.rule.Bytes.{Range, IsRun, IsBarred, IsFirstIn, IsLargest}

-- two longest runs that share a byte are one
abbrev pub RunsAreOne : Type 0 → Type 0
RunsAreOne V =
    (f : ℕ → Option V) (s t : Range) (v w : V) (b : ℕ)
    → IsRun f s v
    → IsRun f t w
    → s.lo ≤ b × b ≤ s.hi
    → t.lo ≤ b × b ≤ t.hi
    → (s ≡ t) × (v ≡ w)

-- a span has at most one first barred byte
abbrev pub FirstIsOne : Type 0 → Type 0
FirstIsOne V =
    (f : ℕ → Option V) (bar : Option V) (s : Range) (b c : ℕ)
    → IsFirstIn (IsBarred f bar) s b
    → IsFirstIn (IsBarred f bar) s c
    → b ≡ c

-- at most one span is the largest one around `required`
abbrev pub LargestIsOne : Type 0 → Type 0
LargestIsOne V =
    (f : ℕ → Option V) (bar : Option V) (required within s t : Range)
    → required.lo ≤ required.hi
    → IsLargest (IsBarred f bar) required within s
    → IsLargest (IsBarred f bar) required within t
    → s ≡ t
