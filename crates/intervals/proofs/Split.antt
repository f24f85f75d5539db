-- A list of runs that is split at a byte.
use Rattle.std.proofs.Common.{◌≡◌, ℕ, zero, suc, ◌-◌, ◌<◌, ◌≤◌, length, get_or, take, drop, slice_get, List, [], ◌∷◌, ◌++◌, Option, Some, None, refl, ap, sym, subst, ◌∙◌, inr, arith}
use Rattle.std.proofs.lemmas.Bool.Decides.{nat_tests}
use Rattle.std.proofs.lemmas.List.{get_or_default}
use Rattle.std.specs.List.Sorted.{IsNonDecreasingBy}
use Rattle.intervals.specs.declared.byte_run.ByteRun.{ByteRun}
use Rattle.intervals.specs.rule.Bytes.{Range, IsBarred, IsFirstIn, IsRun, NoneIn}
use Rattle.intervals.specs.code.Runs.{AreRuns, EndsBelow, EndsFrom}
use Rattle.intervals.specs.rule.Runs.{bytes_of, value_at}
use Rattle.intervals.proofs.Find.{value_at-none, first-other, before-none, first-is_run, lift-is_run, barred-along}

-- a later run ends above the first
ends_after : {V : Type 0} (r : ByteRun V) (l : List (ByteRun V)) (j : ℕ) (d : ByteRun V) → AreRuns (r ∷ l) → j < length l → r.hi ≤ (get_or l j d).hi
ends_after r [] j d runs lt = absurd (omega arith)
ends_after r (s ∷ l) zero d runs lt = omega (arith, runs.1.0, runs.2.0)
ends_after r (s ∷ l) (suc j) d runs lt = let later = ends_after s l j d runs.2 (omega arith) in omega (arith, later, runs.1.0, runs.2.0)

-- the last bytes of runs are in ascending order
pub ends_rise : {V : Type 0} (l : List (ByteRun V)) → AreRuns l → IsNonDecreasingBy (λ (r : ByteRun V). r.hi) l
ends_rise [] runs i j d le lt = absurd (omega arith)
ends_rise (r ∷ l) runs zero zero d le lt = omega arith
ends_rise (r ∷ l) runs zero (suc j) d le lt = ends_after r l j d runs (omega arith)
ends_rise (r ∷ l) runs (suc i) zero d le lt = absurd (omega arith)
ends_rise (r ∷ l) runs (suc i) (suc j) d le lt = ends_rise l runs.2 i j d (omega arith) (omega arith)

-- the runs before place i end below byte n
pub ended_take : {V : Type 0} (l : List (ByteRun V)) (i n : ℕ) → ((k : ℕ) (d : ByteRun V) → k < i → (get_or l k d).hi < n) → EndsBelow (take i l) n
ended_take l zero n ended = tt
ended_take [] (suc i) n ended = tt
ended_take (r ∷ l) (suc i) n ended = (ended 0 r (omega arith), ended_take l i n (λ k d lt. ended (suc k) d (omega arith)))

-- all runs end below byte n where the last one does
pub ended_last : {V : Type 0} (l : List (ByteRun V)) (r : ByteRun V) (n : ℕ) → AreRuns l → r ≡ get_or l (length l - 1) r → r.hi < n → EndsBelow (take (length l) l) n
ended_last l r n runs is last =
    let ended : (k : ℕ) (d : ByteRun _) → k < length l → (get_or l k d).hi < n = λ k d lt.
    let at : r ≡ get_or l (length l - 1) d = is ∙ get_or_default l (length l - 1) r d (omega arith) in
    let rise = ends_rise l runs k (length l - 1) d (omega arith) (omega arith) in
    omega (arith, rise, ap (λ (s : ByteRun _). s.hi) at, last) in
    ended_take l (length l) n ended

-- the runs from place i on end at byte n or above it
pub reached_drop : {V : Type 0} (l : List (ByteRun V)) (i n : ℕ) → ((k : ℕ) (d : ByteRun V) → i ≤ k → k < length l → n ≤ (get_or l k d).hi) → EndsFrom (drop i l) n
reached_drop [] zero n reached = tt
reached_drop [] (suc i) n reached = tt
reached_drop (r ∷ l) zero n reached = reached 0 r (omega arith) (omega arith)
reached_drop (r ∷ l) (suc i) n reached = reached_drop l i n (λ k d le lt. reached (suc k) d (omega arith) (omega arith))

-- the first part of a list of runs is a list of runs
pub runs-front : {V : Type 0} (l m : List (ByteRun V)) → AreRuns (l ++ m) → AreRuns l
runs-front [] m runs = tt
runs-front (r ∷ []) m runs = (runs.0, tt, tt)
runs-front (r ∷ s ∷ l) m runs = (runs.0, runs.1, runs-front (s ∷ l) m runs.2)

-- the last part of a list of runs is a list of runs
pub runs-back : {V : Type 0} (l m : List (ByteRun V)) → AreRuns (l ++ m) → AreRuns m
runs-back [] m runs = runs
runs-back (r ∷ l) m runs = runs-back l m runs.2

-- a byte past the first part has the value that the last part gives
pub at-back : {V : Type 0} (l m : List (ByteRun V)) (n b : ℕ) → EndsBelow l n → n ≤ b → value_at (l ++ m) b ≡ value_at m b
at-back [] m n b ended le = refl
at-back (r ∷ l) m n b ended le = first-other r (l ++ m) b (inr (omega (arith, ended.0))) ∙ at-back l m n b ended.1 le

-- a byte that has a value in the first part has it in the whole
pub at-front : {V : Type 0} (l m : List (ByteRun V)) (b : ℕ) (v : V) → value_at l b ≡ Some v → value_at (l ++ m) b ≡ Some v
unfolding value_at
at-front [] m b v some = absurd cc
at-front (r ∷ l) m b v some = let more = at-front l m b v in grind (arith, nat_tests, more)

-- a byte that has no value in the last part has the value that the first part gives
pub at-first : {V : Type 0} (l m : List (ByteRun V)) (b : ℕ) → value_at m b ≡ None → value_at (l ++ m) b ≡ value_at l b
unfolding value_at
at-first [] m b none = none
at-first (r ∷ l) m b none = rw (at-first l m b none) refl

-- the first part ends before the last begins
pub ends-before : {V : Type 0} (l m : List (ByteRun V)) (r : ByteRun V) → AreRuns (l ++ r ∷ m) → EndsBelow l r.lo
ends-before [] m r runs = tt
ends-before (s ∷ []) m r runs = (runs.1.0, tt)
ends-before (s ∷ t ∷ l) m r runs = let later = ends-before (t ∷ l) m r runs.2 in (omega (arith, runs.1.0, runs.2.0, later.0), later)

-- a longest run of the last part is a longest run of the whole
lift-back : {V : Type 0} (l m : List (ByteRun V)) (s : Range) (v : V) → AreRuns (l ++ m) → IsRun (value_at m) s v → IsRun (value_at (l ++ m)) s v
lift-back [] m s v runs run = run
lift-back (r ∷ l) m s v runs run = lift-is_run r (l ++ m) s v runs (lift-back l m s v runs.2 run)

-- run r comes first behind the runs that end below byte b
pub record StandsAt {V : Type 0} (runs : List (ByteRun V)) (b : ℕ) (r : ByteRun V) : Type 0 where
  pub run : IsRun (value_at runs) (bytes_of r) r.value
  pub reached : b ≤ r.hi
  pub bounded : (n : ℕ) → EndsBelow runs n → r.hi < n
  pub none_before : b < r.lo → value_at runs b ≡ None

ends-back : {V : Type 0} (l m : List (ByteRun V)) (n : ℕ) → EndsBelow (l ++ m) n → EndsBelow m n
ends-back [] m n ends = ends
ends-back (r ∷ l) m n ends = ends-back l m n ends.1

pub stands_at : {V : Type 0} (l m : List (ByteRun V)) (b : ℕ) (r : ByteRun V) → AreRuns (l ++ m) → EndsBelow l b → EndsFrom m b → slice_get m 0 ≡ Some r → StandsAt (l ++ m) b r
stands_at l [] b r runs ended reached some = absurd cc
stands_at l (s ∷ m) b r runs ended reached some =
    let same : s ≡ r = cc in
    subst (λ x. StandsAt (l ++ s ∷ m) b x) same (record {
      run = lift-back l (s ∷ m) (bytes_of s) s.value runs (first-is_run s m (runs-back l (s ∷ m) runs));
      reached = reached;
      bounded = λ n ends. (ends-back l (s ∷ m) n ends).0;
      none_before = λ lt. at-back l (s ∷ m) b b ended (omega arith) ∙ before-none s m b (runs-back l (s ∷ m) runs) lt;
    })

-- a byte past all runs has no value
pub none_at : {V : Type 0} (l m : List (ByteRun V)) (b : ℕ) → EndsBelow l b → slice_get m 0 ≡ None → value_at (l ++ m) b ≡ None
none_at l [] b ended none = at-back l [] b b ended (omega arith) ∙ value_at-none b
none_at l (s ∷ m) b ended none = absurd cc

-- a byte past the first part is barred exactly where it is barred in the last part
pub barred-back : {V : Type 0} (l m : List (ByteRun V)) (bar : Option V) (n b : ℕ) → EndsBelow l n → n ≤ b → (IsBarred (value_at m) bar b → IsBarred (value_at (l ++ m)) bar b) × (IsBarred (value_at (l ++ m)) bar b → IsBarred (value_at m) bar b)
barred-back l m bar n b ended le =
    let same = at-back l m n b ended le in
    (barred-along (value_at m) (value_at (l ++ m)) bar b (sym same), barred-along (value_at (l ++ m)) (value_at m) bar b same)

module _ {V : Type 0} (l m : List (ByteRun V)) (bar : Option V) (s : Range) (ended : EndsBelow l s.lo) where
  -- a span without a barred byte in the last part has none in the whole
  pub none_in-back : NoneIn (IsBarred (value_at m) bar) s → NoneIn (IsBarred (value_at (l ++ m)) bar) s
  none_in-back none b lo hi barred = none b lo hi ((barred-back l m bar s.lo b ended lo).1 barred)

  -- the first barred byte in the last part is the first in the whole
  pub first_in-back : (b : ℕ) → IsFirstIn (IsBarred (value_at m) bar) s b → IsFirstIn (IsBarred (value_at (l ++ m)) bar) s b
  first_in-back b is = record {
    above = is.above;
    below = is.below;
    here = (barred-back l m bar s.lo b ended is.above).0 is.here;
    none_before = λ c lo lt barred. is.none_before c lo lt ((barred-back l m bar s.lo c ended lo).1 barred);
  }

-- each run of the list ends at byte n or above it where the first does
pub reached_at : {V : Type 0} (l : List (ByteRun V)) (n i : ℕ) (r : ByteRun V) → AreRuns l → EndsFrom l n → i < length l → r ≡ get_or l i r → n ≤ r.hi
reached_at [] n i r runs from lt is = absurd (omega arith)
reached_at (s ∷ l) n i r runs from lt is =
    let rises : s.hi ≤ (get_or (s ∷ l) i r).hi = ends_rise (s ∷ l) runs 0 i r (omega arith) lt in
    let same : r.hi ≡ (get_or (s ∷ l) i r).hi = rw (← is) (λ i. r.hi) in
    omega arith
