-- Runs below and above a byte.
use Rattle.intervals.proofs.Starts as starts
use Rattle.std.proofs.lemmas.Bool.Decides.{nat_tests}
use Rattle.std.proofs.lemmas.List.{append_assoc}
use Rattle.std.proofs.Common.{◌≡◌, ℕ, zero, suc, length, get_or, take, drop, subst, ◌+◌, ◌<◌, ◌≤◌, List, [], ◌∷◌, ◌++◌, Option, Some, None, refl, ap, ◌∙◌, inl, inr, arith}
use Rattle.std.specs.Option.{MatchOption}
use Rattle.intervals.specs.declared.byte_run.ByteRun.{ByteRun}
use Rattle.intervals.specs.rule.Bytes.{greatest, IsRun}
use Rattle.intervals.specs.code.Runs.{AreRuns, EndsBelow}
use Rattle.intervals.specs.rule.Runs.{bytes_of, value_at}
use Rattle.intervals.specs.code.Entries.{BeginAbove, IsLastTo, NoneBelow, IsPrevious}
use Rattle.intervals.proofs.Find.{value_at-none, before-none, first-other}
use Rattle.intervals.proofs.Runs.{ends_below_le}
use Rattle.intervals.proofs.Split.{stands_at, at-back, runs-back}

-- the runs before r end below it
pub ends_before : {V : Type 0} (l : List (ByteRun V)) (r : ByteRun V) (m : List (ByteRun V)) → AreRuns (l ++ r ∷ m) → EndsBelow l r.lo
ends_before [] r m runs = tt
ends_before (s ∷ []) r m runs = (runs.1.0, tt)
ends_before (s ∷ t ∷ l) r m runs =
    let later = ends_before (t ∷ l) r m runs.2 in
    (omega (arith, runs.1.0, runs.2.0, later.0), later)

-- runs that begin above byte n give no value up to it
pub none_above : {V : Type 0} (l : List (ByteRun V)) (n b : ℕ) → BeginAbove l n → b ≤ n → value_at l b ≡ None
none_above [] n b above le = value_at-none b
none_above (r ∷ l) n b above le = first-other r l b (inl (omega (arith, above.0))) ∙ none_above l n b above.1 le

module _ {V : Type 0} (l m : List (ByteRun V)) (r : ByteRun V) (made : AreRuns (l ++ r ∷ m)) where
  -- r is one of the longest runs
  pub stands : IsRun (value_at (l ++ r ∷ m)) (bytes_of r) r.value
  stands =
      let own = runs-back l (r ∷ m) made in
      (stands_at l (r ∷ m) r.hi r made (ends_below_le l r.lo r.hi own.0 (ends_before l r m made)) (omega arith) refl).run

  -- r ends where all runs do
  pub ends : (n : ℕ) → EndsBelow (l ++ r ∷ m) n → r.hi < n
  ends n below =
      let own = runs-back l (r ∷ m) made in
      (stands_at l (r ∷ m) r.hi r made (ends_below_le l r.lo r.hi own.0 (ends_before l r m made)) (omega arith) refl).bounded n below

  -- no byte between the end of r and the runs behind it has a value
  pub none_between : (n b : ℕ) → BeginAbove m n → r.hi < b → b ≤ n → value_at (l ++ r ∷ m) b ≡ None
  none_between n b above past le =
      let own = runs-back l (r ∷ m) made in
      at-back l (r ∷ m) r.lo b (ends_before l r m made) (omega (arith, own.0)) ∙ (first-other r m b (inr past) ∙ none_above m n b above le)

  -- no byte below r and past the runs before it has a value
  pub none_under : (n b : ℕ) → EndsBelow l n → n ≤ b → b < r.lo → value_at (l ++ r ∷ m) b ≡ None
  none_under n b below le lt =
      at-back l (r ∷ m) n b below le ∙ before-none r m b (runs-back l (r ∷ m) made) lt

module _ {V : Type 0} (runs : List (ByteRun V)) (made : AreRuns runs) (bounded : EndsBelow runs (greatest + 1)) where
  pub previous : (n : ℕ) (r : ByteRun V) → IsLastTo runs n r → IsPrevious (value_at runs) (n + 1) r
  previous n r is =
      let all : AreRuns (is.before ++ r ∷ is.after) = rw (← is.whole) made in
      let under : EndsBelow (is.before ++ r ∷ is.after) (greatest + 1) = rw (← is.whole) bounded in
      rw is.whole (record {
        run = stands is.before is.after r all;
        begins = omega (arith, is.begins);
        bounded = omega (arith, ends is.before is.after r all (greatest + 1) under);
        none_after = λ b past lt. none_between is.before is.after r all n b is.above past (omega arith);
      })

module _ {V : Type 0} (runs : List (ByteRun V)) (made : AreRuns runs) (bounded : EndsBelow runs (greatest + 1)) where
  pub previous_of : (n m : ℕ) (x : Option (ByteRun V)) → n ≡ m + 1 → MatchOption x (BeginAbove runs m) (IsLastTo runs m) → MatchOption x (NoneBelow (value_at runs) n) (IsPrevious (value_at runs) n)
  previous_of n m None e is = λ b lt. none_above runs m b is (omega arith)
  previous_of n m (Some r) e is = rw e (previous runs made bounded m r is)

pub begin_below-few : {V : Type 0} (l : List (ByteRun V)) (n : ℕ) → starts.begin_below l n ≤ length l
begin_below-few [] n = omega arith
begin_below-few (r ∷ l) n = let more = begin_below-few l n in grind (arith, nat_tests)

-- each run begins below byte n
abbrev pub BeginBelow : {V : Type 0} → List (ByteRun V) → ℕ → Type 0
BeginBelow [] n = Unit {0}
BeginBelow (r ∷ rest) n = (r.lo < n) × BeginBelow rest n

-- the runs before place p begin at byte n or below it
pub begin_take : {V : Type 0} (l : List (ByteRun V)) (p n : ℕ) → ((k : ℕ) (d : ByteRun V) → k < p → (get_or l k d).lo ≤ n) → BeginBelow (take p l) (n + 1)
begin_take l zero n begins = tt
begin_take [] (suc p) n begins = tt
begin_take (r ∷ l) (suc p) n begins = (let first = begins 0 r (omega arith) in omega (arith, first), begin_take l p n (λ k d lt. begins (suc k) d (omega arith)))

-- the runs from place p on begin above byte n
pub begin_drop : {V : Type 0} (l : List (ByteRun V)) (p n : ℕ) → ((k : ℕ) (d : ByteRun V) → p ≤ k → k < length l → n < (get_or l k d).lo) → BeginAbove (drop p l) n
begin_drop [] zero n above = tt
begin_drop [] (suc p) n above = tt
begin_drop (r ∷ l) zero n above = (above 0 r (omega arith) (omega arith), begin_drop l zero n (λ k d le lt. above (suc k) d (omega arith) (omega arith)))
begin_drop (r ∷ l) (suc p) n above = begin_drop l p n (λ k d le lt. above (suc k) d (omega arith) (omega arith))

pub last_begins : {V : Type 0} (l : List (ByteRun V)) (r : ByteRun V) (n : ℕ) → BeginBelow (l ++ r ∷ []) n → r.lo < n
last_begins [] r n below = below.0
last_begins (s ∷ l) r n below = last_begins l r n below.1

-- r is the last of the runs that begin at byte n or below it
pub last_of : {V : Type 0} (runs below after before : List (ByteRun V)) (r : ByteRun V) (n : ℕ) → runs ≡ below ++ after → below ≡ before ++ r ∷ [] → BeginBelow below (n + 1) → BeginAbove after n → IsLastTo runs n r
last_of runs below after before r n whole is begins above = record {
  before = before;
  after = after;
  whole = whole ∙ (ap (λ l. l ++ after) is ∙ append_assoc before (r ∷ []) after);
  begins = let lt = last_begins before r (n + 1) (subst (λ l. BeginBelow l (n + 1)) is begins) in omega (arith, lt);
  above = above;
}

-- where no run begins at byte n or below it all of them begin above it
pub above_none : {V : Type 0} (l m : List (ByteRun V)) (n : ℕ) → length l ≡ 0 → BeginAbove m n → BeginAbove (l ++ m) n
above_none [] m n none above = above
above_none (r ∷ l) m n none above = absurd (omega (arith, none))
