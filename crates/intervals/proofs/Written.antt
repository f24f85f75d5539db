-- Runs of which the last are rewritten.
use Rattle.std.proofs.Common.{◌≡◌, ℕ, pred, ◌+◌, ◌<◌, ◌≤◌, List, [], ◌∷◌, ◌++◌, Option, Some, inl, inr, arith}
use Rattle.std.proofs.lemmas.Bool.{cases_lt}
use Rattle.std.proofs.lemmas.Bool.Decides.{nat_tests}
use Rattle.intervals.specs.declared.byte_run.ByteRun.{ByteRun}
use Rattle.intervals.specs.rule.Bytes.{put}
use Rattle.intervals.specs.code.Runs.{Follows, AreRuns, EndsBelow}
use Rattle.intervals.specs.rule.Runs.{value_at}
use Rattle.intervals.proofs.Find.{after-none, next-other, first-some}

-- two lists of runs that end below byte n end below it together
pub ends_below-both : {V : Type 0} (front new : List (ByteRun V)) (n : ℕ) → EndsBelow front n → EndsBelow new n → EndsBelow (front ++ new) n
ends_below-both [] new n before ends = ends
ends_below-both (r ∷ front) new n before ends = (before.0, ends_below-both front new n before.1 ends)

-- the first part of runs that end below byte n ends below it
pub ends_below-front : {V : Type 0} (front rest : List (ByteRun V)) (n : ℕ) → EndsBelow (front ++ rest) n → EndsBelow front n
ends_below-front [] rest n ends = tt
ends_below-front (r ∷ front) rest n ends = (ends.0, ends_below-front front rest n ends.1)

pub ends_below-rest : {V : Type 0} (front rest : List (ByteRun V)) (n : ℕ) → EndsBelow (front ++ rest) n → EndsBelow rest n
ends_below-rest [] rest n ends = ends
ends_below-rest (r ∷ front) rest n ends = ends_below-rest front rest n ends.1

-- a run that ends before the byte below the span is rightly followed by the written runs
follows_written : {V : Type 0} (r : ByteRun V) (rest new : List (ByteRun V)) (lo hi : ℕ) (value : Option V) → Follows r rest → AreRuns rest → r.hi + 1 < lo → AreRuns new → ((b : ℕ) → value_at new b ≡ put (value_at rest) (record { lo = lo; hi = hi }) value b) → Follows r new
follows_written r rest [] lo hi value follows runs below made bytes = tt
follows_written r rest (s ∷ new) lo hi value follows runs below made bytes =
    let first = first-some s new s.lo (omega arith) made.0 in
    let here = bytes s.lo in
    let apart : r.hi < s.lo = elim (cases_lt r.hi s.lo) [
      | inl lt ↦ lt
      | inr le ↦ let none = after-none r rest s.lo follows runs le in absurd (grind (arith, nat_tests))
    ] in
    (apart, λ beside same. let other = next-other r rest follows runs in let there : value_at rest s.lo ≡ Some s.value = grind (arith, nat_tests) in other (rw (beside, same) there))

module _ {V : Type 0} (rest new : List (ByteRun V)) (lo hi : ℕ) (value : Option V) (made : AreRuns new) (bytes : (b : ℕ) → value_at new b ≡ put (value_at rest) (record { lo = lo; hi = hi }) value b) where
  -- the first runs with the written runs are runs
  pub runs-written : (front : List (ByteRun V)) (m : ℕ) → AreRuns (front ++ rest) → EndsBelow front m → m ≤ pred lo → AreRuns (front ++ new)
  runs-written [] m runs before le = made
  runs-written (r ∷ []) m runs before le = (runs.0, follows_written r rest new lo hi value runs.1 runs.2 (omega (arith, before.0)) made bytes, made)
  runs-written (r ∷ t ∷ front) m runs before le = (runs.0, runs.1, runs-written (t ∷ front) m runs.2 before.1 le)

  -- the first runs with the written runs have the new value exactly on the span
  pub at-written : (front : List (ByteRun V)) (m : ℕ) → EndsBelow front m → m ≤ pred lo → (b : ℕ) → value_at (front ++ new) b ≡ put (value_at (front ++ rest)) (record { lo = lo; hi = hi }) value b
  unfolding value_at
  at-written [] m before le b = bytes b
  at-written (r ∷ front) m before le b = let later = at-written front m before.1 le b in grind (arith, nat_tests, before.0)
