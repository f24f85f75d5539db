-- The number of runs of a row that begin below a byte.
use Rattle.std.proofs.Common.{◌≡◌, ℕ, ◌+◌, ◌<◌, ◌≤◌, length, List, [], ◌∷◌, ◌++◌, subst, refl, ap, ◌∙◌, arith}
use Rattle.std.proofs.lemmas.Bool.Decides.{nat_tests}
use Rattle.intervals.specs.declared.byte_run.ByteRun.{ByteRun}
use Rattle.intervals.specs.code.Runs.{AreRuns, EndsBelow}
use Rattle.intervals.specs.code.Entries.{BeginAbove}
use Rattle.intervals.proofs.Starts as starts
use Rattle.intervals.specs.declared.row.Row.{Row}
use Rattle.intervals.specs.code.Parts.{row_runs, runs_below, part_at, runs_above}
use Rattle.intervals.proofs.Runs.{ends_below_le}
use Rattle.intervals.proofs.Split.{runs-front}
use Rattle.intervals.proofs.Places.{row_split}

pub begin_below-both : {V : Type 0} (l m : List (ByteRun V)) (n : ℕ) → starts.begin_below (l ++ m) n ≡ starts.begin_below l n + starts.begin_below m n
begin_below-both [] m n = omega arith
begin_below-both (r ∷ l) m n = let more = begin_below-both l m n in omega arith

-- runs that end below both bytes begin below both
pub ended_both : {V : Type 0} (l : List (ByteRun V)) (lo hi : ℕ) → lo ≤ hi → AreRuns l → EndsBelow l lo → starts.begin_below l lo + 0 ≡ starts.begin_below l hi
ended_both l lo hi order runs ends =
    let first = starts.begin_below_all l lo runs ends in
    let second = starts.begin_below_all l hi runs (ends_below_le l lo hi order ends) in
    omega arith

-- none of the runs begins below byte n where the first begins at it or above it
none_below : {V : Type 0} (r : ByteRun V) (l : List (ByteRun V)) (n : ℕ) → AreRuns (r ∷ l) → n ≤ r.lo → starts.begin_below (r ∷ l) n ≡ 0
none_below r [] n runs le = grind (arith, nat_tests)
none_below r (s ∷ l) n runs le = let more = none_below s l n runs.2 (omega (arith, runs.0, runs.1.0)) in grind (arith, nat_tests)

-- none of the runs begins below byte n where all begin above it
pub none_begin : {V : Type 0} (l : List (ByteRun V)) (n : ℕ) → BeginAbove l n → starts.begin_below l n ≡ 0
none_begin [] n above = refl
none_begin (r ∷ l) n above = let more = none_begin l n above.1 in let first : n < r.lo = above.0 in grind (arith, nat_tests)

-- a count up to a run that begins at `hi` or above it is complete
pub counted_to : {V : Type 0} (l : List (ByteRun V)) (r : ByteRun V) (m : List (ByteRun V)) (lo hi count : ℕ) → AreRuns (r ∷ m) → lo ≤ hi → hi ≤ r.lo → starts.begin_below l lo + count ≡ starts.begin_below l hi → starts.begin_below (l ++ r ∷ m) lo + count ≡ starts.begin_below (l ++ r ∷ m) hi
counted_to l r m lo hi count runs order past counted =
    let first = none_below r m lo runs (omega arith) in
    let second = none_below r m hi runs past in
    omega (arith, begin_below-both l (r ∷ m) lo, begin_below-both l (r ∷ m) hi)

-- a count with the runs of one more part
pub counted_more : {V : Type 0} (l part : List (ByteRun V)) (lo hi count more : ℕ) → starts.begin_below l lo + count ≡ starts.begin_below l hi → starts.begin_below part lo + more ≡ starts.begin_below part hi → starts.begin_below (l ++ part) lo + (count + more) ≡ starts.begin_below (l ++ part) hi
counted_more l part lo hi count more counted here = omega (arith, begin_below-both l part lo, begin_below-both l part hi)

-- a count near a place is a count of the whole row
pub counted_all : {V : Type 0} (row : Row V) (i lo hi count : ℕ) → i ≤ length row.rest.items → lo ≤ hi → AreRuns (row_runs row) → EndsBelow (runs_below row i) lo → starts.begin_below (part_at row i ++ runs_above row i) lo + count ≡ starts.begin_below (part_at row i ++ runs_above row i) hi → starts.begin_below (row_runs row) lo + count ≡ starts.begin_below (row_runs row) hi
counted_all row i lo hi count le order runs ends counted =
    let below = runs_below row i in
    let near = part_at row i ++ runs_above row i in
    let whole : row_runs row ≡ below ++ near = row_split row i le in
    let all : AreRuns (below ++ near) = subst AreRuns whole runs in
    let ended = ended_both below lo hi order (runs-front below near all) ends in
    let first : starts.begin_below (row_runs row) lo ≡ starts.begin_below below lo + starts.begin_below near lo = ap (λ l. starts.begin_below l lo) whole ∙ begin_below-both below near lo in
    let second : starts.begin_below (row_runs row) hi ≡ starts.begin_below below hi + starts.begin_below near hi = ap (λ l. starts.begin_below l hi) whole ∙ begin_below-both below near hi in
    omega (arith, first, second, ended, counted)
