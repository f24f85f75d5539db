-- The runs of the parts of rows.
use Rattle.std.proofs.Common.{◌≡◌, ℕ, zero, suc, ◌+◌, ◌<◌, ◌≤◌, length, get_or, take, drop, List, [], ◌∷◌, ◌++◌, subst, refl, ap, sym, ◌∙◌, inl, inr, arith}
use Rattle.std.proofs.lemmas.List.{append_assoc, append-nil, drop_all}
use Rattle.std.proofs.lemmas.Bool.{cases_lt}
use Rattle.std.specs.List.Sorted.{IsNonDecreasingBy}
use Rattle.intervals.specs.declared.byte_run.ByteRun.{ByteRun}
use Rattle.intervals.specs.code.Runs.{begins_at, AreRuns, EndsBelow}
use Rattle.intervals.specs.code.Entries.{BeginAbove}
use Rattle.intervals.specs.code.Parts.{all_runs, AreSome, BeginsTo}
use Rattle.intervals.proofs.Runs.{ends_below_le}
use Rattle.intervals.proofs.Split.{runs-back}
use Rattle.intervals.proofs.Ordered.{ends_before}

-- the runs of two lists of parts are the runs of both, in order
pub all_runs-append : {V : Type 0} (parts more : List (List (ByteRun V))) → all_runs (parts ++ more) ≡ all_runs parts ++ all_runs more
all_runs-append [] more = refl
all_runs-append (part ∷ parts) more = ap (λ x. part ++ x) (all_runs-append parts more) ∙ sym (append_assoc part (all_runs parts) (all_runs more))

-- the runs of parts with one more part at the end
pub all_runs-push : {V : Type 0} (parts : List (List (ByteRun V))) (part : List (ByteRun V)) → all_runs (parts ++ part ∷ []) ≡ all_runs parts ++ part
all_runs-push parts part = all_runs-append parts (part ∷ []) ∙ ap (λ x. all_runs parts ++ x) (append-nil part)

-- the runs of parts are the ones before and from a place
pub all_runs-split : {V : Type 0} (parts : List (List (ByteRun V))) (i : ℕ) → all_runs parts ≡ all_runs (take i parts) ++ all_runs (drop i parts)
all_runs-split parts zero = refl
all_runs-split [] (suc i) = refl
all_runs-split (part ∷ parts) (suc i) = ap (λ x. part ++ x) (all_runs-split parts i) ∙ sym (append_assoc part (all_runs (take i parts)) (all_runs (drop i parts)))

pub some-drop : {V : Type 0} (parts : List (List (ByteRun V))) (i : ℕ) → AreSome parts → AreSome (drop i parts)
some-drop parts zero some = some
some-drop [] (suc i) some = tt
some-drop (part ∷ parts) (suc i) some = some-drop parts i some.1

pub some-take : {V : Type 0} (parts : List (List (ByteRun V))) (i : ℕ) → AreSome parts → AreSome (take i parts)
some-take parts zero some = tt
some-take [] (suc i) some = tt
some-take (part ∷ parts) (suc i) some = (some.0, some-take parts i some.1)

pub some-append : {V : Type 0} (parts more : List (List (ByteRun V))) → AreSome parts → AreSome more → AreSome (parts ++ more)
some-append [] more some others = others
some-append (part ∷ parts) more some others = (some.0, some-append parts more some.1 others)

-- the parts have a first run, and it begins at byte n
pub record FirstOf {V : Type 0} (parts : List (List (ByteRun V))) (n : ℕ) : Type 0 where
  pub first : ByteRun V
  pub others : List (ByteRun V)
  pub whole : all_runs parts ≡ first ∷ others
  pub begins : first.lo ≡ n

pub first_of : {V : Type 0} (part : List (ByteRun V)) (parts : List (List (ByteRun V))) → 0 < length part → FirstOf (part ∷ parts) (begins_at part)
first_of [] parts some = absurd (omega arith)
first_of (r ∷ part) parts some = record { first = r; others = part ++ all_runs parts; whole = refl; begins = refl }

pub first_from : {V : Type 0} (parts : List (List (ByteRun V))) (i : ℕ) (d : List (ByteRun V)) → AreSome parts → i < length parts → FirstOf (drop i parts) (begins_at (get_or parts i d))
first_from [] i d some lt = absurd (omega arith)
first_from (part ∷ parts) zero d some lt = first_of part parts some.0
first_from (part ∷ parts) (suc i) d some lt = first_from parts i d some.1 (omega arith)

-- runs begin above byte n where the first does
pub rise_above : {V : Type 0} (r : ByteRun V) (l : List (ByteRun V)) (n : ℕ) → AreRuns (r ∷ l) → n < r.lo → BeginAbove (r ∷ l) n
rise_above r [] n runs above = (above, tt)
rise_above r (s ∷ l) n runs above = (above, rise_above s l n runs.2 (omega (arith, runs.0, runs.1.0)))

module _ {V : Type 0} (parts : List (List (ByteRun V))) (made : AreRuns (all_runs parts)) (some : AreSome parts) where
  runs_at : (i : ℕ) → AreRuns (all_runs (take i parts) ++ all_runs (drop i parts))
  runs_at i = rw (← all_runs-split parts i) made

  pub runs_from : (i : ℕ) → AreRuns (all_runs (drop i parts))
  runs_from i = runs-back (all_runs (take i parts)) (all_runs (drop i parts)) (runs_at i)

  -- the runs from place i on begin at byte n or below it
  pub begins_drop : (i n : ℕ) (d : List (ByteRun V)) → i < length parts → begins_at (get_or parts i d) ≤ n → BeginsTo (all_runs (drop i parts)) n
  begins_drop i n d lt le =
      let it = first_from parts i d some lt in
      rw it.whole (omega (arith, it.begins))

  -- the runs from place i on begin above byte n
  pub above_drop : (i n : ℕ) → ((d : List (ByteRun V)) → i < length parts → n < begins_at (get_or parts i d)) → BeginAbove (all_runs (drop i parts)) n
  above_drop i n above = elim (cases_lt i (length parts)) [
    | inl lt ↦
        let it = first_from parts i [] some lt in
        let all : AreRuns (it.first ∷ it.others) = subst AreRuns it.whole (runs_from i) in
        rw it.whole (rise_above it.first it.others n all (omega (arith, it.begins, above [] lt)))
    | inr past ↦ rw (drop_all i parts past) tt
  ]

-- a later part begins above the first
begins_later : {V : Type 0} (part : List (ByteRun V)) (parts : List (List (ByteRun V))) (j : ℕ) (d : List (ByteRun V)) → AreRuns (all_runs (part ∷ parts)) → AreSome (part ∷ parts) → j < length parts → begins_at part ≤ begins_at (get_or parts j d)
begins_later part [] j d runs some lt = absurd (omega arith)
begins_later [] parts j d runs some lt = absurd (omega arith)
begins_later (r ∷ part) ([] ∷ parts) j d runs some lt = absurd (omega (arith, some.1.0))
begins_later (r ∷ part) ((s ∷ next) ∷ parts) zero d runs some lt = let under = ends_before (r ∷ part) s (next ++ all_runs parts) runs in omega (arith, under.0, runs.0)
begins_later (r ∷ part) ((s ∷ next) ∷ parts) (suc j) d runs some lt =
    let under = ends_before (r ∷ part) s (next ++ all_runs parts) runs in
    let later = begins_later (s ∷ next) parts j d (runs-back (r ∷ part) ((s ∷ next) ++ all_runs parts) runs) some.1 (omega arith) in
    omega (arith, under.0, runs.0, later)

-- the first bytes of parts are in ascending order
pub parts_rise : {V : Type 0} (parts : List (List (ByteRun V))) → AreRuns (all_runs parts) → AreSome parts → IsNonDecreasingBy begins_at parts
parts_rise [] runs some i j d le lt = absurd (omega arith)
parts_rise (part ∷ parts) runs some zero zero d le lt = omega arith
parts_rise (part ∷ parts) runs some zero (suc j) d le lt = begins_later part parts j d runs some (omega arith)
parts_rise (part ∷ parts) runs some (suc i) zero d le lt = absurd (omega arith)
parts_rise (part ∷ parts) runs some (suc i) (suc j) d le lt = parts_rise parts (runs-back part (all_runs parts) runs) some.1 i j d (omega arith) (omega arith)

-- runs end below byte n where the runs behind them begin at it or below it
pub begins_ends : {V : Type 0} (l m : List (ByteRun V)) (n : ℕ) → AreRuns (l ++ m) → BeginsTo m n → EndsBelow l n
begins_ends l [] n runs begins = absurd begins
begins_ends l (r ∷ m) n runs begins = ends_below_le l r.lo n begins (ends_before l r m runs)

-- the last part of runs that begin above byte n begins above it
pub above-back : {V : Type 0} (l m : List (ByteRun V)) (n : ℕ) → BeginAbove (l ++ m) n → BeginAbove m n
above-back [] m n above = above
above-back (r ∷ l) m n above = above-back l m n above.1

-- the runs of later parts begin above byte n where the runs of earlier parts do
pub above_more : {V : Type 0} (parts : List (List (ByteRun V))) (i j n : ℕ) → i ≤ j → BeginAbove (all_runs (drop i parts)) n → BeginAbove (all_runs (drop j parts)) n
above_more parts zero zero n le above = above
above_more parts (suc i) zero n le above = absurd (omega arith)
above_more [] i (suc j) n le above = tt
above_more (part ∷ parts) zero (suc j) n le above = above_more parts zero j n (omega arith) (above-back part (all_runs parts) n above)
above_more (part ∷ parts) (suc i) (suc j) n le above = above_more parts i j n (omega arith) above

few_from : {V : Type 0} (r : ByteRun V) (l : List (ByteRun V)) (n : ℕ) → AreRuns (r ∷ l) → EndsBelow (r ∷ l) n → r.lo + length (r ∷ l) ≤ n
few_from r [] n runs ends = omega (arith, runs.0, ends.0)
few_from r (s ∷ l) n runs ends = let more = few_from s l n runs.2 ends.1 in omega (arith, runs.0, runs.1.0, more)

-- there are no more runs than bytes
pub few_runs : {V : Type 0} (l : List (ByteRun V)) (n : ℕ) → AreRuns l → EndsBelow l n → length l ≤ n
few_runs [] n runs ends = omega arith
few_runs (r ∷ l) n runs ends = let few = few_from r l n runs ends in omega arith
