-- Lists of runs that are put together from pieces of other lists.
use Rattle.std.proofs.Common.{◌≡◌, ℕ, max, ◌+◌, ◌-◌, ◌<◌, ◌≤◌, length, List, [], ◌∷◌, ◌++◌, Some, sym, ◌∙◌, inl, inr, arith}
use Rattle.std.proofs.lemmas.Bool.{cases_lt}
use Rattle.std.proofs.lemmas.Bool.Decides.{nat_tests}
use Rattle.intervals.specs.declared.byte_run.ByteRun.{ByteRun}
use Rattle.intervals.specs.rule.Bytes.{put}
use Rattle.intervals.specs.code.Runs.{Follows, AreRuns, EndsBelow}
use Rattle.intervals.specs.rule.Runs.{value_at}
use Rattle.intervals.proofs.Find.{value_at-none, after-none, before-none, first-some, first-other}
use Rattle.intervals.proofs.Runs.{ends_below_le, at-past}
use Rattle.intervals.proofs.Split.{runs-back, at-back, at-first, ends-before}

-- the runs before r with the piece of r below `to` give all values below `to`
pub cut_below : {V : Type 0} (l m new : List (ByteRun V)) (r : ByteRun V) (to : ℕ) → AreRuns (l ++ r ∷ m) → r.lo < to → to ≤ r.hi → ((b : ℕ) → value_at new b ≡ put (value_at l) (record { lo = r.lo; hi = to - 1 }) (Some r.value) b) → (b : ℕ) → b < to → value_at new b ≡ value_at (l ++ r ∷ m) b
cut_below l m new r to runs starts reached bytes b lt = elim (cases_lt b r.lo) [
  | inl below ↦
      let none = before-none r m b (runs-back l (r ∷ m) runs) below in
      let first = at-first l (r ∷ m) b none in
      let here = bytes b in
      grind (arith, nat_tests)
  | inr le ↦
      let some = at-back l (r ∷ m) r.lo b (ends-before l m r runs) le ∙ first-some r m b le (omega arith) in
      let here = bytes b in
      grind (arith, nat_tests)
]

-- where the next run begins at `to` or above it the runs before it give all values below `to`
pub none_cut : {V : Type 0} (l m : List (ByteRun V)) (r : ByteRun V) (to : ℕ) → AreRuns (l ++ r ∷ m) → to ≤ r.lo → (b : ℕ) → b < to → value_at l b ≡ value_at (l ++ r ∷ m) b
none_cut l m r to runs starts b lt = sym (at-first l (r ∷ m) b (before-none r m b (runs-back l (r ∷ m) runs) (omega arith)))

-- where no run is added no byte from `from` on has a value
pub none_left : {V : Type 0} (l m : List (ByteRun V)) (from : ℕ) → length m ≡ 0 → EndsBelow l from → (b : ℕ) → from ≤ b → value_at l b ≡ value_at m b
none_left l [] from none below b le = at-past l b (ends_below_le l from b le below) ∙ sym (value_at-none b)
none_left l (r ∷ m) from none below b le = absurd (omega arith)

-- runs of which the last ends where r does may be followed by the runs that follow r
pub runs-moved : {V : Type 0} (l rest : List (ByteRun V)) (r : ByteRun V) → AreRuns l → EndsBelow l (r.hi + 1) → value_at l r.hi ≡ Some r.value → Follows r rest → AreRuns rest → AreRuns (l ++ rest)
runs-moved [] rest r runs ends last follows made = made
runs-moved (s ∷ []) [] r runs ends last follows made = runs
runs-moved (s ∷ []) (t ∷ rest) r runs ends last follows made = (
  runs.0,
  (
    omega (arith, ends.0, follows.0),
    λ beside same.
        let at_end : s.hi ≡ r.hi = omega (arith, ends.0, follows.0) in
        let here = first-some s [] r.hi (omega (arith, runs.0)) (omega arith) in
        let values : s.value ≡ r.value = cc in
        follows.1 (omega arith) (sym values ∙ same),
  ),
  made,
)
runs-moved (s ∷ u ∷ l) rest r runs ends last follows made =
    (runs.0, runs.1, runs-moved (u ∷ l) rest r runs.2 ends.1 (sym (first-other s (u ∷ l) r.hi (inr (omega (arith, runs.1.0, runs.2.0, ends.1.0)))) ∙ last) follows made)

-- the runs after the first one is added, cut at `from`, and the rest follows
module _ {V : Type 0} (l mid rest : List (ByteRun V)) (r : ByteRun V) (from : ℕ) (runs : AreRuns (r ∷ rest)) (below : EndsBelow l from) (reached : from ≤ r.hi) (made : AreRuns mid) (ends : EndsBelow mid (r.hi + 1)) (bytes : (b : ℕ) → value_at mid b ≡ put (value_at l) (record { lo = max r.lo from; hi = r.hi }) (Some r.value) b) where
  pub moved-runs : AreRuns (mid ++ rest)
  moved-runs =
      let last = bytes r.hi in
      let first = runs.0 in
      runs-moved mid rest r made ends (grind (arith, nat_tests)) runs.1 runs.2

  pub moved-inside : (b : ℕ) → from ≤ b → value_at (mid ++ rest) b ≡ value_at (r ∷ rest) b
  moved-inside b le = elim (cases_lt r.hi b) [
    | inl past ↦ at-back mid rest (r.hi + 1) b ends (omega arith) ∙ sym (first-other r rest b (inr past))
    | inr within ↦
        let none = after-none r rest b runs.1 runs.2 within in
        let same = at-first mid rest b none in
        let here = bytes b in
        elim (cases_lt b r.lo) [
          | inl before ↦
              let nothing = before-none r rest b runs before in
              let clear = at-past l b (ends_below_le l from b le below) in
              grind (arith, nat_tests)
          | inr starts ↦
              let some = first-some r rest b starts within in
              grind (arith, nat_tests)
        ]
  ]

  pub moved-under : (b : ℕ) → b < from → value_at (mid ++ rest) b ≡ value_at l b
  moved-under b lt =
      let none = after-none r rest b runs.1 runs.2 (omega arith) in
      let same = at-first mid rest b none in
      let here = bytes b in
      grind (arith, nat_tests)
