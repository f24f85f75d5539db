-- The number of runs is the number of bytes at which one begins.
use Rattle.std.proofs.Common.{◌≡◌, ℕ, zero, suc, ◌+◌, ◌<◌, ◌≤◌, ◌≢◌, Bool, true, false, ◌||◌, eqb, ltb, if◌then◌else◌, length, List, [], ◌∷◌, Option, Some, None, refl, ap, sym, ◌∙◌, inl, inr, arith}
use Rattle.std.proofs.lemmas.Bool.{cases_lt, cases_order, cases_Bool}
use Rattle.std.proofs.lemmas.Bool.Decides.{nat_tests}
use Rattle.intervals.specs.declared.byte_run.ByteRun.{ByteRun}
use Rattle.intervals.specs.rule.Bytes.{greatest, begins_after, is_start, starts_below, all_bytes, number_of_runs}
use Rattle.intervals.specs.code.Runs.{Follows, AreRuns, EndsBelow}
use Rattle.intervals.specs.rule.Runs.{value_at}
use Rattle.intervals.proofs.Find.{after-none, before-none, first-some, first-other, next-other, value_at-none}

-- a run of the list begins at the byte
abbrev begins_at : {V : Type 0} → List (ByteRun V) → ℕ → Bool
begins_at [] n = false
begins_at (r ∷ rest) n = eqb r.lo n || begins_at rest n

-- the number of runs of the list that begin below n
abbrev pub begin_below : {V : Type 0} → List (ByteRun V) → ℕ → ℕ
begin_below [] n = 0
begin_below (r ∷ rest) n = (if ltb r.lo n then 1 else 0) + begin_below rest n

-- no later run begins up to the end of r
none_begins : {V : Type 0} (r : ByteRun V) (rest : List (ByteRun V)) (b : ℕ) → Follows r rest → AreRuns rest → b ≤ r.hi → begins_at rest b ≡ false
none_begins r [] b h runs le = refl
none_begins r (s ∷ rest) b h runs le =
    let later = none_begins s rest b runs.1 runs.2 (omega (arith, runs.0)) in
    grind (arith, nat_tests)

-- one more byte is the beginning of one more run, or of none
begin_below_more : {V : Type 0} (l : List (ByteRun V)) (n : ℕ) → AreRuns l → begin_below l (suc n) ≡ begin_below l n + (if begins_at l n then 1 else 0)
begin_below_more [] n runs = refl
begin_below_more (r ∷ rest) n runs =
    let more = begin_below_more rest n runs.2 in
    elim (cases_order r.lo n) [
      | inl e ↦ let none = none_begins r rest n runs.1 runs.2 (omega (arith, runs.0)) in grind (arith, nat_tests)
      | inr other ↦ grind (arith, nat_tests)
    ]

begin_below_none : {V : Type 0} (l : List (ByteRun V)) → begin_below l 0 ≡ 0
begin_below_none [] = refl
begin_below_none (r ∷ rest) = let more = begin_below_none rest in grind (arith, nat_tests)

pub begin_below_all : {V : Type 0} (l : List (ByteRun V)) (n : ℕ) → AreRuns l → EndsBelow l n → begin_below l n ≡ length l
begin_below_all [] n runs ends = refl
begin_below_all (r ∷ rest) n runs ends =
    let more = begin_below_all rest n runs.2 ends.1 in
    let lt : r.lo < n = omega (arith, runs.0, ends.0) in
    grind (arith, nat_tests)

-- no more runs begin below n than there are
pub begin_below_few : {V : Type 0} (l : List (ByteRun V)) (n : ℕ) → begin_below l n ≤ length l
begin_below_few [] n = omega arith
begin_below_few (r ∷ rest) n = let more = begin_below_few rest n in grind (arith, nat_tests)

module _ {V : Type 0} (eq : V → V → Bool) (exact : (a b : V) → eq a b ≡ true → a ≡ b) (reflexive : (a : V) → eq a a ≡ true) where
  -- after a byte with another value a run begins as after a byte without one
  begins_other : (v : V) (x : Option V) → x ≢ Some v → begins_after eq (Some v) x ≡ begins_after eq None x
  begins_other v None differ = refl
  begins_other v (Some w) differ = elim (cases_Bool (eq v w)) [
    | inl same ↦ absurd (differ (ap Some (sym (exact v w same))))
    | inr apart ↦ rw apart refl
  ]

  begins_same : (v : V) → begins_after eq (Some v) (Some v) ≡ false
  begins_same v = rw reflexive refl

  -- a longest run of the function begins exactly where a run of the list does
  starts_are : (l : List (ByteRun V)) (n : ℕ) → AreRuns l → is_start eq (value_at l) n ≡ begins_at l n
  unfolding is_start
  starts_are [] zero runs = rw value_at-none refl
  starts_are [] (suc m) runs = rw (value_at-none {V = V} (suc m)) refl
  starts_are (r ∷ rest) zero runs =
      let later = none_begins r rest 0 runs.1 runs.2 (omega arith) in
      elim (cases_lt 0 r.lo) [
        | inl lt ↦ rw (before-none r rest 0 runs lt, later) (grind (arith, nat_tests))
        | inr le ↦ rw (first-some r rest 0 le (omega arith), later) (grind (arith, nat_tests))
      ]
  starts_are (r ∷ rest) (suc m) runs =
      let more = starts_are rest (suc m) runs.2 in
      elim (cases_lt r.hi (suc m)) [
        | inl past ↦
            let apart : eqb r.lo (suc m) ≡ false = grind (arith, nat_tests, runs.0) in
            elim (cases_lt r.hi m) [
              | inl lt ↦ rw (first-other r rest m (inr lt), first-other r rest (suc m) (inr past), apart) more
              | inr le ↦
                  let none = after-none r rest m runs.1 runs.2 le in
                  let next : value_at rest (suc m) ≢ Some r.value = λ e. next-other r rest runs.1 runs.2 (ap (value_at rest) (omega arith) ∙ e) in
                  rw (first-some r rest m (omega (arith, runs.0)) le, first-other r rest (suc m) (inr past), apart, begins_other r.value (value_at rest (suc m)) next) (rw none at more)
            ]
        | inr le ↦
            let later = none_begins r rest (suc m) runs.1 runs.2 le in
            elim (cases_order r.lo (suc m)) [
              | inl e ↦ rw (before-none r rest m runs (omega arith), first-some r rest (suc m) (omega arith) le, later) (grind (arith, nat_tests))
              | inr other ↦ elim other [
                | inl lt ↦ rw (first-some r rest m (omega arith) (omega arith), first-some r rest (suc m) (omega arith) le, later, begins_same r.value) (grind (arith, nat_tests))
                | inr gt ↦ rw (before-none r rest (suc m) runs gt, later) (grind (arith, nat_tests))
              ]
            ]
      ]

  pub starts_below_are : (l : List (ByteRun V)) (n : ℕ) → AreRuns l → starts_below eq (value_at l) n ≡ begin_below l n
  unfolding starts_below
  starts_below_are l zero runs = sym (begin_below_none l)
  starts_below_are l (suc n) runs = rw (starts_below_are l n runs, starts_are l n runs) (sym (begin_below_more l n runs))

  -- there are as many beginnings of longest runs as runs in the list
  pub number_of_runs-length : (l : List (ByteRun V)) → AreRuns l → EndsBelow l (greatest + 1) → number_of_runs eq (value_at l) ≡ length l
  unfolding all_bytes
  number_of_runs-length l runs ends = starts_below_are l 9223372036854775808 runs ∙ begin_below_all l 9223372036854775808 runs ends
