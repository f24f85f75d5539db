-- What a byte says of the runs of a list.
use Rattle.std.proofs.Common.{◌≡◌, ℕ, zero, suc, ◌+◌, ◌<◌, ◌≤◌, ◌≢◌, ◌⊎◌, max, length, get_or, drop, List, [], ◌∷◌, Option, Some, None, IsSome, refl, ap, sym, ◌∙◌, inl, inr, arith}
use Rattle.std.proofs.lemmas.Bool.{cases_lt}
use Rattle.std.proofs.Math.Seq.{drop-nil}
use Rattle.std.proofs.lemmas.Bool.Decides.{nat_tests}
use Rattle.intervals.specs.declared.byte_run.ByteRun.{ByteRun}
use Rattle.intervals.specs.rule.Bytes.{Range, IsRun, IsBarred, IsFirstIn, NoneIn, nothing}
use Rattle.intervals.specs.code.Runs.{IsBarredValue, Follows, AreRuns, EndsBelow}
use Rattle.intervals.specs.rule.Runs.{bytes_of, value_at}

-- a byte up to the end of r has no value in the runs after r
pub after-none : {V : Type 0} (r : ByteRun V) (rest : List (ByteRun V)) (b : ℕ) → Follows r rest → AreRuns rest → b ≤ r.hi → value_at rest b ≡ None
unfolding value_at
after-none r [] b h runs le = refl
after-none r (s ∷ rest) b h runs le =
    let later = after-none s rest b runs.1 runs.2 (omega (arith, runs.0)) in
    grind (arith, nat_tests)

-- a byte before the first run has no value
pub before-none : {V : Type 0} (r : ByteRun V) (rest : List (ByteRun V)) (b : ℕ) → AreRuns (r ∷ rest) → b < r.lo → value_at (r ∷ rest) b ≡ None
unfolding value_at
before-none r rest b runs lt =
    let later = after-none r rest b runs.1 runs.2 (omega (arith, runs.0)) in
    grind (arith, nat_tests)

-- a byte of the first run has its value
pub first-some : {V : Type 0} (r : ByteRun V) (rest : List (ByteRun V)) (b : ℕ) → r.lo ≤ b → b ≤ r.hi → value_at (r ∷ rest) b ≡ Some r.value
unfolding value_at
first-some r rest b lo hi = grind (arith, nat_tests)

-- a byte outside the first run has the value that the rest gives
pub first-other : {V : Type 0} (r : ByteRun V) (rest : List (ByteRun V)) (b : ℕ) → (b < r.lo) ⊎ (r.hi < b) → value_at (r ∷ rest) b ≡ value_at rest b
unfolding value_at
first-other r rest b (inl lt) = grind (arith, nat_tests)
first-other r rest b (inr lt) = grind (arith, nat_tests)

-- the byte right after r has another value than r
pub next-other : {V : Type 0} (r : ByteRun V) (rest : List (ByteRun V)) → Follows r rest → AreRuns rest → value_at rest (r.hi + 1) ≢ Some r.value
unfolding value_at
next-other r [] h runs e = cc
next-other r (s ∷ rest) h runs e = elim (cases_lt (r.hi + 1) s.lo) [
  | inl lt ↦ let none = before-none s rest (r.hi + 1) runs lt in cc
  | inr le ↦ let here = first-some s rest (r.hi + 1) le (omega (arith, runs.0)) in
      let values : s.value ≡ r.value = cc in h.1 (omega arith) (sym values)
]

-- the first run is a longest one
pub first-is_run : {V : Type 0} (r : ByteRun V) (rest : List (ByteRun V)) → AreRuns (r ∷ rest) → IsRun (value_at (r ∷ rest)) (bytes_of r) r.value
first-is_run r rest runs = record {
  ordered = runs.0;
  all = λ b lo hi. first-some r rest b lo hi;
  begins = λ b e some. let none = before-none r rest b runs (omega arith) in cc;
  ends = λ some. next-other r rest runs.1 runs.2 (sym (first-other r rest (r.hi + 1) (inr (omega arith))) ∙ some);
}

-- a longest run of the rest is a longest run of the whole
pub lift-is_run : {V : Type 0} (r : ByteRun V) (rest : List (ByteRun V)) (s : Range) (v : V) → AreRuns (r ∷ rest) → IsRun (value_at rest) s v → IsRun (value_at (r ∷ rest)) s v
lift-is_run r rest s v runs run =
    let above : r.hi < s.lo = elim (cases_lt r.hi s.lo) [
      | inl lt ↦ lt
      | inr le ↦ let none = after-none r rest s.lo runs.1 runs.2 le in let some = run.all s.lo (omega arith) run.ordered in absurd cc
    ] in
    record {
      ordered = run.ordered;
      all = λ b low high. first-other r rest b (inr (omega arith)) ∙ run.all b low high;
      begins = λ b e some. elim (cases_lt r.hi b) [
        | inl lt ↦ run.begins b e (sym (first-other r rest b (inr lt)) ∙ some)
        | inr le ↦ let here = first-some r rest b (omega (arith, runs.0)) le in
            let values : r.value ≡ v = cc in
            let next : value_at rest s.lo ≡ Some v = run.all s.lo (omega arith) run.ordered in
            let same : r.hi + 1 ≡ s.lo = omega arith in
            next-other r rest runs.1 runs.2 (rw (same, values) next)
      ];
      ends = λ some. run.ends (sym (first-other r rest (s.hi + 1) (inr (omega (arith, run.ordered)))) ∙ some);
    }

-- each run of the list is a longest one
pub is_run_at : {V : Type 0} (l : List (ByteRun V)) (i : ℕ) (r : ByteRun V) → AreRuns l → i < length l → r ≡ get_or l i r → IsRun (value_at l) (bytes_of r) r.value
is_run_at [] i r runs lt is = absurd (omega arith)
is_run_at (s ∷ rest) zero r runs lt is = rw is (first-is_run s rest runs)
is_run_at (s ∷ rest) (suc i) r runs lt is = lift-is_run s rest (bytes_of r) r.value runs (is_run_at rest i r runs.2 (omega arith) is)

-- an empty list of runs gives no value
pub value_at-none : {V : Type 0} (b : ℕ) → value_at {V = V} [] b ≡ None
unfolding value_at
value_at-none b = refl

-- a list of runs without its first ones is a list of runs
pub runs-drop : {V : Type 0} (l : List (ByteRun V)) (i : ℕ) → AreRuns l → AreRuns (drop i l)
runs-drop [] i runs = rw drop-nil runs
runs-drop (r ∷ l) zero runs = runs
runs-drop (r ∷ l) (suc i) runs = runs-drop l i runs.2

-- a byte with a barred value is barred
pub barred-some : {V : Type 0} (f : ℕ → Option V) (bar : Option V) (b : ℕ) (v : V) → f b ≡ Some v → IsBarredValue bar v → IsBarred f bar b
barred-some f None b v has barred = rw has refl
barred-some f (Some w) b v has barred = has ∙ ap Some barred

-- a barred byte has a barred value
pub barred-value : {V : Type 0} (f : ℕ → Option V) (bar : Option V) (b : ℕ) (v : V) → f b ≡ Some v → IsBarred f bar b → IsBarredValue bar v
barred-value f None b v has barred = tt
barred-value f (Some w) b v has barred = cc

-- a byte with no value is not barred
pub not_barred-none : {V : Type 0} (f : ℕ → Option V) (bar : Option V) (b : ℕ) → f b ≡ None → IsBarred f bar b → ⊥
not_barred-none f None b none barred = let some : IsSome (f b) = barred in absurd (cc)
not_barred-none f (Some w) b none barred = cc

-- where two functions have the same value at a byte, both bar it or none
pub barred-along : {V : Type 0} (f g : ℕ → Option V) (bar : Option V) (b : ℕ) → f b ≡ g b → IsBarred f bar b → IsBarred g bar b
barred-along f g None b same barred = rw (sym same) barred
barred-along f g (Some w) b same barred = sym same ∙ barred

-- a barred byte of the span in the whole list is barred in the runs that are left
abbrev pub BarredLeft : {V : Type 0} → List (ByteRun V) → List (ByteRun V) → Option V → Range → Type 0
BarredLeft runs rest bar s = (b : ℕ) → s.lo ≤ b → b ≤ s.hi → IsBarred (value_at runs) bar b → IsBarred (value_at rest) bar b

-- a run that is outside, or is not barred, is passed over
pub left-skip : {V : Type 0} (runs rest : List (ByteRun V)) (r : ByteRun V) (bar : Option V) (s : Range) → BarredLeft runs (r ∷ rest) bar s → (r.hi < s.lo) ⊎ (s.hi < r.lo) ⊎ (IsBarredValue bar r.value → ⊥) → BarredLeft runs rest bar s
left-skip runs rest r bar s left skip b low high barred = elim (cases_lt b r.lo) [
  | inl lt ↦ barred-along (value_at (r ∷ rest)) (value_at rest) bar b (first-other r rest b (inl lt)) (left b low high barred)
  | inr ge ↦ elim (cases_lt r.hi b) [
    | inl lt ↦ barred-along (value_at (r ∷ rest)) (value_at rest) bar b (first-other r rest b (inr lt)) (left b low high barred)
    | inr le ↦
        let here : IsBarredValue bar r.value = barred-value (value_at (r ∷ rest)) bar b r.value (first-some r rest b ge le) (left b low high barred) in
        elim skip [ inl under ↦ absurd (omega arith) | inr more ↦ elim more [ inl above ↦ absurd (omega arith) | inr free ↦ absurd (free here) ] ]
  ]
]

-- the first run that is inside and barred has the first barred byte
pub left-first : {V : Type 0} (runs rest : List (ByteRun V)) (r : ByteRun V) (bar : Option V) (s : Range) → BarredLeft runs (r ∷ rest) bar s → AreRuns (r ∷ rest) → IsRun (value_at runs) (bytes_of r) r.value → s.lo ≤ s.hi → s.lo ≤ r.hi → r.lo ≤ s.hi → IsBarredValue bar r.value → IsFirstIn (IsBarred (value_at runs) bar) s (max r.lo s.lo)
left-first runs rest r bar s left are run order low high barred =
    let ordered = run.ordered in
    record {
      above = omega arith;
      below = omega arith;
      here = barred-some (value_at runs) bar (max r.lo s.lo) r.value (run.all (max r.lo s.lo) (omega arith) (omega arith)) barred;
      none_before = λ c from to hit. not_barred-none (value_at (r ∷ rest)) bar c (before-none r rest c are (omega arith)) (left c from (omega arith) hit);
    }

-- where the runs that are left begin above the span no byte of it is barred
pub left-stop : {V : Type 0} (runs rest : List (ByteRun V)) (r : ByteRun V) (bar : Option V) (s : Range) → BarredLeft runs (r ∷ rest) bar s → AreRuns (r ∷ rest) → s.hi < r.lo → NoneIn (IsBarred (value_at runs) bar) s
left-stop runs rest r bar s left are above b low high barred = not_barred-none (value_at (r ∷ rest)) bar b (before-none r rest b are (omega arith)) (left b low high barred)

-- where no run is left no byte of the span is barred
pub left-none : {V : Type 0} (runs : List (ByteRun V)) (bar : Option V) (s : Range) → BarredLeft runs [] bar s → NoneIn (IsBarred (value_at runs) bar) s
left-none runs bar s left b low high barred = not_barred-none (value_at []) bar b (value_at-none b) (left b low high barred)

-- each run ends below n
pub ends_below_at : {V : Type 0} (l : List (ByteRun V)) (n i : ℕ) (r : ByteRun V) → EndsBelow l n → i < length l → r ≡ get_or l i r → r.hi < n
ends_below_at [] n i r ends lt is = absurd (omega arith)
ends_below_at (s ∷ rest) n zero r ends lt is = rw is ends.0
ends_below_at (s ∷ rest) n (suc i) r ends lt is = ends_below_at rest n i r ends.1 (omega arith) is

-- a list of runs that has no value anywhere is empty
pub nothing_is_empty : {V : Type 0} (l : List (ByteRun V)) → AreRuns l → (value_at l ≡ nothing → length l ≡ 0) × (length l ≡ 0 → value_at l ≡ nothing)
unfolding value_at
nothing_is_empty [] runs = (λ e. refl, λ e. refl)
nothing_is_empty (r ∷ rest) runs = (λ e. let some = first-some r rest r.lo (omega arith) runs.0 in let none : value_at (r ∷ rest) r.lo ≡ None = ap (λ f. f r.lo) e in absurd cc, λ e. absurd (omega arith))
