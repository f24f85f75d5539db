-- Runs of which some in the middle are rewritten.
use Rattle.std.proofs.Common.{◌≡◌, ℕ, pred, ◌+◌, ◌<◌, ◌≤◌, ◌≢◌, List, [], ◌∷◌, ◌++◌, Option, Some, None, refl, ap, sym, ◌∙◌, inl, inr, arith}
use Rattle.std.proofs.lemmas.List.{append-nil}
use Rattle.std.proofs.lemmas.Bool.{cases_lt}
use Rattle.intervals.specs.declared.byte_run.ByteRun.{ByteRun}
use Rattle.intervals.specs.rule.Bytes.{put}
use Rattle.intervals.specs.code.Runs.{AreRuns, EndsBelow}
use Rattle.intervals.specs.rule.Runs.{value_at}
use Rattle.intervals.specs.code.Entries.{BeginAbove}
use Rattle.intervals.proofs.Find.{first-some, first-other}
use Rattle.intervals.proofs.Runs.{at-below}
use Rattle.intervals.proofs.Split.{runs-back, at-front}
use Rattle.intervals.proofs.StartsWith.{put-in, put-below, put-above}
use Rattle.intervals.proofs.Written.{runs-written, at-written}
use Rattle.intervals.proofs.Ordered.{ends_before, none_above, stands}

-- the first value if there is one, else the second
abbrev pub over : {V : Type 0} → Option V → Option V → Option V
over None y = y
over (Some v) y = Some v

over_nothing : {V : Type 0} (x : Option V) → over x None ≡ x
over_nothing None = refl
over_nothing (Some v) = refl

-- two lists together give the value of the first, or else of the second
pub at-both : {V : Type 0} (l m : List (ByteRun V)) (b : ℕ) → value_at (l ++ m) b ≡ over (value_at l b) (value_at m b)
unfolding value_at
at-both [] m b = refl
at-both (r ∷ l) m b = elim (cases_lt b r.lo) [
  | inl lt ↦ first-other r (l ++ m) b (inl lt) ∙ (at-both l m b ∙ ap (λ x. over x (value_at m b)) (sym (first-other r l b (inl lt))))
  | inr ge ↦ elim (cases_lt r.hi b) [
    | inl past ↦ first-other r (l ++ m) b (inr past) ∙ (at-both l m b ∙ ap (λ x. over x (value_at m b)) (sym (first-other r l b (inr past))))
    | inr le ↦ first-some r (l ++ m) b ge le ∙ ap (λ x. over x (value_at m b)) (sym (first-some r l b ge le))
  ]
]

-- runs that give no value from byte n on end below it
ends_if_none : {V : Type 0} (l : List (ByteRun V)) (n : ℕ) → AreRuns l → ((b : ℕ) → n ≤ b → value_at l b ≡ None) → EndsBelow l n
ends_if_none [] n runs none = tt
ends_if_none (r ∷ l) n runs none =
    let under : r.hi < n = elim (cases_lt r.hi n) [
      | inl lt ↦ lt
      | inr ge ↦ let some = first-some r l r.hi runs.0 (omega arith) in let nothing = none r.hi ge in absurd cc
    ] in
    (under, ends_if_none l n runs.2 (λ b le. sym (first-other r l b (inr (omega arith))) ∙ none b le))

-- two lists of runs that do not join are a list of runs together
runs-both : {V : Type 0} (l : List (ByteRun V)) (s : ByteRun V) (m : List (ByteRun V)) → AreRuns l → AreRuns (s ∷ m) → EndsBelow l s.lo → ((b : ℕ) → b + 1 ≡ s.lo → value_at l b ≢ Some s.value) → AreRuns (l ++ s ∷ m)
runs-both [] s m runs others ends other = others
runs-both (r ∷ []) s m runs others ends other = (runs.0, (ends.0, λ beside same. other r.hi beside (first-some r [] r.hi runs.0 (omega arith) ∙ ap Some same)), others)
runs-both (r ∷ t ∷ l) s m runs others ends other = (runs.0, runs.1, runs-both (t ∷ l) s m runs.2 others ends.1 (λ b beside some. other b beside (first-other r (t ∷ l) b (inr (omega (arith, runs.1.0, runs.2.0, ends.1.0))) ∙ some)))

module _ {V : Type 0} (old new after : List (ByteRun V)) (lo hi : ℕ) (value : Option V) (order : lo ≤ hi) (runs : AreRuns (old ++ after)) (made : AreRuns new) (bytes : (b : ℕ) → value_at new b ≡ put (value_at old) (record { lo = lo; hi = hi }) value b) where
  past : (b : ℕ) → hi < b → value_at new b ≡ value_at old b
  past b lt = bytes b ∙ put-above (value_at old) (record { lo = lo; hi = hi }) value b lt

  -- the written runs with the ones that begin past the byte after the span are runs
  runs-before : BeginAbove after (hi + 1) → AreRuns (new ++ after)
  runs-before above = by after runs above
    where
      by : (after : List (ByteRun V)) → AreRuns (old ++ after) → BeginAbove after (hi + 1) → AreRuns (new ++ after)
      by [] runs above = rw (append-nil new) made
      by (s ∷ m) runs above =
          let under = ends_before old s m runs in
          let ends : EndsBelow new s.lo = ends_if_none new s.lo made (λ b le. past b (omega (arith, above.0)) ∙ at-below old b s.lo under le) in
          runs-both new s m made (runs-back old (s ∷ m) runs) ends (λ b beside some. (stands old m s runs).begins b beside (at-front old (s ∷ m) b s.value (sym (past b (omega (arith, above.0))) ∙ some)))

  -- the written runs with the ones behind them have the new value exactly on the span
  at-before : BeginAbove after (hi + 1) → (b : ℕ) → value_at (new ++ after) b ≡ put (value_at (old ++ after)) (record { lo = lo; hi = hi }) value b
  at-before above b =
      let here : value_at (new ++ after) b ≡ over (put (value_at old) (record { lo = lo; hi = hi }) value b) (value_at after b) = at-both new after b ∙ ap (λ x. over x (value_at after b)) (bytes b) in
      elim (cases_lt b lo) [
        | inl lt ↦ here ∙ (ap (λ x. over x (value_at after b)) (put-below (value_at old) (record { lo = lo; hi = hi }) value b lt) ∙ (sym (at-both old after b) ∙ sym (put-below (value_at (old ++ after)) (record { lo = lo; hi = hi }) value b lt)))
        | inr ge ↦ elim (cases_lt hi b) [
          | inl over_it ↦ here ∙ (ap (λ x. over x (value_at after b)) (put-above (value_at old) (record { lo = lo; hi = hi }) value b over_it) ∙ (sym (at-both old after b) ∙ sym (put-above (value_at (old ++ after)) (record { lo = lo; hi = hi }) value b over_it)))
          | inr le ↦ here ∙ (ap (λ x. over x (value_at after b)) (put-in (value_at old) (record { lo = lo; hi = hi }) value b ge le) ∙ (ap (λ x. over value x) (none_above after (hi + 1) b above (omega arith)) ∙ (over_nothing value ∙ sym (put-in (value_at (old ++ after)) (record { lo = lo; hi = hi }) value b ge le))))
        ]
      ]

-- runs of which some in the middle are rewritten are runs, and have the new value exactly on the span
pub record AreReplaced {V : Type 0} (before old new after : List (ByteRun V)) (lo hi : ℕ) (value : Option V) : Type 0 where
  pub runs : AreRuns (before ++ (new ++ after))
  pub bytes : (b : ℕ) → value_at (before ++ (new ++ after)) b ≡ put (value_at (before ++ (old ++ after))) (record { lo = lo; hi = hi }) value b

pub replaced : {V : Type 0} (before old new after : List (ByteRun V)) (lo hi : ℕ) (value : Option V) → lo ≤ hi → AreRuns (before ++ (old ++ after)) → EndsBelow before (pred lo) → BeginAbove after (hi + 1) → AreRuns new → ((b : ℕ) → value_at new b ≡ put (value_at old) (record { lo = lo; hi = hi }) value b) → AreReplaced before old new after lo hi value
replaced before old new after lo hi value order runs ends above made bytes =
    let rest : AreRuns (old ++ after) = runs-back before (old ++ after) runs in
    let these : AreRuns (new ++ after) = runs-before old new after lo hi value order rest made bytes above in
    let here : (b : ℕ) → value_at (new ++ after) b ≡ put (value_at (old ++ after)) (record { lo = lo; hi = hi }) value b = at-before old new after lo hi value order rest made bytes above in
    record {
      runs = runs-written (old ++ after) (new ++ after) lo hi value these here before (pred lo) runs ends (omega arith);
      bytes = at-written (old ++ after) (new ++ after) lo hi value these here before (pred lo) ends (omega arith);
    }
