-- The number of runs after a span is written.
use Rattle.std.proofs.Common.{◌≡◌, ℕ, zero, suc, ◌+◌, ◌-◌, ◌<◌, ◌≤◌, Bool, true, false, if◌then◌else◌, length, get_or, List, [], ◌∷◌, Option, Some, None, refl, ap, sym, ◌∙◌, inl, inr, arith}
use Rattle.std.proofs.lemmas.Bool.{cases_lt}
use Rattle.std.proofs.lemmas.Bool.Decides.{nat_tests}
use Rattle.std.specs.List.Sorted.{IsNonDecreasingBy}
use Rattle.intervals.specs.declared.byte_run.ByteRun.{ByteRun}
use Rattle.intervals.specs.rule.Bytes.{Range, greatest, put, begins_after, is_start, starts_below, all_bytes, number_of_runs}
use Rattle.intervals.specs.code.Runs.{AreRuns, EndsBelow}
use Rattle.intervals.specs.rule.Runs.{value_at}
use Rattle.intervals.proofs.Runs.{at-below}
use Rattle.intervals.proofs.Starts.{begin_below, begin_below_few, starts_below_are, number_of_runs-length}

-- a later run begins above the first
begins_later : {V : Type 0} (r : ByteRun V) (l : List (ByteRun V)) (j : ℕ) (d : ByteRun V) → AreRuns (r ∷ l) → j < length l → r.lo ≤ (get_or l j d).lo
begins_later r [] j d runs lt = absurd (omega arith)
begins_later r (s ∷ l) zero d runs lt = omega (arith, runs.0, runs.1.0)
begins_later r (s ∷ l) (suc j) d runs lt = let later = begins_later s l j d runs.2 (omega arith) in omega (arith, later, runs.0, runs.1.0)

-- the first bytes of runs are in ascending order
pub begins_rise : {V : Type 0} (l : List (ByteRun V)) → AreRuns l → IsNonDecreasingBy (λ (r : ByteRun V). r.lo) l
begins_rise [] runs i j d le lt = absurd (omega arith)
begins_rise (r ∷ l) runs zero zero d le lt = omega arith
begins_rise (r ∷ l) runs zero (suc j) d le lt = begins_later r l j d runs (omega arith)
begins_rise (r ∷ l) runs (suc i) zero d le lt = absurd (omega arith)
begins_rise (r ∷ l) runs (suc i) (suc j) d le lt = begins_rise l runs.2 i j d (omega arith) (omega arith)

-- the runs that begin below n are the ones before the first that doesn't
pub begin_below_point : {V : Type 0} (l : List (ByteRun V)) (p n : ℕ) → p ≤ length l → ((k : ℕ) (d : ByteRun V) → k < p → (get_or l k d).lo < n) → ((k : ℕ) (d : ByteRun V) → p ≤ k → k < length l → n ≤ (get_or l k d).lo) → begin_below l n ≡ p
begin_below_point [] zero n le below above = refl
begin_below_point [] (suc p) n le below above = absurd (omega arith)
begin_below_point (r ∷ l) zero n le below above =
    let none = begin_below_point l zero n (omega arith) (λ k d lt. absurd (omega arith)) (λ k d low lt. above (suc k) d (omega arith) (omega arith)) in
    let first : n ≤ r.lo = above 0 r (omega arith) (omega arith) in
    grind (arith, nat_tests)
begin_below_point (r ∷ l) (suc p) n le below above =
    let more = begin_below_point l p n (omega arith) (λ k d lt. below (suc k) d (omega arith)) (λ k d low lt. above (suc k) d (omega arith) (omega arith)) in
    let first : r.lo < n = below 0 r (omega arith) in
    grind (arith, nat_tests)

-- a byte of the span has the written value, each other byte its old value
pub put-in : {V : Type 0} (f : ℕ → Option V) (s : Range) (v : Option V) (b : ℕ) → s.lo ≤ b → b ≤ s.hi → put f s v b ≡ v
put-in f s v b lo hi = grind (arith, nat_tests)

pub put-below : {V : Type 0} (f : ℕ → Option V) (s : Range) (v : Option V) (b : ℕ) → b < s.lo → put f s v b ≡ f b
put-below f s v b lt = grind (arith, nat_tests)

pub put-above : {V : Type 0} (f : ℕ → Option V) (s : Range) (v : Option V) (b : ℕ) → s.hi < b → put f s v b ≡ f b
put-above f s v b lt = grind (arith, nat_tests)

-- a function with the written value on the span and the old values elsewhere is the written function
pub put-pieces : {V : Type 0} (f h : ℕ → Option V) (s : Range) (v : Option V) → ((b : ℕ) → b < s.lo → h b ≡ f b) → ((b : ℕ) → s.lo ≤ b → b ≤ s.hi → h b ≡ v) → ((b : ℕ) → s.hi < b → h b ≡ f b) → (b : ℕ) → h b ≡ put f s v b
put-pieces f h s v below inside above b = elim (cases_lt b s.lo) [
  | inl lt ↦ below b lt ∙ sym (put-below f s v b lt)
  | inr ge ↦ elim (cases_lt s.hi b) [
    | inl past ↦ above b past ∙ sym (put-above f s v b past)
    | inr within ↦ inside b ge within ∙ sym (put-in f s v b ge within)
  ]
]

-- the value of the byte below, if there is such a byte
abbrev pub before : {V : Type 0} → (ℕ → Option V) → ℕ → Option V
before f zero = None
before f (suc b) = f b

abbrev one : Bool → ℕ
one b = if b then 1 else 0

pub one_few : (b : Bool) → one b ≤ 1
one_few true = omega arith
one_few false = omega arith

module _ {V : Type 0} (eq : V → V → Bool) (reflexive : (a : V) → eq a a ≡ true) where
  start-is : (f : ℕ → Option V) (n : ℕ) → is_start eq f n ≡ begins_after eq (before f n) (f n)
  unfolding is_start
  start-is f zero = refl
  start-is f (suc n) = refl

  begins_not : (v : Option V) → begins_after eq v v ≡ false
  begins_not None = refl
  begins_not (Some v) = rw reflexive refl

  -- no more runs begin below n than there are bytes
  pub starts-few : (f : ℕ → Option V) (n : ℕ) → starts_below eq f n ≤ n
  unfolding starts_below
  starts-few f zero = omega arith
  starts-few f (suc n) = by (is_start eq f n) (starts-few f n)
    where
      by : (b : Bool) → starts_below eq f n ≤ n → starts_below eq f n + one b ≤ suc n
      by true le = omega (arith, le)
      by false le = omega (arith, le)

  -- no fewer runs begin below a greater number
  pub starts-more : (f : ℕ → Option V) (m n : ℕ) → m ≤ n → starts_below eq f m ≤ starts_below eq f n
  unfolding starts_below
  starts-more f m zero le = rw (m_is m le) (omega arith)
    where
      m_is : (m : ℕ) → m ≤ zero → m ≡ zero
      m_is m le = omega (arith, le)
  starts-more f m (suc n) le = elim (cases_lt n m) [
    | inl lt ↦ let same : m ≡ suc n = omega (arith, le, lt) in rw same (omega arith)
    | inr within ↦ let more = starts-more f m n within in omega (arith, more)
  ]

  module _ (f : ℕ → Option V) (s : Range) (v : Option V) (ordered : s.lo ≤ s.hi) where
    -- below the span runs begin where they did
    starts-below : (n : ℕ) → n ≤ s.lo → starts_below eq (put f s v) n ≡ starts_below eq f n
    unfolding starts_below
    starts-below zero le = refl
    starts-below (suc n) le =
        let here : is_start eq (put f s v) n ≡ is_start eq f n = start-is (put f s v) n ∙ ((λ i. begins_after eq (was n (omega arith) i) (put-below f s v n (omega arith) i)) ∙ sym (start-is f n)) in
        λ i. starts-below n (omega arith) i + one (here i)
      where
        was : (n : ℕ) → n < s.lo → before (put f s v) n ≡ before f n
        was zero lt = refl
        was (suc n) lt = put-below f s v n (omega arith)

    first-before : (n : ℕ) → n ≤ s.lo → before (put f s v) n ≡ before f n
    first-before zero le = refl
    first-before (suc n) le = put-below f s v n (omega arith)

    -- within the span at most one run begins, at its first byte
    starts-in : (n : ℕ) → s.lo < n → n ≤ s.hi + 1 → starts_below eq (put f s v) n ≡ starts_below eq f s.lo + one (begins_after eq (before f s.lo) v)
    unfolding starts_below
    starts-in zero lt le = absurd (omega arith)
    starts-in (suc n) lt le = elim (cases_lt s.lo n) [
      | inl inner ↦
          let last = starts-in n inner (omega arith) in
          let here : is_start eq (put f s v) n ≡ false = start-is (put f s v) n ∙ ((λ i. begins_after eq (inside n inner (omega arith) i) (put-in f s v n (omega arith) (omega arith) i)) ∙ begins_not v) in
          rw (here, last) (omega arith)
      | inr first ↦
          let at : n ≡ s.lo = omega (arith, lt, first) in
          let here : is_start eq (put f s v) s.lo ≡ begins_after eq (before f s.lo) v = start-is (put f s v) s.lo ∙ (λ i. begins_after eq (first-before s.lo (omega arith) i) (put-in f s v s.lo (omega arith) ordered i)) in
          rw at (λ i. starts-below s.lo (omega arith) i + one (here i))
    ]
      where
        inside : (n : ℕ) → s.lo < n → n ≤ s.hi + 1 → before (put f s v) n ≡ v
        inside zero lt le = absurd (omega arith)
        inside (suc n) lt le = put-in f s v n (omega arith) (omega arith)

    -- at most one run begins right after the span
    starts-after : starts_below eq (put f s v) (s.hi + 1 + 1) ≡ starts_below eq f s.lo + one (begins_after eq (before f s.lo) v) + one (begins_after eq v (f (s.hi + 1)))
    unfolding starts_below
    starts-after =
        let here : is_start eq (put f s v) (s.hi + 1) ≡ begins_after eq v (f (s.hi + 1)) = start-is (put f s v) (s.hi + 1) ∙ (λ i. begins_after eq (inside (s.hi + 1) refl i) (put-above f s v (s.hi + 1) (omega arith) i)) in
        let more : s.hi + 1 + 1 ≡ suc (s.hi + 1) = omega arith in
        ap (starts_below eq (put f s v)) more ∙ (λ i. starts-in (s.hi + 1) (omega arith) (omega arith) i + one (here i))
      where
        inside : (n : ℕ) → n ≡ s.hi + 1 → before (put f s v) n ≡ v
        inside zero at = absurd (omega (arith, at))
        inside (suc n) at = put-in f s v n (omega (arith, at, ordered)) (omega (arith, at))

    -- above the byte after the span runs begin where they did
    starts-above : (n : ℕ) → s.hi + 1 + 1 ≤ n → starts_below eq (put f s v) n + starts_below eq f (s.hi + 1 + 1) ≡ starts_below eq (put f s v) (s.hi + 1 + 1) + starts_below eq f n
    unfolding starts_below
    starts-above zero le = absurd (omega arith)
    starts-above (suc n) le = elim (cases_lt n (s.hi + 1 + 1)) [
      | inl lt ↦ let at : suc n ≡ s.hi + 1 + 1 = omega (arith, le, lt) in λ i. starts_below eq (put f s v) (at i) + starts_below eq f (sym at i)
      | inr past ↦
          let last = starts-above n past in
          let here : is_start eq (put f s v) n ≡ is_start eq f n = start-is (put f s v) n ∙ ((λ i. begins_after eq (was n past i) (put-above f s v n (omega arith) i)) ∙ sym (start-is f n)) in
          rw here (omega (arith, last))
    ]
      where
        was : (n : ℕ) → s.hi + 1 + 1 ≤ n → before (put f s v) n ≡ before f n
        was zero le = absurd (omega (arith, le))
        was (suc n) le = put-above f s v n (omega arith)

    -- after a write the runs are the ones that the span doesn't reach and the ones that begin at its edges
    pub starts-written : (n : ℕ) → s.hi + 1 + 1 ≤ n → starts_below eq (put f s v) n + starts_below eq f (s.hi + 1 + 1) ≡ starts_below eq f s.lo + one (begins_after eq (before f s.lo) v) + one (begins_after eq v (f (s.hi + 1))) + starts_below eq f n
    starts-written n le = rw (← starts-after) (starts-above n le)

-- the value of the byte below, as the code looks it up
pub before-is : {V : Type 0} (f : ℕ → Option V) (n : ℕ) (r : Option V) → (n ≡ 0 → r ≡ None) → ((b : ℕ) → b + 1 ≡ n → r ≡ f b) → r ≡ before f n
before-is f zero r first other = first refl
before-is f (suc n) r first other = other n (omega arith)

-- the number of all bytes is one more than the greatest offset
bytes-are : all_bytes ≡ greatest + 1
unfolding all_bytes
bytes-are = refl

module _ {V : Type 0} (eq : V → V → Bool) (exact : (a b : V) → eq a b ≡ true → a ≡ b) (reflexive : (a : V) → eq a a ≡ true) where
  -- no run begins at a byte without a value
  starts-none : (f : ℕ → Option V) (n : ℕ) → f n ≡ None → starts_below eq f (suc n) ≡ starts_below eq f n
  unfolding starts_below
  starts-none f n none =
      let here : is_start eq f n ≡ false = start-is eq reflexive f n ∙ ap (begins_after eq (before f n)) none in
      rw here (omega arith)

  -- the number of runs after the span is written
  pub number-written : (l : List (ByteRun V)) (s : Range) (v : Option V) (low high first next : ℕ) → AreRuns l → EndsBelow l (greatest + 1) → s.lo ≤ s.hi → s.hi ≤ greatest → low ≡ starts_below eq (value_at l) s.lo → high ≡ starts_below eq (value_at l) (s.hi + 1 + 1) → high ≤ length l → first ≡ one (begins_after eq (before (value_at l) s.lo) v) → next ≡ one (begins_after eq v (value_at l (s.hi + 1))) → low + (length l - high) + first + next ≡ number_of_runs eq (put (value_at l) s v)
  number-written l s v low high first next runs ends ordered within lows highs few firsts nexts =
      let f : ℕ → Option V = value_at l in
      let none : f all_bytes ≡ None = at-below l all_bytes (greatest + 1) ends (omega (arith, bytes-are)) in
      let past : put f s v all_bytes ≡ None = put-above f s v all_bytes (omega (arith, bytes-are, within)) ∙ none in
      let all : starts_below eq f all_bytes ≡ length l = number_of_runs-length eq exact reflexive l runs ends in
      let written = starts-written eq reflexive f s v ordered (suc all_bytes) (omega (arith, bytes-are, within)) in
      let more = starts-none (put f s v) all_bytes past in
      let old = starts-none f all_bytes none in
      omega (arith, lows, highs, few, firsts, nexts, all, written, more, old)

  -- a write makes at most two more runs begin
  pub number-few : (l : List (ByteRun V)) (s : Range) (v : Option V) → AreRuns l → EndsBelow l (greatest + 1) → s.lo ≤ s.hi → s.hi ≤ greatest → number_of_runs eq (put (value_at l) s v) ≤ length l + 2
  number-few l s v runs ends ordered within =
      let f : ℕ → Option V = value_at l in
      let first = begins_after eq (before f s.lo) v in
      let next = begins_after eq v (f (s.hi + 1)) in
      let few : starts_below eq f (s.hi + 1 + 1) ≤ length l = rw (starts_below_are eq exact reflexive l (s.hi + 1 + 1) runs) (begin_below_few l (s.hi + 1 + 1)) in
      let more = starts-more eq reflexive f s.lo (s.hi + 1 + 1) (omega arith) in
      let all = number-written l s v (starts_below eq f s.lo) (starts_below eq f (s.hi + 1 + 1)) (one first) (one next) runs ends ordered within refl refl few refl refl in
      omega (arith, all, few, more, one_few first, one_few next)
