-- A run, a first byte and a largest span are determined by the map, and a largest span is found by search.
use Rattle.std.proofs.Common.{◌≡◌, ℕ, zero, suc, ◌+◌, ◌<◌, ◌≤◌, Option, inl, inr, arith}
use Rattle.std.proofs.lemmas.Bool.{cases_lt}
use Rattle.intervals.specs.rule.Bytes.{Range, IsRun, IsFirstIn, IsLargest}

-- a number above another has a number below it
below : (n m : ℕ) → m < n → (k : ℕ) × (k + 1 ≡ n)
below zero m lt = absurd (omega arith)
below (suc n) m lt = (n, omega arith)

module _ {V : Type 0} (f : ℕ → Option V) where
  -- of two runs with one value that share a byte neither begins first
  not_first : (s t : Range) (v : V) (b : ℕ) → IsRun f s v → IsRun f t v → s.lo ≤ b → b ≤ s.hi → t.lo ≤ b → t.lo ≤ s.lo
  not_first s t v b r q low high from = elim (cases_lt s.lo t.lo) [
    | inl lt ↦ let k = below t.lo s.lo lt in absurd (q.begins k.0 k.1 (r.all k.0 (omega (arith, k.1)) (omega (arith, k.1))))
    | inr le ↦ le
  ]

  -- of two runs with one value that share a byte neither ends last
  not_last : (s t : Range) (v : V) (b : ℕ) → IsRun f s v → IsRun f t v → s.lo ≤ b → b ≤ s.hi → b ≤ t.hi → s.hi ≤ t.hi
  not_last s t v b r q low high to = elim (cases_lt t.hi s.hi) [
    | inl lt ↦ absurd (q.ends (r.all (t.hi + 1) (omega arith) (omega arith)))
    | inr le ↦ le
  ]

  pub runs_are_one : (s t : Range) (v w : V) (b : ℕ) → IsRun f s v → IsRun f t w → s.lo ≤ b × b ≤ s.hi → t.lo ≤ b × b ≤ t.hi → (s ≡ t) × (v ≡ w)
  runs_are_one s t v w b r q in_s in_t =
      let has = r.all b in_s.0 in_s.1 in
      let too = q.all b in_t.0 in_t.1 in
      let values : v ≡ w = cc in
      let p : IsRun f t v = rw values q in
      let one = not_first s t v b r p in_s.0 in_s.1 in_t.0 in
      let two = not_first t s v b p r in_t.0 in_t.1 in_s.0 in
      let three = not_last s t v b r p in_s.0 in_s.1 in_t.1 in
      let four = not_last t s v b p r in_t.0 in_t.1 in_s.1 in
      let starts : s.lo ≡ t.lo = omega arith in
      let stops : s.hi ≡ t.hi = omega arith in
      (λ i. record { lo = starts i; hi = stops i }, values)

module _ (P : ℕ → Type 0) where
  -- one first byte is not above another
  not_above : (s : Range) (b c : ℕ) → IsFirstIn P s b → IsFirstIn P s c → b ≤ c
  not_above s b c first other = elim (cases_lt c b) [
    | inl lt ↦ absurd (first.none_before c other.above lt other.here)
    | inr le ↦ le
  ]

  pub first_is_one : (s : Range) (b c : ℕ) → IsFirstIn P s b → IsFirstIn P s c → b ≡ c
  first_is_one s b c first other =
      let le = not_above s b c first other in
      let ge = not_above s c b other first in
      omega arith

  module _ (required within : Range) (order : required.lo ≤ required.hi) where
    -- one largest span doesn't begin above another
    starts_under : (s t : Range) → IsLargest P required within s → IsLargest P required within t → t.lo ≤ s.lo
    starts_under s t one other = elim (cases_lt s.lo t.lo) [
      | inl lt ↦
          let k = below t.lo s.lo lt in
          let low : s.lo ≤ k.0 = omega (arith, k.1) in
          let high : k.0 ≤ s.hi = omega (arith, k.1, other.has_first, one.has_last) in
          absurd (one.free k.0 low high (other.full_below k.0 k.1 (omega (arith, one.starts_within))))
      | inr le ↦ le
    ]

    -- one largest span doesn't end below another
    ends_over : (s t : Range) → IsLargest P required within s → IsLargest P required within t → s.hi ≤ t.hi
    ends_over s t one other = elim (cases_lt t.hi s.hi) [
      | inl lt ↦
          let low : s.lo ≤ t.hi + 1 = omega (arith, one.has_first, other.has_last) in
          absurd (one.free (t.hi + 1) low (omega arith) (other.full_above (omega (arith, one.ends_within))))
      | inr le ↦ le
    ]

    pub largest_is_one : (s t : Range) → IsLargest P required within s → IsLargest P required within t → s ≡ t
    largest_is_one s t one other =
        let a = starts_under s t one other in
        let b = starts_under t s other one in
        let c = ends_over s t one other in
        let d = ends_over t s other one in
        let starts : s.lo ≡ t.lo = omega arith in
        let stops : s.hi ≡ t.hi = omega arith in
        λ i. record { lo = starts i; hi = stops i }
