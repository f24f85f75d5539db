-- Longest runs of bytes locked in one mode.
use Rattle.std.specs.Prelude.{◌≡◌, ◌≢◌, ℕ, zero, suc, pred, ◌+◌, ◌-◌, ◌<◌, ◌≤◌, true, false, not, Option, Some, None, refl}
use Rattle.std.proofs.Common.{arith, ap, sym, ◌∙◌, inl, inr}
use Rattle.std.proofs.lemmas.Bool.{cases_lt, cases_order, cases_Bool, not-true, not-false, both_ways}
use Rattle.intervals.specs.rule.Search.{first, IsFirst}
use Rattle.intervals.specs.rule.Bytes.{Range, greatest, has, begins_after, is_start, run_from, IsRun}
use Rattle.model.specs.declared.mode.Mode.{Mode}
use Rattle.model.specs.declared.mode.Mode.TheVariants.{Read, Write}
use Rattle.model.specs.rule.Owners.{same_mode}
use Rattle.intervals.proofs.SearchLaws.{first_is_first}

-- the test `has` holds of a byte exactly where the byte has the mode
pub has_true : (x : Option Mode) (v : Mode) → has same_mode v x ≡ true → x ≡ Some v
has_true None v h = absurd (cc)
has_true (Some Read) Read h = refl
has_true (Some Read) Write h = absurd (cc)
has_true (Some Write) Read h = absurd (cc)
has_true (Some Write) Write h = refl

pub true_has : (v : Mode) → has same_mode v (Some v) ≡ true
true_has Read = refl
true_has Write = refl

pub has_false : (x : Option Mode) (v : Mode) → has same_mode v x ≡ false → x ≢ Some v
has_false x v h e = both_ways (has same_mode v (Some v)) (sym (ap (has same_mode v) e) ∙ h) (true_has v)

pub other_value : (x : Option Mode) (v : Mode) → x ≢ Some v → has same_mode v x ≡ false
other_value x v h = elim (cases_Bool (has same_mode v x)) [ inl is ↦ absurd (h (has_true x v is)) | inr not_it ↦ not_it ]

module _ (f : ℕ → Option Mode) (v : Mode) where
  -- at a byte with the mode a run begins exactly if the byte below has not the mode
  pub start_begins : (b : ℕ) → f b ≡ Some v → is_start same_mode f b ≡ true → (c : ℕ) → c + 1 ≡ b → f c ≢ Some v
  unfolding is_start
  start_begins zero here start c e = absurd (omega arith)
  start_begins (suc b) here start c e =
      let at_c : b ≡ c = omega arith in
      let said : not (has same_mode v (f b)) ≡ true = sym (ap (begins_after same_mode (f b)) here) ∙ start in
      λ x. has_false (f b) v (not-true _ said) (ap f at_c ∙ x)

  pub start_from : (b : ℕ) → f b ≡ Some v → ((c : ℕ) → c + 1 ≡ b → f c ≢ Some v) → is_start same_mode f b ≡ true
  unfolding is_start
  start_from zero here begins = ap (begins_after same_mode None) here
  start_from (suc b) here begins = ap (begins_after same_mode (f b)) here ∙ ap not (other_value (f b) v (begins b (omega arith)))

  -- a run begins at lo, and byte b is one of it
  pub record BeginsAt (b lo : ℕ) : Type 0 where
    pub least : lo ≤ b
    pub start : is_start same_mode f lo ≡ true
    pub all : (c : ℕ) → lo ≤ c → c ≤ b → f c ≡ Some v

  begins_here : (b : ℕ) → f b ≡ Some v → ((c : ℕ) → c + 1 ≡ b → f c ≢ Some v) → BeginsAt b b
  begins_here b here begins = record { least = omega arith; start = start_from b here begins; all = λ c above below. ap f (same c above below) ∙ here }
    where
      same : (c : ℕ) → b ≤ c → c ≤ b → c ≡ b
      same c above below = omega arith

  begins_below : (b lo : ℕ) → f (suc b) ≡ Some v → BeginsAt b lo → BeginsAt (suc b) lo
  begins_below b lo here at_b = record {
    least = more lo at_b.least;
    start = at_b.start;
    all = λ c above below. elim (cases_lt b c) [ inl gt ↦ ap f (last c gt below) ∙ here | inr le ↦ at_b.all c above le ];
  }
    where
      more : (lo : ℕ) → lo ≤ b → lo ≤ suc b
      more lo h = omega arith

      last : (c : ℕ) → b < c → c ≤ suc b → c ≡ suc b
      last c above below = omega arith

  -- each byte with the mode is one of a run
  pub some_start : (b : ℕ) → f b ≡ Some v → (lo : ℕ) × BeginsAt b lo
  some_start zero here = (0, begins_here 0 here (λ c e. absurd (omega arith)))
  some_start (suc b) here = elim (cases_Bool (has same_mode v (f b))) [
    | inl is ↦ let below = some_start b (has_true (f b) v is) in (below.0, begins_below b below.0 here below.1)
    | inr other ↦ (suc b, begins_here (suc b) here (λ c e x. has_false (f b) v other (ap f (same c e) ∙ x)))
  ]
    where
      same : (c : ℕ) → c + 1 ≡ suc b → b ≡ c
      same c e = omega arith

  -- two runs that begin at one byte end at one byte
  pub run_ends : (s t : Range) → IsRun f s v → IsRun f t v → s.lo ≡ t.lo → s.hi ≡ t.hi
  run_ends s t a b e = elim (cases_order s.hi t.hi) [
    | inl same ↦ same
    | inr rest ↦ elim rest [
      | inl lt ↦ absurd (a.ends (b.all (s.hi + 1) (let o = a.ordered in omega arith) (omega arith)))
      | inr gt ↦ absurd (b.ends (a.all (t.hi + 1) (let o = b.ordered in omega arith) (omega arith)))
    ]
  ]

  -- the bytes from lo to the last with the mode are a longest run if one begins at lo
  ends_at : (lo k : ℕ) → lo ≤ greatest → ((b : ℕ) → greatest < b → f b ≡ None) → IsFirst (λ b. not (has same_mode v (f b))) (lo + 1) (greatest - lo) k → f k ≢ Some v
  ends_at lo k within no_more is = elim (cases_lt k (lo + 1 + (greatest - lo))) [
    | inl lt ↦ has_false (f k) v (not-true _ (is.here lt))
    | inr ge ↦ λ x. let none = no_more k (past k ge) in cc
  ]
    where
      past : (k : ℕ) → lo + 1 + (greatest - lo) ≤ k → greatest < k
      past k h = omega arith

  is_run_to : (lo k : ℕ) → lo ≤ greatest → f lo ≡ Some v → is_start same_mode f lo ≡ true → ((b : ℕ) → greatest < b → f b ≡ None) → IsFirst (λ b. not (has same_mode v (f b))) (lo + 1) (greatest - lo) k → IsRun f (record { lo = lo; hi = pred k }) v
  is_run_to lo k within here start no_more is = record {
    ordered = low k is.least;
    all = λ b above below. elim (cases_lt lo b) [
      | inl gt ↦ has_true (f b) v (not-false _ (is.none_before b (next b gt) (before b k is.least below)))
      | inr le ↦ ap f (same b above le) ∙ here
    ];
    begins = start_begins lo here start;
    ends = λ x. ends_at lo k within no_more is (ap f (up k is.least) ∙ x);
  }
    where
      low : (k : ℕ) → lo + 1 ≤ k → lo ≤ pred k
      low k h = omega arith

      next : (b : ℕ) → lo < b → lo + 1 ≤ b
      next b h = omega arith

      before : (b k : ℕ) → lo + 1 ≤ k → b ≤ pred k → b < k
      before b k h le = omega arith

      same : (b : ℕ) → lo ≤ b → b ≤ lo → b ≡ lo
      same b above below = omega arith

      up : (k : ℕ) → lo + 1 ≤ k → k ≡ pred k + 1
      up k h = omega arith

  pub run_from-is_run : (lo : ℕ) → lo ≤ greatest → f lo ≡ Some v → is_start same_mode f lo ≡ true → ((b : ℕ) → greatest < b → f b ≡ None) → IsRun f (run_from same_mode f lo v) v
  run_from-is_run lo within here start no_more =
      is_run_to lo (first (λ b. not (has same_mode v (f b))) (lo + 1) (greatest - lo)) within here start no_more (first_is_first _ (lo + 1) (greatest - lo))
