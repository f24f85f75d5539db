-- What is read of a token with a planned write of one level on a span.
use Rattle.std.specs.Prelude.{◌≡◌, ℕ, ◌+◌, ◌-◌, ◌<◌, ◌≤◌, true, false, if◌then◌else◌, Bool, length, Option, nat_le}
use Rattle.std.proofs.Common.{sym, ap, subst, ◌∙◌, inl, inr, arith}
use Rattle.std.proofs.lemmas.Bool.{both_ways, cases_lt, false_from_ne_true, and_from, le-leb}
use Rattle.std.proofs.lemmas.Bool.Decides.{nat_tests}
use Rattle.intervals.specs.rule.Bytes.{Range, is_in, put, size, whole, greatest}
use Rattle.intervals.specs.rule.Search.{first}
use Rattle.intervals.specs.code.Edits.{written}
use Rattle.intervals.specs.code.Runs.{IsLowestFree, IsHighestFree}
use Rattle.intervals.specs.declared.span_edit.SpanEdit.{SpanEdit}
use Rattle.intervals.specs.declared.tree_map.TreeMap.{TreeMap}
use Rattle.model.specs.declared.mode.Mode.{Mode}
use Rattle.model.specs.declared.mode.Mode.TheVariants.{Read}
use Rattle.model.specs.declared.level.Level.{Level}
use Rattle.token_set.specs.rule.Tokens.{Token, conflicts, level_conflicts, token_of}
use Rattle.token_set.specs.code.Views.{InWay}
use Rattle.token_set.proofs.TokenLaws.{some_passes-first, conflicts-from, conflicts-none, none-conflicts}

module _ (t : Token) (over : Range) (level : Option Level) (mode : Mode) where
  inside : (b : ℕ) → over.lo ≤ b → b ≤ over.hi → put t over level b ≡ level
  inside b above below = ap (λ i. if i then level else t b) (and_from _ _ (le-leb _ _ above) (le-leb _ _ below))

  is_below : (b : ℕ) → b < over.lo → is_in over b ≡ false
  is_below b lt = grind (arith, nat_tests)

  is_above : (b : ℕ) → over.hi < b → is_in over b ≡ false
  is_above b lt = grind (arith, nat_tests)

  pub below_same : (b : ℕ) → b < over.lo → put t over level b ≡ t b
  below_same b lt = ap (λ i. if i then level else t b) (is_below b lt)

  pub above_same : (b : ℕ) → over.hi < b → put t over level b ≡ t b
  above_same b lt = ap (λ i. if i then level else t b) (is_above b lt)

  -- all bytes of the written span conflict, or none does
  pub within-way : (b : ℕ) → over.lo ≤ b → b ≤ over.hi → level_conflicts level mode ≡ true → InWay (put t over level) mode b
  within-way b above below way = ap (λ x. level_conflicts x mode) (inside b above below) ∙ way

  pub within-free : (b : ℕ) → over.lo ≤ b → b ≤ over.hi → level_conflicts level mode ≡ false → InWay (put t over level) mode b → ⊥
  within-free b above below free here = both_ways _ free (sym (ap (λ x. level_conflicts x mode) (inside b above below)) ∙ here)

  -- a byte outside the written span conflicts exactly if it did before
  pub below-way : (b : ℕ) → b < over.lo → InWay t mode b → InWay (put t over level) mode b
  below-way b lt here = ap (λ x. level_conflicts x mode) (below_same b lt) ∙ here

  pub way-below : (b : ℕ) → b < over.lo → InWay (put t over level) mode b → InWay t mode b
  way-below b lt here = sym (ap (λ x. level_conflicts x mode) (below_same b lt)) ∙ here

  pub above-way : (b : ℕ) → over.hi < b → InWay t mode b → InWay (put t over level) mode b
  above-way b lt here = ap (λ x. level_conflicts x mode) (above_same b lt) ∙ here

  pub way-above : (b : ℕ) → over.hi < b → InWay (put t over level) mode b → InWay t mode b
  way-above b lt here = sym (ap (λ x. level_conflicts x mode) (above_same b lt)) ∙ here

  -- whether some byte of a span conflicts after the write, by one that does or by none
  pub found : (span : Range) (b : ℕ) → span.lo ≤ b → b ≤ span.hi → InWay (put t over level) mode b → true ≡ conflicts (put t over level) span mode
  found span b above below here = sym (conflicts-from (put t over level) span mode b above below here)

  pub parts-free : (span : Range) → ((b : ℕ) → over.lo ≤ b → b ≤ over.hi → span.lo ≤ b → b ≤ span.hi → level_conflicts level mode ≡ false) → ((b : ℕ) → b < over.lo → span.lo ≤ b → b ≤ span.hi → InWay t mode b → ⊥) → ((b : ℕ) → over.hi < b → span.lo ≤ b → b ≤ span.hi → InWay t mode b → ⊥) → false ≡ conflicts (put t over level) span mode
  parts-free span within below above = sym (conflicts-none (put t over level) span mode (λ b from to here. elim (cases_lt b over.lo) [
    | inl lt ↦ below b lt from to (way-below b lt here)
    | inr ge ↦ elim (cases_lt over.hi b) [
      | inl gt ↦ above b gt from to (way-above b gt here)
      | inr le ↦ within-free b ge le (within b ge le from to) here
    ]
  ]))

-- a write of a level that isn't exclusive makes no byte exclusive
pub put-unexclusive : (t : Token) (s : Range) (level : Option Level) → level_conflicts level Read ≡ false → conflicts t whole Read ≡ false → conflicts (put t s level) whole Read ≡ false
put-unexclusive t s level own none = conflicts-none (put t s level) whole Read (λ b above below here.
    either (is_in s b) b above below here)
  where
    either : (i : _) (b : ℕ) → 0 ≤ b → b ≤ greatest → level_conflicts (if i then level else t b) Read ≡ true → ⊥
    either true b above below here = both_ways _ own here
    either false b above below here = none-conflicts t whole Read none b above below here

pub written-unexclusive : (e : SpanEdit Level) (levels : TreeMap Level) → level_conflicts e.value Read ≡ false → conflicts (token_of levels) whole Read ≡ false → conflicts (written e levels) whole Read ≡ false
written-unexclusive e levels own none = by (nat_le (length levels) e.runs)
  where
    by : (i : Bool) → conflicts (if i then put (token_of levels) e.span e.value else token_of levels) whole Read ≡ false
    by true = put-unexclusive (token_of levels) e.span e.value own none
    by false = none

-- a span that conflicts has a byte that conflicts
pub conflict-byte : (t : Token) (s : Range) (mode : Mode) → conflicts t s mode ≡ true → (b : ℕ) × (s.lo ≤ b) × (b ≤ s.hi) × InWay t mode b
conflict-byte t s mode some =
    let f = some_passes-first (λ b. level_conflicts (t b) mode) s.lo (size s) some in
    (first (λ b. level_conflicts (t b) mode) s.lo (size s), f.above, omega (arith, f.above, f.below), f.here)

-- a span of one byte conflicts exactly if that byte does
pub one-byte : (t : Token) (s : Range) (mode : Mode) (b : ℕ) → s.lo ≡ b → s.hi ≡ b → conflicts t s mode ≡ true → InWay t mode b
one-byte t s mode b lo hi some =
    let x = conflict-byte t s mode some in
    subst (InWay t mode) (let same : x.0 ≡ b = omega (arith, x.1, x.2) in same) x.3
