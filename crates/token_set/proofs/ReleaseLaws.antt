-- What a holder gives up, and what its token is then.
use Rattle.std.specs.Prelude.{◌≡◌, ℕ, ◌+◌, ◌<◌, ◌≤◌, true, false, if◌then◌else◌, Option, Some, None, IsSome, MatchOption, refl}
use Rattle.std.proofs.Common.{arith, ap, sym, ◌∙◌, subst, inl, inr}
use Rattle.std.proofs.lemmas.Bool.{cases_Bool, and_parts, leb-true}
use Rattle.intervals.specs.rule.Search.{first}
use Rattle.intervals.specs.rule.Bytes.{Range, is_in, NoneIn}
use Rattle.intervals.proofs.SpanSearch.{largest_is_largest}
use Rattle.model.specs.declared.mode.Mode.{Mode}
use Rattle.model.specs.declared.mode.Mode.TheVariants.{Read, Write}
use Rattle.model.specs.declared.level.Level.{Level}
use Rattle.model.specs.declared.level.Level.TheVariants.{Shared, Exclusive}
use Rattle.model.specs.declared.lock_info.LockInfo.{LockInfo}
use Rattle.model.specs.rule.Owners.{owner_at, most_owners}
use Rattle.model.specs.rule.Locks.{FileLocks, excludes, bars, IsRegion, IsOfNode, IsClear, IsInWay, IsLowestInWay, lowest_in_way}
use Rattle.model.proofs.WayLaws.{clear_has_none, barred_region, lowest_in_way_is_lowest, is_lowest_in_way}
use Rattle.lock_table.specs.rule.Tables.{HasInWay}
use Rattle.lock_table.proofs.BlockerLemmas.{IsLargest-iff}
use Rattle.token_set.specs.rule.Tokens.{Token, serves, lowered_level, lowered, is_in_way, given_up_span, answer_of, gave_up, NoneInWay, IsGivenUp, IsRevocable, GaveUpIsGivenUp, GaveUpIsOne, ReleasedIsClear, IsAtMost, LoweringLowers, LoweringKeepsLocks}
use Rattle.token_set.specs.declared.gave_up.GaveUp.{GaveUp}
use Rattle.token_set.specs.declared.gave_up.GaveUp.TheVariants.{Released, Conflict}
use Rattle.token_set.proofs.TokenLaws.{some_passes-first, some_passes-from, largest_around-is}

-- a lock in the way of a byte is in the way of each span with that byte
in_way-wider : (s : Range) (mode : Mode) (b : ℕ) (lock : LockInfo) → s.lo ≤ b → b ≤ s.hi → IsInWay (record { lo = b; hi = b }) mode lock → IsInWay s mode lock
in_way-wider s mode b lock above below way = record { conflicts = way.conflicts; starts = omega (arith, way.starts); ends = omega (arith, way.ends) }

module _ (h : FileLocks) (node incarnation : ℕ) (own : IsOfNode h node incarnation) where
  -- a byte is in the way exactly if a region in the way holds it
  way_region : (mode : Mode) (b : ℕ) → is_in_way h node incarnation mode b ≡ true → HasInWay (IsRegion h) mode b
  way_region mode b some =
      let passes = λ (k : ℕ). bars mode (h (owner_at node incarnation k) b) in
      let o = owner_at node incarnation (first passes 0 most_owners) in
      barred_region h node incarnation own mode o b (h o b) refl (some_passes-first passes 0 most_owners some).here

  region_way : (mode : Mode) (b : ℕ) → HasInWay (IsRegion h) mode b → is_in_way h node incarnation mode b ≡ true
  region_way mode b has =
      let lock = has.0 in
      let here : h lock.owner b ≡ Some lock.mode = has.1.all b has.2.starts has.2.ends in
      let place = own.is_own lock.owner b lock.mode here in
      some_passes-from (λ k. bars mode (h (owner_at node incarnation k) b)) 0 most_owners place.0 (omega arith) (more place.0 place.1) (ap (λ o. bars mode (h o b)) (sym place.2) ∙ ap (bars mode) here ∙ has.2.conflicts)
    where
      more : (k : ℕ) → k < 16640 → k < 0 + 16640
      more k h = omega arith

  -- no region is in the way exactly if the span is clear
  none-clear : (s : Range) (mode : Mode) → NoneIn (HasInWay (IsRegion h) mode) s → IsClear h s mode
  none-clear s mode none o b above below = elim (cases_Bool (bars mode (h o b))) [
    | inl bar ↦ absurd (none b above below (barred_region h node incarnation own mode o b (h o b) refl bar))
    | inr free ↦ free
  ]

  none-bytes : (s : Range) (mode : Mode) → NoneInWay (IsRegion h) s mode → NoneIn (HasInWay (IsRegion h) mode) s
  none-bytes s mode none b above below has = none has.0 has.1 (in_way-wider s mode b has.0 above below has.2)

  module _ (mode : Mode) (required desired : Range) (r : IsRevocable required desired) where
    given_up_by : (found : Option LockInfo) → MatchOption found (IsClear h required mode) (IsLowestInWay (IsRegion h) required mode) → IsGivenUp (IsRegion h) mode required desired (answer_of found (given_up_span h node incarnation mode required desired))
    given_up_by None clear =
        let none : NoneInWay (IsRegion h) required mode = λ lock. clear_has_none h node incarnation own required mode lock r.ordered clear in
        let free : NoneIn (λ b. is_in_way h node incarnation mode b ≡ true) required = λ b above below way. none-bytes required mode none b above below (way_region mode b way) in (
          none,
          IsLargest-iff (λ b. is_in_way h node incarnation mode b ≡ true) (HasInWay (IsRegion h) mode) required desired _ (way_region mode) (region_way mode) (largest_is_largest (is_in_way h node incarnation mode) required desired r.ordered r.starts r.ends free),
        )
    given_up_by (Some lock) low = low

    given_up_is : (answer : GaveUp) → IsGivenUp (IsRegion h) mode required desired answer → answer ≡ gave_up h node incarnation mode required desired
    given_up_is (Conflict lock) low =
        ap (λ found. answer_of found (given_up_span h node incarnation mode required desired)) (is_lowest_in_way h node incarnation required mode (Some lock) own r.ordered r.within low)
    given_up_is (Released s) given =
        let clear = none-clear required mode (none-bytes required mode given.0) in
        let span : s ≡ given_up_span h node incarnation mode required desired = largest_around-is (is_in_way h node incarnation mode) required desired s r.ordered (IsLargest-iff (HasInWay (IsRegion h) mode) (λ b. is_in_way h node incarnation mode b ≡ true) required desired s (region_way mode) (way_region mode) given.1) in
        ap Released span ∙ ap (λ found. answer_of found (given_up_span h node incarnation mode required desired)) (is_lowest_in_way h node incarnation required mode None own r.ordered r.within clear)

pub gave_up_is_given_up : GaveUpIsGivenUp
gave_up_is_given_up h node incarnation mode required desired own r =
    given_up_by h node incarnation own mode required desired r (lowest_in_way h node incarnation required mode) (lowest_in_way_is_lowest h node incarnation required mode own r.ordered r.within)

pub gave_up_is_one : GaveUpIsOne
gave_up_is_one h node incarnation mode required desired answer own r given = given_up_is h node incarnation own mode required desired r answer given

pub released_is_clear : ReleasedIsClear
released_is_clear h node incarnation mode required desired s own r e =
    none-clear h node incarnation own s mode (subst (IsGivenUp (IsRegion h) mode required desired) e (gave_up_is_given_up h node incarnation mode required desired own r)).1.free

-- a lowered token has its old level at each byte outside the span, and the lowered one inside
pub lowered-at : (P : Option Level → Type 0) (t : Token) (s : Range) (mode : Mode) (b : ℕ) → (is_in s b ≡ true → P (lowered_level (t b) mode)) → P (t b) → P (lowered t s mode b)
lowered-at P t s mode b here there =
    elim (is_in s b) as (λ i. is_in s b ≡ i → P (if i then lowered_level (t b) mode else t b)) [ true ↦ λ h. here h | false ↦ λ h. there ] refl

at_most-itself : (x : Option Level) → IsAtMost x x
at_most-itself None = tt
at_most-itself (Some Shared) = refl
at_most-itself (Some Exclusive) = refl

at_most-lowered : (x : Option Level) (mode : Mode) → IsAtMost (lowered_level x mode) x
at_most-lowered x Write = tt
at_most-lowered None Read = tt
at_most-lowered (Some level) Read = refl

pub lowering_lowers : LoweringLowers
lowering_lowers t s mode b = lowered-at (λ x. IsAtMost x (t b)) t s mode b (λ within. at_most-lowered (t b) mode) (at_most-itself (t b))

-- a level that serves a lock which doesn't exclude the mode serves it after it is lowered
lowered_level-serves : (x : Option Level) (mode held : Mode) → excludes held mode ≡ false → serves x held ≡ true → serves (lowered_level x mode) held ≡ true
lowered_level-serves None mode held shares h = absurd (cc)
lowered_level-serves x Write Read shares h = absurd (cc)
lowered_level-serves x mode Write shares h = absurd (cc)
lowered_level-serves (Some level) Read Read shares h = refl

pub lowering_keeps_locks : LoweringKeepsLocks
lowering_keeps_locks h t s mode clear served o b held here =
    lowered-at (λ x. serves x held ≡ true) t s mode b (λ within.
    let parts = and_parts _ _ within in
    lowered_level-serves (t b) mode held (sym (ap (bars mode) here) ∙ clear o b (leb-true _ _ parts.0) (leb-true _ _ parts.1)) (served o b held here)) (served o b held here)

-- a byte without a level has none after lowering, and a byte that is exclusive after lowering was so before
pub at_most-none : (x y : Option Level) → IsAtMost x y → y ≡ None → x ≡ None
at_most-none None y low none = refl
at_most-none (Some Shared) y low none = absurd (let some : IsSome {T = Level} None = subst (λ y. IsSome y) none low in cc)
at_most-none (Some Exclusive) y low none = absurd (cc)

pub at_most-exclusive : (x y : Option Level) → IsAtMost x y → x ≡ Some Exclusive → y ≡ Some Exclusive
at_most-exclusive None y low is = absurd (cc)
at_most-exclusive (Some Shared) y low is = absurd (cc)
at_most-exclusive (Some Exclusive) y low is = low
