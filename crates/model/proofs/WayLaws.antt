-- The lowest lock in the way, among all locks of a node.
use Rattle.std.specs.Prelude.{◌≡◌, ◌≢◌, ℕ, ◌+◌, ◌≤◌, Bool, true, false, ◌==◌, nat_lt, if◌then◌else◌, Option, Some, None, MatchOption, refl}
use Rattle.std.proofs.Common.{arith, ne_eqb, ap, sym, ◌∙◌, subst, inl, inr}
use Rattle.std.proofs.lemmas.Bool.{and_right, cases_lt, both_ways}
use Rattle.intervals.specs.rule.Search.{first_answer}
use Rattle.intervals.specs.rule.Bytes.{Range, greatest}
use Rattle.model.specs.declared.mode.Mode.{Mode}
use Rattle.model.specs.declared.owner.Owner.{Owner}
use Rattle.model.specs.declared.owner.Kind.TheVariants.{OfProcess}
use Rattle.model.specs.declared.lock_info.LockInfo.{LockInfo}
use Rattle.model.specs.rule.Limits.{most_processes}
use Rattle.model.specs.rule.Owners.{same_owner, owner_at, most_owners}
use Rattle.model.specs.rule.Locks.{FileLocks, bars, IsFree, IsRegion, Blocks, IsLowestBlocker, region_at, blocking_at, lowest_blocker, IsOfNode, IsClear, IsInWay, IsLowestInWay, lowest_in_way, LowestInWayIsLowest, LowestInWayIsOne}
use Rattle.model.proofs.OwnerLaws.{owner_refl}
use Rattle.model.proofs.BlockerLaws.{owner_if, lowest_is_lowest, one_region, barred_blocks, blocks_bars}

-- the owner with the number 0, which no process has: it holds nothing
abbrev nobody : ℕ → ℕ → Owner
nobody node incarnation = record { node = node; incarnation = incarnation; kind = OfProcess; number = 0 }

not_nobody_if : (node incarnation k : ℕ) (x : Bool) → same_owner (owner_if node incarnation x k) (nobody node incarnation) ≡ false
not_nobody_if node incarnation k true = and_right (node == node) _ (and_right (incarnation == incarnation) _ (ne_eqb (k + 1) 0 (λ e. absurd (omega (arith, e)))))
not_nobody_if node incarnation k false = and_right (node == node) _ (and_right (incarnation == incarnation) _ refl)

not_nobody : (node incarnation k : ℕ) → same_owner (owner_at node incarnation k) (nobody node incarnation) ≡ false
not_nobody node incarnation k = not_nobody_if node incarnation k (nat_lt k most_processes)

-- the search over all owners is the one over the owners that are not nobody
other_owner : (x : Bool) (r : Option LockInfo) → x ≡ false → r ≡ (if x then None else r)
other_owner true r e = absurd (cc)
other_owner false r e = refl

in_way-is_blocker : (h : FileLocks) (node incarnation : ℕ) (s : Range) (mode : Mode) → lowest_in_way h node incarnation s mode ≡ lowest_blocker h (nobody node incarnation) s mode
unfolding lowest_in_way lowest_blocker
in_way-is_blocker h node incarnation s mode =
    let same : (λ (lo k : ℕ). region_at h s mode (owner_at node incarnation k) lo (h (owner_at node incarnation k) lo)) ≡ (λ (lo k : ℕ). blocking_at h (nobody node incarnation) s mode lo (owner_at node incarnation k)) =
    λ i lo k. other_owner _ (region_at h s mode (owner_at node incarnation k) lo (h (owner_at node incarnation k) lo)) (not_nobody node incarnation k) i in
    ap (λ (f : ℕ → ℕ → Option LockInfo). first_answer (λ lo. first_answer (f lo) 0 most_owners) 0 (s.hi + 1)) same

module _ (h : FileLocks) (node incarnation : ℕ) (own : IsOfNode h node incarnation) where
  -- an owner that holds a byte is not nobody
  is_somebody : (o : Owner) (b : ℕ) (mode : Mode) → h o b ≡ Some mode → o ≢ nobody node incarnation
  is_somebody o b mode here same =
      let place = own.is_own o b mode here in
      both_ways _ (not_nobody node incarnation place.0) (ap (λ o. same_owner o (nobody node incarnation)) (sym place.2 ∙ same) ∙ owner_refl (nobody node incarnation))

  region_blocks : (s : Range) (mode : Mode) (lock : LockInfo) → IsRegion h lock → IsInWay s mode lock → Blocks h (nobody node incarnation) s mode lock
  region_blocks s mode lock region way = record {
    is_other = is_somebody lock.owner lock.span.lo lock.mode (region.all lock.span.lo (omega arith) region.ordered);
    region = region;
    conflicts = way.conflicts;
    starts = way.starts;
    ends = way.ends;
  }

  clear_at : (s : Range) (mode : Mode) (o : Owner) (b : ℕ) (x : Option Mode) → IsFree h (nobody node incarnation) s mode → s.lo ≤ b → b ≤ s.hi → h o b ≡ x → bars mode x ≡ false
  clear_at s mode o b None free above below here = refl
  clear_at s mode o b (Some held) free above below here = ap (bars mode) (sym here) ∙ free o b (is_somebody o b held here) above below

  in_way_by : (s : Range) (mode : Mode) (r : Option LockInfo) → MatchOption r (IsFree h (nobody node incarnation) s mode) (IsLowestBlocker h (nobody node incarnation) s mode) → MatchOption r (IsClear h s mode) (IsLowestInWay (IsRegion h) s mode)
  in_way_by s mode None free = λ o b above below. clear_at s mode o b (h o b) free above below refl
  in_way_by s mode (Some lock) low = record {
    is_one = low.blocks.region;
    in_way = record { conflicts = low.blocks.conflicts; starts = low.blocks.starts; ends = low.blocks.ends };
    lowest = λ other region way. low.lowest other (region_blocks s mode other region way);
  }

  -- no lock is in the way of a clear span
  pub clear_has_none : (s : Range) (mode : Mode) (lock : LockInfo) → s.lo ≤ s.hi → IsClear h s mode → IsRegion h lock → IsInWay s mode lock → ⊥
  clear_has_none s mode lock order clear region way = blocks_bars h (nobody node incarnation) s mode lock order (region_blocks s mode lock region way) (λ o b other. clear o b)

  -- two answers that are each right for one span and mode are equal
  one_answer : (s : Range) (mode : Mode) (a b : Option LockInfo) → s.lo ≤ s.hi → MatchOption a (IsClear h s mode) (IsLowestInWay (IsRegion h) s mode) → MatchOption b (IsClear h s mode) (IsLowestInWay (IsRegion h) s mode) → a ≡ b
  one_answer s mode None None order x y = refl
  one_answer s mode None (Some b) order x y = absurd (clear_has_none s mode b order x y.is_one y.in_way)
  one_answer s mode (Some a) None order x y = absurd (clear_has_none s mode a order y x.is_one x.in_way)
  one_answer s mode (Some a) (Some b) order x y = ap Some (one_region h a b x.is_one y.is_one (x.lowest b y.is_one y.in_way) (y.lowest a x.is_one x.in_way))

  -- a byte that bars the mode is in a region that excludes the mode
  pub barred_region : (mode : Mode) (o : Owner) (b : ℕ) (x : Option Mode) → h o b ≡ x → bars mode x ≡ true → (lock : LockInfo) × IsRegion h lock × IsInWay (record { lo = b; hi = b }) mode lock
  barred_region mode o b None here bar = absurd (cc)
  barred_region mode o b (Some held) here bar =
      let within : b ≤ greatest = elim (cases_lt greatest b) [ inl past ↦ absurd (let none = own.ends o b past in cc) | inr le ↦ le ] in
      let found = barred_blocks h (nobody node incarnation) (record { lo = b; hi = b }) mode own (omega arith) within o b held (is_somebody o b held here) (omega arith) (omega arith) here bar in
      (found.0, found.1.region, record { conflicts = found.1.conflicts; starts = found.1.starts; ends = found.1.ends })

pub lowest_in_way_is_lowest : LowestInWayIsLowest
lowest_in_way_is_lowest h node incarnation s mode own order within =
    in_way_by h node incarnation own s mode (lowest_in_way h node incarnation s mode)
    (subst (λ r. MatchOption r (IsFree h (nobody node incarnation) s mode) (IsLowestBlocker h (nobody node incarnation) s mode)) (sym (in_way-is_blocker h node incarnation s mode)) (lowest_is_lowest h (nobody node incarnation) s mode own order within))

pub lowest_in_way_is_one : LowestInWayIsOne
lowest_in_way_is_one h s mode a b x y = one_region h a b x.is_one y.is_one (x.lowest b y.is_one y.in_way) (y.lowest a x.is_one x.in_way)

-- a right answer is the one that the search gives
pub is_lowest_in_way : (h : FileLocks) (node incarnation : ℕ) (s : Range) (mode : Mode) (r : Option LockInfo) → IsOfNode h node incarnation → s.lo ≤ s.hi → s.hi ≤ greatest → MatchOption r (IsClear h s mode) (IsLowestInWay (IsRegion h) s mode) → r ≡ lowest_in_way h node incarnation s mode
is_lowest_in_way h node incarnation s mode r own order within x = one_answer h node incarnation own s mode r (lowest_in_way h node incarnation s mode) order x (lowest_in_way_is_lowest h node incarnation s mode own order within)
