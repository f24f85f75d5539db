-- The search for the lowest lock that blocks an owner.
use Rattle.std.specs.Prelude.{◌≡◌, ◌≢◌, ℕ, ◌+◌, ◌-◌, ◌<◌, ◌≤◌, Bool, true, false, ◌&&◌, nat_lt, nat_le, if◌then◌else◌, Option, Some, None, MatchOption, refl}
use Rattle.std.specs.declared.cmp.Ordering.{Ordering}
use Rattle.std.specs.declared.cmp.Ordering.TheVariants.{Less, Equal, Greater}
use Rattle.std.specs.Ordering.{nat_cmp, ordering_then}
use Rattle.std.proofs.Common.{arith, ap, sym, ◌∙◌, inl, inr, subst}
use Rattle.std.proofs.lemmas.Bool.{cases_lt, cases_order, cases_Bool, le-leb, leb-true, both_ways}
use Rattle.std.proofs.lemmas.Bool.Decides.{nat_tests}
use Rattle.intervals.specs.rule.Search.{first_answer}
use Rattle.intervals.specs.rule.Bytes.{Range, greatest, is_start, run_from, IsRun}
use Rattle.model.specs.declared.mode.Mode.{Mode}
use Rattle.model.specs.declared.owner.Kind.{Kind}
use Rattle.model.specs.declared.owner.Kind.TheVariants.{OfProcess, OfDescription}
use Rattle.model.specs.declared.owner.Owner.{Owner}
use Rattle.model.specs.declared.lock_info.LockInfo.{LockInfo}
use Rattle.model.specs.rule.Limits.{most_processes}
use Rattle.model.specs.rule.Owners.{same_mode, same_owner, kind_cmp, owner_cmp, owner_at, most_owners}
use Rattle.model.specs.rule.Locks.{FileLocks, excludes, bars, IsFree, IsRegion, Blocks, IsNotAfter, IsLowestBlocker, region_at, blocking_at, lowest_blocker, IsOfNode, LowestIsLowest}
use Rattle.model.proofs.OwnerLaws.{owner_exact, owner_refl}
use Rattle.model.proofs.AnswerLaws.{Answers, IsFirstAnswer, first_answer_is}
use Rattle.model.proofs.RunLaws.{some_start, start_from, run_ends, run_from-is_run}

-- the comparison of two numbers, by cases
nat_equal : (a : ℕ) → nat_cmp a a ≡ Equal
nat_equal a = grind (arith, nat_tests)

nat_both : (a b : ℕ) → nat_cmp a b ≢ Greater → nat_cmp b a ≢ Greater → a ≡ b
nat_both a b h k = elim (cases_order a b) [
  | inl same ↦ same
  | inr rest ↦ elim rest [ inl lt ↦ absurd (k (nat_greater a b lt)) | inr gt ↦ absurd (h (nat_greater b a gt)) ]
]
  where
    nat_greater : (a b : ℕ) → a < b → nat_cmp b a ≡ Greater
    nat_greater a b h = grind (arith, nat_tests)

-- a first comparison that is equal leaves the answer to the second
then_equal : (x y : Ordering) → x ≡ Equal → ordering_then x y ≡ y
then_equal x y e = ap (λ z. ordering_then z y) e

-- two ordered pairs, neither of which is greater, are equal in their first parts and in their second parts
first_part : (x y : Ordering) → ordering_then x y ≢ Greater → x ≢ Greater
first_part x y h e = h (ap (λ z. ordering_then z y) e)

second_part : (x y : Ordering) → x ≡ Equal → ordering_then x y ≢ Greater → y ≢ Greater
second_part x y e h k = h (then_equal x y e ∙ k)

kind_both : (a b : Kind) → kind_cmp a b ≢ Greater → kind_cmp b a ≢ Greater → a ≡ b
kind_both OfProcess OfProcess h k = refl
kind_both OfProcess OfDescription h k = absurd (k refl)
kind_both OfDescription OfProcess h k = absurd (h refl)
kind_both OfDescription OfDescription h k = refl

kind_equal : (a : Kind) → kind_cmp a a ≡ Equal
kind_equal OfProcess = refl
kind_equal OfDescription = refl

-- two owners neither of which comes after the other are equal
owners_both : (a b : Owner) → owner_cmp a b ≢ Greater → owner_cmp b a ≢ Greater → a ≡ b
owners_both a b h k =
    let node : a.node ≡ b.node = nat_both _ _ (first_part _ _ h) (first_part _ _ k) in
    let h1 = second_part _ _ (ap (nat_cmp a.node) (sym node) ∙ nat_equal a.node) h in
    let k1 = second_part _ _ (ap (nat_cmp b.node) node ∙ nat_equal b.node) k in
    let incarnation : a.incarnation ≡ b.incarnation = nat_both _ _ (first_part _ _ h1) (first_part _ _ k1) in
    let h2 = second_part _ _ (ap (nat_cmp a.incarnation) (sym incarnation) ∙ nat_equal a.incarnation) h1 in
    let k2 = second_part _ _ (ap (nat_cmp b.incarnation) incarnation ∙ nat_equal b.incarnation) k1 in
    let kind : a.kind ≡ b.kind = kind_both _ _ (first_part _ _ h2) (first_part _ _ k2) in
    let h3 = second_part _ _ (ap (kind_cmp a.kind) (sym kind) ∙ kind_equal a.kind) h2 in
    let k3 = second_part _ _ (ap (kind_cmp b.kind) kind ∙ kind_equal b.kind) k2 in
    let number : a.number ≡ b.number = nat_both _ _ h3 k3 in
    λ i. record { node = node i; incarnation = incarnation i; kind = kind i; number = number i }

-- owners of one kind on one node stand by their numbers
by_number : (node incarnation : ℕ) (kind : Kind) (a b : ℕ) → a ≤ b → owner_cmp (record { node = node; incarnation = incarnation; kind = kind; number = a }) (record { node = node; incarnation = incarnation; kind = kind; number = b }) ≢ Greater
by_number node incarnation kind a b h e = not_greater (sym (then_equal _ _ (kind_equal kind)) ∙ sym (then_equal _ _ (nat_equal incarnation)) ∙ sym (then_equal _ _ (nat_equal node)) ∙ e)
  where
    not_greater : nat_cmp a b ≢ Greater
    not_greater e = grind (arith, nat_tests)

by_kind : (node incarnation a b : ℕ) → owner_cmp (record { node = node; incarnation = incarnation; kind = OfProcess; number = a }) (record { node = node; incarnation = incarnation; kind = OfDescription; number = b }) ≢ Greater
by_kind node incarnation a b e = less (sym (then_equal _ _ (nat_equal incarnation)) ∙ sym (then_equal _ _ (nat_equal node)) ∙ e)
  where
    less : Less ≢ Greater
    less e = cc

-- the owners of a node stand by their places in the order
abbrev pub owner_if : ℕ → ℕ → Bool → ℕ → Owner
owner_if node incarnation b k = if b then record { node = node; incarnation = incarnation; kind = OfProcess; number = k + 1 } else record { node = node; incarnation = incarnation; kind = OfDescription; number = k + 1 - most_processes }

processes_first : (j k : ℕ) → j ≤ k → nat_lt j most_processes ≡ false → nat_lt k most_processes ≡ true → ⊥
processes_first j k h x y = grind (arith, nat_tests)

by_place_if : (node incarnation j k : ℕ) (x y : Bool) → j ≤ k → nat_lt j most_processes ≡ x → nat_lt k most_processes ≡ y → owner_cmp (owner_if node incarnation x j) (owner_if node incarnation y k) ≢ Greater
by_place_if node incarnation j k true true h x y = by_number node incarnation OfProcess (j + 1) (k + 1) (omega arith)
by_place_if node incarnation j k true false h x y = by_kind node incarnation (j + 1) (k + 1 - most_processes)
by_place_if node incarnation j k false true h x y = absurd (processes_first j k h x y)
by_place_if node incarnation j k false false h x y = by_number node incarnation OfDescription (j + 1 - most_processes) (k + 1 - most_processes) (omega arith)

by_place : (node incarnation j k : ℕ) → j ≤ k → owner_cmp (owner_at node incarnation j) (owner_at node incarnation k) ≢ Greater
by_place node incarnation j k h = by_place_if node incarnation j k _ _ h refl refl

-- a region begins at byte lo, reaches into the span, and excludes the mode
pub record RegionAt (h : FileLocks) (s : Range) (mode : Mode) (owner : Owner) (lo : ℕ) (held : Mode) (lock : LockInfo) : Type 0 where
  pub conflicts : excludes held mode ≡ true
  pub starts : is_start same_mode (h owner) lo ≡ true
  pub reaches : s.lo ≤ (run_from same_mode (h owner) lo held).hi
  pub region : lock ≡ record { owner = owner; mode = held; span = run_from same_mode (h owner) lo held }

all_true : {A : Type 0} (a b c : Bool) (x y : A) → a ≡ true → b ≡ true → c ≡ true → (if a && (b && c) then x else y) ≡ x
all_true true true true x y p q r = refl
all_true false b c x y p q r = absurd (cc)
all_true true false c x y p q r = absurd (cc)
all_true true true false x y p q r = absurd (cc)

module _ (h : FileLocks) (s : Range) (mode : Mode) (owner : Owner) (lo : ℕ) where
  region_parts : (held : Mode) (lock : LockInfo) (a b c : Bool) → excludes held mode ≡ a → is_start same_mode (h owner) lo ≡ b → nat_le s.lo (run_from same_mode (h owner) lo held).hi ≡ c → (if a && (b && c) then Some (record { owner = owner; mode = held; span = run_from same_mode (h owner) lo held }) else None) ≡ Some lock → RegionAt h s mode owner lo held lock
  region_parts held lock true true true x y z e = record { conflicts = x; starts = y; reaches = leb-true _ _ z; region = cc }
  region_parts held lock false b c x y z e = absurd (cc)
  region_parts held lock true false c x y z e = absurd (cc)
  region_parts held lock true true false x y z e = absurd (cc)

  region_is : (x : Option Mode) (lock : LockInfo) → region_at h s mode owner lo x ≡ Some lock → (held : Mode) × (x ≡ Some held) × RegionAt h s mode owner lo held lock
  region_is None lock e = absurd (cc)
  region_is (Some held) lock e = (held, refl, region_parts held lock _ _ _ refl refl refl e)

  region_there : (held : Mode) → h owner lo ≡ Some held → excludes held mode ≡ true → is_start same_mode (h owner) lo ≡ true → s.lo ≤ (run_from same_mode (h owner) lo held).hi → region_at h s mode owner lo (h owner lo) ≡ Some (record { owner = owner; mode = held; span = run_from same_mode (h owner) lo held })
  region_there held here conflicts starts reaches = ap (region_at h s mode owner lo) here ∙ all_true _ _ _ _ _ conflicts starts (le-leb _ _ reaches)

-- the search looks only at other owners than the one that is blocked
blocking_if : (b : Bool) (x : Option LockInfo) (lock : LockInfo) → (if b then None else x) ≡ Some lock → (b ≡ false) × (x ≡ Some lock)
blocking_if true x lock e = absurd (cc)
blocking_if false x lock e = (refl, e)

blocking_other : (b : Bool) (x : Option LockInfo) → b ≡ false → (if b then None else x) ≡ x
blocking_other true x e = absurd (cc)
blocking_other false x e = refl

barred : (mode held : Mode) (x : Option Mode) → x ≡ Some held → excludes held mode ≡ true → bars mode x ≡ true
barred mode held x e conflicts = ap (bars mode) e ∙ conflicts

module _ (h : FileLocks) (owner : Owner) (s : Range) (mode : Mode) (own : IsOfNode h owner.node owner.incarnation) (order : s.lo ≤ s.hi) (within : s.hi ≤ greatest) where
  -- a lock that the search finds at a byte and an owner blocks
  blocking_blocks : (lo : ℕ) (other : Owner) (lock : LockInfo) → lo ≤ s.hi → blocking_at h owner s mode lo other ≡ Some lock → (lock.owner ≡ other) × (lock.span.lo ≡ lo) × Blocks h owner s mode lock
  blocking_blocks lo other lock below e =
      let parts = blocking_if (same_owner other owner) (region_at h s mode other lo (h other lo)) lock e in
      let r = region_is h s mode other lo (h other lo) lock parts.1 in
      let at = r.2 in
      let run = run_from-is_run (h other) r.0 lo (omega arith) r.1 at.starts (own.ends other) in
      let found : LockInfo = record { owner = other; mode = r.0; span = run_from same_mode (h other) lo r.0 } in
      let P : LockInfo → Type 0 = λ l. (l.owner ≡ other) × (l.span.lo ≡ lo) × Blocks h owner s mode l in
      let blocks : Blocks h owner s mode found = record {
        is_other = λ same. both_ways (same_owner other owner) parts.0 (ap (same_owner other) (sym same) ∙ owner_refl other);
        region = run;
        conflicts = at.conflicts;
        starts = below;
        ends = at.reaches;
      } in
      subst P (sym at.region) (refl, refl, blocks)

  -- a lock that blocks is found at its first byte and its owner
  blocks_blocking : (lock : LockInfo) → Blocks h owner s mode lock → blocking_at h owner s mode lock.span.lo lock.owner ≡ Some lock
  blocks_blocking lock b =
      let bytes = h lock.owner in
      let lo = lock.span.lo in
      let here : bytes lo ≡ Some lock.mode = b.region.all lo (omega arith) b.region.ordered in
      let start = start_from bytes lock.mode lo here b.region.begins in
      let run = run_from-is_run bytes lock.mode lo (let starts = b.starts in omega arith) here start (own.ends lock.owner) in
      let hi : (run_from same_mode bytes lo lock.mode).hi ≡ lock.span.hi = run_ends bytes lock.mode _ lock.span run b.region refl in
      let reaches : s.lo ≤ (run_from same_mode bytes lo lock.mode).hi = (let ends = b.ends in omega (arith, hi)) in
      let apart : same_owner lock.owner owner ≡ false = elim (cases_Bool (same_owner lock.owner owner)) [ inl is ↦ absurd (b.is_other (owner_exact _ _ is)) | inr other ↦ other ] in
      blocking_other _ _ apart ∙ region_there h s mode lock.owner lo lock.mode here b.conflicts start reaches ∙ (λ i. Some (record { owner = lock.owner; mode = lock.mode; span = record { lo = lo; hi = hi i } }))

  -- the lock that begins at byte lo and blocks, if its owner has place k
  abbrev asked : ℕ → ℕ → Option LockInfo
  asked lo k = blocking_at h owner s mode lo (owner_at owner.node owner.incarnation k)

  abbrev asked_all : ℕ → Option LockInfo
  asked_all lo = first_answer (asked lo) 0 most_owners

  -- a lock that blocks is found at its first byte, at the place of its owner
  pub record FoundAt (lock : LockInfo) (k : ℕ) : Type 0 where
    pub below : k < 0 + most_owners
    pub whose : lock.owner ≡ owner_at owner.node owner.incarnation k
    pub here : asked lock.span.lo k ≡ Some lock

  found : (lock : LockInfo) → Blocks h owner s mode lock → (k : ℕ) × FoundAt lock k
  found lock b =
      let place = own.is_own lock.owner lock.span.lo lock.mode (b.region.all lock.span.lo (omega arith) b.region.ordered) in
      (place.0, record { below = more place.0 place.1; whose = place.2; here = ap (blocking_at h owner s mode lock.span.lo) (sym place.2) ∙ blocks_blocking lock b })
    where
      more : (k : ℕ) → k < 16640 → k < 0 + 16640
      more k h = omega arith

  found_all : (lock : LockInfo) → Blocks h owner s mode lock → (r : Option LockInfo) → asked_all lock.span.lo ≡ r → r ≡ None → ⊥
  found_all lock b r e none =
      let at = found lock b in
      let all : Answers (asked lock.span.lo) 0 most_owners None = subst (Answers (asked lock.span.lo) 0 most_owners) (e ∙ none) (first_answer_is (asked lock.span.lo) 0 most_owners) in
      let nothing = all at.0 (omega arith) at.1.below in
      let here = at.1.here in cc

  -- if the search finds nothing no lock blocks
  none_blocks : ((lo : ℕ) → 0 ≤ lo → lo < 0 + (s.hi + 1) → asked_all lo ≡ None) → (lock : LockInfo) → Blocks h owner s mode lock → ⊥
  none_blocks none lock b = found_all lock b _ refl (none lock.span.lo (omega arith) (under lock.span.lo b.starts))
    where
      under : (lo : ℕ) → lo ≤ s.hi → lo < 0 + (s.hi + 1)
      under lo h = omega arith

  -- a byte that bars the mode is in a lock that blocks
  pub barred_blocks : (other : Owner) (b : ℕ) (held : Mode) → other ≢ owner → s.lo ≤ b → b ≤ s.hi → h other b ≡ Some held → excludes held mode ≡ true → (lock : LockInfo) × Blocks h owner s mode lock
  barred_blocks other b held apart above below here conflicts =
      let start = some_start (h other) held b here in
      let lo = start.0 in
      let begins = start.1 in
      let least = begins.least in
      let run = run_from-is_run (h other) held lo (omega arith) (begins.all lo (omega arith) least) begins.start (own.ends other) in
      let span = run_from same_mode (h other) lo held in (
        record { owner = other; mode = held; span = span },
        record {
          is_other = apart;
          region = run;
          conflicts = conflicts;
          starts = omega arith;
          ends = reaches span.hi (elim (cases_lt span.hi b) [ inl lt ↦ absurd (run.ends (begins.all (span.hi + 1) (above_lo span.hi run.ordered) (omega arith))) | inr le ↦ le ]);
        },
      )
    where
      above_lo : {lo : ℕ} (hi : ℕ) → lo ≤ hi → lo ≤ hi + 1
      above_lo hi h = omega arith

      reaches : (hi : ℕ) → b ≤ hi → s.lo ≤ hi
      reaches hi h = omega arith

  free_at : (other : Owner) (b : ℕ) (x : Option Mode) → ((lock : LockInfo) → Blocks h owner s mode lock → ⊥) → other ≢ owner → s.lo ≤ b → b ≤ s.hi → h other b ≡ x → bars mode x ≡ false
  free_at other b None none apart above below e = refl
  free_at other b (Some held) none apart above below e = elim (cases_Bool (excludes held mode)) [
    | inl conflicts ↦ let lock = barred_blocks other b held apart above below e conflicts in absurd (none lock.0 lock.1)
    | inr shares ↦ shares
  ]

  pub free_without_blocker : ((lock : LockInfo) → Blocks h owner s mode lock → ⊥) → IsFree h owner s mode
  free_without_blocker none other b apart above below = free_at other b (h other b) none apart above below refl

  -- the lock that the search finds is the lowest
  lowest_found : (lock : LockInfo) (lo k : ℕ) → IsFirstAnswer asked_all 0 (s.hi + 1) lock lo → IsFirstAnswer (asked lo) 0 most_owners lock k → IsLowestBlocker h owner s mode lock
  lowest_found lock lo k at_byte at_owner =
      let is = blocking_blocks lo (owner_at owner.node owner.incarnation k) lock (under lo at_byte.below) at_owner.here in
      record { blocks = is.2; lowest = λ other b. not_after other b is.0 is.1 }
    where
      under : (lo : ℕ) → lo < 0 + (s.hi + 1) → lo ≤ s.hi
      under lo h = omega arith

      later : (other : LockInfo) → Blocks h owner s mode other → lock.owner ≡ owner_at owner.node owner.incarnation k → other.span.lo ≡ lo → owner_cmp lock.owner other.owner ≢ Greater
      later other b is_owner same =
          let at = found other b in
          let here : asked lo at.0 ≡ Some other = ap (λ l. asked l at.0) (sym same) ∙ at.1.here in
          let upto : k ≤ at.0 = elim (cases_lt at.0 k) [ inl lt ↦ absurd (let nothing = at_owner.none_before at.0 (omega arith) lt in cc) | inr le ↦ le ] in
          let P : Owner → Type 0 = λ o. owner_cmp o other.owner ≢ Greater in
          let Q : Owner → Type 0 = λ o. owner_cmp (owner_at owner.node owner.incarnation k) o ≢ Greater in
          subst P (sym is_owner) (subst Q (sym at.1.whose) (by_place owner.node owner.incarnation k at.0 upto))

      not_after : (other : LockInfo) → Blocks h owner s mode other → lock.owner ≡ owner_at owner.node owner.incarnation k → lock.span.lo ≡ lo → IsNotAfter lock other
      not_after other b is_owner starts = elim (cases_order lo other.span.lo) [
        | inl same ↦ inr (starts ∙ same, later other b is_owner (sym same))
        | inr rest ↦ elim rest [
          | inl lt ↦ inl (omega arith)
          | inr gt ↦ absurd (found_all other b _ refl (at_byte.none_before other.span.lo (omega arith) gt))
        ]
      ]

  lowest_by : (r : Option LockInfo) → Answers asked_all 0 (s.hi + 1) r → MatchOption r (IsFree h owner s mode) (IsLowestBlocker h owner s mode)
  lowest_by None none = free_without_blocker (none_blocks none)
  lowest_by (Some lock) (lo, at_byte) =
      let at_owner : Answers (asked lo) 0 most_owners (Some lock) = subst (Answers (asked lo) 0 most_owners) at_byte.here (first_answer_is (asked lo) 0 most_owners) in
      lowest_found lock lo at_owner.0 at_byte at_owner.1

pub lowest_is_lowest : LowestIsLowest
unfolding lowest_blocker
lowest_is_lowest h owner s mode own order within =
    lowest_by h owner s mode own order within (lowest_blocker h owner s mode) (first_answer_is (asked_all h owner s mode own order within) 0 (s.hi + 1))

-- of two lowest locks, each comes before the other or begins with it, so they begin at one byte
same_start : (a b : LockInfo) → IsNotAfter a b → IsNotAfter b a → (a.span.lo ≡ b.span.lo) × (owner_cmp a.owner b.owner ≢ Greater) × (owner_cmp b.owner a.owner ≢ Greater)
same_start a b (inl lt) (inl gt) = absurd (omega arith)
same_start a b (inl lt) (inr same) = absurd (let e = same.0 in omega arith)
same_start a b (inr same) (inl gt) = absurd (let e = same.0 in omega arith)
same_start a b (inr first) (inr second) = (first.0, first.1, second.1)

-- two regions neither of which comes before the other are equal
pub one_region : (h : FileLocks) (a b : LockInfo) → IsRegion h a → IsRegion h b → IsNotAfter a b → IsNotAfter b a → a ≡ b
one_region h a b x y before after =
    let start = same_start a b before after in
    let owners : a.owner ≡ b.owner = owners_both a.owner b.owner start.1 start.2 in
    let at_a = x.all a.span.lo (omega arith) x.ordered in
    let at_b = y.all b.span.lo (omega arith) y.ordered in
    let modes : a.mode ≡ b.mode = same_mode_of (sym at_a ∙ ap (h a.owner) start.0 ∙ ap (λ o. h o b.span.lo) owners ∙ at_b) in
    let P : Owner → Mode → Type 0 = λ o m. IsRun (h o) b.span m in
    let run : IsRun (h a.owner) b.span a.mode = subst (λ o. P o a.mode) (sym owners) (subst (P b.owner) (sym modes) y) in
    let ends : a.span.hi ≡ b.span.hi = run_ends (h a.owner) a.mode a.span b.span x run start.0 in
    λ i. record { owner = owners i; mode = modes i; span = record { lo = start.0 i; hi = ends i } }
  where
    same_mode_of : {m n : Mode} → Some m ≡ Some n → m ≡ n
    same_mode_of e = cc

-- two locks that are both the lowest that blocks are equal
pub one_lowest : (h : FileLocks) (owner : Owner) (s : Range) (mode : Mode) (a b : LockInfo) → IsLowestBlocker h owner s mode a → IsLowestBlocker h owner s mode b → a ≡ b
one_lowest h owner s mode a b x y = one_region h a b x.blocks.region y.blocks.region (x.lowest b y.blocks) (y.lowest a x.blocks)

-- a lock that blocks bars a byte of the span
pub blocks_bars : (h : FileLocks) (owner : Owner) (s : Range) (mode : Mode) (lock : LockInfo) → s.lo ≤ s.hi → Blocks h owner s mode lock → IsFree h owner s mode → ⊥
blocks_bars h owner s mode lock order b free = elim (cases_lt s.lo lock.span.lo) [
  | inl lt ↦ at_byte lock.span.lo (omega arith) b.starts (omega arith) b.region.ordered
  | inr le ↦ at_byte s.lo (omega arith) order le b.ends
]
  where
    at_byte : (c : ℕ) → s.lo ≤ c → c ≤ s.hi → lock.span.lo ≤ c → c ≤ lock.span.hi → ⊥
    at_byte c above below least most = both_ways _ (free lock.owner c b.is_other above below) (barred mode lock.mode (h lock.owner c) (b.region.all c least most) b.conflicts)

one_answer : (h : FileLocks) (owner : Owner) (s : Range) (mode : Mode) (a b : Option LockInfo) → s.lo ≤ s.hi → MatchOption a (IsFree h owner s mode) (IsLowestBlocker h owner s mode) → MatchOption b (IsFree h owner s mode) (IsLowestBlocker h owner s mode) → a ≡ b
one_answer h owner s mode None None order x y = refl
one_answer h owner s mode None (Some b) order x y = absurd (blocks_bars h owner s mode b order y.blocks x)
one_answer h owner s mode (Some a) None order x y = absurd (blocks_bars h owner s mode a order x.blocks y)
one_answer h owner s mode (Some a) (Some b) order x y = ap Some (one_lowest h owner s mode a b x y)

-- the right answer (the span is free, or the lowest lock that blocks) is the one of the search
pub is_lowest_blocker : (h : FileLocks) (owner : Owner) (s : Range) (mode : Mode) (r : Option LockInfo) → IsOfNode h owner.node owner.incarnation → s.lo ≤ s.hi → s.hi ≤ greatest → MatchOption r (IsFree h owner s mode) (IsLowestBlocker h owner s mode) → r ≡ lowest_blocker h owner s mode
is_lowest_blocker h owner s mode r own order within x = one_answer h owner s mode r (lowest_blocker h owner s mode) order x (lowest_is_lowest h owner s mode own order within)
