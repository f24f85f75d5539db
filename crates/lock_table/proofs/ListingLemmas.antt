-- Lists of the regions of a file.
use Rattle.std.proofs.Common.{◌≡◌, ◌≢◌, ℕ, zero, suc, ◌+◌, ◌-◌, ◌<◌, ◌≤◌, true, false, eqb, eq-eqb, ne_eqb, length, get_or, List, [], ◌∷◌, ◌++◌, Some, None, refl, ap, sym, ◌∙◌, subst, inl, inr, arith, append_assoc}
use Rattle.std.specs.List.{All, AllByRecursion, Contains, IsDistinct, AllPairs}
use Rattle.std.specs.List.Sorted.{IsPermutation, IsSortedBy}
use Rattle.std.specs.Ordering.{is_lt}
use Rattle.std.specs.Cmp.{IsTotalOrder, IsStrictWeakOrder}
use Rattle.std.specs.declared.cmp.Ordering.{Ordering}
use Rattle.std.specs.declared.cmp.Ordering.TheVariants.{Less, Equal, Greater}
use Rattle.std.proofs.lemmas.Bool.{cases_lt, cases_Bool, and_parts, and_from, and_left, and_right, both_ways, false≢true, eqb-true}
use Rattle.std.proofs.lemmas.Cmp.{then_total, on_total, nat_cmp_total, tied_itself}
use Rattle.std.proofs.lemmas.List.{append-nil}
use Rattle.std.proofs.lemmas.List.Elements.{All-nil, All-append, All-push, All-weaker, All-from_recursion, recursion_from_All, Contains-append_left, Contains-append_right, Contains-push}
use Rattle.std.proofs.lemmas.List.Sorted.{ranks_by, sorted_far, All-permutation, Contains-permutation}
use Rattle.std.proofs.lemmas.Map.Keys.{IsDistinct-IsPermutation}
use Rattle.intervals.specs.rule.Bytes.{nothing, IsRun}
use Rattle.intervals.specs.rule.Runs.{value_at}
use Rattle.intervals.proofs.SpanLaws.{runs_are_one}
use Rattle.model.specs.declared.mode.Mode.{Mode}
use Rattle.model.specs.declared.lock_info.LockInfo.{LockInfo}
use Rattle.model.specs.rule.Owners.{same_owner, owner_cmp}
use Rattle.model.specs.rule.Locks.{FileLocks, IsRegion}
use Rattle.lock_table.specs.declared.owner_locks.OwnerLocks.{OwnerLocks}
use Rattle.lock_table.specs.code.Rows.{rest_from, IsFirstRegion, locks_of, NothingFrom}
use Rattle.lock_table.specs.code.Blockers.{lock_cmp}
use Rattle.lock_table.specs.rule.Tables.{IsBefore, IsListing, same_start, ListsRegions}
use Rattle.model.proofs.OwnerLaws.{owner_exact, owner_refl}
use Rattle.lock_table.proofs.RowLemmas.{owners_total, owner_equal, nat_cmp_less, nat_cmp_equal, then_less, then_equal, back_less}
use Rattle.lock_table.proofs.BlockerLemmas.{IsJoin, region_left, region_right, region_cases, owners_apart, region_own, own_region, lock_one}
use Rattle.model.specs.declared.owner.Owner.{Owner}

-- the order of locks is total
pub locks_total : IsTotalOrder lock_cmp
locks_total = then_total (on_total (λ (x : LockInfo). x.span.lo) nat_cmp_total) (on_total (λ (x : LockInfo). x.owner) owners_total)

pub locks_weak : IsStrictWeakOrder (λ (a b : LockInfo). is_lt (lock_cmp a b))
locks_weak = ranks_by locks_total (λ (x : LockInfo). x)

pub before_from : (a b : LockInfo) → lock_cmp a b ≡ Less → IsBefore a b
before_from a b h = elim (then_less _ _ h) [ inl less ↦ inl (nat_cmp_less _ _ less) | inr both ↦ inr (nat_cmp_equal _ _ both.0, both.1) ]

start_from : (a b : LockInfo) → lock_cmp a b ≡ Equal → same_start a b ≡ true
start_from a b h =
    let parts = then_equal _ _ h in
    let owners : a.owner ≡ b.owner = owner_equal a.owner b.owner parts.1 in
    and_from (eqb a.span.lo b.span.lo) (same_owner a.owner b.owner) (eq-eqb a.span.lo b.span.lo (nat_cmp_equal _ _ parts.0)) (rw owners (owner_refl b.owner))

start_back : (a b : LockInfo) → same_start a b ≡ true → same_start b a ≡ true
start_back a b h =
    let parts = and_parts _ _ h in
    let owners : a.owner ≡ b.owner = owner_exact _ _ parts.1 in
    and_from (eqb b.span.lo a.span.lo) (same_owner b.owner a.owner) (eq-eqb b.span.lo a.span.lo (sym (eqb-true _ _ parts.0))) (rw owners (owner_refl b.owner))

same_start_comm : (a b : LockInfo) → same_start a b ≡ same_start b a
same_start_comm a b = elim (cases_Bool (same_start a b)) [
  | inl same ↦ same ∙ sym (start_back a b same)
  | inr differ ↦ elim (cases_Bool (same_start b a)) [
    | inl same ↦ absurd (both_ways (same_start a b) differ (start_back b a same))
    | inr other ↦ differ ∙ sym other
  ]
]

-- two different places of a list of distinct regions have different ones
distinct_at : (l : List LockInfo) (i j : ℕ) (d : LockInfo) → IsDistinct same_start l → i < j → j < length l → same_start (get_or l i d) (get_or l j d) ≡ false
unfolding IsDistinct
distinct_at [] i j d h lt within = absurd (omega arith)
distinct_at (x ∷ l) zero zero d h lt within = absurd (omega arith)
distinct_at (x ∷ l) zero (suc j) d h lt within = All-from_recursion (λ y. same_start x y ≡ false) l h.0 j d (omega arith)
distinct_at (x ∷ l) (suc i) zero d h lt within = absurd (omega arith)
distinct_at (x ∷ l) (suc i) (suc j) d h lt within = distinct_at l i j d h.1 (omega arith) (omega arith)

distinct-append : (xs ys : List LockInfo) → IsDistinct same_start xs → IsDistinct same_start ys → AllByRecursion (λ x. All (λ y. same_start x y ≡ false) ys) xs → IsDistinct same_start (xs ++ ys)
unfolding IsDistinct
distinct-append [] ys p q h = q
distinct-append (x ∷ xs) ys p q h = (recursion_from_All (λ y. same_start x y ≡ false) (xs ++ ys) (All-append (λ y. same_start x y ≡ false) xs ys (All-from_recursion (λ y. same_start x y ≡ false) xs p.0) h.0), distinct-append xs ys p.1 q h.1)

distinct-one : (x : LockInfo) → IsDistinct same_start (x ∷ [])
unfolding IsDistinct
distinct-one x = (tt, tt)

distinct-nil : IsDistinct same_start []
unfolding IsDistinct
distinct-nil = tt

-- the empty list lists the regions of no locks
pub lists_none : ListsRegions (λ o. nothing) []
lists_none = record {
  regions = All-nil (IsRegion (λ o. nothing));
  complete = λ x region. let e = region.all x.span.lo (omega arith) region.ordered in absurd cc;
  once = distinct-nil;
}

-- two lists of the regions of g and of h together list the regions of both joined
pub lists_join : (g h k : FileLocks) (xs ys : List LockInfo) → IsJoin g h k → ListsRegions g xs → ListsRegions h ys → ListsRegions k (xs ++ ys)
lists_join g h k xs ys join p q = record {
  regions = All-append (IsRegion k) xs ys (All-weaker (IsRegion g) (IsRegion k) (region_left g h k join) xs p.regions) (All-weaker (IsRegion h) (IsRegion k) (region_right g h k join) ys q.regions);
  complete = λ x region. elim (region_cases g h k join x region) [
    | inl left ↦ Contains-append_left xs ys x (p.complete x left)
    | inr right ↦ Contains-append_right xs ys x (q.complete x right)
  ];
  once = distinct-append xs ys p.once q.once (recursion_from_All (λ x. All (λ y. same_start x y ≡ false) ys) xs (All-weaker (IsRegion g) (λ x. All (λ y. same_start x y ≡ false) ys) apart xs p.regions));
}
  where
    apart : (x : LockInfo) → IsRegion g x → All (λ y. same_start x y ≡ false) ys
    apart x region = All-weaker (IsRegion h) (λ y. same_start x y ≡ false) (λ y other. and_right (eqb x.span.lo y.span.lo) (same_owner x.owner y.owner) (owners_apart g h k join x y region other)) ys q.regions

-- a list of all regions that is sorted is the listing
pub listing_from : (h : FileLocks) (xs ys : List LockInfo) → ListsRegions h xs → IsPermutation xs ys → IsSortedBy (λ (a b : LockInfo). is_lt (lock_cmp a b)) ys → IsListing h ys
listing_from h xs ys lists moved sorted = record {
  regions = All-permutation (IsRegion h) xs ys moved lists.regions;
  complete = λ x region. Contains-permutation xs ys x moved (lists.complete x region);
  rises = λ i j d lt within. before (get_or ys i d) (get_or ys j d) (sorted_far (λ (a b : LockInfo). is_lt (lock_cmp a b)) locks_weak ys sorted i j d (omega arith) within) (distinct_at ys i j d once lt within);
}
  where
    once : IsDistinct same_start ys
    once = IsDistinct-IsPermutation same_start same_start_comm xs ys moved lists.once

    before : (a b : LockInfo) → is_lt (lock_cmp b a) ≡ false → same_start a b ≡ false → IsBefore a b
    before a b not_less differ = go (lock_cmp b a) refl
      where
        go : (o : Ordering) → lock_cmp b a ≡ o → IsBefore a b
        go Less e = absurd (false≢true (sym not_less ∙ ap is_lt e))
        go Equal e = absurd (both_ways (same_start a b) differ (start_back b a (start_from b a e)))
        go Greater e = before_from a b (back_less lock_cmp locks_total b a e)

-- `new` has what `old` has and then the row's regions that begin below byte `from`, and no region goes on across `from`
pub record Listed (r : OwnerLocks) (from : ℕ) (old new : List LockInfo) : Type 0 where
  pub more : List LockInfo
  pub is : new ≡ old ++ more
  pub edge : (b : ℕ) (m : Mode) → b + 1 ≡ from → value_at r.spans b ≡ Some m → value_at r.spans from ≢ Some m
  pub each : All (λ (x : LockInfo). (x.owner ≡ r.owner) × IsRun (value_at r.spans) x.span x.mode × (x.span.lo < from)) more
  pub complete : (x : LockInfo) → x.owner ≡ r.owner → IsRun (value_at r.spans) x.span x.mode → x.span.lo < from → Contains more x
  pub once : IsDistinct same_start more

pub listed-start : (r : OwnerLocks) (old : List LockInfo) → Listed r 0 old old
listed-start r old = record {
  more = [];
  is = sym (append-nil old);
  edge = λ b m e is. absurd (omega arith);
  each = All-nil (λ (x : LockInfo). (x.owner ≡ r.owner) × IsRun (value_at r.spans) x.span x.mode × (x.span.lo < 0));
  complete = λ x e run lt. absurd (omega arith);
  once = distinct-nil;
}

module _ (r : OwnerLocks) (from : ℕ) (old new : List LockInfo) (l : Listed r from old new) (x : LockInfo) (first : IsFirstRegion r (rest_from from) None x) where
  starts_late : from ≤ x.span.lo
  starts_late =
      let f = value_at r.spans in
      let above = first.first.above in
      let ends = first.ends in
      elim (cases_lt x.span.lo from) [
        | inl lt ↦
            let here : f from ≡ Some x.mode = first.region.all from (omega arith) (omega arith) in
            let before : f (from - 1) ≡ Some x.mode = first.region.all (from - 1) (omega arith) (omega arith) in
            absurd (l.edge (from - 1) x.mode (omega arith) before here)
        | inr le ↦ le
      ]

  -- a region that begins at `from` or above, and no later than x, is x
  only_one : (y : LockInfo) → y.owner ≡ r.owner → IsRun (value_at r.spans) y.span y.mode → from ≤ y.span.lo → y.span.lo < x.span.hi + 1 → y ≡ x
  only_one y owner run late within =
      let f = value_at r.spans in
      let starts = first.starts in
      let here : f y.span.lo ≡ Some y.mode = run.all y.span.lo (omega arith) run.ordered in
      let no_earlier : first.byte ≤ y.span.lo = elim (cases_lt y.span.lo first.byte) [
        | inl lt ↦ absurd (first.first.none_before y.span.lo late lt (rw here refl))
        | inr le ↦ le
      ] in
      let same = runs_are_one f y.span x.span y.mode x.mode y.span.lo run first.region (omega arith, run.ordered) (omega arith, omega arith) in
      lock_one y x (owner ∙ sym first.owner) same.1 same.0

  apart_from : (y : LockInfo) → (y.owner ≡ r.owner) × IsRun (value_at r.spans) y.span y.mode × (y.span.lo < from) → All (λ z. same_start y z ≡ false) (x ∷ [])
  apart_from y h zero d lt = let late = starts_late in and_left (eqb y.span.lo x.span.lo) (same_owner y.owner x.owner) (ne_eqb y.span.lo x.span.lo (λ e. absurd (omega (arith, h.2))))
  apart_from y h (suc k) d lt = absurd (omega arith)

  pub listed-more : Listed r (x.span.hi + 1) old (new ++ x ∷ [])
  listed-more = record {
    more = l.more ++ x ∷ [];
    is = rw (l.is) (append_assoc old l.more (x ∷ []));
    edge = λ b m e is.
        let hi : b ≡ x.span.hi = omega arith in
        let last : value_at r.spans x.span.hi ≡ Some x.mode = first.region.all x.span.hi first.region.ordered (omega arith) in
        let same : m ≡ x.mode = let here : value_at r.spans x.span.hi ≡ Some m = rw (← hi) is in cc in
        rw same first.region.ends;
    each = All-push (λ (y : LockInfo). (y.owner ≡ r.owner) × IsRun (value_at r.spans) y.span y.mode × (y.span.lo < x.span.hi + 1)) l.more x
        (All-weaker (λ (y : LockInfo). (y.owner ≡ r.owner) × IsRun (value_at r.spans) y.span y.mode × (y.span.lo < from)) (λ (y : LockInfo). (y.owner ≡ r.owner) × IsRun (value_at r.spans) y.span y.mode × (y.span.lo < x.span.hi + 1)) (λ y h. (h.0, h.1, let late = starts_late in let ordered = first.region.ordered in omega (arith, h.2))) l.more l.each)
        (first.owner, first.region, let ordered = first.region.ordered in omega arith);
    complete = λ y owner run lt. elim (cases_lt y.span.lo from) [
      | inl before ↦ Contains-append_left l.more (x ∷ []) y (l.complete y owner run before)
      | inr late ↦ subst (λ (z : LockInfo). Contains (l.more ++ x ∷ []) z) (sym (only_one y owner run late lt)) (Contains-push l.more x)
    ];
    once = distinct-append l.more (x ∷ []) l.once (distinct-one x) (recursion_from_All (λ y. All (λ z. same_start y z ≡ false) (x ∷ [])) l.more (All-weaker (λ (y : LockInfo). (y.owner ≡ r.owner) × IsRun (value_at r.spans) y.span y.mode × (y.span.lo < from)) (λ y. All (λ z. same_start y z ≡ false) (x ∷ [])) apart_from l.more l.each));
  }

-- if nothing is held from `from` on, all regions of the row are listed
pub listed-end : (r : OwnerLocks) (from : ℕ) (old new : List LockInfo) → Listed r from old new → NothingFrom (value_at r.spans) from → (more : List LockInfo) × (new ≡ old ++ more) × ListsRegions (locks_of r) more
listed-end r from old new l none = (
  l.more,
  l.is,
  record {
    regions = All-weaker (λ (x : LockInfo). (x.owner ≡ r.owner) × IsRun (value_at r.spans) x.span x.mode × (x.span.lo < from)) (IsRegion (locks_of r)) (λ x h. own_region r x h.0 h.1) l.more l.each;
    complete = λ x region.
        let own = region_own r x region in
        elim (cases_lt x.span.lo from) [
          | inl lt ↦ l.complete x own.0 own.1 lt
          | inr le ↦
              let here = own.1.all x.span.lo (omega arith) own.1.ordered in
              let empty = none x.span.lo le in
              absurd cc
        ];
    once = l.once;
  },
)

owners_differ : (a b : Owner) → owner_cmp a b ≡ Less → same_owner a b ≡ false
owners_differ a b less = elim (cases_Bool (same_owner a b)) [
  | inl same ↦
      let here : owner_cmp b b ≡ Less = subst (λ (o : Owner). owner_cmp o b ≡ Less) (owner_exact a b same) less in
      let itself : owner_cmp b b ≡ Equal = tied_itself owners_total b in
      absurd cc
  | inr differ ↦ differ
]

-- a region that comes before another one begins elsewhere or is of another owner
before_differ : (a b : LockInfo) → IsBefore a b → same_start a b ≡ false
before_differ a b (inl lt) = and_left (eqb a.span.lo b.span.lo) (same_owner a.owner b.owner) (ne_eqb a.span.lo b.span.lo (λ e. absurd (omega arith)))
before_differ a b (inr h) = and_right (eqb a.span.lo b.span.lo) (same_owner a.owner b.owner) (owners_differ a.owner b.owner h.1)

distinct_from : (xs : List LockInfo) → AllPairs IsBefore xs → IsDistinct same_start xs
unfolding IsDistinct
distinct_from [] rises = tt
distinct_from (x ∷ xs) rises = (
  recursion_from_All (λ y. same_start x y ≡ false) xs (λ k d lt. before_differ x (get_or xs k d) (rises 0 (suc k) d (omega arith) (omega arith))),
  distinct_from xs (λ i j d lt within. rises (suc i) (suc j) d (omega arith) (omega arith)),
)

-- a listing lists each region once
pub lists_listing : (h : FileLocks) (xs : List LockInfo) → IsListing h xs → ListsRegions h xs
lists_listing h xs l = record { regions = l.regions; complete = l.complete; once = distinct_from xs l.rises }
