-- The order of owners, the rows of a file, and what changes of rows do to the locks.
use Rattle.std.proofs.Common.{◌≡◌, ◌≢◌, ◌⊎◌, ℕ, ◌<◌, refl, ap, sym, ◌∙◌, subst, inl, inr, arith, zero, suc, ◌≤◌, Bool, true, false, ◌&&◌, not, eqb, eq-eqb, length, get_or, set, List, [], ◌∷◌, Result, Ok, Err, MatchResult, add-one, ◌+◌, ◌-◌, ne_eqb, leb, ltb, take, drop}
use Rattle.std.proofs.lemmas.Cmp.{ranked, then_total, on_total, nat_cmp_total, tied_itself}
use Rattle.std.specs.Cmp.{IsTotalOrder}
use Rattle.std.specs.Ordering.{nat_cmp, ordering_then, ordering_reverse, is_lt, ordering_index}
use Rattle.std.specs.declared.cmp.Ordering.{Ordering}
use Rattle.std.specs.declared.cmp.Ordering.TheVariants.{Less, Equal, Greater}
use Rattle.model.specs.declared.owner.Kind.{Kind}
use Rattle.model.specs.declared.owner.Kind.TheVariants.{OfProcess, OfDescription}
use Rattle.model.specs.declared.owner.Owner.{Owner}
use Rattle.model.specs.rule.Owners.{kind_cmp, owner_cmp, same_owner}
use Rattle.lock_table.specs.code.Rows.{flag_of, mark_of, row_cmp, HoldsSome, AllAfter, AreRows, IsRowAt, IsGap, IsSameRow}
use Rattle.std.specs.List.{insert, remove, filter, AllWithin, All, AllZip}
use Rattle.std.specs.List.Sorted.{IsSortedBy, IsNonDecreasingBy, IsBinarySearchResult, IsSearchInRange}
use Rattle.std.proofs.lemmas.Bool.{cases_Bool, and_parts, and_from, and_right, eqb-true, both_ways, and_left, ltb-true, ltb-false, leb-true, leb-false, lt-ltb, cases_lt}
use Rattle.std.proofs.lemmas.List.Sorted.{searchable_from_sorted}
use Rattle.intervals.specs.rule.Bytes.{nothing}
use Rattle.intervals.specs.rule.Runs.{value_at}
use Rattle.model.specs.rule.Locks.{replace, without_owner_anywhere}
use Rattle.lock_table.specs.declared.owner_locks.OwnerLocks.{OwnerLocks}
use Rattle.lock_table.specs.rule.Tables.{rows_held, TableParts}
use Rattle.model.proofs.OwnerLaws.{owner_exact, owner_refl}
use Rattle.std.proofs.lemmas.List.{length-take, length-drop, get_or-take, get_or-drop, drop_more}

kind_rank : Kind → ℕ
kind_rank OfProcess = 0
kind_rank OfDescription = 1

kind_total : IsTotalOrder kind_cmp
unfolding kind_rank
kind_total = subst IsTotalOrder (λ i a b. is a b i) (on_total kind_rank nat_cmp_total)
  where
    is : (a b : Kind) → nat_cmp (kind_rank a) (kind_rank b) ≡ kind_cmp a b
    is OfProcess OfProcess = refl
    is OfProcess OfDescription = refl
    is OfDescription OfProcess = refl
    is OfDescription OfDescription = refl

pub owners_total : IsTotalOrder owner_cmp
owners_total = then_total (on_total (λ (o : Owner). o.node) nat_cmp_total) (then_total (on_total (λ (o : Owner). o.incarnation) nat_cmp_total) (then_total (on_total (λ (o : Owner). o.kind) kind_total) (on_total (λ (o : Owner). o.number) nat_cmp_total)))

-- what an order by one thing and then by another says of the two
pub then_equal : (p q : Ordering) → ordering_then p q ≡ Equal → (p ≡ Equal) × (q ≡ Equal)
then_equal Less q h = absurd cc
then_equal Equal q h = (refl, h)
then_equal Greater q h = absurd cc

pub then_less : (p q : Ordering) → ordering_then p q ≡ Less → (p ≡ Less) ⊎ ((p ≡ Equal) × (q ≡ Less))
then_less Less q h = inl refl
then_less Equal q h = inr (refl, h)
then_less Greater q h = absurd cc

pub nat_cmp_equal : (x y : ℕ) → nat_cmp x y ≡ Equal → x ≡ y
nat_cmp_equal x y h = ranked x y Equal (sym h)

pub nat_cmp_less : (x y : ℕ) → nat_cmp x y ≡ Less → x < y
nat_cmp_less x y h = ranked x y Less (sym h)

kind_equal : (a b : Kind) → kind_cmp a b ≡ Equal → a ≡ b
kind_equal OfProcess OfProcess h = refl
kind_equal OfProcess OfDescription h = absurd cc
kind_equal OfDescription OfProcess h = absurd cc
kind_equal OfDescription OfDescription h = refl

-- two owners that compare as equal are equal
pub owner_equal : (a b : Owner) → owner_cmp a b ≡ Equal → a ≡ b
owner_equal a b h =
    let first = then_equal _ _ h in
    let second = then_equal _ _ first.1 in
    let third = then_equal _ _ second.1 in
    let nodes = nat_cmp_equal _ _ first.0 in
    let incarnations = nat_cmp_equal _ _ second.0 in
    let kinds = kind_equal _ _ third.0 in
    let numbers = nat_cmp_equal _ _ third.1 in
    λ i. record { node = nodes i; incarnation = incarnations i; kind = kinds i; number = numbers i }

pub cases_not_greater : (o : Ordering) → o ≢ Greater → (o ≡ Less) ⊎ (o ≡ Equal)
cases_not_greater Less h = inl refl
cases_not_greater Equal h = inr refl
cases_not_greater Greater h = absurd (h refl)

pub owner_not_greater : (a : Owner) → owner_cmp a a ≢ Greater
owner_not_greater a e = let h : owner_cmp a a ≡ Equal = tied_itself owners_total a in absurd cc

module _ {K : Type 0} (R : K → K → Ordering) (total : IsTotalOrder R) where
  pub not_greater_trans : (a b c : K) → R a b ≢ Greater → R b c ≢ Greater → R a c ≢ Greater
  not_greater_trans a b c p q e = elim (cases_not_greater (R a b) p) [
    | inl less ↦ elim (cases_not_greater (R b c) q) [
      | inl more ↦ let h = total.trans a b c less more in absurd cc
      | inr same ↦
          let back : R c b ≡ Equal = total.antisymm c b ∙ ap ordering_reverse same in
          let h : R c a ≡ R b a = total.congr c b a back in
          let f : R a c ≡ R a b = total.antisymm a c ∙ ap ordering_reverse h ∙ sym (total.antisymm a b) in
          absurd cc
    ]
    | inr same ↦ let h : R a c ≡ R b c = total.congr a b c same in absurd (q (sym h ∙ e))
  ]

  pub back_less : (a b : K) → R a b ≡ Greater → R b a ≡ Less
  back_less a b h = total.antisymm b a ∙ ap ordering_reverse h

  pub back_greater : (a b : K) → R a b ≡ Less → R b a ≡ Greater
  back_greater a b h = total.antisymm b a ∙ ap ordering_reverse h

  pub greater_trans : (a b c : K) → R a b ≡ Greater → R b c ≡ Greater → R a c ≡ Greater
  greater_trans a b c p q = back_greater c a (total.trans c b a (back_less b c q) (back_less a b p))

-- an owner in a file, as a place among the rows
abbrev pub Place : Type 0
Place = ℕ × Owner

-- the order of places: by file, then by flag, then by owner
abbrev pub place_cmp : Place → Place → Ordering
place_cmp a b = ordering_then (nat_cmp (mark_of a.0 a.1) (mark_of b.0 b.1)) (owner_cmp a.1 b.1)

pub places_total : IsTotalOrder place_cmp
places_total = then_total (on_total (λ (p : Place). mark_of p.0 p.1) nat_cmp_total) (on_total (λ (p : Place). p.1) owners_total)

-- files are equal where their owners and their marks are
file_equal : (f g : ℕ) (o p : Owner) → o ≡ p → mark_of f o ≡ mark_of g p → f ≡ g
file_equal f g o p owners marks = let flags : flag_of o ≡ flag_of p = ap (λ (q : Owner). flag_of q) owners in omega arith

pub place_equal : (a b : Place) → place_cmp a b ≡ Equal → (a.0 ≡ b.0) × (a.1 ≡ b.1)
place_equal a b h =
    let parts = then_equal _ _ h in
    let owners = owner_equal _ _ parts.1 in
    (file_equal a.0 b.0 a.1 b.1 owners (nat_cmp_equal _ _ parts.0), owners)

pub place_itself : (f : ℕ) (o : Owner) → place_cmp (f, o) (f, o) ≡ Equal
place_itself f o = tied_itself places_total (f, o)

-- whether the row is of this owner in this file
abbrev pub is_of : OwnerLocks → ℕ → Owner → Bool
is_of r file owner = (eqb r.file file) && same_owner r.owner owner

-- a row that is of an owner in a file has that file and owner
pub row_place : (r : OwnerLocks) (file : ℕ) (owner : Owner) → is_of r file owner ≡ true → (r.file ≡ file) × (r.owner ≡ owner)
row_place r file owner h = let parts = and_parts _ _ h in (eqb-true _ _ parts.0, owner_exact _ _ parts.1)

pub is_of_equal : (r : OwnerLocks) (file : ℕ) (owner : Owner) → row_cmp r file owner ≡ Equal → is_of r file owner ≡ true
is_of_equal r file owner h =
    let at : (r.file ≡ file) × (r.owner ≡ owner) = place_equal (r.file, r.owner) (file, owner) h in
    and_from (eqb r.file file) (same_owner r.owner owner) (eq-eqb r.file file at.0) (rw at.1 (owner_refl owner))

equal_is_of : (r : OwnerLocks) (file : ℕ) (owner : Owner) → is_of r file owner ≡ true → row_cmp r file owner ≡ Equal
equal_is_of r file owner h = let at = row_place r file owner h in rw (at.0, at.1) (place_itself file owner)

pub is_of_less : (r : OwnerLocks) (file : ℕ) (owner : Owner) → row_cmp r file owner ≡ Less → is_of r file owner ≡ false
is_of_less r file owner h = elim (cases_Bool (is_of r file owner)) [ inl is ↦ let e = equal_is_of r file owner is in absurd cc | inr differ ↦ differ ]

is_of_greater : (r : OwnerLocks) (file : ℕ) (owner : Owner) → row_cmp r file owner ≡ Greater → is_of r file owner ≡ false
is_of_greater r file owner h = elim (cases_Bool (is_of r file owner)) [ inl is ↦ let e = equal_is_of r file owner is in absurd cc | inr differ ↦ differ ]

-- a row that isn't of one place and is of another shows that the places differ
apart : (r : OwnerLocks) (file f : ℕ) (owner o : Owner) → is_of r file owner ≡ false → is_of r f o ≡ true → ((eqb file f) && same_owner owner o) ≡ false
apart r file f owner o not_this is = elim (cases_Bool ((eqb file f) && same_owner owner o)) [
  | inl same ↦
      let parts = and_parts _ _ same in
      let files : f ≡ file = sym (eqb-true _ _ parts.0) in
      let owners : o ≡ owner = sym (owner_exact _ _ parts.1) in
      absurd (both_ways _ not_this (rw (← files, ← owners) is))
  | inr no_match ↦ no_match
]

-- rows that stand behind a later place stand behind an earlier one
pub all_after_trans : (file f : ℕ) (owner o : Owner) (l : List OwnerLocks) → place_cmp (file, owner) (f, o) ≡ Greater → AllAfter file owner l → AllAfter f o l
all_after_trans file f owner o [] later h = tt
all_after_trans file f owner o (s ∷ rest) later h = (greater_trans place_cmp places_total (s.file, s.owner) (file, owner) (f, o) h.0 later, all_after_trans file f owner o rest later h.1)

all_after_at : (file : ℕ) (owner : Owner) (l : List OwnerLocks) (i : ℕ) (d : OwnerLocks) → AllAfter file owner l → i < length l → row_cmp (get_or l i d) file owner ≡ Greater
all_after_at file owner [] i d h lt = absurd (omega arith)
all_after_at file owner (s ∷ rest) zero d h lt = h.0
all_after_at file owner (s ∷ rest) (suc i) d h lt = all_after_at file owner rest i d h.1 (omega arith)

all_after_from : (file : ℕ) (owner : Owner) (l : List OwnerLocks) → ((k : ℕ) (d : OwnerLocks) → k < length l → row_cmp (get_or l k d) file owner ≡ Greater) → AllAfter file owner l
all_after_from file owner [] h = tt
all_after_from file owner (s ∷ rest) h = (h 0 s (omega arith), all_after_from file owner rest (λ k d lt. h (suc k) d (omega arith)))

-- the rows are sorted as a binary search needs
rows_sorted : (l : List OwnerLocks) → AreRows l → IsSortedBy (λ (a b : OwnerLocks). is_lt (place_cmp (a.file, a.owner) (b.file, b.owner))) l
rows_sorted [] rows k d low lt = absurd (omega arith)
rows_sorted (r ∷ rest) rows zero d low lt = let h : row_cmp (get_or rest 0 d) r.file r.owner ≡ Greater = all_after_at r.file r.owner rest 0 d rows.1 (omega arith) in rw h refl
rows_sorted (r ∷ rest) rows (suc k) d low lt = rw add-one (rw add-one at (rows_sorted rest rows.2 k d (omega arith) (omega arith)))

pub rows_rise : (l : List OwnerLocks) (file : ℕ) (owner : Owner) → AreRows l → IsNonDecreasingBy (λ (r : OwnerLocks). ordering_index (row_cmp r file owner)) l
rows_rise l file owner rows = searchable_from_sorted places_total (λ (r : OwnerLocks). (r.file, r.owner)) l (file, owner) (rows_sorted l rows)

-- what a binary search finds is a row at its place, or a gap
pub row_at_from : (l : List OwnerLocks) (i : ℕ) (file : ℕ) (owner : Owner) → AreRows l → i < length l → ((d : OwnerLocks) → row_cmp (get_or l i d) file owner ≡ Equal) → IsRowAt l i file owner
row_at_from [] i file owner rows lt h = absurd (omega arith)
row_at_from (r ∷ rest) zero file owner rows lt h = h r
row_at_from (r ∷ rest) (suc i) file owner rows lt h =
    let at = place_equal ((get_or rest i r).file, (get_or rest i r).owner) (file, owner) (h r) in
    let after : row_cmp (get_or rest i r) r.file r.owner ≡ Greater = all_after_at r.file r.owner rest i r rows.1 (omega arith) in
    let place_after : place_cmp (file, owner) (r.file, r.owner) ≡ Greater = rw (← at.0, ← at.1) after in
    (back_less place_cmp places_total (file, owner) (r.file, r.owner) place_after, row_at_from rest i file owner rows.2 (omega arith) h)

pub gap_from : (l : List OwnerLocks) (i : ℕ) (file : ℕ) (owner : Owner) → i ≤ length l → AllWithin (λ r. row_cmp r file owner ≡ Less) l 0 i → AllWithin (λ r. row_cmp r file owner ≡ Greater) l i (length l) → IsGap l i file owner
gap_from [] zero file owner le below above = tt
gap_from [] (suc i) file owner le below above = absurd (omega arith)
gap_from (r ∷ rest) zero file owner le below above = all_after_from file owner (r ∷ rest) (λ k d lt. above k d (omega arith) lt)
gap_from (r ∷ rest) (suc i) file owner le below above = (below 0 r (omega arith) (omega arith), gap_from rest i file owner (omega arith) (λ k d low lt. below (suc k) d (omega arith) (omega arith)) (λ k d low lt. above (suc k) d (omega arith) (omega arith)))

pub searched : (l : List OwnerLocks) (file : ℕ) (owner : Owner) (r : Result ℕ ℕ) → AreRows l → IsSearchInRange r (length l) → IsBinarySearchResult (λ (s : OwnerLocks). row_cmp s file owner) l r → MatchResult r (λ i. IsRowAt l i file owner) (λ i. IsGap l i file owner)
searched l file owner (Ok i) rows bound at = row_at_from l i file owner rows bound at
searched l file owner (Err i) rows bound split =
    let point = split (rows_rise l file owner rows) in
    gap_from l i file owner bound point.0 point.1

-- an owner whose place all rows stand behind holds nothing
pub held-none : (l : List OwnerLocks) (file : ℕ) (owner : Owner) → AllAfter file owner l → rows_held l file owner ≡ nothing
unfolding rows_held
held-none [] file owner h = refl
held-none (r ∷ rest) file owner h = rw (is_of_greater r file owner h.0) (held-none rest file owner h.1)

pub held-gap : (l : List OwnerLocks) (i : ℕ) (file : ℕ) (owner : Owner) → IsGap l i file owner → rows_held l file owner ≡ nothing
unfolding rows_held
held-gap [] zero file owner h = refl
held-gap [] (suc i) file owner h = absurd h
held-gap (r ∷ rest) zero file owner h = held-none (r ∷ rest) file owner h
held-gap (r ∷ rest) (suc i) file owner h = rw (is_of_less r file owner h.0) (held-gap rest i file owner h.1)

-- the row at its place has the owner's locks
pub held-at : (l : List OwnerLocks) (i : ℕ) (file : ℕ) (owner : Owner) (r : OwnerLocks) → IsRowAt l i file owner → r ≡ get_or l i r → rows_held l file owner ≡ value_at r.spans
unfolding rows_held
held-at [] i file owner r h is = absurd h
held-at (s ∷ rest) zero file owner r h is = rw (is_of_equal s file owner h, is) refl
held-at (s ∷ rest) (suc i) file owner r h is = rw (is_of_less s file owner h.0) (held-at rest i file owner r h.1 is)

pub place_below : (l : List OwnerLocks) (i : ℕ) (file : ℕ) (owner : Owner) → IsRowAt l i file owner → i < length l
place_below [] i file owner h = absurd h
place_below (s ∷ rest) zero file owner h = omega arith
place_below (s ∷ rest) (suc i) file owner h = omega (arith, place_below rest i file owner h.1)

pub gap_within : (l : List OwnerLocks) (i : ℕ) (file : ℕ) (owner : Owner) → IsGap l i file owner → i ≤ length l
gap_within [] zero file owner h = omega arith
gap_within [] (suc i) file owner h = absurd h
gap_within (r ∷ rest) zero file owner h = omega arith
gap_within (r ∷ rest) (suc i) file owner h = omega (arith, gap_within rest i file owner h.1)

-- the row at a place has the place's file and owner
pub place_of : (l : List OwnerLocks) (i : ℕ) (file : ℕ) (owner : Owner) (r : OwnerLocks) → IsRowAt l i file owner → r ≡ get_or l i r → (r.file ≡ file) × (r.owner ≡ owner)
place_of [] i file owner r h is = absurd h
place_of (s ∷ rest) zero file owner r h is = rw is (place_equal (s.file, s.owner) (file, owner) h)
place_of (s ∷ rest) (suc i) file owner r h is = place_of rest i file owner r h.1 is

-- the locks after the row at a place gets other spans
pub held-set : (l : List OwnerLocks) (i : ℕ) (file : ℕ) (owner : Owner) (r : OwnerLocks) → IsRowAt l i file owner → r.file ≡ file → r.owner ≡ owner → (f : ℕ) (o : Owner) → rows_held (set l i r) f o ≡ replace (rows_held l) file owner (value_at r.spans) f o
unfolding rows_held
held-set [] i file owner r h files owners f o = absurd h
held-set (s ∷ rest) zero file owner r h files owners f o =
    let at : (s.file ≡ file) × (s.owner ≡ owner) = place_equal (s.file, s.owner) (file, owner) h in
    rw (files, owners, at.0, at.1) (elim (cases_Bool ((eqb file f) && same_owner owner o)) [ inl same ↦ rw same refl | inr differ ↦ rw differ refl ])
held-set (s ∷ rest) (suc i) file owner r h files owners f o =
    let more = held-set rest i file owner r h.1 files owners f o in
    elim (cases_Bool (is_of s f o)) [
      | inl this ↦ rw (this, apart s file f owner o (is_of_less s file owner h.0) this) refl
      | inr other ↦ rw other more
    ]

-- the locks after a row is inserted in its gap
pub held-insert : (l : List OwnerLocks) (i : ℕ) (r : OwnerLocks) → IsGap l i r.file r.owner → (f : ℕ) (o : Owner) → rows_held (insert l i r) f o ≡ replace (rows_held l) r.file r.owner (value_at r.spans) f o
unfolding rows_held
held-insert [] zero r h f o = refl
held-insert [] (suc i) r h f o = absurd h
held-insert (s ∷ rest) zero r h f o = refl
held-insert (s ∷ rest) (suc i) r h f o =
    let more = held-insert rest i r h.1 f o in
    elim (cases_Bool (is_of s f o)) [
      | inl this ↦ rw (this, apart s r.file f r.owner o (is_of_less s r.file r.owner h.0) this) refl
      | inr other ↦ rw other more
    ]

-- the locks after a row is removed
pub held-remove : (l : List OwnerLocks) (i : ℕ) (file : ℕ) (owner : Owner) → AreRows l → IsRowAt l i file owner → (f : ℕ) (o : Owner) → rows_held (remove l i) f o ≡ replace (rows_held l) file owner nothing f o
unfolding rows_held
held-remove [] i file owner rows h f o = absurd h
held-remove (s ∷ rest) zero file owner rows h f o =
    let at : (s.file ≡ file) × (s.owner ≡ owner) = place_equal (s.file, s.owner) (file, owner) h in
    rw (at.0, at.1) (elim (cases_Bool ((eqb file f) && same_owner owner o)) [
      | inl same ↦
          let parts = and_parts _ _ same in
          let files : f ≡ s.file = sym (at.0 ∙ eqb-true _ _ parts.0) in
          let owners : o ≡ s.owner = sym (at.1 ∙ owner_exact _ _ parts.1) in
          let none : rows_held rest f o ≡ nothing = rw (files, owners) (held-none rest s.file s.owner rows.1) in
          rw (same, none) refl
      | inr differ ↦ rw differ refl
    ])
held-remove (s ∷ rest) (suc i) file owner rows h f o =
    let more = held-remove rest i file owner rows.2 h.1 f o in
    elim (cases_Bool (is_of s f o)) [
      | inl this ↦ rw (this, apart s file f owner o (is_of_less s file owner h.0) this) refl
      | inr other ↦ rw other more
    ]

-- an owner without a row in the file holds nothing there
pub held-same : (l : List OwnerLocks) (i : ℕ) (file : ℕ) (owner : Owner) → IsGap l i file owner → (f : ℕ) (o : Owner) → rows_held l f o ≡ replace (rows_held l) file owner nothing f o
held-same l i file owner gap f o = elim (cases_Bool ((eqb file f) && same_owner owner o)) [
  | inl same ↦
      let parts = and_parts _ _ same in
      let files : f ≡ file = sym (eqb-true _ _ parts.0) in
      let owners : o ≡ owner = sym (owner_exact _ _ parts.1) in
      let none : rows_held l f o ≡ nothing = rw (files, owners) (held-gap l i file owner gap) in
      rw same none
  | inr differ ↦ rw differ refl
]

-- whether the row is of another owner
abbrev pub is_of_other : Owner → OwnerLocks → Bool
is_of_other owner r = not (same_owner r.owner owner)

-- the locks after all rows of an owner are removed
pub held-filter : (l : List OwnerLocks) (owner : Owner) (f : ℕ) (o : Owner) → rows_held (filter (is_of_other owner) l) f o ≡ without_owner_anywhere (rows_held l) owner f o
unfolding rows_held
held-filter [] owner f o = elim (cases_Bool (same_owner owner o)) [ inl same ↦ rw same refl | inr differ ↦ rw differ refl ]
held-filter (s ∷ rest) owner f o =
    let more = held-filter rest owner f o in
    elim (cases_Bool (same_owner s.owner owner)) [
      | inl this ↦ elim (cases_Bool (same_owner owner o)) [
        | inl same ↦ rw (this, same, rw same at more) refl
        | inr differ ↦
            let other : same_owner s.owner o ≡ false = rw (owner_exact s.owner owner this) differ in
            rw (this, differ, and_right (eqb s.file f) (same_owner s.owner o) other, rw differ at more) refl
      ]
      | inr kept ↦ elim (cases_Bool (is_of s f o)) [
        | inl is ↦
            let at = row_place s f o is in
            let back : same_owner owner o ≡ false = elim (cases_Bool (same_owner owner o)) [
              | inl same ↦ absurd (both_ways _ kept (rw (at.1, owner_exact owner o same) (owner_refl o)))
              | inr differ ↦ differ
            ] in
            rw (kept, is, back) refl
        | inr other ↦ rw (kept, other) more
      ]
    ]

-- changes of rows keep them behind a place
all_after-set : (l : List OwnerLocks) (i : ℕ) (file f : ℕ) (owner o : Owner) (r : OwnerLocks) → IsRowAt l i file owner → r.file ≡ file → r.owner ≡ owner → AllAfter f o l → AllAfter f o (set l i r)
all_after-set [] i file f owner o r h files owners after = absurd h
all_after-set (s ∷ rest) zero file f owner o r h files owners after =
    let at : (s.file ≡ file) × (s.owner ≡ owner) = place_equal (s.file, s.owner) (file, owner) h in
    (rw (files, owners, ← at.0, ← at.1) after.0, after.1)
all_after-set (s ∷ rest) (suc i) file f owner o r h files owners after = (after.0, all_after-set rest i file f owner o r h.1 files owners after.1)

all_after-remove : (l : List OwnerLocks) (i : ℕ) (f : ℕ) (o : Owner) → AllAfter f o l → AllAfter f o (remove l i)
all_after-remove [] zero f o after = tt
all_after-remove [] (suc i) f o after = tt
all_after-remove (s ∷ rest) zero f o after = after.1
all_after-remove (s ∷ rest) (suc i) f o after = (after.0, all_after-remove rest i f o after.1)

all_after-insert : (l : List OwnerLocks) (i : ℕ) (f : ℕ) (o : Owner) (r : OwnerLocks) → AllAfter f o l → row_cmp r f o ≡ Greater → AllAfter f o (insert l i r)
all_after-insert [] zero f o r after h = (h, tt)
all_after-insert [] (suc i) f o r after h = (h, tt)
all_after-insert (s ∷ rest) zero f o r after h = (h, after)
all_after-insert (s ∷ rest) (suc i) f o r after h = (after.0, all_after-insert rest i f o r after.1 h)

-- changes of rows keep them in order
pub rows-set : (l : List OwnerLocks) (i : ℕ) (file : ℕ) (owner : Owner) (r : OwnerLocks) → IsRowAt l i file owner → r.file ≡ file → r.owner ≡ owner → HoldsSome (value_at r.spans) → AreRows l → AreRows (set l i r)
rows-set [] i file owner r h files owners some rows = absurd h
rows-set (s ∷ rest) zero file owner r h files owners some rows =
    let at : (s.file ≡ file) × (s.owner ≡ owner) = place_equal (s.file, s.owner) (file, owner) h in
    (some, rw (files, owners, ← at.0, ← at.1) rows.1, rows.2)
rows-set (s ∷ rest) (suc i) file owner r h files owners some rows = (rows.0, all_after-set rest i file s.file owner s.owner r h.1 files owners rows.1, rows-set rest i file owner r h.1 files owners some rows.2)

pub rows-remove : (l : List OwnerLocks) (i : ℕ) → AreRows l → AreRows (remove l i)
rows-remove [] zero rows = tt
rows-remove [] (suc i) rows = tt
rows-remove (s ∷ rest) zero rows = rows.2
rows-remove (s ∷ rest) (suc i) rows = (rows.0, all_after-remove rest i s.file s.owner rows.1, rows-remove rest i rows.2)

all_after-filter : (test : OwnerLocks → Bool) (l : List OwnerLocks) (f : ℕ) (o : Owner) → AllAfter f o l → AllAfter f o (filter test l)
all_after-filter test [] f o after = tt
all_after-filter test (s ∷ rest) f o after =
    let more = all_after-filter test rest f o after.1 in
    elim (cases_Bool (test s)) [ inl kept ↦ rw kept (after.0, more) | inr dropped ↦ rw dropped more ]

pub rows-filter : (test : OwnerLocks → Bool) (l : List OwnerLocks) → AreRows l → AreRows (filter test l)
rows-filter test [] rows = tt
rows-filter test (s ∷ rest) rows =
    let more = rows-filter test rest rows.2 in
    elim (cases_Bool (test s)) [ inl kept ↦ rw kept (rows.0, all_after-filter test rest s.file s.owner rows.1, more) | inr dropped ↦ rw dropped more ]

pub rows-insert : (l : List OwnerLocks) (i : ℕ) (r : OwnerLocks) → IsGap l i r.file r.owner → HoldsSome (value_at r.spans) → AreRows l → AreRows (insert l i r)
rows-insert [] zero r gap some rows = (some, tt, tt)
rows-insert [] (suc i) r gap some rows = absurd gap
rows-insert (s ∷ rest) zero r gap some rows = (some, gap, rows)
rows-insert (s ∷ rest) (suc i) r gap some rows =
    let after : row_cmp r s.file s.owner ≡ Greater = back_greater place_cmp places_total (s.file, s.owner) (r.file, r.owner) gap.0 in
    (rows.0, all_after-insert rest i s.file s.owner r rows.1 after, rows-insert rest i r gap.1 some rows.2)

-- each row holds some byte
pub row_holds : (l : List OwnerLocks) (i : ℕ) (r : OwnerLocks) → AreRows l → i < length l → r ≡ get_or l i r → HoldsSome (value_at r.spans)
row_holds [] i r rows lt is = absurd (omega arith)
row_holds (s ∷ rest) zero r rows lt is = rw is rows.0
row_holds (s ∷ rest) (suc i) r rows lt is = row_holds rest i r rows.2 (omega arith) is

-- an owner that has a row in the file has no gap there
pub row_or_gap : (l : List OwnerLocks) (i j : ℕ) (file : ℕ) (owner : Owner) → IsRowAt l i file owner → IsGap l j file owner → ⊥
row_or_gap [] i j file owner at gap = at
row_or_gap (r ∷ rest) zero zero file owner at gap = cc (at, gap.0)
row_or_gap (r ∷ rest) zero (suc j) file owner at gap = cc (at, gap.0)
row_or_gap (r ∷ rest) (suc i) zero file owner at gap = cc (at.0, gap.0)
row_or_gap (r ∷ rest) (suc i) (suc j) file owner at gap = row_or_gap rest i j file owner at.1 gap.1

-- an owner has one row in a file
pub row_alone : (l : List OwnerLocks) (i j file : ℕ) (owner : Owner) (r q : OwnerLocks) → IsRowAt l i file owner → r ≡ get_or l i r → IsRowAt l j file owner → q ≡ get_or l j q → r ≡ q
row_alone [] i j file owner r q at is also same = absurd at
row_alone (s ∷ rest) zero zero file owner r q at is also same = is ∙ sym same
row_alone (s ∷ rest) zero (suc j) file owner r q at is also same = absurd (let no : ⊥ = cc (at, also.0) in no)
row_alone (s ∷ rest) (suc i) zero file owner r q at is also same = absurd (let no : ⊥ = cc (at.0, also) in no)
row_alone (s ∷ rest) (suc i) (suc j) file owner r q at is also same = row_alone rest i j file owner r q at.1 is also.1 same

-- a row behind a place has the same mark or a greater one
pub after_mark : (r : OwnerLocks) (f : ℕ) (o : Owner) → row_cmp r f o ≡ Greater → mark_of f o ≤ mark_of r.file r.owner
after_mark r f o h = elim (cases_lt (mark_of r.file r.owner) (mark_of f o)) [
  | inl lt ↦ let less : row_cmp r f o ≡ Less = rw (lt-ltb (mark_of r.file r.owner) (mark_of f o) lt) refl in absurd cc
  | inr le ↦ le
]

pub some_row : (l : List OwnerLocks) → 0 < length l → OwnerLocks
some_row [] h = absurd (omega arith)
some_row (r ∷ rest) h = r

-- marks rise along the rows
pub marks_rise : (l : List OwnerLocks) → AreRows l → IsNonDecreasingBy (λ (r : OwnerLocks). mark_of r.file r.owner) l
marks_rise [] rows i j d le lt = absurd (omega arith)
marks_rise (r ∷ rest) rows zero zero d le lt = omega arith
marks_rise (r ∷ rest) rows zero (suc j) d le lt = mark_after rest j rows.1 (omega arith)
  where
    mark_after : (l : List OwnerLocks) (j : ℕ) → AllAfter r.file r.owner l → j < length l → mark_of r.file r.owner ≤ mark_of (get_or l j d).file (get_or l j d).owner
    mark_after [] j h lt = absurd (omega arith)
    mark_after (s ∷ l) zero h lt = after_mark s r.file r.owner h.0
    mark_after (s ∷ l) (suc j) h lt = mark_after l j h.1 (omega arith)
marks_rise (r ∷ rest) rows (suc i) zero d le lt = absurd (omega arith)
marks_rise (r ∷ rest) rows (suc i) (suc j) d le lt = marks_rise rest rows.2 i j d (omega arith) (omega arith)

-- files rise with marks
mark_file : (f g : ℕ) (o p : Owner) → mark_of f o ≤ mark_of g p → f ≤ g
mark_file f g o p le = omega arith

-- files rise along the rows
pub files_rise : (l : List OwnerLocks) → AreRows l → IsNonDecreasingBy (λ (r : OwnerLocks). r.file) l
files_rise l rows i j d le lt = mark_file _ _ (get_or l i d).owner (get_or l j d).owner (marks_rise l rows i j d le lt)

-- the first or the last ones of rows that stand behind a place stand behind it
all_after-take : (l : List OwnerLocks) (n : ℕ) (f : ℕ) (o : Owner) → AllAfter f o l → AllAfter f o (take n l)
all_after-take [] zero f o h = tt
all_after-take [] (suc n) f o h = tt
all_after-take (s ∷ rest) zero f o h = tt
all_after-take (s ∷ rest) (suc n) f o h = (h.0, all_after-take rest n f o h.1)

pub rows-take : (l : List OwnerLocks) (n : ℕ) → AreRows l → AreRows (take n l)
rows-take [] zero rows = tt
rows-take [] (suc n) rows = tt
rows-take (s ∷ rest) zero rows = tt
rows-take (s ∷ rest) (suc n) rows = (rows.0, all_after-take rest n s.file s.owner rows.1, rows-take rest n rows.2)

pub rows-drop : (l : List OwnerLocks) (n : ℕ) → AreRows l → AreRows (drop n l)
rows-drop [] zero rows = tt
rows-drop [] (suc n) rows = tt
rows-drop (s ∷ rest) zero rows = rows
rows-drop (s ∷ rest) (suc n) rows = rows-drop rest n rows.2

pub held_other : (r : OwnerLocks) (rest : List OwnerLocks) (f : ℕ) (o : Owner) → (r.file ≡ f → ⊥) → rows_held (r ∷ rest) f o ≡ rows_held rest f o
unfolding rows_held
held_other r rest f o differ = rw (and_left (eqb r.file f) (same_owner r.owner o) (ne_eqb r.file f differ)) refl

held-drop : (l : List OwnerLocks) (n : ℕ) (f : ℕ) (o : Owner) → AllWithin (λ (r : OwnerLocks). ltb r.file f ≡ true) l 0 n → rows_held (drop n l) f o ≡ rows_held l f o
held-drop [] zero f o below = refl
held-drop [] (suc n) f o below = refl
held-drop (r ∷ rest) zero f o below = refl
held-drop (r ∷ rest) (suc n) f o below =
    let lower : r.file < f = ltb-true _ _ (below 0 r (omega arith) (omega arith)) in
    held-drop rest n f o (λ k d low lt. below (suc k) d (omega arith) (omega arith)) ∙ sym (held_other r rest f o (λ e. absurd (omega arith)))

held-take : (l : List OwnerLocks) (n : ℕ) (f : ℕ) (o : Owner) → AllWithin (λ (r : OwnerLocks). leb r.file f ≡ false) l n (length l) → rows_held (take n l) f o ≡ rows_held l f o
unfolding rows_held
held-take [] zero f o above = refl
held-take [] (suc n) f o above = refl
held-take (r ∷ rest) zero f o above =
    let higher : f < r.file = leb-false _ _ (above 0 r (omega arith) (omega arith)) in
    held-take rest zero f o (λ k d low lt. above (suc k) d (omega arith) (omega arith)) ∙ sym (held_other r rest f o (λ e. absurd (omega arith)))
held-take (r ∷ rest) (suc n) f o above = rw (held-take rest n f o (λ k d low lt. above (suc k) d (omega arith) (omega arith))) refl

-- the rows of file f: the ones from the first that isn't of a lower file to the first of a higher one
module _ (l : List OwnerLocks) (f start end : ℕ) (rows : AreRows l) (within : end ≤ length l) (below : AllWithin (λ (r : OwnerLocks). ltb r.file f ≡ true) l 0 start) (from : AllWithin (λ (r : OwnerLocks). ltb r.file f ≡ false) l start (length l)) (to : AllWithin (λ (r : OwnerLocks). leb r.file f ≡ true) l 0 end) (above : AllWithin (λ (r : OwnerLocks). leb r.file f ≡ false) l end (length l)) where
  pub part_order : start ≤ length l → start ≤ end
  part_order le = elim (cases_lt end start) [
    | inl lt ↦
        let d = some_row l (omega arith) in
        let low = ltb-true _ _ (below end d (omega arith) lt) in
        let high = leb-false _ _ (above end d (omega arith) (omega arith)) in
        absurd (omega arith)
    | inr le ↦ le
  ]

  pub part_rows : AreRows (take (end - start) (drop start l))
  part_rows = rows-take (drop start l) (end - start) (rows-drop l start rows)

  pub part_file : All (λ (r : OwnerLocks). r.file ≡ f) (take (end - start) (drop start l))
  part_file k d lt =
      let count = length-take (end - start) (drop start l) in
      let left = length-drop start l in
      let e : get_or (take (end - start) (drop start l)) k d ≡ get_or l (start + k) d = get_or-take (end - start) (drop start l) k d (omega arith) ∙ get_or-drop start l k d in
      let low = ltb-false _ _ (from (start + k) d (omega arith) (omega arith)) in
      let high = leb-true _ _ (to (start + k) d (omega arith) (omega arith)) in
      rw e (omega arith)

  pub part_held : (o : Owner) → rows_held (take (end - start) (drop start l)) f o ≡ rows_held l f o
  part_held o = held-take (drop start l) (end - start) f o (λ k d low lt. rw (get_or-drop start l k d) (above (start + k) d (omega arith) (omega (arith, length-drop start l)))) ∙ held-drop l start f o below

-- the element at i is the first of the list from i on
pub drop_read : {A : Type 0} (l : List A) (i : ℕ) (x : A) → i < length l → x ≡ get_or l i x → drop i l ≡ x ∷ drop (i + 1) l
drop_read l i x lt is = drop_more l i x lt ∙ rw (← is) refl

-- the first row has the locks of its place
pub held_first : (r : OwnerLocks) (rest : List OwnerLocks) → rows_held (r ∷ rest) r.file r.owner ≡ value_at r.spans
unfolding rows_held
held_first r rest = let itself : is_of r r.file r.owner ≡ true = and_from (eqb r.file r.file) (same_owner r.owner r.owner) (eq-eqb r.file r.file refl) (owner_refl r.owner) in rw itself refl

-- rows that are equal one by one hold the same locks
pub same_held : (a b : List OwnerLocks) → AllZip IsSameRow a b → (f : ℕ) (o : Owner) → rows_held a f o ≡ rows_held b f o
unfolding rows_held
same_held [] [] h f o = refl
same_held [] (s ∷ b) h f o = absurd h
same_held (r ∷ a) [] h f o = absurd h
same_held (r ∷ a) (s ∷ b) h f o = rw (h.0.file, h.0.owner, h.0.bytes, same_held a b h.1 f o) refl

cases_ordering : (o : Ordering) → (o ≡ Less) ⊎ ((o ≡ Equal) ⊎ (o ≡ Greater))
cases_ordering Less = inl refl
cases_ordering Equal = inr (inl refl)
cases_ordering Greater = inr (inr refl)

-- another place than the first row's has the locks of the other rows
held_past : (r : OwnerLocks) (rest : List OwnerLocks) (f : ℕ) (o : Owner) → is_of r f o ≡ false → rows_held (r ∷ rest) f o ≡ rows_held rest f o
unfolding rows_held
held_past r rest f o differ = rw differ refl

-- rows that hold the same locks are equal one by one
pub held_same : (a b : List OwnerLocks) → AreRows a → AreRows b → ((f : ℕ) (o : Owner) → rows_held a f o ≡ rows_held b f o) → AllZip IsSameRow a b
unfolding rows_held
held_same [] [] p q e = tt
held_same [] (s ∷ b) p q e = absurd (q.0.some (sym (held_first s b) ∙ sym (e s.file s.owner)))
held_same (r ∷ a) [] p q e = absurd (p.0.some (sym (held_first r a) ∙ e r.file r.owner))
held_same (r ∷ a) (s ∷ b) p q e = elim (cases_ordering (row_cmp r s.file s.owner)) [
  | inl less ↦
      let after : row_cmp s r.file r.owner ≡ Greater = back_greater place_cmp places_total (r.file, r.owner) (s.file, s.owner) less in
      let all : AllAfter r.file r.owner (s ∷ b) = (after, all_after_trans s.file r.file s.owner r.owner b after q.1) in
      absurd (p.0.some (sym (held_first r a) ∙ e r.file r.owner ∙ held-none (s ∷ b) r.file r.owner all))
  | inr (inl equal) ↦
      let at = place_equal (r.file, r.owner) (s.file, s.owner) equal in
      let bytes : value_at r.spans ≡ value_at s.spans = sym (held_first r a) ∙ e r.file r.owner ∙ rw (at.0, at.1) (held_first s b) in
      (record { file = at.0; owner = at.1; bytes = bytes }, held_same a b p.2 q.2 (λ f o. rest at.0 at.1 f o))
  | inr (inr greater) ↦
      let all : AllAfter s.file s.owner (r ∷ a) = (greater, all_after_trans r.file s.file r.owner s.owner a greater p.1) in
      absurd (q.0.some (sym (held_first s b) ∙ sym (e s.file s.owner) ∙ held-none (r ∷ a) s.file s.owner all))
]
  where
    rest : r.file ≡ s.file → r.owner ≡ s.owner → (f : ℕ) (o : Owner) → rows_held a f o ≡ rows_held b f o
    rest files owners f o = elim (cases_Bool (is_of r f o)) [
      | inl this ↦
          let at = row_place r f o this in
          let first : rows_held a f o ≡ nothing = rw (← at.0, ← at.1) (held-none a r.file r.owner p.1) in
          let second : rows_held b f o ≡ nothing = rw (← at.0, ← at.1, files, owners) (held-none b s.file s.owner q.1) in
          first ∙ sym second
      | inr differ ↦
          let other : is_of s f o ≡ false = rw (← files, ← owners) differ in
          sym (held_past r a f o differ) ∙ e f o ∙ held_past s b f o other
    ]

-- two lists of rows are equal one by one exactly where these parts of them are
pub record Left (a b xs ys : List OwnerLocks) : Type 0 where
  pub to : AllZip IsSameRow xs ys → AllZip IsSameRow a b
  pub from : AllZip IsSameRow a b → AllZip IsSameRow xs ys

module _ (a b xs ys more rest : List OwnerLocks) (x y : OwnerLocks) (is_x : xs ≡ x ∷ more) (is_y : ys ≡ y ∷ rest) (left : Left a b xs ys) where
  pub left-more : IsSameRow x y → Left a b more rest
  left-more same = record {
    to = λ h. left.to (rw (is_x, is_y) (same, h));
    from = λ h. (rw (is_x, is_y) at (left.from h)).1;
  }

  pub left-differ : (IsSameRow x y → ⊥) → AllZip IsSameRow a b → ⊥
  left-differ differ h = differ (rw (is_x, is_y) at (left.from h)).0

-- where one part has no row left, both are equal exactly where the other has none either
pub left-longer : (a b xs ys rest : List OwnerLocks) (y : OwnerLocks) → xs ≡ [] → ys ≡ y ∷ rest → Left a b xs ys → AllZip IsSameRow a b → ⊥
left-longer a b xs ys rest y none is left h = rw (none, is) at (left.from h)

pub left-shorter : (a b xs ys more : List OwnerLocks) (x : OwnerLocks) → xs ≡ x ∷ more → ys ≡ [] → Left a b xs ys → AllZip IsSameRow a b → ⊥
left-shorter a b xs ys more x is none left h = rw (is, none) at (left.from h)

pub left-end : (a b xs ys : List OwnerLocks) → xs ≡ [] → ys ≡ [] → Left a b xs ys → AllZip IsSameRow a b
left-end a b xs ys none nothing_left left = left.to (rw (none, nothing_left) tt)

-- the blocks of a table, when it is given by its parts
pub blocks_are : (blocks : List (List OwnerLocks)) (limit : ℕ) (t : TableParts) → record { blocks = blocks; limit = limit } ≡ t → blocks ≡ t.blocks
blocks_are blocks limit t is = ap (λ (u : TableParts). u.blocks) is

pub limit_is : (blocks : List (List OwnerLocks)) (limit : ℕ) (t : TableParts) → record { blocks = blocks; limit = limit } ≡ t → limit ≡ t.limit
limit_is blocks limit t is = ap (λ (u : TableParts). u.limit) is
