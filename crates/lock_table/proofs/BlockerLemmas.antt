-- Locks that block, what is lowest in the way, and the largest span without a lock in the way.
use Rattle.std.proofs.Common.{◌≢◌, ◌+◌, ◌-◌, ◌<◌, true, false, ◌&&◌, eqb, eq-eqb, max, length, get_or, take, List, [], ◌∷◌, ◌++◌, Option, Some, None, IfSome, IsSomeAnd, MatchOption, refl, ap, sym, ◌∙◌, subst, inl, inr, arith, zero, suc, ◌*◌, ltb, drop}
use Rattle.std.specs.List.{All, AllWithin}
use Rattle.std.specs.declared.cmp.Ordering.TheVariants.{Less, Greater}
use Rattle.std.proofs.lemmas.Bool.{cases_lt, cases_Bool, and_from, and_right, both_ways, false≢true, ltb-true}
use Rattle.std.proofs.lemmas.List.{take_more, get_or_default, get_or-drop}
use Rattle.intervals.specs.rule.Bytes.{Range, nothing, IsRun, IsBarred, NoneIn, IsLargest, greatest, run_from}
use Rattle.intervals.specs.rule.Runs.{value_at}
use Rattle.intervals.proofs.SpanLaws.{runs_are_one}
use Rattle.model.specs.declared.mode.Mode.{Mode}
use Rattle.model.specs.declared.mode.Mode.TheVariants.{Read, Write}
use Rattle.model.specs.declared.owner.Owner.{Owner}
use Rattle.model.specs.declared.lock_info.LockInfo.{LockInfo}
use Rattle.model.specs.rule.Owners.{same_owner, owner_cmp, same_mode}
use Rattle.model.specs.rule.Locks.{bar_of, FileLocks, excludes, bars, IsFree, IsRegion, IsNotAfter, IsLowestBlocker, IsClear, IsInWay, IsLowestInWay}
use Rattle.lock_table.specs.declared.owner_locks.OwnerLocks.{OwnerLocks}
use Rattle.lock_table.specs.code.Rows.{IsFirstRegion, row_cmp, AllAfter, AreRows, locks_of, IsBounded, mark_of, ArePassed, Has, flag_of}
use Rattle.lock_table.specs.rule.Tables.{rows_held, HasInWay}
use Rattle.lock_table.specs.code.Blockers.{IsAsked, IsClearBut, IsRegionBut, IsLowestBut, AreNear}
use Rattle.model.proofs.OwnerLaws.{owner_exact, owner_refl}
use Rattle.lock_table.proofs.RowLemmas.{owners_total, owner_equal, owner_not_greater, not_greater_trans, cases_not_greater, back_greater, place_cmp, places_total, back_less, is_of, is_of_less, rows-take, marks_rise, some_row}
use Rattle.std.specs.Prelude.{◌≡◌, ℕ, ◌≤◌, ◌⊎◌}
use Rattle.intervals.proofs.Find.{not_barred-none}
use Rattle.model.proofs.RunLaws.{some_start, run_from-is_run}
use Rattle.lock_table.proofs.PageLemmas.{row_held, none_near}
use Rattle.lock_table.specs.declared.owner_set.OwnerSet.{OwnerSet}

-- the locks of a row, for its own owner
pub locks_own : (r : OwnerLocks) → locks_of r r.owner ≡ value_at r.spans
locks_own r = let itself : ((eqb r.file r.file) && same_owner r.owner r.owner) ≡ true = and_from (eqb r.file r.file) (same_owner r.owner r.owner) (eq-eqb r.file r.file refl) (owner_refl r.owner) in rw itself refl

pub locks_other : (r : OwnerLocks) (o : Owner) → same_owner r.owner o ≡ false → locks_of r o ≡ nothing
locks_other r o differ = rw (and_right (eqb r.file r.file) (same_owner r.owner o) differ) refl

pub nothing_region : (s : Range) (m : Mode) → IsRun nothing s m → ⊥
nothing_region s m run = let e = run.all s.lo (omega arith) run.ordered in absurd cc

differ_from : (a b : Owner) → a ≢ b → same_owner a b ≡ false
differ_from a b differ = elim (cases_Bool (same_owner a b)) [ inl same ↦ absurd (differ (owner_exact a b same)) | inr other ↦ other ]

-- a region of a row's locks is of the row's owner, and a run of its bytes
pub region_own : (r : OwnerLocks) (x : LockInfo) → IsRegion (locks_of r) x → (x.owner ≡ r.owner) × IsRun (value_at r.spans) x.span x.mode
region_own r x region = elim (cases_Bool (same_owner r.owner x.owner)) [
  | inl same ↦
      let e : r.owner ≡ x.owner = owner_exact _ _ same in
      let run : IsRun (locks_of r r.owner) x.span x.mode = subst (λ (o : Owner). IsRun (locks_of r o) x.span x.mode) (sym e) region in
      (sym e, subst (λ (f : ℕ → Option Mode). IsRun f x.span x.mode) (locks_own r) run)
  | inr differ ↦ absurd (nothing_region x.span x.mode (subst (λ (f : ℕ → Option Mode). IsRun f x.span x.mode) (locks_other r x.owner differ) region))
]

pub own_region : (r : OwnerLocks) (x : LockInfo) → x.owner ≡ r.owner → IsRun (value_at r.spans) x.span x.mode → IsRegion (locks_of r) x
own_region r x e run =
    let here : IsRun (locks_of r r.owner) x.span x.mode = subst (λ (f : ℕ → Option Mode). IsRun f x.span x.mode) (sym (locks_own r)) run in
    subst (λ (o : Owner). IsRun (locks_of r o) x.span x.mode) (sym e) here

-- a byte is barred if its mode excludes the mode that is asked for
pub barred_from : (f : ℕ → Option Mode) (b : ℕ) (mode m : Mode) → f b ≡ Some m → excludes m mode ≡ true → IsBarred f (bar_of mode) b
barred_from f b Read Read e h = absurd (false≢true h)
barred_from f b Read Write e h = e
barred_from f b Write Read e h = rw e refl
barred_from f b Write Write e h = rw e refl

pub excluded_from : (f : ℕ → Option Mode) (b : ℕ) (mode m : Mode) → f b ≡ Some m → IsBarred f (bar_of mode) b → excludes m mode ≡ true
excluded_from f b Read Read e h = absurd cc
excluded_from f b Read Write e h = refl
excluded_from f b Write Read e h = refl
excluded_from f b Write Write e h = refl

bars_none : (mode : Mode) (x : Option Mode) → ((m : Mode) → x ≡ Some m → excludes m mode ≡ false) → bars mode x ≡ false
bars_none mode None h = refl
bars_none mode (Some m) h = h m refl

pub lock_one : (a b : LockInfo) → a.owner ≡ b.owner → a.mode ≡ b.mode → a.span ≡ b.span → a ≡ b
lock_one a b owners modes spans = λ i. record { owner = owners i; mode = modes i; span = spans i }

-- two regions of one owner that begin at one byte are one
pub same_region : (h : FileLocks) (a b : LockInfo) → IsRegion h a → IsRegion h b → a.owner ≡ b.owner → a.span.lo ≡ b.span.lo → a ≡ b
same_region h a b p q owners los =
    let r : IsRun (h b.owner) a.span a.mode = subst (λ (o : Owner). IsRun (h o) a.span a.mode) owners p in
    let same = runs_are_one (h b.owner) a.span b.span a.mode b.mode a.span.lo r q (omega arith, r.ordered) (omega (arith, los), omega (arith, los, q.ordered)) in
    lock_one a b owners same.1 same.0

-- two locks that are both the lowest that blocks are equal
pub lowest_one : (h : FileLocks) (owner : Owner) (s : Range) (mode : Mode) (a b : LockInfo) → IsLowestBlocker h owner s mode a → IsLowestBlocker h owner s mode b → a ≡ b
lowest_one h owner s mode a b p q = elim (p.lowest b q.blocks) [
  | inl less ↦ elim (q.lowest a p.blocks) [ inl more ↦ absurd (omega arith) | inr same ↦ absurd (omega (arith, same.0)) ]
  | inr first ↦ elim (q.lowest a p.blocks) [
    | inl more ↦ absurd (omega (arith, first.0))
    | inr second ↦ elim (cases_not_greater (owner_cmp a.owner b.owner) first.1) [
      | inl less ↦ absurd (second.1 (back_greater owner_cmp owners_total a.owner b.owner less))
      | inr equal ↦ same_region h a b p.blocks.region q.blocks.region (owner_equal a.owner b.owner equal) first.0
    ]
  ]
]

-- `IsNotAfter` is transitive
pub not_after_trans : (a b c : LockInfo) → IsNotAfter a b → IsNotAfter b c → IsNotAfter a c
not_after_trans a b c (inl p) (inl q) = inl (omega arith)
not_after_trans a b c (inl p) (inr q) = inl (omega (arith, q.0))
not_after_trans a b c (inr p) (inl q) = inl (omega (arith, p.0))
not_after_trans a b c (inr p) (inr q) = inr (p.0 ∙ q.0, not_greater_trans owner_cmp owners_total a.owner b.owner c.owner p.1 q.1)

-- in k each owner has what it has in g, or what it has in h, and it has nothing in the other one
abbrev pub IsJoin : FileLocks → FileLocks → FileLocks → Type 0
IsJoin g h k = (o : Owner) → ((k o ≡ g o) × (h o ≡ nothing)) ⊎ ((k o ≡ h o) × (g o ≡ nothing))

module _ (g h k : FileLocks) (join : IsJoin g h k) where
  moved : (f e : ℕ → Option Mode) (s : Range) (m : Mode) → f ≡ e → IsRun f s m → IsRun e s m
  moved f e s m is run = subst (λ (u : ℕ → Option Mode). IsRun u s m) is run

  pub region_left : (x : LockInfo) → IsRegion g x → IsRegion k x
  region_left x region = elim (join x.owner) [
    | inl e ↦ moved (g x.owner) (k x.owner) x.span x.mode (sym e.0) region
    | inr e ↦ absurd (nothing_region x.span x.mode (moved (g x.owner) nothing x.span x.mode e.1 region))
  ]

  pub region_right : (x : LockInfo) → IsRegion h x → IsRegion k x
  region_right x region = elim (join x.owner) [
    | inl e ↦ absurd (nothing_region x.span x.mode (moved (h x.owner) nothing x.span x.mode e.1 region))
    | inr e ↦ moved (h x.owner) (k x.owner) x.span x.mode (sym e.0) region
  ]

  pub region_cases : (x : LockInfo) → IsRegion k x → IsRegion g x ⊎ IsRegion h x
  region_cases x region = elim (join x.owner) [
    | inl e ↦ inl (moved (k x.owner) (g x.owner) x.span x.mode e.0 region)
    | inr e ↦ inr (moved (k x.owner) (h x.owner) x.span x.mode e.0 region)
  ]

  -- no owner has regions in both g and h
  pub owners_apart : (x y : LockInfo) → IsRegion g x → IsRegion h y → same_owner x.owner y.owner ≡ false
  owners_apart x y p q = differ_from x.owner y.owner (λ same. elim (join x.owner) [
    | inl e ↦ nothing_region y.span y.mode (moved (h y.owner) nothing y.span y.mode (ap h (sym same) ∙ e.1) q)
    | inr e ↦ nothing_region x.span x.mode (moved (g x.owner) nothing x.span x.mode e.1 p)
  ])

-- a span that has bytes and is clear has no lock in the way
pub clear_way : (h : FileLocks) (out : Option Owner) (s : Range) (mode : Mode) (x : LockInfo) → s.lo ≤ s.hi → IsClearBut h out s mode → IsAsked out x.owner → IsRegion h x → IsInWay s mode x → ⊥
clear_way h out s mode x order clear asked region way =
    let starts = way.starts in
    let ends = way.ends in
    let ordered = region.ordered in
    let here : h x.owner (max x.span.lo s.lo) ≡ Some x.mode = region.all (max x.span.lo s.lo) (omega arith) (omega arith) in
    let barred : bars mode (h x.owner (max x.span.lo s.lo)) ≡ false = clear x.owner (max x.span.lo s.lo) asked (omega arith) (omega arith) in
    both_ways (excludes x.mode mode) (rw here at barred) way.conflicts

module _ (g h k : FileLocks) (join : IsJoin g h k) (out : Option Owner) (s : Range) (mode : Mode) where
  after : (e : FileLocks) (a : Option LockInfo) (z y : LockInfo) → s.lo ≤ s.hi → IsLowestBut e out s mode a → IfSome a (λ x. IsSomeAnd (Some z) (λ w. IsNotAfter w x)) → IsAsked out y.owner → IsRegion e y → IsInWay s mode y → IsNotAfter z y
  after e None z y order p first asked region way = absurd (clear_way e out s mode y order p.answer asked region way)
  after e (Some x) z y order p first asked region way = not_after_trans z x y first (p.answer.lowest y (record { asked = asked; region = region }) way)

  -- the lower one of the lowest in the way in g and in h is the lowest in both joined
  pub lowest_join : (a b c : Option LockInfo) → IsLowestBut g out s mode a → IsLowestBut h out s mode b → ((c ≡ a) ⊎ (c ≡ b)) → IfSome a (λ x. IsSomeAnd c (λ z. IsNotAfter z x)) → IfSome b (λ x. IsSomeAnd c (λ z. IsNotAfter z x)) → IsLowestBut k out s mode c
  lowest_join None None None p q either first second = record {
    answer = λ other byte asked lo hi. elim (join other) [
      | inl e ↦ rw (ap (λ (f : ℕ → Option Mode). f byte) e.0) (p.answer other byte asked lo hi)
      | inr e ↦ rw (ap (λ (f : ℕ → Option Mode). f byte) e.0) (q.answer other byte asked lo hi)
    ];
    ordered = λ some. absurd cc;
  }
  lowest_join (Some x) b None p q either first second = absurd first
  lowest_join None (Some y) None p q either first second = absurd second
  lowest_join a b (Some z) p q either first second =
      let order : s.lo ≤ s.hi = elim either [ inl e ↦ p.ordered (rw (← e) refl) | inr e ↦ q.ordered (rw (← e) refl) ] in
      record {
        answer = record {
          is_one = elim either [
            | inl e ↦ let low : IsLowestInWay (IsRegionBut g out) s mode z = rw (← e) at p.answer in record { asked = low.is_one.asked; region = region_left g h k join z low.is_one.region }
            | inr e ↦ let low : IsLowestInWay (IsRegionBut h out) s mode z = rw (← e) at q.answer in record { asked = low.is_one.asked; region = region_right g h k join z low.is_one.region }
          ];
          in_way = elim either [
            | inl e ↦ let low : IsLowestInWay (IsRegionBut g out) s mode z = rw (← e) at p.answer in low.in_way
            | inr e ↦ let low : IsLowestInWay (IsRegionBut h out) s mode z = rw (← e) at q.answer in low.in_way
          ];
          lowest = λ y is way. elim (region_cases g h k join y is.region) [
            | inl left ↦ after g a z y order p first is.asked left way
            | inr right ↦ after h b z y order q second is.asked right way
          ];
        };
        ordered = λ some. order;
      }

-- without locks none is in the way
pub lowest_none : (out : Option Owner) (s : Range) (mode : Mode) → IsLowestBut (λ o. nothing) out s mode None
lowest_none out s mode = record { answer = λ other byte asked lo hi. refl; ordered = λ some. absurd cc }

-- the owners that count are the ones that aren't left out
pub asked_from : (out : Option Owner) (o : Owner) → (out ≡ Some o → ⊥) → IsAsked out o
asked_from None o differ = tt
asked_from (Some w) o differ = λ same. differ (ap Some (sym same))

not_asked : (out : Option Owner) (o : Owner) → out ≡ Some o → IsAsked out o → ⊥
not_asked None o is asked = absurd cc
not_asked (Some w) o is asked = asked (let same : o ≡ w = cc in same)

-- a span is clear in a row's locks if the row holds no byte of it that bars the mode
row_clear : (r : OwnerLocks) (out : Option Owner) (s : Range) (mode : Mode) → ((b : ℕ) → IsAsked out r.owner → s.lo ≤ b → b ≤ s.hi → bars mode (value_at r.spans b) ≡ false) → IsClearBut (locks_of r) out s mode
row_clear r out s mode clear other byte asked lo hi = elim (cases_Bool (same_owner r.owner other)) [
  | inl same ↦
      let here : locks_of r other byte ≡ value_at r.spans byte = ap (λ (o : Owner). locks_of r o byte) (sym (owner_exact r.owner other same)) ∙ ap (λ (f : ℕ → Option Mode). f byte) (locks_own r) in
      rw here (clear byte (subst (IsAsked out) (sym (owner_exact r.owner other same)) asked) lo hi)
  | inr apart ↦ rw (ap (λ (f : ℕ → Option Mode). f byte) (locks_other r other apart)) refl
]

-- a row of the owner that is left out has no lock in the way
pub lowest_out : (r : OwnerLocks) (out : Option Owner) (s : Range) (mode : Mode) → out ≡ Some r.owner → IsLowestBut (locks_of r) out s mode None
lowest_out r out s mode is = record { answer = row_clear r out s mode (λ b asked lo hi. absurd (not_asked out r.owner is asked)); ordered = λ some. absurd cc }

-- a row that holds no byte of the span in a mode that excludes this one has no lock in the way
pub row_passed : (r : OwnerLocks) (out : Option Owner) (s : Range) (mode : Mode) → ((b : ℕ) (m : Mode) → s.lo ≤ b → b ≤ s.hi → value_at r.spans b ≡ Some m → IsBarred (value_at r.spans) (bar_of mode) b → ⊥) → IsClearBut (locks_of r) out s mode
row_passed r out s mode none = row_clear r out s mode (λ b asked lo hi. bars_none mode (value_at r.spans b) (λ m is. elim (cases_Bool (excludes m mode)) [
  | inl ex ↦ absurd (none b m lo hi is (barred_from (value_at r.spans) b mode m is ex))
  | inr other ↦ other
]))

module _ (r : OwnerLocks) (out : Option Owner) (s : Range) (mode : Mode) (asked : IsAsked out r.owner) where
  row_free : NoneIn (IsBarred (value_at r.spans) (bar_of mode)) s → IsClearBut (locks_of r) out s mode
  row_free none = row_passed r out s mode (λ b m lo hi is barred. none b lo hi barred)

  -- no region in the way begins before the one with the first barred byte
  none_lower : (x y : LockInfo) → IsFirstRegion r s (bar_of mode) x → IsRegion (locks_of r) y → IsInWay s mode y → x.span.lo ≤ y.span.lo
  none_lower x y is_first region way =
      let f = value_at r.spans in
      let run = (region_own r y region).1 in
      let starts = way.starts in
      let ends = way.ends in
      let ordered = run.ordered in
      let byte = is_first.byte in
      let above = is_first.first.above in
      let below = is_first.first.below in
      let in_start = is_first.starts in
      let in_end = is_first.ends in
      elim (cases_lt y.span.lo x.span.lo) [
        | inl lt ↦ elim (cases_lt y.span.hi byte) [
          | inl short ↦
              let here : f (max y.span.lo s.lo) ≡ Some y.mode = run.all (max y.span.lo s.lo) (omega arith) (omega arith) in
              absurd (is_first.first.none_before (max y.span.lo s.lo) (omega arith) (omega arith) (barred_from f (max y.span.lo s.lo) mode y.mode here way.conflicts))
          | inr long ↦
              let there : f byte ≡ Some y.mode = run.all byte (omega arith) long in
              let there' : f byte ≡ Some x.mode = is_first.region.all byte in_start in_end in
              let same : y.mode ≡ x.mode = cc in
              let before : f (x.span.lo - 1) ≡ Some y.mode = run.all (x.span.lo - 1) (omega arith) (omega arith) in
              absurd (is_first.region.begins (x.span.lo - 1) (omega arith) (before ∙ ap Some same))
        ]
        | inr le ↦ le
      ]

  row_lowest : (x : LockInfo) → IsFirstRegion r s (bar_of mode) x → IsLowestInWay (IsRegionBut (locks_of r) out) s mode x
  row_lowest x is_first =
      let f = value_at r.spans in
      let above = is_first.first.above in
      let below = is_first.first.below in
      let in_start = is_first.starts in
      let in_end = is_first.ends in
      let there : f is_first.byte ≡ Some x.mode = is_first.region.all is_first.byte in_start in_end in
      record {
        is_one = record {
          asked = subst (IsAsked out) (sym is_first.owner) asked;
          region = own_region r x is_first.owner is_first.region;
        };
        in_way = record {
          conflicts = excluded_from f is_first.byte mode x.mode there is_first.first.here;
          starts = omega arith;
          ends = omega arith;
        };
        lowest = λ y is way. not_after x y (none_lower x y is_first is.region way) (is_first.owner ∙ sym (region_own r y is.region).0);
      }
    where
      not_after : (x y : LockInfo) → x.span.lo ≤ y.span.lo → x.owner ≡ y.owner → IsNotAfter x y
      not_after x y le same = elim (cases_lt x.span.lo y.span.lo) [
        | inl lt ↦ inl lt
        | inr ge ↦ inr (omega arith, rw same (owner_not_greater y.owner))
      ]

  -- the region with the first barred byte is the lowest in the way in its row
  pub row_lowest_but : (found : Option LockInfo) → MatchOption found (NoneIn (IsBarred (value_at r.spans) (bar_of mode)) s) (IsFirstRegion r s (bar_of mode)) → IsLowestBut (locks_of r) out s mode found
  row_lowest_but None none = record { answer = row_free none; ordered = λ some. absurd cc }
  row_lowest_but (Some x) is_first =
      let above = is_first.first.above in
      let below = is_first.first.below in
      record { answer = row_lowest x is_first; ordered = λ some. omega arith }

-- a last row of another place doesn't change what the rows hold
other_held : (l : List OwnerLocks) (r : OwnerLocks) (f : ℕ) (o : Owner) → is_of r f o ≡ false → rows_held (l ++ r ∷ []) f o ≡ rows_held l f o
unfolding rows_held
other_held [] r f o differ = rw differ refl
other_held (s ∷ l) r f o differ = rw (other_held l r f o differ) refl

all_after_last : (f : ℕ) (o : Owner) (l : List OwnerLocks) (r : OwnerLocks) → AllAfter f o (l ++ r ∷ []) → row_cmp r f o ≡ Greater
all_after_last f o [] r h = h.0
all_after_last f o (s ∷ l) r h = all_after_last f o l r h.1

-- the last row has the locks of its place, and the rows before it have none there
last_held : (l : List OwnerLocks) (r : OwnerLocks) → AreRows (l ++ r ∷ []) → (rows_held (l ++ r ∷ []) r.file r.owner ≡ value_at r.spans) × (rows_held l r.file r.owner ≡ nothing)
unfolding rows_held
last_held [] r rows = let itself : is_of r r.file r.owner ≡ true = and_from (eqb r.file r.file) (same_owner r.owner r.owner) (eq-eqb r.file r.file refl) (owner_refl r.owner) in (rw itself refl, refl)
last_held (s ∷ l) r rows =
    let more = last_held l r rows.2 in
    let before : row_cmp s r.file r.owner ≡ Less = back_less place_cmp places_total (r.file, r.owner) (s.file, s.owner) (all_after_last s.file s.owner l r rows.1) in
    let differ = is_of_less s r.file r.owner before in
    (rw differ more.0, rw differ more.1)

rows_join : (l : List OwnerLocks) (r : OwnerLocks) (f : ℕ) → AreRows (l ++ r ∷ []) → r.file ≡ f → IsJoin (rows_held l f) (locks_of r) (rows_held (l ++ r ∷ []) f)
rows_join l r f rows file o = elim (cases_Bool (same_owner r.owner o)) [
  | inl same ↦
      let e : r.owner ≡ o = owner_exact _ _ same in
      let last = last_held l r rows in
      inr (rw (← file, ← e) (last.0 ∙ sym (locks_own r)), rw (← file, ← e) last.1)
  | inr differ ↦ inl (other_held l r f o (and_right (eqb r.file f) (same_owner r.owner o) differ), locks_other r o differ)
]

-- the rows of a file, with one more row, hold both together
pub rows_step : (l : List OwnerLocks) (i : ℕ) (r : OwnerLocks) (f : ℕ) → AreRows l → All (λ (s : OwnerLocks). s.file ≡ f) l → i < length l → r ≡ get_or l i r → IsJoin (rows_held (take i l) f) (locks_of r) (rows_held (take (i + 1) l) f)
rows_step l i r f rows files lt is =
    let next : take (i + 1) l ≡ take i l ++ r ∷ [] = take_more l i r lt ∙ rw (← is) refl in
    let order : AreRows (take i l ++ r ∷ []) = subst AreRows next (rows-take l (i + 1) rows) in
    let file : r.file ≡ f = rw (← is) at (files i r lt) in
    subst (λ (m : List OwnerLocks). IsJoin (rows_held (take i l) f) (locks_of r) (rows_held m f)) (sym next) (rows_join (take i l) r f order file)

not_after-itself : (a : Option LockInfo) → IfSome a (λ x. IsSomeAnd a (λ z. IsNotAfter z x))
not_after-itself None = tt
not_after-itself (Some x) = inr (refl, owner_not_greater x.owner)

-- a row without a lock in the way doesn't change which is the lowest
pub lowest_past : (g h k : FileLocks) → IsJoin g h k → (out : Option Owner) (s : Range) (mode : Mode) (a : Option LockInfo) → IsLowestBut g out s mode a → IsClearBut h out s mode → IsLowestBut k out s mode a
lowest_past g h k join out s mode a p clear = lowest_join g h k join out s mode a None a p (record { answer = clear; ordered = λ some. absurd cc }) (inl refl) (not_after-itself a) tt

-- the lowest in the way when an owner is left out is the lowest that blocks this owner
pub blocker_from : (h : FileLocks) (owner : Owner) (s : Range) (mode : Mode) (a : Option LockInfo) → IsLowestBut h (Some owner) s mode a → MatchOption a (IsFree h owner s mode) (IsLowestBlocker h owner s mode)
blocker_from h owner s mode None low = low.answer
blocker_from h owner s mode (Some x) low =
    let its = low.answer in
    record {
      blocks = record { is_other = its.is_one.asked; region = its.is_one.region; conflicts = its.in_way.conflicts; starts = its.in_way.starts; ends = its.in_way.ends };
      lowest = λ y blocks. its.lowest y (record { asked = blocks.is_other; region = blocks.region }) (record { conflicts = blocks.conflicts; starts = blocks.starts; ends = blocks.ends });
    }

-- the lowest in the way when no owner is left out is the lowest of all
pub in_way_from : (h : FileLocks) (s : Range) (mode : Mode) (a : Option LockInfo) → IsLowestBut h None s mode a → MatchOption a (IsClear h s mode) (IsLowestInWay (IsRegion h) s mode)
in_way_from h s mode None low = λ o b lo hi. low.answer o b tt lo hi
in_way_from h s mode (Some x) low =
    let its = low.answer in
    record {
      is_one = its.is_one.region;
      in_way = its.in_way;
      lowest = λ y region way. its.lowest y (record { asked = tt; region = region }) way;
    }

-- two kinds of the same bytes have the same largest span
pub IsLargest-iff : (P Q : ℕ → Type 0) (required within s : Range) → ((b : ℕ) → P b → Q b) → ((b : ℕ) → Q b → P b) → IsLargest P required within s → IsLargest Q required within s
IsLargest-iff P Q required within s to from l = record {
  has_first = l.has_first;
  has_last = l.has_last;
  starts_within = l.starts_within;
  ends_within = l.ends_within;
  free = λ b lo hi q. l.free b lo hi (from b q);
  full_below = λ b next le. to b (l.full_below b next le);
  full_above = λ lt. to _ (l.full_above lt);
}

-- the largest span for two kinds is the one for the second kind within the one for the first
pub IsLargest-or : (P Q : ℕ → Type 0) (required within s t : Range) → required.lo ≤ required.hi → IsLargest P required within s → IsLargest Q required s t → IsLargest (λ b. P b ⊎ Q b) required within t
IsLargest-or P Q required within s t order l m = record {
  has_first = m.has_first;
  has_last = m.has_last;
  starts_within = omega (arith, l.starts_within, m.starts_within);
  ends_within = omega (arith, l.ends_within, m.ends_within);
  free = λ b lo hi either. elim either [
    | inl p ↦ l.free b (omega (arith, m.starts_within)) (omega (arith, m.ends_within)) p
    | inr q ↦ m.free b lo hi q
  ];
  full_below = λ b next le. elim (cases_lt b s.lo) [
    | inl lt ↦ inl (l.full_below b (omega (arith, m.starts_within)) le)
    | inr ge ↦ inr (m.full_below b next ge)
  ];
  full_above = λ lt. elim (cases_lt t.hi s.hi) [
    | inl less ↦ inr (m.full_above less)
    | inr ge ↦ inl (rw (let same : t.hi ≡ s.hi = omega (arith, m.ends_within) in same) (l.full_above (omega arith)))
  ];
}

-- the largest span is the whole one if no byte of it is of the kind
pub IsLargest-whole : (P : ℕ → Type 0) (required within : Range) → within.lo ≤ required.lo → required.hi ≤ within.hi → NoneIn P within → IsLargest P required within within
IsLargest-whole P required within starts ends free = record {
  has_first = starts;
  has_last = ends;
  starts_within = omega arith;
  ends_within = omega arith;
  free = free;
  full_below = λ b next le. absurd (omega arith);
  full_above = λ lt. absurd (omega arith);
}

-- no byte past the greatest offset is held
bounded-below : (g : ℕ → Option Mode) (b : ℕ) (m : Mode) → IsBounded g → g b ≡ Some m → b ≤ greatest
bounded-below g b m bounded at = elim (cases_lt greatest b) [ inl past ↦ let none = bounded b past in absurd cc | inr le ↦ le ]

-- a run ends no lower than the bytes of its value that go on from its first byte
ends_from : (f : ℕ → Option Mode) (m : Mode) (b lo : ℕ) (s : Range) → s.lo ≡ lo → IsRun f s m → ((c : ℕ) → lo ≤ c → c ≤ b → f c ≡ Some m) → b ≤ s.hi
ends_from f m b lo s is run all = elim (cases_lt s.hi b) [
  | inl lt ↦ let ordered = run.ordered in absurd (run.ends (all (s.hi + 1) (omega arith) (omega arith)))
  | inr le ↦ le
]

-- a held byte is in a run
byte_run : (f : ℕ → Option Mode) (b : ℕ) (m : Mode) → IsBounded f → f b ≡ Some m → (s : Range) × IsRun f s m × (s.lo ≤ b) × (b ≤ s.hi)
byte_run f b m bounded here =
    let start = some_start f m b here in
    let all = start.1.all in
    let least = start.1.least in
    let at_lo : f start.0 ≡ Some m = all start.0 (omega arith) least in
    let run : IsRun f (run_from same_mode f start.0 m) m = run_from-is_run f m start.0 (bounded-below f start.0 m bounded at_lo) at_lo start.1.start bounded in
    (run_from same_mode f start.0 m, run, least, ends_from f m b start.0 (run_from same_mode f start.0 m) refl run all)

module _ (r : OwnerLocks) (mode : Mode) (b : ℕ) where
  -- a byte of the row bars the mode exactly if a region in the way holds it
  way_from : (x : Option Mode) → IsBounded (value_at r.spans) → value_at r.spans b ≡ x → IsBarred (value_at r.spans) (bar_of mode) b → HasInWay (IsRegion (locks_of r)) mode b
  way_from None bounded is barred = absurd (not_barred-none (value_at r.spans) (bar_of mode) b is barred)
  way_from (Some m) bounded is barred =
      let found = byte_run (value_at r.spans) b m bounded is in
      (record { owner = r.owner; mode = m; span = found.0 }, own_region r (record { owner = r.owner; mode = m; span = found.0 }) refl found.1, record { conflicts = excluded_from (value_at r.spans) b mode m is barred; starts = found.2; ends = found.3 })

  way_barred : HasInWay (IsRegion (locks_of r)) mode b → IsBarred (value_at r.spans) (bar_of mode) b
  way_barred has =
      let run = (region_own r has.0 has.1).1 in
      barred_from (value_at r.spans) b mode has.0.mode (run.all b has.2.starts has.2.ends) has.2.conflicts

  -- a byte that doesn't bar the mode is not barred
  free_at : (x : Option Mode) → value_at r.spans b ≡ x → bars mode (value_at r.spans b) ≡ false → IsBarred (value_at r.spans) (bar_of mode) b → ⊥
  free_at None is free barred = not_barred-none (value_at r.spans) (bar_of mode) b is barred
  free_at (Some m) is free barred = both_ways (excludes m mode) (rw is at free) (excluded_from (value_at r.spans) b mode m is barred)

-- before any row is read the largest span is the whole one
pub around-start : (mode : Mode) (required within : Range) → within.lo ≤ required.lo → required.hi ≤ within.hi → IsLargest (HasInWay (IsRegion (λ o. nothing)) mode) required within within
around-start mode required within starts ends = IsLargest-whole (HasInWay (IsRegion (λ o. nothing)) mode) required within starts ends (λ b above below has. nothing_region has.0.span has.0.mode has.1)

module _ (g k : FileLocks) (r : OwnerLocks) (join : IsJoin g (locks_of r) k) (mode : Mode) (required within span : Range) (is : IsLargest (HasInWay (IsRegion g) mode) required within span) where
  way_left : (b : ℕ) → HasInWay (IsRegion g) mode b → HasInWay (IsRegion k) mode b
  way_left b has = (has.0, region_left g (locks_of r) k join has.0 has.1, has.2)

  way_right : (b : ℕ) → HasInWay (IsRegion (locks_of r)) mode b → HasInWay (IsRegion k) mode b
  way_right b has = (has.0, region_right g (locks_of r) k join has.0 has.1, has.2)

  -- the largest span after one more row
  pub around-more : (next : Range) → required.lo ≤ required.hi → IsBounded (value_at r.spans) → IsLargest (IsBarred (value_at r.spans) (bar_of mode)) required span next → IsLargest (HasInWay (IsRegion k) mode) required within next
  around-more next order bounded its = IsLargest-iff (λ b. HasInWay (IsRegion g) mode b ⊎ IsBarred (value_at r.spans) (bar_of mode) b) (HasInWay (IsRegion k) mode) required within next
      (λ b either. elim either [
        | inl has ↦ way_left b has
        | inr barred ↦ way_right b (way_from r mode b (value_at r.spans b) bounded refl barred)
      ])
      (λ b has. elim (region_cases g (locks_of r) k join has.0 has.1) [
        | inl left ↦ inl (has.0, left, has.2)
        | inr right ↦ inr (way_barred r mode b (has.0, right, has.2))
      ])
      (IsLargest-or (HasInWay (IsRegion g) mode) (IsBarred (value_at r.spans) (bar_of mode)) required within span next order is its)

  -- the largest span stays after a row that holds no byte near
  pub around-skip : ((b : ℕ) (m : Mode) → within.lo ≤ b → b ≤ within.hi → value_at r.spans b ≡ Some m → ⊥) → IsLargest (HasInWay (IsRegion k) mode) required within span
  around-skip away = record {
    has_first = is.has_first;
    has_last = is.has_last;
    starts_within = is.starts_within;
    ends_within = is.ends_within;
    free = λ b lo hi has. elim (region_cases g (locks_of r) k join has.0 has.1) [
      | inl left ↦ is.free b lo hi (has.0, left, has.2)
      | inr right ↦
          let run = (region_own r has.0 right).1 in
          away b has.0.mode (omega (arith, is.starts_within)) (omega (arith, is.ends_within)) (run.all b has.2.starts has.2.ends)
    ];
    full_below = λ b next le. way_left b (is.full_below b next le);
    full_above = λ lt. way_left (span.hi + 1) (is.full_above lt);
  }

-- the largest span in one of two parts of the locks, and then in the other, is the one in both
pub around-join : (g h k : FileLocks) → IsJoin g h k → (mode : Mode) (required within span next : Range) → required.lo ≤ required.hi → IsLargest (HasInWay (IsRegion g) mode) required within span → IsLargest (HasInWay (IsRegion h) mode) required span next → IsLargest (HasInWay (IsRegion k) mode) required within next
around-join g h k join mode required within span next order first second = IsLargest-iff (λ b. HasInWay (IsRegion g) mode b ⊎ HasInWay (IsRegion h) mode b) (HasInWay (IsRegion k) mode) required within next
    (λ b either. elim either [
      | inl has ↦ (has.0, region_left g h k join has.0 has.1, has.2)
      | inr has ↦ (has.0, region_right g h k join has.0 has.1, has.2)
    ])
    (λ b has. elim (region_cases g h k join has.0 has.1) [
      | inl left ↦ inl (has.0, left, has.2)
      | inr right ↦ inr (has.0, right, has.2)
    ])
    (IsLargest-or (HasInWay (IsRegion g) mode) (HasInWay (IsRegion h) mode) required within span next order first second)

-- if no lock is in the way on the span, no row has a byte there that bars the mode
pub none_barred : (part : List OwnerLocks) (file i : ℕ) (r : OwnerLocks) (s : Range) (mode : Mode) → IsClear (rows_held part file) s mode → AreRows part → All (λ (t : OwnerLocks). t.file ≡ file) part → i < length part → r ≡ get_or part i r → NoneIn (IsBarred (value_at r.spans) (bar_of mode)) s
none_barred part file i r s mode clear order files lt is b lo hi barred =
    let of_file : r.file ≡ file = rw (← is) at (files i r lt) in
    let own : rows_held part file r.owner ≡ value_at r.spans = rw (← of_file) (row_held part i r order lt is) in
    let here : rows_held part file r.owner b ≡ value_at r.spans b = ap (λ (e : ℕ → Option Mode). e b) own in
    free_at r mode b (value_at r.spans b) refl (sym (ap (bars mode) here) ∙ clear r.owner b lo hi) barred

-- where some of the locks are clear
pub clear_among : (g h : FileLocks) (s : Range) (mode : Mode) → ((o : Owner) (b : ℕ) (m : Mode) → g o b ≡ Some m → h o b ≡ Some m) → IsClear h s mode → IsClear g s mode
clear_among g h s mode among clear o b lo hi = go (g o b) refl
  where
    go : (x : Option Mode) → g o b ≡ x → bars mode (g o b) ≡ false
    go None at = rw at refl
    go (Some m) at = ap (bars mode) (at ∙ sym (among o b m at)) ∙ clear o b lo hi

-- a flag between two others, of a file between equal ones
between : (f g low flag next : ℕ) → flag < 256 → next ≤ 256 → f * 256 + low ≤ g * 256 + flag → g * 256 + flag < f * 256 + next → (low ≤ flag) × (flag < next)
between f g low flag next small least from below = (omega arith, omega arith)

-- the rows from one on whose marks are below the next flag of the set in its file are of owners that the set doesn't have
pub flags_passed : (l : List OwnerLocks) (near : OwnerSet) (from next count : ℕ) (first : OwnerLocks) → AreRows l → from < length l → first ≡ get_or l from first → ((o : Owner) → flag_of first.owner ≤ flag_of o → flag_of o < next → Has near o → ⊥) → next ≤ 256 → AllWithin (λ (r : OwnerLocks). ltb (mark_of r.file r.owner) (first.file * 256 + next) ≡ true) (drop from l) 0 count → from + count ≤ length l → ArePassed l near from (from + count)
flags_passed l near from next count first rows within is_first none least point le k row low high is has =
    let here : from + (k - from) ≡ k = omega arith in
    let read : get_or (drop from l) (k - from) row ≡ row = get_or-drop from l (k - from) row ∙ ap (λ (n : ℕ). get_or l n row) here ∙ sym is in
    let below = ltb-true _ _ (rw read at (point (k - from) row (omega arith) (omega arith))) in
    let start : get_or l from row ≡ first = get_or_default l from row first within ∙ sym is_first in
    let above = rw (start, ← is) at (marks_rise l rows from k row low (omega arith)) in
    let flags = between first.file row.file (flag_of first.owner) (flag_of row.owner) next (omega arith) least above below in
    none row.owner flags.0 flags.1 has

module _ (near : OwnerSet) (part : List OwnerLocks) (file : ℕ) (s : Range) (nearby : AreNear (rows_held part file) near s) (order : AreRows part) (files : All (λ (t : OwnerLocks). t.file ≡ file) part) where
  -- rows that are passed don't change which lock is the lowest in the way
  lowest_more : (out : Option Owner) (mode : Mode) (lowest : Option LockInfo) (i n : ℕ) → i + n ≤ length part → ArePassed part near i (i + n) → IsLowestBut (rows_held (take i part) file) out s mode lowest → IsLowestBut (rows_held (take (i + n) part) file) out s mode lowest
  lowest_more out mode lowest i zero le passed h = let here : i ≡ i + 0 = omega arith in subst (λ (k : ℕ). IsLowestBut (rows_held (take k part) file) out s mode lowest) here h
  lowest_more out mode lowest i (suc n) le passed h =
      let d = some_row part (omega arith) in
      let lt : i + n < length part = omega arith in
      let r = get_or part (i + n) d in
      let is : r ≡ get_or part (i + n) r = get_or_default part (i + n) d r lt in
      let before = lowest_more out mode lowest i n (omega arith) (λ k row from below. passed k row from (omega arith)) h in
      let away = passed (i + n) r (omega arith) (omega arith) is in
      let clear = row_passed r out s mode (λ b m lo hi at barred. none_near near part file (i + n) r s nearby order files lt is away b m lo hi at) in
      let after = lowest_past _ _ _ (rows_step part (i + n) r file order files lt is) out s mode lowest before clear in
      let here : i + n + 1 ≡ i + suc n = omega arith in
      subst (λ (k : ℕ). IsLowestBut (rows_held (take k part) file) out s mode lowest) here after

  pub lowest_to : (out : Option Owner) (mode : Mode) (lowest : Option LockInfo) (i j : ℕ) → i ≤ j → j ≤ length part → ArePassed part near i j → IsLowestBut (rows_held (take i part) file) out s mode lowest → IsLowestBut (rows_held (take j part) file) out s mode lowest
  lowest_to out mode lowest i j order' within passed h =
      let here : i + (j - i) ≡ j = omega arith in
      subst (λ (k : ℕ). IsLowestBut (rows_held (take k part) file) out s mode lowest) here (lowest_more out mode lowest i (j - i) (omega arith) (λ k row from below. passed k row from (omega arith)) h)

  -- rows that are passed don't change which span is the largest
  around_more : (mode : Mode) (required span : Range) (i n : ℕ) → i + n ≤ length part → ArePassed part near i (i + n) → IsLargest (HasInWay (IsRegion (rows_held (take i part) file)) mode) required s span → IsLargest (HasInWay (IsRegion (rows_held (take (i + n) part) file)) mode) required s span
  around_more mode required span i zero le passed h = let here : i ≡ i + 0 = omega arith in subst (λ (k : ℕ). IsLargest (HasInWay (IsRegion (rows_held (take k part) file)) mode) required s span) here h
  around_more mode required span i (suc n) le passed h =
      let d = some_row part (omega arith) in
      let lt : i + n < length part = omega arith in
      let r = get_or part (i + n) d in
      let is : r ≡ get_or part (i + n) r = get_or_default part (i + n) d r lt in
      let before = around_more mode required span i n (omega arith) (λ k row from below. passed k row from (omega arith)) h in
      let away = none_near near part file (i + n) r s nearby order files lt is (passed (i + n) r (omega arith) (omega arith) is) in
      let after = around-skip _ _ r (rows_step part (i + n) r file order files lt is) mode required s span before away in
      let here : i + n + 1 ≡ i + suc n = omega arith in
      subst (λ (k : ℕ). IsLargest (HasInWay (IsRegion (rows_held (take k part) file)) mode) required s span) here after

  pub around_to : (mode : Mode) (required span : Range) (i j : ℕ) → i ≤ j → j ≤ length part → ArePassed part near i j → IsLargest (HasInWay (IsRegion (rows_held (take i part) file)) mode) required s span → IsLargest (HasInWay (IsRegion (rows_held (take j part) file)) mode) required s span
  around_to mode required span i j order' within passed h =
      let here : i + (j - i) ≡ j = omega arith in
      subst (λ (k : ℕ). IsLargest (HasInWay (IsRegion (rows_held (take k part) file)) mode) required s span) here (around_more mode required span i (j - i) (omega arith) (λ k row from below. passed k row from (omega arith)) h)
