-- What indexes of pages keep through changes.
use Rattle.std.proofs.Common.{◌≡◌, ℕ, zero, suc, ◌+◌, ◌*◌, ◌/◌, ◌%◌, ◌^◌, ◌-◌, ◌<◌, ◌≤◌, length, get_or, set, List, [], ◌∷◌, refl, ◌∙◌, inl, inr, arith, le_trans, div-mul-le_self, subst, sym, ◌⊎◌, nat_le, eqb, ◌&&◌, drop, Option, Some, None, ap}
use Rattle.std.specs.Prelude.{bit_or}
use Rattle.std.specs.Int.{bit_at, trailing_zeros, w64}
use Rattle.std.proofs.Math.Nat.{div-le_self}
use Rattle.std.proofs.lemmas.Nat.{pow_pos, div-add-mod', le-div}
use Rattle.std.proofs.lemmas.Nat.Bits.{bit_at_ones, bit_at-zero, bit_at_or, bit_at-lt, bit_at_set_same, bit_at_cat_high, bit_at-trailing_zeros}
use Rattle.std.proofs.lemmas.Bool.{cases_lt, cases_order, cases_Bool, and_parts, eqb-true}
use Rattle.std.proofs.lemmas.List.{get_or-set_same, get_or_default, drop_all}
use Rattle.lock_table.specs.declared.flag_set.FlagSet.{FlagSet}
use Rattle.lock_table.specs.code.Rows.{HasFlag, Has, MayHold, Covers, slot_of, AreRows}
use Rattle.std.specs.List.{All}
use Rattle.std.proofs.lemmas.Bool.Decides.{nat_tests}
use Rattle.intervals.specs.rule.Bytes.{Range, nothing, is_in, put}
use Rattle.intervals.specs.rule.Runs.{value_at}
use Rattle.model.specs.declared.mode.Mode.{Mode}
use Rattle.model.specs.declared.owner.Owner.{Owner}
use Rattle.model.specs.rule.Locks.{FileLocks, Locks, replace, without_owner_anywhere}
use Rattle.model.specs.rule.Owners.{same_owner}
use Rattle.lock_table.specs.declared.owner_locks.OwnerLocks.{OwnerLocks}
use Rattle.lock_table.specs.declared.page_index.PageIndex.{PageIndex}
use Rattle.lock_table.specs.rule.Tables.{rows_held}
use Rattle.lock_table.proofs.RowLemmas.{is_of, row_place, row_at_from, held-at, place_itself, drop_read}
use Rattle.model.proofs.OwnerLaws.{owner_exact}
use Rattle.lock_table.specs.declared.owner_set.OwnerSet.{OwnerSet}
use Rattle.lock_table.specs.code.Blockers.{AreNear}

four_words : (w q : ℕ) → q < 4 → get_or (w ∷ w ∷ w ∷ w ∷ []) q 0 ≡ w
four_words w zero lt = refl
four_words w (suc zero) lt = refl
four_words w (suc (suc zero)) lt = refl
four_words w (suc (suc (suc zero))) lt = refl
four_words w (suc (suc (suc (suc q)))) lt = absurd (omega arith)

four_zeros : (q : ℕ) → ◌≡◌ {A = ℕ} (get_or (0 ∷ 0 ∷ 0 ∷ 0 ∷ []) q 0) 0
four_zeros zero = refl
four_zeros (suc zero) = refl
four_zeros (suc (suc zero)) = refl
four_zeros (suc (suc (suc zero))) = refl
four_zeros (suc (suc (suc (suc q)))) = refl

-- a set of all bits has each flag
pub has_all : (k : ℕ) → k < 256 → HasFlag (record { words = 18446744073709551615 ∷ 18446744073709551615 ∷ 18446744073709551615 ∷ 18446744073709551615 ∷ [] }) k
has_all k lt = record { set = rw (four_words 18446744073709551615 (k / 64) (omega arith)) (bit_at_ones 64 (k % 64) (omega arith)) }

-- a word with no bit has no flag
pub has_none : (s : FlagSet) (k : ℕ) → get_or s.words (k / 64) 0 ≡ 0 → HasFlag s k → ⊥
has_none s k none h =
    let zero_word : bit_at (get_or s.words (k / 64) 0) (k % 64) ≡ 0 = rw none (bit_at-zero (k % 64)) in
    let set = h.set in
    omega (arith, zero_word, set)

-- a set of no bits has no flag
pub has_nothing : (k : ℕ) → HasFlag (record { words = 0 ∷ 0 ∷ 0 ∷ 0 ∷ [] }) k → ⊥
has_nothing k h = has_none (record { words = 0 ∷ 0 ∷ 0 ∷ 0 ∷ [] }) k (four_zeros (k / 64)) h

or_left : (a v k : ℕ) → bit_at a k ≡ 1 → bit_at (bit_or a v) k ≡ 1
or_left a v k h = let below = bit_at-lt v k in bit_at_or a v k ∙ omega (arith, h, below)

or_right : (a v k : ℕ) → bit_at v k ≡ 1 → bit_at (bit_or a v) k ≡ 1
or_right a v k h = let below = bit_at-lt a k in bit_at_or a v k ∙ omega (arith, h, below)

-- flags that are added leave the other ones
word_kept : (w : List ℕ) (i q k v : ℕ) → bit_at (get_or w q 0) k ≡ 1 → bit_at (get_or (set w i (bit_or (get_or w i 0) v)) q 0) k ≡ 1
word_kept [] zero q k v h = h
word_kept [] (suc i) q k v h = h
word_kept (x ∷ w) zero zero k v h = or_left x v k h
word_kept (x ∷ w) zero (suc q) k v h = h
word_kept (x ∷ w) (suc i) zero k v h = h
word_kept (x ∷ w) (suc i) (suc q) k v h = word_kept w i q k v h

pub has-kept : (w : List ℕ) (i v k : ℕ) → HasFlag (record { words = w }) k → HasFlag (record { words = set w i (bit_or (get_or w i 0) v) }) k
has-kept w i v k h = record { set = word_kept w i (k / 64) (k % 64) v h.set }

-- a word that is joined adds its flags
has-joined : (w u : List ℕ) (i k : ℕ) → i < length w → k / 64 ≡ i → HasFlag (record { words = u }) k → HasFlag (record { words = set w i (bit_or (get_or w i 0) (get_or u i 0)) }) k
has-joined w u i k lt here h =
    let flag : bit_at (get_or u i 0) (k % 64) ≡ 1 = rw (← here) h.set in
    record { set = rw (here, get_or-set_same w i (bit_or (get_or w i 0) (get_or u i 0)) 0 lt) (or_right (get_or w i 0) (get_or u i 0) (k % 64) flag) }

-- a flag that is added is in the set
pub has-added : (w : List ℕ) (k : ℕ) → k / 64 < length w → HasFlag (record { words = set w (k / 64) (bit_or (get_or w (k / 64) 0) (1 * 2 ^ (k % 64) % 2 ^ 64)) }) k
has-added w k lt = record { set = rw (get_or-set_same w (k / 64) (bit_or (get_or w (k / 64) 0) (1 * 2 ^ (k % 64) % 2 ^ 64)) 0 lt) (bit_at_set_same w64 (get_or w (k / 64) 0) (k % 64) (omega arith)) }

-- the flags of one more word are joined
pub has-more : (w u : List ℕ) (i : ℕ) → i < length w → ((k : ℕ) → k / 64 < i → HasFlag (record { words = u }) k → HasFlag (record { words = w }) k) → (k : ℕ) → k / 64 < i + 1 → HasFlag (record { words = u }) k → HasFlag (record { words = set w i (bit_or (get_or w i 0) (get_or u i 0)) }) k
has-more w u i lt before k more h = elim (cases_order (k / 64) i) [
  | inl same ↦ has-joined w u i k lt same h
  | inr (inl below) ↦ has-kept w i (get_or u i 0) k (before k below h)
  | inr (inr above) ↦ absurd (omega arith)
]

-- the bits of a word from place s on are those of the word moved down by s places
bit_at-moved : (x s i : ℕ) → bit_at x (s + i) ≡ bit_at (x / 2 ^ s) i
bit_at-moved x s i =
    let some = pow_pos s in
    let small : x % 2 ^ s < 2 ^ s = omega arith in
    let high : bit_at (x / 2 ^ s * 2 ^ s + x % 2 ^ s) (s + i) ≡ bit_at (x / 2 ^ s) (s + i - s) = bit_at_cat_high (x / 2 ^ s) s (x % 2 ^ s) (s + i) small (omega arith) in
    let here : s + i - s ≡ i = omega arith in
    rw (div-add-mod' x (2 ^ s), here) at high

-- a word that has no bit from a place on
pub bits-none : (x s : ℕ) → x / 2 ^ s ≡ 0 → (i : ℕ) → s ≤ i → bit_at x i ≡ 0
bits-none x s none i from =
    let here : s + (i - s) ≡ i = omega arith in
    let moved : bit_at x i ≡ bit_at (x / 2 ^ s) (i - s) = rw here at (bit_at-moved x s (i - s)) in
    moved ∙ rw none (bit_at-zero (i - s))

-- the bits of a word from a place on and below its lowest one there
pub bits-below : (x s : ℕ) → x < 2 ^ 64 → (x / 2 ^ s ≡ 0 → ⊥) → (i : ℕ) → s ≤ i → i < s + trailing_zeros w64 (x / 2 ^ s) → bit_at x i ≡ 0
bits-below x s fits some i from below =
    let here : s + (i - s) ≡ i = omega arith in
    let moved : bit_at x i ≡ bit_at (x / 2 ^ s) (i - s) = rw here at (bit_at-moved x s (i - s)) in
    let le = div-le_self x (2 ^ s) in
    let positive : 0 < x / 2 ^ s = elim (cases_lt 0 (x / 2 ^ s)) [ inl lt ↦ lt | inr none ↦ absurd (some (omega arith)) ] in
    let lowest = bit_at-trailing_zeros w64 (x / 2 ^ s) positive (omega arith) in
    moved ∙ lowest.2 (i - s) (omega arith)

-- a flag whose bit isn't set is not in the set
none_in : (s : FlagSet) (q low from k : ℕ) → ((i : ℕ) → from ≤ i → i < low → bit_at (get_or s.words q 0) i ≡ 0) → k / 64 ≡ q → from ≤ k % 64 → k % 64 < low → HasFlag s k → ⊥
none_in s q low from k none here above below h =
    let set : bit_at (get_or s.words q 0) (k % 64) ≡ 1 = rw here at h.set in
    let clear = none (k % 64) above below in
    omega (arith, set, clear)

-- no flag is set from one on up to the lowest set bit of its word
pub next_in : (s : FlagSet) (flag low : ℕ) → ((i : ℕ) → flag % 64 ≤ i → i < low → bit_at (get_or s.words (flag / 64) 0) i ≡ 0) → low ≤ 64 → (k : ℕ) → flag ≤ k → k < flag / 64 * 64 + low → HasFlag s k → ⊥
next_in s flag low none le k from below h = none_in s (flag / 64) low (flag % 64) k none (omega arith) (omega arith) (omega arith) h

-- no flag is set from one on up to the lowest set bit of a word, if none is in the words before
pub next_past : (s : FlagSet) (flag q low : ℕ) → ((k : ℕ) → flag ≤ k → k < q * 64 → HasFlag s k → ⊥) → ((i : ℕ) → 0 ≤ i → i < low → bit_at (get_or s.words q 0) i ≡ 0) → low ≤ 64 → (k : ℕ) → flag ≤ k → k < q * 64 + low → HasFlag s k → ⊥
next_past s flag q low before none le k from below h = elim (cases_lt k (q * 64)) [
  | inl lt ↦ before k from lt h
  | inr ge ↦ none_in s q low 0 k none (omega arith) (omega arith) (omega arith) h
]

order : (a b extra : ℕ) → a ≤ b → a / (extra + 64) ≤ b / (extra + 64)
order a b extra le = le-div (a / (extra + 64)) b (extra + 64) (omega arith) (le_trans (div-mul-le_self a (extra + 64)) le)

-- a later byte is in no earlier page
pub page_before : (a b size extra : ℕ) → size ≡ extra + 64 → a ≤ b → a / size ≤ b / (extra + 64)
page_before a b size extra is le = subst (λ n. a / n ≤ b / (extra + 64)) (sym is) (order a b extra le)

-- an earlier byte is in no later page
pub page_behind : (a b size extra : ℕ) → size ≡ extra + 64 → a ≤ b → a / (extra + 64) ≤ b / size
page_behind a b size extra is le = subst (λ n. a / (extra + 64) ≤ b / n) (sym is) (order a b extra le)

-- a byte that the remaining rows hold is held by the first of them or by the other ones
pub row-step : (rows : List OwnerLocks) (i : ℕ) (r : OwnerLocks) (f : ℕ) (o : Owner) (b : ℕ) (m : Mode) → i < length rows → r ≡ get_or rows i r → rows_held (drop i rows) f o b ≡ Some m → ((r.file ≡ f) × (r.owner ≡ o) × (value_at r.spans b ≡ Some m)) ⊎ (rows_held (drop (i + 1) rows) f o b ≡ Some m)
unfolding rows_held
row-step rows i r f o b m lt is at =
    let split : rows_held (r ∷ drop (i + 1) rows) f o b ≡ Some m = rw (drop_read rows i r lt is) at at in
    elim (cases_Bool (is_of r f o)) [
      | inl this ↦ let place = row_place r f o this in inl (place.0, place.1, rw this at split)
      | inr differ ↦ inr (rw differ at split)
    ]

pub rows-end : (rows : List OwnerLocks) (i f : ℕ) (o : Owner) (b : ℕ) (m : Mode) → length rows ≤ i → rows_held (drop i rows) f o b ≡ Some m → ⊥
unfolding rows_held
rows-end rows i f o b m le at = let none : None ≡ Some m = rw (drop_all i rows le) at at in absurd cc

-- a byte that is held after a write was held before, or is in the span
pub put-noted : (x : PageIndex) (file : ℕ) (owner : Owner) (s : Range) (v : Option Mode) (before : ℕ → Option Mode) (b : ℕ) (m : Mode) → ((c : ℕ) → s.lo ≤ c → c ≤ s.hi → MayHold x file owner c) → put before s v b ≡ Some m → (before b ≡ Some m) ⊎ MayHold x file owner b
put-noted x file owner s v before b m noted at = elim (cases_Bool (is_in s b)) [
  | inl within ↦ let parts = and_parts (nat_le s.lo b) (nat_le b s.hi) within in inr (noted b (grind (arith, nat_tests, parts.0)) (grind (arith, nat_tests, parts.1)))
  | inr out ↦ inl (rw out at at)
]

-- an index that covers locks covers them where an owner holds less
pub covers-without : (x : PageIndex) (h g : Locks) (file : ℕ) (owner : Owner) → ((f : ℕ) (o : Owner) → g f o ≡ replace h file owner nothing f o) → Covers x h → Covers x g
covers-without x h g file owner is covers f o b m at =
    let held_still : replace h file owner nothing f o b ≡ Some m = sym (ap (λ (k : ℕ → Option Mode). k b) (is f o)) ∙ at in
    elim (cases_Bool ((eqb file f) && same_owner owner o)) [
      | inl same ↦ absurd (let none : None ≡ Some m = rw same at held_still in cc)
      | inr differ ↦ covers f o b m (rw differ at held_still)
    ]

pub covers-without_anywhere : (x : PageIndex) (h g : Locks) (owner : Owner) → ((f : ℕ) (o : Owner) → g f o ≡ without_owner_anywhere h owner f o) → Covers x h → Covers x g
covers-without_anywhere x h g owner is covers f o b m at =
    let held_still : without_owner_anywhere h owner f o b ≡ Some m = sym (ap (λ (k : ℕ → Option Mode). k b) (is f o)) ∙ at in
    elim (cases_Bool (same_owner owner o)) [
      | inl same ↦ absurd (let none : None ≡ Some m = rw same at held_still in cc)
      | inr differ ↦ covers f o b m (rw differ at held_still)
    ]

-- an index that notes what an owner gets covers the new locks
pub covers-changed : (x y : PageIndex) (h g : Locks) (file : ℕ) (owner : Owner) (old new : ℕ → Option Mode) → ((f : ℕ) (o : Owner) → g f o ≡ replace h file owner new f o) → Covers x h → ((f : ℕ) (o : Owner) (b : ℕ) → MayHold x f o b → MayHold y f o b) → ((b : ℕ) (m : Mode) → old b ≡ Some m → h file owner b ≡ Some m) → ((b : ℕ) (m : Mode) → new b ≡ Some m → (old b ≡ Some m) ⊎ MayHold y file owner b) → Covers y g
covers-changed x y h g file owner old new is covers keeps before noted f o b m at =
    let held_now : replace h file owner new f o b ≡ Some m = sym (ap (λ (k : ℕ → Option Mode). k b) (is f o)) ∙ at in
    elim (cases_Bool ((eqb file f) && same_owner owner o)) [
      | inl same ↦
          let parts = and_parts (eqb file f) (same_owner owner o) same in
          let files : file ≡ f = eqb-true file f parts.0 in
          let owners : owner ≡ o = owner_exact owner o parts.1 in
          let may : MayHold y file owner b = elim (noted b m (rw same at held_now)) [ inl was ↦ keeps file owner b (covers file owner b m (before b m was)) | inr may ↦ may ] in
          rw (← files, ← owners) may
      | inr differ ↦ keeps f o b (covers f o b m (rw differ at held_now))
    ]

-- a row holds what the rows hold at its place
pub row_held : (l : List OwnerLocks) (i : ℕ) (r : OwnerLocks) → AreRows l → i < length l → r ≡ get_or l i r → rows_held l r.file r.owner ≡ value_at r.spans
row_held l i r rows lt is = held-at l i r.file r.owner r (row_at_from l i r.file r.owner rows lt (λ d. rw (get_or_default l i d r lt, ← is) (place_itself r.file r.owner))) is

-- an owner that isn't near holds no byte of the span
pub none_near : (near : OwnerSet) (part : List OwnerLocks) (file i : ℕ) (r : OwnerLocks) (s : Range) → AreNear (rows_held part file) near s → AreRows part → All (λ (t : OwnerLocks). t.file ≡ file) part → i < length part → r ≡ get_or part i r → (Has near r.owner → ⊥) → (b : ℕ) (m : Mode) → s.lo ≤ b → b ≤ s.hi → value_at r.spans b ≡ Some m → ⊥
none_near near part file i r s nearby order files lt is away b m low high at =
    let of_file : r.file ≡ file = rw (← is) at (files i r lt) in
    let own : rows_held part file r.owner ≡ value_at r.spans = rw (← of_file) (row_held part i r order lt is) in
    away (nearby r.owner b m low high (ap (λ (g : ℕ → Option Mode). g b) own ∙ at))

-- owners that hold a byte of the span are near, as the index says
pub near_from : (x : PageIndex) (near : OwnerSet) (h : Locks) (g : FileLocks) (file : ℕ) (s : Range) → Covers x h → ((o : Owner) (b : ℕ) → s.lo ≤ b → b ≤ s.hi → MayHold x file o b → Has near o) → ((o : Owner) (b : ℕ) (m : Mode) → g o b ≡ Some m → h file o b ≡ Some m) → AreNear g near s
near_from x near h g file s covers nearby among o b m low high at = nearby o b low high (covers file o b m (among o b m at))

-- more owners of long runs leave the others noted
pub may-long : (x : PageIndex) (long : OwnerSet) → ((o : Owner) → Has x.long o → Has long o) → (f : ℕ) (o : Owner) (b : ℕ) → MayHold x f o b → MayHold (record x { long = long }) f o b
may-long x long keeps f o b may = record {
  noted = λ kept. elim (may.noted (kept.0, kept.1)) [
    | inl was ↦ inl (keeps o was)
    | inr page ↦ inr (rw (get_or_default x.sets.items (slot_of (length x.sets.items) f (b / (x.extra + 64))) long x.long (let some = kept.0 in omega arith)) page)
  ];
  in_file = λ kept. elim (may.in_file (kept.0, kept.1)) [ inl wide ↦ inl wide | inr file ↦ inr (record { number = file.number; set = file.set }) ];
}

-- other counts of notes, of runs and of their digits leave all noted
pub may-counts : (x : PageIndex) (notes runs digits : ℕ) (f : ℕ) (o : Owner) (b : ℕ) → MayHold x f o b → MayHold (record x { notes = notes; runs = runs; digits = digits }) f o b
may-counts x notes runs digits f o b may = record {
  noted = may.noted;
  in_file = λ kept. elim (may.in_file (kept.0, kept.1)) [ inl wide ↦ inl wide | inr file ↦ inr (record { number = file.number; set = file.set }) ];
}
