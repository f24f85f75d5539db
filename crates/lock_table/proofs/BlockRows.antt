-- The rows of blocks: searches over them, the locks that they hold together, and writes.
use Rattle.std.proofs.Common.{◌≡◌, ℕ, zero, suc, ◌+◌, ◌-◌, ◌<◌, ◌≤◌, ◌⊎◌, Bool, true, false, not, leb, map, length, get_or, set, take, drop, List, [], ◌∷◌, ◌++◌, Result, Ok, Err, MatchResult, refl, ap, sym, subst, ◌∙◌, inl, inr, arith, append_assoc, if◌then◌else◌, Option, Some, ltb, None}
use Rattle.std.specs.Bool.{⊤}
use Rattle.std.specs.List.{insert, remove, filter, AllWithin}
use Rattle.std.proofs.lemmas.List.Elements.{filter-append}
use Rattle.std.specs.Ordering.{is_le, ordering_reverse}
use Rattle.std.specs.declared.cmp.Ordering.{Ordering}
use Rattle.std.specs.declared.cmp.Ordering.TheVariants.{Less, Equal, Greater}
use Rattle.std.proofs.lemmas.Bool.{cases_Bool, cases_lt, leb-true, le-leb, both_ways, false≢true, ltb-true, ltb-false, leb-false}
use Rattle.std.proofs.lemmas.List.{append-nil, length-append, set-append_left, take-append-drop, take_more, drop_all, drop-drop, length-drop, length-take, length-set, get_or-set_same, get_or_default}
use Rattle.std.proofs.lemmas.List.Concat.{flat_map-append, get_or-flat_map}
use Rattle.std.proofs.lemmas.List.Edits.{insert-append_left, remove-append_left}
use Rattle.model.specs.declared.owner.Owner.{Owner}
use Rattle.lock_table.specs.declared.owner_locks.OwnerLocks.{OwnerLocks}
use Rattle.lock_table.specs.declared.place.Place.{Place}
use Rattle.lock_table.specs.code.Rows.{row_cmp, AllAfter, AreRows, IsRowAt, IsGap, HoldsSome, mark_of, AreSome, AllBefore, rows_before, IsRowIn, IsRowOf, IsPlaced, begins_to, first_file, IsGapIn, RunsFit, IsRowWritten, MayHold, Covers}
use Rattle.lock_table.specs.rule.Tables.{all_rows, rows_held}
use Rattle.lock_table.proofs.RowLemmas.{place_cmp, places_total, back_less, Place as Key, cases_not_greater, all_after_trans, row_at_from, place_below, held-at, held-gap, held-set, held-insert, held-remove, held-same, rows-set, rows-insert, rows-remove, place_of, is_of, held-none, row_place, row_alone, after_mark, held_other}
use Rattle.intervals.specs.declared.byte_run.ByteRun.{ByteRun}
use Rattle.intervals.specs.declared.span_edit.SpanEdit.{SpanEdit}
use Rattle.intervals.specs.rule.Bytes.{nothing, put}
use Rattle.intervals.specs.code.Edits.{written}
use Rattle.intervals.specs.rule.Runs.{value_at}
use Rattle.model.specs.declared.mode.Mode.{Mode}
use Rattle.model.specs.rule.Locks.{replace, with_lock, FileLocks}
use Rattle.lock_table.specs.declared.page_index.PageIndex.{PageIndex}
use Rattle.lock_table.proofs.PageLemmas.{covers-changed}
use Rattle.std.specs.List.Sorted.{IsNonDecreasingBy, IsPartitionedBy}
use Rattle.lock_table.proofs.BlockerLemmas.{IsJoin}

-- the rows of blocks are those below a block, its own and those above it
pub all_split : (blocks : List (List OwnerLocks)) (i : ℕ) → i < length blocks → all_rows blocks ≡ all_rows (take i blocks) ++ (get_or blocks i [] ++ all_rows (drop (suc i) blocks))
all_split [] i lt = absurd (omega arith)
all_split (rows ∷ blocks) zero lt = refl
all_split (rows ∷ blocks) (suc i) lt = ap (λ (l : List OwnerLocks). rows ++ l) (all_split blocks i (omega arith)) ∙ sym (append_assoc rows (all_rows (take i blocks)) (get_or blocks i [] ++ all_rows (drop (suc i) blocks)))

pub all_set : (blocks : List (List OwnerLocks)) (i : ℕ) (rows : List OwnerLocks) → i < length blocks → all_rows (set blocks i rows) ≡ all_rows (take i blocks) ++ (rows ++ all_rows (drop (suc i) blocks))
all_set [] i rows lt = absurd (omega arith)
all_set (old ∷ blocks) zero rows lt = refl
all_set (old ∷ blocks) (suc i) rows lt = ap (λ (l : List OwnerLocks). old ++ l) (all_set blocks i rows (omega arith)) ∙ sym (append_assoc old (all_rows (take i blocks)) (rows ++ all_rows (drop (suc i) blocks)))

pub all_insert : (blocks : List (List OwnerLocks)) (i : ℕ) (rows : List OwnerLocks) → all_rows (insert blocks i rows) ≡ all_rows (take i blocks) ++ (rows ++ all_rows (drop i blocks))
all_insert blocks i rows = flat_map-append (λ (l : List OwnerLocks). l) (take i blocks) (rows ∷ drop i blocks)

pub all_remove : (blocks : List (List OwnerLocks)) (i : ℕ) → all_rows (remove blocks i) ≡ all_rows (take i blocks) ++ all_rows (drop (suc i) blocks)
all_remove blocks i = flat_map-append (λ (l : List OwnerLocks). l) (take i blocks) (drop (suc i) blocks)

pub all_push : (blocks : List (List OwnerLocks)) (rows : List OwnerLocks) → all_rows (blocks ++ rows ∷ []) ≡ all_rows blocks ++ rows
all_push blocks rows = flat_map-append (λ (l : List OwnerLocks). l) blocks (rows ∷ []) ∙ ap (λ (l : List OwnerLocks). all_rows blocks ++ l) (append-nil rows)

-- changes of a list between two others
pub set-mid : {X : Type 0} (xs l ys : List X) (i : ℕ) (x : X) → i < length l → set (xs ++ (l ++ ys)) (length xs + i) x ≡ xs ++ (set l i x ++ ys)
set-mid [] l ys i x lt = let none : 0 + i ≡ i = omega arith in rw none (set-append_left l ys i x lt)
set-mid (y ∷ xs) l ys i x lt =
    let next : suc (length xs) + i ≡ suc (length xs + i) = omega arith in
    rw next (ap (λ (m : List _). y ∷ m) (set-mid xs l ys i x lt))

pub insert-mid : {X : Type 0} (xs l ys : List X) (i : ℕ) (x : X) → i ≤ length l → insert (xs ++ (l ++ ys)) (length xs + i) x ≡ xs ++ (insert l i x ++ ys)
insert-mid [] l ys i x le = let none : 0 + i ≡ i = omega arith in rw none (insert-append_left l ys i x le)
insert-mid (y ∷ xs) l ys i x le =
    let next : suc (length xs) + i ≡ suc (length xs + i) = omega arith in
    rw next (ap (λ (m : List _). y ∷ m) (insert-mid xs l ys i x le))

pub remove-mid : {X : Type 0} (xs l ys : List X) (i : ℕ) → i < length l → remove (xs ++ (l ++ ys)) (length xs + i) ≡ xs ++ (remove l i ++ ys)
remove-mid [] l ys i lt = let none : 0 + i ≡ i = omega arith in rw none (remove-append_left l ys i lt)
remove-mid (y ∷ xs) l ys i lt =
    let next : suc (length xs) + i ≡ suc (length xs + i) = omega arith in
    rw next (ap (λ (m : List _). y ∷ m) (remove-mid xs l ys i lt))

-- a block that is cut in two has the same rows
pub cut_rows : (blocks : List (List OwnerLocks)) (i kept : ℕ) → i < length blocks → all_rows (insert (set blocks i (take kept (get_or blocks i []))) (suc i) (drop kept (get_or blocks i []))) ≡ all_rows blocks
cut_rows [] i kept lt = absurd (omega arith)
cut_rows (rows ∷ blocks) zero kept lt = sym (append_assoc (take kept rows) (drop kept rows) (all_rows blocks)) ∙ ap (λ (l : List OwnerLocks). l ++ all_rows blocks) (take-append-drop kept rows)
cut_rows (rows ∷ blocks) (suc i) kept lt = ap (λ (l : List OwnerLocks). rows ++ l) (cut_rows blocks i kept (omega arith))

-- a block without rows is removed
pub drop_empty : (blocks : List (List OwnerLocks)) (i : ℕ) → i < length blocks → length (get_or blocks i []) ≡ 0 → all_rows (remove blocks i) ≡ all_rows blocks
drop_empty [] i lt none = absurd (omega arith)
drop_empty ([] ∷ blocks) zero lt none = refl
drop_empty ((r ∷ rows) ∷ blocks) zero lt none = absurd (omega arith)
drop_empty (rows ∷ blocks) (suc i) lt none = ap (λ (l : List OwnerLocks). rows ++ l) (drop_empty blocks i (omega arith) none)

-- whether a block has rows
abbrev pub has_rows : List OwnerLocks → Bool
has_rows [] = false
has_rows (r ∷ rows) = true

pub has_rows_is : (rows : List OwnerLocks) → not (leb (length rows) 0) ≡ has_rows rows
has_rows_is [] = refl
has_rows_is (r ∷ rows) = elim (cases_Bool (leb (suc (length rows)) 0)) [
  | inl none ↦ absurd (let le = leb-true _ _ none in omega arith)
  | inr some ↦ rw some refl
]

-- the rows that are left when some rows of each block are kept, and the blocks that then have none are removed
joined_kept : (test : OwnerLocks → Bool) (l rows : List OwnerLocks) (blocks : List (List OwnerLocks)) → filter test rows ≡ l → all_rows (filter has_rows (map (filter test) blocks)) ≡ filter test (all_rows blocks) → all_rows (filter has_rows (filter test rows ∷ map (filter test) blocks)) ≡ filter test (rows ++ all_rows blocks)
joined_kept test [] rows blocks e more = rw (filter-append test rows (all_rows blocks), e) more
joined_kept test (r ∷ l) rows blocks e more = rw (filter-append test rows (all_rows blocks), e) (ap (λ (m : List OwnerLocks). (r ∷ l) ++ m) more)

pub kept_rows : (test : OwnerLocks → Bool) (blocks : List (List OwnerLocks)) → all_rows (filter has_rows (map (filter test) blocks)) ≡ filter test (all_rows blocks)
kept_rows test [] = refl
kept_rows test (rows ∷ blocks) = joined_kept test (filter test rows) rows blocks refl (kept_rows test blocks)

pub some_left : (blocks : List (List OwnerLocks)) → AreSome (filter has_rows blocks)
some_left [] = tt
some_left ([] ∷ blocks) = some_left blocks
some_left ((r ∷ rows) ∷ blocks) = (omega arith, some_left blocks)

-- the rows below the next block
before_next : (blocks : List (List OwnerLocks)) (i : ℕ) → i < length blocks → length (all_rows (take (i + 1) blocks)) ≡ length (all_rows (take i blocks)) + length (get_or blocks i [])
before_next blocks i lt = ap (λ (l : List (List OwnerLocks)). length (all_rows l)) (take_more blocks i [] lt) ∙ (ap length (all_push (take i blocks) (get_or blocks i [])) ∙ length-append (all_rows (take i blocks)) (get_or blocks i []))

-- a place whose block is cut has as many rows before it
pub place_moved : (was is : List (List OwnerLocks)) (p q : Place) (kept : ℕ) → take p.block is ≡ take p.block was → p.block < length is → length (get_or is p.block []) ≡ kept → (p.row ≤ kept → q ≡ p) → (kept < p.row → q.block ≡ p.block + 1) → (kept < p.row → q.row + kept ≡ p.row) → rows_before is q ≡ rows_before was p
place_moved was is p q kept below lt lower low block row = elim (cases_lt kept p.row) [
  | inl high ↦
      let next = before_next is p.block lt in
      let same : length (all_rows (take p.block is)) ≡ length (all_rows (take p.block was)) = ap (λ (l : List (List OwnerLocks)). length (all_rows l)) below in
      rw (block high) (omega (arith, next, same, lower, row high))
  | inr le ↦ rw (low le) (ap (λ (l : List (List OwnerLocks)). length (all_rows l) + p.row) below)
]

-- a block that has a row is there
pub block_there : (blocks : List (List OwnerLocks)) (b i : ℕ) → i < length (get_or blocks b []) → b < length blocks
block_there [] b i lt = absurd (omega arith)
block_there (rows ∷ blocks) zero i lt = omega arith
block_there (rows ∷ blocks) (suc b) i lt = let more = block_there blocks b i lt in omega arith

-- changes in one block
module _ (blocks : List (List OwnerLocks)) (p : Place) (there : p.block < length blocks) where
  abbrev own : List OwnerLocks
  own = get_or blocks p.block []

  abbrev under : List OwnerLocks
  under = all_rows (take p.block blocks)

  abbrev over : List OwnerLocks
  over = all_rows (drop (suc p.block) blocks)

  pub all_set_row : (r : OwnerLocks) → p.row < length own → all_rows (set blocks p.block (set own p.row r)) ≡ set (all_rows blocks) (rows_before blocks p) r
  all_set_row r lt = all_set blocks p.block (set own p.row r) there ∙ (sym (set-mid under own over p.row r lt) ∙ ap (λ (l : List OwnerLocks). set l (rows_before blocks p) r) (sym (all_split blocks p.block there)))

  pub all_insert_row : (r : OwnerLocks) → p.row ≤ length own → all_rows (set blocks p.block (insert own p.row r)) ≡ insert (all_rows blocks) (rows_before blocks p) r
  all_insert_row r le = all_set blocks p.block (insert own p.row r) there ∙ (sym (insert-mid under own over p.row r le) ∙ ap (λ (l : List OwnerLocks). insert l (rows_before blocks p) r) (sym (all_split blocks p.block there)))

  pub all_remove_row : p.row < length own → all_rows (set blocks p.block (remove own p.row)) ≡ remove (all_rows blocks) (rows_before blocks p)
  all_remove_row lt = all_set blocks p.block (remove own p.row) there ∙ (sym (remove-mid under own over p.row lt) ∙ ap (λ (l : List OwnerLocks). remove l (rows_before blocks p)) (sym (all_split blocks p.block there)))

  pub place_within : p.row < length own → rows_before blocks p < length (all_rows blocks)
  place_within lt =
      let whole = ap length (all_split blocks p.block there) ∙ length-append under (own ++ over) in
      let two = length-append own over in
      omega (arith, whole, two)

row_is : (l : List OwnerLocks) (i : ℕ) (file : ℕ) (owner : Owner) (d : OwnerLocks) → IsRowAt l i file owner → row_cmp (get_or l i d) file owner ≡ Equal
row_is [] i file owner d h = absurd h
row_is (s ∷ rest) zero file owner d h = h
row_is (s ∷ rest) (suc i) file owner d h = row_is rest i file owner d h.1

-- a row at its place in a block is at its place among all rows
pub row_whole : (blocks : List (List OwnerLocks)) (p : Place) (file : ℕ) (owner : Owner) → AreRows (all_rows blocks) → IsRowIn blocks p file owner → IsRowAt (all_rows blocks) (rows_before blocks p) file owner
row_whole blocks p file owner rows at =
    let lt = place_below _ _ _ _ at in
    let there = block_there blocks p.block p.row lt in
    row_at_from (all_rows blocks) (rows_before blocks p) file owner rows (place_within blocks p there lt) (λ d. rw (get_or-flat_map (λ (l : List OwnerLocks). l) blocks p.block p.row [] d there lt) (row_is _ _ file owner d at))

-- the row at a place is the one that stands there among all rows
pub row_read : (blocks : List (List OwnerLocks)) (p : Place) (r : OwnerLocks) → p.row < length (get_or blocks p.block []) → r ≡ get_or (get_or blocks p.block []) p.row r → r ≡ get_or (all_rows blocks) (rows_before blocks p) r
row_read blocks p r lt is = is ∙ sym (get_or-flat_map (λ (l : List OwnerLocks). l) blocks p.block p.row [] r (block_there blocks p.block p.row lt) lt)

-- where a row is found, one stands there
pub placed_row : (blocks : List (List OwnerLocks)) (found : Result Place Place) (file : ℕ) (owner : Owner) → IsPlaced blocks found file owner → MatchResult found (IsRowOf blocks) (λ p. ⊤)
placed_row blocks (Ok p) file owner at = place_below _ _ _ _ at
placed_row blocks (Err p) file owner gap = tt

-- rows before and behind others
pub after-front : (xs ys : List OwnerLocks) (f : ℕ) (o : Owner) → AllAfter f o (xs ++ ys) → AllAfter f o xs
after-front [] ys f o after = tt
after-front (r ∷ xs) ys f o after = (after.0, after-front xs ys f o after.1)

pub after-back : (xs ys : List OwnerLocks) (f : ℕ) (o : Owner) → AllAfter f o (xs ++ ys) → AllAfter f o ys
after-back [] ys f o after = after
after-back (r ∷ xs) ys f o after = after-back xs ys f o after.1

pub rows-front : (xs ys : List OwnerLocks) → AreRows (xs ++ ys) → AreRows xs
rows-front [] ys rows = tt
rows-front (r ∷ xs) ys rows = (rows.0, after-front xs ys r.file r.owner rows.1, rows-front xs ys rows.2)

pub rows-back : (xs ys : List OwnerLocks) → AreRows (xs ++ ys) → AreRows ys
rows-back [] ys rows = rows
rows-back (r ∷ xs) ys rows = rows-back xs ys rows.2

pub rows_of_block : (blocks : List (List OwnerLocks)) (i : ℕ) → AreRows (all_rows blocks) → i < length blocks → AreRows (get_or blocks i [])
rows_of_block blocks i rows lt = rows-front (get_or blocks i []) (all_rows (drop (suc i) blocks)) (rows-back (all_rows (take i blocks)) (get_or blocks i [] ++ all_rows (drop (suc i) blocks)) (rw (← all_split blocks i lt) rows))

-- all rows below some block, and all from it on
pub all_parts : (blocks : List (List OwnerLocks)) (i : ℕ) → all_rows blocks ≡ all_rows (take i blocks) ++ all_rows (drop i blocks)
all_parts blocks zero = refl
all_parts [] (suc i) = refl
all_parts (rows ∷ blocks) (suc i) = ap (λ (l : List OwnerLocks). rows ++ l) (all_parts blocks i) ∙ sym (append_assoc rows (all_rows (take i blocks)) (all_rows (drop i blocks)))

pub rows_to : (blocks : List (List OwnerLocks)) (i : ℕ) → AreRows (all_rows blocks) → AreRows (all_rows (take i blocks))
rows_to blocks i rows = rows-front (all_rows (take i blocks)) (all_rows (drop i blocks)) (rw (← all_parts blocks i) rows)

pub rows_from : (blocks : List (List OwnerLocks)) (i : ℕ) → AreRows (all_rows blocks) → AreRows (all_rows (drop i blocks))
rows_from blocks i rows = rows-back (all_rows (take i blocks)) (all_rows (drop i blocks)) (rw (← all_parts blocks i) rows)

pub some-drop : (blocks : List (List OwnerLocks)) (i : ℕ) → AreSome blocks → AreSome (drop i blocks)
some-drop blocks zero some = some
some-drop [] (suc i) some = tt
some-drop (rows ∷ blocks) (suc i) some = some-drop blocks i some.1

pub some-take : (blocks : List (List OwnerLocks)) (i : ℕ) → AreSome blocks → AreSome (take i blocks)
some-take blocks zero some = tt
some-take [] (suc i) some = tt
some-take (rows ∷ blocks) (suc i) some = (some.0, some-take blocks i some.1)

pub some-append : (blocks more : List (List OwnerLocks)) → AreSome blocks → AreSome more → AreSome (blocks ++ more)
some-append [] more some others = others
some-append (rows ∷ blocks) more some others = (some.0, some-append blocks more some.1 others)

pub some-set : (blocks : List (List OwnerLocks)) (i : ℕ) (rows : List OwnerLocks) → AreSome blocks → 0 < length rows → AreSome (set blocks i rows)
some-set [] zero rows some has = tt
some-set [] (suc i) rows some has = tt
some-set (old ∷ blocks) zero rows some has = (has, some.1)
some-set (old ∷ blocks) (suc i) rows some has = (some.0, some-set blocks i rows some.1 has)

pub some-insert : (blocks : List (List OwnerLocks)) (i : ℕ) (rows : List OwnerLocks) → AreSome blocks → 0 < length rows → AreSome (insert blocks i rows)
some-insert blocks i rows some has = some-append (take i blocks) (rows ∷ drop i blocks) (some-take blocks i some) (has, some-drop blocks i some)

pub some-remove : (blocks : List (List OwnerLocks)) (i : ℕ) → AreSome blocks → AreSome (remove blocks i)
some-remove blocks i some = some-append (take i blocks) (drop (suc i) blocks) (some-take blocks i some) (some-drop blocks (suc i) some)

pub some_at : (blocks : List (List OwnerLocks)) (i : ℕ) → AreSome blocks → i < length blocks → 0 < length (get_or blocks i [])
some_at [] i some lt = absurd (omega arith)
some_at (rows ∷ blocks) zero some lt = some.0
some_at (rows ∷ blocks) (suc i) some lt = some_at blocks i some.1 (omega arith)

-- an edit with memory for the runs of a map makes its write
written-fits : (e : SpanEdit Mode) (runs : List (ByteRun Mode)) → length runs ≤ e.runs → written e runs ≡ put (value_at runs) e.span e.value
written-fits e runs le = ap (λ (b : Bool). if b then put (value_at runs) e.span e.value else value_at runs) (le-leb _ _ le)

-- a row that is written and then removed
pub remove-set : {X : Type 0} (l : List X) (i : ℕ) (x : X) → remove (set l i x) i ≡ remove l i
remove-set [] zero x = refl
remove-set [] (suc i) x = refl
remove-set (y ∷ l) zero x = refl
remove-set (y ∷ l) (suc i) x = ap (λ (rest : List _). y ∷ rest) (remove-set l i x)

-- the bytes of the owner's row after the write
row_written : (l : List OwnerLocks) (i file : ℕ) (owner : Owner) (e : SpanEdit Mode) (r : OwnerLocks) (after : List (ByteRun Mode)) → IsRowAt l i file owner → r ≡ get_or l i r → length r.spans ≤ e.runs → value_at after ≡ written e r.spans → value_at after ≡ put (rows_held l file owner) e.span e.value
row_written l i file owner e r after at is few made =
    made ∙ (written-fits e r.spans few ∙ ap (λ (f : ℕ → Option Mode). put f e.span e.value) (sym (held-at l i file owner r at is)))

-- the bytes of a new row, made from an empty map
new_written : (l : List OwnerLocks) (i file : ℕ) (owner : Owner) (e : SpanEdit Mode) (before after : List (ByteRun Mode)) → IsGap l i file owner → value_at before ≡ nothing → before ≡ [] → value_at after ≡ written e before → value_at after ≡ put (rows_held l file owner) e.span e.value
new_written l i file owner e before after gap none empty made =
    made ∙ (written-fits e before (subst (λ (runs : List (ByteRun Mode)). length runs ≤ e.runs) (sym empty) (omega arith)) ∙ ap (λ (f : ℕ → Option Mode). put f e.span e.value) (none ∙ sym (held-gap l i file owner gap)))

-- the rows and the index are as a write has to leave them
abbrev pub IsLeft : PageIndex → List OwnerLocks → ℕ → Owner → SpanEdit Mode → List OwnerLocks → Type 0
IsLeft index l file owner e new =
    AreRows new
    × Covers index (rows_held new)
    × ((f : ℕ) (o : Owner) → rows_held new f o ≡ with_lock (rows_held l) file owner e.span e.value f o)

-- a write to rows that the index covers, after the index noted it
module _ (x y : PageIndex) (l : List OwnerLocks) (i file : ℕ) (owner : Owner) (e : SpanEdit Mode) (kept : AreRows l × Covers x (rows_held l)) (keeps : (f : ℕ) (o : Owner) (b : ℕ) → MayHold x f o b → MayHold y f o b) (noted : (before : ℕ → Option Mode) (b : ℕ) (m : Mode) → put before e.span e.value b ≡ Some m → (before b ≡ Some m) ⊎ MayHold y file owner b) where
  left : (new : List OwnerLocks) (bytes : ℕ → Option Mode) → AreRows new → ((f : ℕ) (o : Owner) → rows_held new f o ≡ replace (rows_held l) file owner bytes f o) → bytes ≡ put (rows_held l file owner) e.span e.value → IsLeft y l file owner e new
  left new bytes order is made =
      let same : (f : ℕ) (o : Owner) → rows_held new f o ≡ with_lock (rows_held l) file owner e.span e.value f o = λ f o. is f o ∙ ap (λ (g : ℕ → Option Mode). replace (rows_held l) file owner g f o) made in
      (order, covers-changed x y (rows_held l) (rows_held new) file owner (rows_held l file owner) (put (rows_held l file owner) e.span e.value) same kept.1 keeps (λ b m was. was) (noted (rows_held l file owner)), same)

  -- the owner's row is written
  pub row_set : (r : OwnerLocks) (after : List (ByteRun Mode)) → IsRowAt l i file owner → r ≡ get_or l i r → length r.spans ≤ e.runs → value_at after ≡ written e r.spans → HoldsSome (value_at after) → IsLeft y l file owner e (set l i (record r { spans = after }))
  row_set r after at is few made some =
      let row : OwnerLocks = record r { spans = after } in
      let place = place_of l i file owner r at is in
      left (set l i row) (value_at after) (rows-set l i file owner row at place.0 place.1 some kept.0) (held-set l i file owner row at place.0 place.1) (row_written l i file owner e r after at is few made)

  -- the owner's row is removed
  pub row_gone : (r : OwnerLocks) (after : List (ByteRun Mode)) → IsRowAt l i file owner → r ≡ get_or l i r → length r.spans ≤ e.runs → value_at after ≡ written e r.spans → value_at after ≡ nothing → IsLeft y l file owner e (remove l i)
  row_gone r after at is few made none =
      left (remove l i) nothing (rows-remove l i kept.0) (held-remove l i file owner kept.0 at) (sym none ∙ row_written l i file owner e r after at is few made)

  -- the owner has no row and needs none
  pub row_unwanted : (before after : List (ByteRun Mode)) → IsGap l i file owner → value_at before ≡ nothing → before ≡ [] → value_at after ≡ written e before → value_at after ≡ nothing → IsLeft y l file owner e l
  row_unwanted before after gap clear empty made none =
      left l nothing kept.0 (held-same l i file owner gap) (sym none ∙ new_written l i file owner e before after gap clear empty made)

  -- the owner gets a row
  pub row_added : (before after : List (ByteRun Mode)) → IsGap l i file owner → value_at before ≡ nothing → before ≡ [] → value_at after ≡ written e before → HoldsSome (value_at after) → IsLeft y l file owner e (insert l i (record { file = file; owner = owner; spans = after }))
  row_added before after gap clear empty made some =
      let row : OwnerLocks = record { file = file; owner = owner; spans = after } in
      left (insert l i row) (value_at after) (rows-insert l i row gap some kept.0) (held-insert l i row gap) (new_written l i file owner e before after gap clear empty made)

-- a row that stands before another one stands before what that one doesn't stand behind
not_behind : (x r p : Key) → place_cmp r x ≡ Greater → is_le (place_cmp r p) ≡ true → place_cmp x p ≡ Less
not_behind x r p after le = go (place_cmp r p) refl le
  where
    less : place_cmp x r ≡ Less
    less = back_less place_cmp places_total r x after

    go : (o : Ordering) → place_cmp r p ≡ o → is_le o ≡ true → place_cmp x p ≡ Less
    go Less e le = places_total.trans x r p less e
    go Equal e le = back_less place_cmp places_total p x (places_total.congr p r x (places_total.antisymm p r ∙ ap ordering_reverse e) ∙ after)
    go Greater e le = absurd (false≢true le)

greater_from : (o : Ordering) → is_le o ≡ false → o ≡ Greater
greater_from Less h = absurd (false≢true (sym h))
greater_from Equal h = absurd (false≢true (sym h))
greater_from Greater h = refl

-- rows that stand before one that doesn't stand behind a place stand before it
pub before_from : (xs : List OwnerLocks) (r : OwnerLocks) (ys : List OwnerLocks) (f : ℕ) (o : Owner) → AreRows (xs ++ r ∷ ys) → is_le (row_cmp r f o) ≡ true → AllBefore f o xs
before_from [] r ys f o rows le = tt
before_from (x ∷ xs) r ys f o rows le =
    let after = after-back xs (r ∷ ys) x.file x.owner rows.1 in
    (not_behind (x.file, x.owner) (r.file, r.owner) (f, o) after.0 le, before_from xs r ys f o rows.2 le)

-- the first row of a block, in rows that begin with the block
pub record Begun (blocks : List (List OwnerLocks)) (i : ℕ) : Type 0 where
  pub first : OwnerLocks
  pub others : List OwnerLocks
  pub rest : List OwnerLocks
  pub block : (d : List OwnerLocks) → get_or blocks i d ≡ first ∷ others
  pub whole : all_rows (drop i blocks) ≡ first ∷ rest

begun-some : (rows : List OwnerLocks) (blocks : List (List OwnerLocks)) → 0 < length rows → Begun (rows ∷ blocks) 0
begun-some [] blocks some = absurd (omega arith)
begun-some (r ∷ rows) blocks some = record { first = r; others = rows; rest = rows ++ all_rows blocks; block = λ d. refl; whole = refl }

pub begun : (blocks : List (List OwnerLocks)) (i : ℕ) → AreSome blocks → i < length blocks → Begun blocks i
begun [] i some lt = absurd (omega arith)
begun (rows ∷ blocks) zero some lt = begun-some rows blocks some.0
begun (rows ∷ blocks) (suc i) some lt =
    let more = begun blocks i some.1 (omega arith) in
    record { first = more.first; others = more.others; rest = more.rest; block = more.block; whole = more.whole }

-- the first row of a later block stands behind the first one
begun_after : (blocks : List (List OwnerLocks)) (j : ℕ) (f : ℕ) (o : Owner) (d : List OwnerLocks) → AllAfter f o (all_rows blocks) → AreSome blocks → j < length blocks → (r : OwnerLocks) × (rest : List OwnerLocks) × (get_or blocks j d ≡ r ∷ rest) × (row_cmp r f o ≡ Greater)
begun_after [] j f o d after some lt = absurd (omega arith)
begun_after ([] ∷ blocks) zero f o d after some lt = absurd (omega (arith, some.0))
begun_after ((r ∷ rows) ∷ blocks) zero f o d after some lt = (r, rows, refl, after.0)
begun_after (rows ∷ blocks) (suc j) f o d after some lt = begun_after blocks j f o d (after-back rows (all_rows blocks) f o after) some.1 (omega arith)

is_le_less : (o : Ordering) → o ≡ Less → is_le o ≡ true
is_le_less Less e = refl
is_le_less Equal e = absurd cc
is_le_less Greater e = absurd cc

-- blocks that begin to a place stand before the others
pub begins_parted : (blocks : List (List OwnerLocks)) (f : ℕ) (o : Owner) → AreRows (all_rows blocks) → AreSome blocks → IsPartitionedBy (λ (rows : List OwnerLocks). begins_to rows (mark_of f o) o) blocks
begins_parted [] f o rows some i j d le lt h = absurd (omega arith)
begins_parted (l ∷ blocks) f o rows some zero zero d le lt h = h
begins_parted ([] ∷ blocks) f o rows some zero (suc j) d le lt h = absurd (omega (arith, some.0))
begins_parted ((r ∷ l) ∷ blocks) f o rows some zero (suc j) d le lt h =
    let later = begun_after blocks j r.file r.owner d (after-back l (all_rows blocks) r.file r.owner rows.1) some.1 (omega arith) in
    let begins : is_le (row_cmp later.0 f o) ≡ true = rw later.2 at h in
    is_le_less _ (not_behind (r.file, r.owner) (later.0.file, later.0.owner) (f, o) later.3 begins)
begins_parted (l ∷ blocks) f o rows some (suc i) zero d le lt h = absurd (omega arith)
begins_parted (l ∷ blocks) f o rows some (suc i) (suc j) d le lt h = begins_parted blocks f o (rows-back l (all_rows blocks) rows) some.1 i j d (omega arith) (omega arith) h

module _ (blocks : List (List OwnerLocks)) (f : ℕ) (o : Owner) (rows : AreRows (all_rows blocks)) (some : AreSome blocks) where
  -- the rows below a block that begins to a place stand before it
  pub below_begun : (i : ℕ) → i < length blocks → ((d : List OwnerLocks) → begins_to (get_or blocks i d) (mark_of f o) o ≡ true) → AllBefore f o (all_rows (take i blocks))
  below_begun i lt begins =
      let at = begun blocks i some lt in
      let le : is_le (row_cmp at.first f o) ≡ true = rw (at.block []) at (begins []) in
      let whole : all_rows blocks ≡ all_rows (take i blocks) ++ at.first ∷ at.rest = all_parts blocks i ∙ ap (λ (l : List OwnerLocks). all_rows (take i blocks) ++ l) at.whole in
      before_from (all_rows (take i blocks)) at.first at.rest f o (rw whole at rows) le

  -- the rows from a block on that begins behind a place stand behind it
  pub above_begun : (i : ℕ) → (i < length blocks → (d : List OwnerLocks) → begins_to (get_or blocks i d) (mark_of f o) o ≡ false) → AllAfter f o (all_rows (drop i blocks))
  above_begun i behind = elim (cases_lt i (length blocks)) [
    | inl lt ↦
        let at = begun blocks i some lt in
        let after : row_cmp at.first f o ≡ Greater = greater_from _ (rw (at.block []) at (behind lt [])) in
        let these : AreRows (at.first ∷ at.rest) = rw at.whole at (rows_from blocks i rows) in
        rw at.whole (after, all_after_trans at.first.file f at.first.owner o at.rest after these.1)
    | inr past ↦ rw (drop_all i blocks past) tt
  ]

-- a gap of some rows is one among more rows
gap-back : (l ys : List OwnerLocks) (i f : ℕ) (o : Owner) → IsGap l i f o → AllAfter f o ys → IsGap (l ++ ys) i f o
gap-back [] ys zero f o gap after = after
gap-back [] ys (suc i) f o gap after = absurd gap
gap-back (r ∷ l) ys zero f o gap after = (gap.0, all_after-both l ys gap.1 after)
  where
    all_after-both : (l ys : List OwnerLocks) → AllAfter f o l → AllAfter f o ys → AllAfter f o (l ++ ys)
    all_after-both [] ys p q = q
    all_after-both (s ∷ l) ys p q = (p.0, all_after-both l ys p.1 q)
gap-back (r ∷ l) ys (suc i) f o gap after = (gap.0, gap-back l ys i f o gap.1 after)

gap-front : (xs l : List OwnerLocks) (i f : ℕ) (o : Owner) → AllBefore f o xs → IsGap l i f o → IsGap (xs ++ l) (length xs + i) f o
gap-front [] l i f o before gap = let none : 0 + i ≡ i = omega arith in rw none gap
gap-front (x ∷ xs) l i f o before gap =
    let next : suc (length xs) + i ≡ suc (length xs + i) = omega arith in
    rw next (before.0, gap-front xs l i f o before.1 gap)

pub gap_whole : (blocks : List (List OwnerLocks)) (b i f : ℕ) (o : Owner) → b < length blocks → AllBefore f o (all_rows (take b blocks)) → IsGap (get_or blocks b []) i f o → AllAfter f o (all_rows (drop (suc b) blocks)) → IsGap (all_rows blocks) (length (all_rows (take b blocks)) + i) f o
gap_whole blocks b i f o lt before gap after =
    rw (all_split blocks b lt) (gap-front (all_rows (take b blocks)) (get_or blocks b [] ++ all_rows (drop (suc b) blocks)) i f o before (gap-back (get_or blocks b []) (all_rows (drop (suc b) blocks)) i f o gap after))

-- where there is no block a row belongs at the first place
pub gap_none : (blocks : List (List OwnerLocks)) (b f : ℕ) (o : Owner) → b ≡ length blocks → (0 < length blocks → b < length blocks) → IsGapIn blocks (record { block = b; row = 0 }) f o
gap_none [] b f o is within = rw is (record { gap = tt; within = omega arith; block = inr refl })
gap_none (l ∷ blocks) b f o is within = absurd (let lt = within (omega arith) in omega arith)

-- files rise along the first rows of blocks
pub first_files_rise : (blocks : List (List OwnerLocks)) → AreRows (all_rows blocks) → AreSome blocks → IsNonDecreasingBy first_file blocks
first_files_rise [] rows some i j d le lt = absurd (omega arith)
first_files_rise (l ∷ blocks) rows some zero zero d le lt = omega arith
first_files_rise ([] ∷ blocks) rows some zero (suc j) d le lt = absurd (omega (arith, some.0))
first_files_rise ((r ∷ l) ∷ blocks) rows some zero (suc j) d le lt =
    let later = begun_after blocks j r.file r.owner d (after-back l (all_rows blocks) r.file r.owner rows.1) some.1 (omega arith) in
    let marks = after_mark later.0 r.file r.owner later.3 in
    rw later.2 (omega (arith, marks))
first_files_rise (l ∷ blocks) rows some (suc i) zero d le lt = absurd (omega arith)
first_files_rise (l ∷ blocks) rows some (suc i) (suc j) d le lt = first_files_rise blocks (rows-back l (all_rows blocks) rows) some.1 i j d (omega arith) (omega arith)

-- each of the rows is of a lower file; of a higher one
abbrev AreLower : ℕ → List OwnerLocks → Type 0
AreLower f [] = Unit {0}
AreLower f (r ∷ rest) = (r.file < f) × AreLower f rest

abbrev AreHigher : ℕ → List OwnerLocks → Type 0
AreHigher f [] = Unit {0}
AreHigher f (r ∷ rest) = (f < r.file) × AreHigher f rest

lower_from : (xs : List OwnerLocks) (r : OwnerLocks) (ys : List OwnerLocks) (f : ℕ) → AreRows (xs ++ r ∷ ys) → r.file < f → AreLower f xs
lower_from [] r ys f rows lt = tt
lower_from (x ∷ xs) r ys f rows lt =
    let after = after-back xs (r ∷ ys) x.file x.owner rows.1 in
    let marks = after_mark r x.file x.owner after.0 in
    (omega (arith, marks), lower_from xs r ys f rows.2 lt)

higher_from : (r : OwnerLocks) (ys : List OwnerLocks) (f g : ℕ) (o : Owner) → AllAfter g o ys → f < g → AreHigher f ys
higher_from r [] f g o after lt = tt
higher_from r (y ∷ ys) f g o after lt =
    let marks = after_mark y g o after.0 in
    (omega (arith, marks), higher_from r ys f g o after.1 lt)

held-lower : (xs ys : List OwnerLocks) (f : ℕ) (o : Owner) → AreLower f xs → rows_held (xs ++ ys) f o ≡ rows_held ys f o
held-lower [] ys f o lower = refl
held-lower (x ∷ xs) ys f o lower = held_other x (xs ++ ys) f o (λ e. absurd (omega (arith, lower.0))) ∙ held-lower xs ys f o lower.1

held-higher : (l ys : List OwnerLocks) (f : ℕ) (o : Owner) → AreHigher f ys → rows_held (l ++ ys) f o ≡ rows_held l f o
unfolding rows_held
held-higher [] [] f o higher = refl
held-higher [] (y ∷ ys) f o higher = held_other y ys f o (λ e. absurd (omega (arith, higher.0))) ∙ held-higher [] ys f o higher.1
held-higher (r ∷ l) ys f o higher = rw (held-higher l ys f o higher) refl

-- the blocks that may have rows of file f: from the one before the first that begins with f or a higher file, to the first that begins with a higher one
module _ (blocks : List (List OwnerLocks)) (f begun_below end : ℕ) (rows : AreRows (all_rows blocks)) (some : AreSome blocks) (within : end ≤ length blocks) (below : AllWithin (λ (l : List OwnerLocks). ltb (first_file l) f ≡ true) blocks 0 begun_below) (from : AllWithin (λ (l : List OwnerLocks). ltb (first_file l) f ≡ false) blocks begun_below (length blocks)) (to : AllWithin (λ (l : List OwnerLocks). leb (first_file l) f ≡ true) blocks 0 end) (above : AllWithin (λ (l : List OwnerLocks). leb (first_file l) f ≡ false) blocks end (length blocks)) where
  abbrev start : ℕ
  start = begun_below - 1

  pub blocks_order : begun_below ≤ length blocks → start ≤ end
  blocks_order le = elim (cases_lt end begun_below) [
    | inl lt ↦
        let low = ltb-true _ _ (below end [] (omega arith) lt) in
        let high = leb-false _ _ (above end [] (omega arith) (omega arith)) in
        absurd (omega arith)
    | inr le ↦ omega arith
  ]

  lower : begun_below ≤ length blocks → AreLower f (all_rows (take start blocks))
  lower le = elim (cases_lt 0 begun_below) [
    | inl some_below ↦
        let at = begun blocks start some (omega arith) in
        let file : at.first.file < f = ltb-true _ _ (rw (at.block []) at (below start [] (omega arith) (omega arith))) in
        let whole : all_rows blocks ≡ all_rows (take start blocks) ++ at.first ∷ at.rest = all_parts blocks start ∙ ap (λ (l : List OwnerLocks). all_rows (take start blocks) ++ l) at.whole in
        lower_from (all_rows (take start blocks)) at.first at.rest f (rw whole at rows) file
    | inr none ↦ let zero_start : start ≡ 0 = omega arith in rw zero_start tt
  ]

  higher : AreHigher f (all_rows (drop end blocks))
  higher = elim (cases_lt end (length blocks)) [
    | inl lt ↦
        let at = begun blocks end some lt in
        let file : f < at.first.file = leb-false _ _ (rw (at.block []) at (above end [] (omega arith) lt)) in
        let these : AreRows (at.first ∷ at.rest) = rw at.whole at (rows_from blocks end rows) in
        rw at.whole (file, higher_from at.first at.rest f at.first.file at.first.owner these.1 file)
    | inr past ↦ rw (drop_all end blocks past) tt
  ]

  -- the blocks in three parts
  parts : begun_below ≤ length blocks → all_rows blocks ≡ all_rows (take start blocks) ++ (all_rows (take (end - start) (drop start blocks)) ++ all_rows (drop end blocks))
  parts le =
      let order = blocks_order le in
      let back : end - start + start ≡ end = omega arith in
      let rest : drop (end - start) (drop start blocks) ≡ drop end blocks = drop-drop (end - start) start blocks ∙ ap (λ (n : ℕ). drop n blocks) (let e : start + (end - start) ≡ end = omega arith in e) in
      all_parts blocks start ∙ ap (λ (l : List OwnerLocks). all_rows (take start blocks) ++ l) (all_parts (drop start blocks) (end - start) ∙ ap (λ (m : List (List OwnerLocks)). all_rows (take (end - start) (drop start blocks)) ++ all_rows m) rest)

  pub blocks_rows : begun_below ≤ length blocks → AreRows (all_rows (take (end - start) (drop start blocks)))
  blocks_rows le = rows-front (all_rows (take (end - start) (drop start blocks))) (all_rows (drop end blocks)) (rows-back (all_rows (take start blocks)) _ (rw (parts le) at rows))

  pub blocks_held : begun_below ≤ length blocks → (o : Owner) → rows_held (all_rows (take (end - start) (drop start blocks))) f o ≡ rows_held (all_rows blocks) f o
  blocks_held le o =
      rw (parts le) (sym (held-lower (all_rows (take start blocks)) _ f o (lower le) ∙ held-higher (all_rows (take (end - start) (drop start blocks))) (all_rows (drop end blocks)) f o higher))

-- the rows of two lists hold in a file what each holds, and no owner has rows in both
pub append-join : (xs ys : List OwnerLocks) (f : ℕ) → AreRows (xs ++ ys) → IsJoin (rows_held xs f) (rows_held ys f) (rows_held (xs ++ ys) f)
unfolding rows_held
append-join [] ys f rows o = inr (refl, refl)
append-join (r ∷ xs) ys f rows o = elim (cases_Bool (is_of r f o)) [
  | inl this ↦
      let at = row_place r f o this in
      let none : rows_held ys f o ≡ nothing = rw (← at.0, ← at.1) (held-none ys r.file r.owner (after-back xs ys r.file r.owner rows.1)) in
      rw this (inl (refl, none))
  | inr differ ↦ rw differ (append-join xs ys f rows.2 o)
]

-- what a part holds is held
pub join-left : (g h k : FileLocks) → IsJoin g h k → (o : Owner) (b : ℕ) (m : Mode) → g o b ≡ Some m → k o b ≡ Some m
join-left g h k join o b m at = elim (join o) [
  | inl e ↦ ap (λ (f : ℕ → Option Mode). f b) e.0 ∙ at
  | inr e ↦ absurd (let none : g o b ≡ None = ap (λ (f : ℕ → Option Mode). f b) e.1 in cc)
]

pub join-right : (g h k : FileLocks) → IsJoin g h k → (o : Owner) (b : ℕ) (m : Mode) → h o b ≡ Some m → k o b ≡ Some m
join-right g h k join o b m at = elim (join o) [
  | inl e ↦ absurd (let none : h o b ≡ None = ap (λ (f : ℕ → Option Mode). f b) e.1 in cc)
  | inr e ↦ ap (λ (f : ℕ → Option Mode). f b) e.0 ∙ at
]

-- a byte that two lists of rows hold is held by one of them
pub append-held : (xs ys : List OwnerLocks) (f : ℕ) (o : Owner) (b : ℕ) (m : Mode) → rows_held (xs ++ ys) f o b ≡ Some m → (rows_held xs f o b ≡ Some m) ⊎ (rows_held ys f o b ≡ Some m)
unfolding rows_held
append-held [] ys f o b m at = inr at
append-held (r ∷ xs) ys f o b m at = elim (cases_Bool (is_of r f o)) [
  | inl this ↦ inl (rw this (rw this at at))
  | inr differ ↦ rw differ (append-held xs ys f o b m (rw differ at at))
]

module _ (blocks : List (List OwnerLocks)) (i f : ℕ) (rows : AreRows (all_rows blocks)) (lt : i < length blocks) where
  abbrev these : List OwnerLocks
  these = get_or blocks i []

  -- the rows of one more block
  pub block_step : IsJoin (rows_held (all_rows (take i blocks)) f) (rows_held these f) (rows_held (all_rows (take (i + 1) blocks)) f)
  block_step =
      let next : all_rows (take (i + 1) blocks) ≡ all_rows (take i blocks) ++ these = ap all_rows (take_more blocks i [] lt) ∙ all_push (take i blocks) these in
      let order : AreRows (all_rows (take i blocks) ++ these) = subst AreRows next (rows_to blocks (i + 1) rows) in
      subst (λ (l : List OwnerLocks). IsJoin (rows_held (all_rows (take i blocks)) f) (rows_held these f) (rows_held l f)) (sym next) (append-join (all_rows (take i blocks)) these f order)

  -- what rows of one of the blocks hold is held
  pub among_blocks : (part : List OwnerLocks) (h : FileLocks) → rows_held part f ≡ rows_held these f → rows_held (all_rows blocks) f ≡ h → (o : Owner) (b : ℕ) (m : Mode) → rows_held part f o b ≡ Some m → h o b ≡ Some m
  among_blocks part h same whole o b m at =
      let rest = all_rows (drop (suc i) blocks) in
      let order : AreRows (all_rows (take i blocks) ++ (these ++ rest)) = subst AreRows (all_split blocks i lt) rows in
      let own : rows_held these f o b ≡ Some m = sym (ap (λ (g : FileLocks). g o b) same) ∙ at in
      let near : rows_held (these ++ rest) f o b ≡ Some m = join-left _ _ _ (append-join these rest f (rows-back (all_rows (take i blocks)) (these ++ rest) order)) o b m own in
      let all : rows_held (all_rows (take i blocks) ++ (these ++ rest)) f o b ≡ Some m = join-right _ _ _ (append-join (all_rows (take i blocks)) (these ++ rest) f order) o b m near in
      let there : rows_held (all_rows blocks) f o b ≡ Some m = rw (all_split blocks i lt) all in
      sym (ap (λ (g : FileLocks). g o b) whole) ∙ there

take_set : {X : Type 0} (l : List X) (i : ℕ) (x : X) → take i (set l i x) ≡ take i l
take_set [] zero x = refl
take_set [] (suc i) x = refl
take_set (y ∷ l) zero x = refl
take_set (y ∷ l) (suc i) x = ap (λ (m : List _). y ∷ m) (take_set l i x)

-- the place of a row has as many rows before it after its block is written
pub before_set : (blocks : List (List OwnerLocks)) (p : Place) (rows : List OwnerLocks) → rows_before (set blocks p.block rows) p ≡ rows_before blocks p
before_set blocks p rows = ap (λ (l : List (List OwnerLocks)). length (all_rows l) + p.row) (take_set blocks p.block rows)

-- the block of a row
pub own_block : (blocks : List (List OwnerLocks)) (p : Place) (file : ℕ) (owner : Owner) (rows : List OwnerLocks) → IsRowIn blocks p file owner → rows ≡ get_or blocks p.block rows → rows ≡ get_or blocks p.block []
own_block blocks p file owner rows at is = is ∙ get_or_default blocks p.block rows [] (block_there blocks p.block p.row (place_below _ _ _ _ at))

-- the row of an owner is written in its block, of which the index noted it
module _ (blocks : List (List OwnerLocks)) (p : Place) (file : ℕ) (owner : Owner) (e : SpanEdit Mode) (new : List OwnerLocks) (gone : Bool) (rows : AreRows (all_rows blocks)) (at : IsRowIn blocks p file owner) (few : RunsFit blocks p e.runs) (w : IsRowWritten (get_or blocks p.block []) new p.row e gone) where
  lt : p.row < length (get_or blocks p.block [])
  lt = place_below _ _ _ _ at

  pub written_there : p.block < length blocks
  written_there = block_there blocks p.block p.row lt

  abbrev row : OwnerLocks
  row = record w.row { spans = w.after }

  written_rows : all_rows (set blocks p.block new) ≡ set (all_rows blocks) (rows_before blocks p) row
  written_rows = ap (λ (l : List OwnerLocks). all_rows (set blocks p.block l)) w.rows ∙ all_set_row blocks p written_there row lt

  pub written_length : length new ≡ length (get_or blocks p.block [])
  written_length = ap length w.rows ∙ length-set (get_or blocks p.block []) p.row row

  pub written_some : AreSome blocks → AreSome (set blocks p.block new)
  written_some some = some-set blocks p.block new some (omega (arith, written_length, lt))

  pub written_within : p.row < length (get_or (set blocks p.block new) p.block [])
  written_within = rw (get_or-set_same blocks p.block new [] written_there) (omega (arith, written_length, lt))

  module _ (x y : PageIndex) (covers : Covers x (rows_held (all_rows blocks))) (keeps : (f : ℕ) (o : Owner) (b : ℕ) → MayHold x f o b → MayHold y f o b) (noted : (before : ℕ → Option Mode) (b : ℕ) (m : Mode) → put before e.span e.value b ≡ Some m → (before b ≡ Some m) ⊎ MayHold y file owner b) where
    pub written_kept : gone ≡ false → IsLeft y (all_rows blocks) file owner e (all_rows (set blocks p.block new))
    written_kept kept =
        let some : HoldsSome (value_at w.after) = record { some = λ none. both_ways gone kept (w.none.1 none); bounded = w.bounded } in
        rw written_rows (row_set x y (all_rows blocks) (rows_before blocks p) file owner e (rows, covers) keeps noted w.row w.after (row_whole blocks p file owner rows at) (row_read blocks p w.row lt w.read) (few w.row w.read) w.bytes some)

    pub written_gone : gone ≡ true → IsLeft y (all_rows blocks) file owner e (remove (all_rows (set blocks p.block new)) (rows_before (set blocks p.block new) p))
    written_gone is_gone =
        rw (before_set blocks p new, written_rows, remove-set (all_rows blocks) (rows_before blocks p) row) (row_gone x y (all_rows blocks) (rows_before blocks p) file owner e (rows, covers) keeps noted w.row w.after (row_whole blocks p file owner rows at) (row_read blocks p w.row lt w.read) (few w.row w.read) w.bytes (w.none.0 is_gone))
