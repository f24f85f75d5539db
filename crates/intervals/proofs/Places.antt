-- The parts of a row by their places, and the row after parts are replaced.
use Rattle.std.proofs.Common.{◌≡◌, ℕ, zero, suc, pred, ◌+◌, ◌-◌, ◌<◌, ◌≤◌, length, get_or, set, take, drop, List, [], ◌∷◌, ◌++◌, Option, subst, refl, ap, sym, ◌∙◌, inl, inr, arith}
use Rattle.std.specs.List.{insert, remove}
use Rattle.std.proofs.lemmas.List.{append_assoc, append-nil, length-append, drop-drop, get_or-drop, take_more, length-drop}
use Rattle.std.proofs.lemmas.Bool.{cases_lt}
use Rattle.intervals.specs.declared.byte_run.ByteRun.{ByteRun}
use Rattle.intervals.specs.declared.row.Row.{Row}
use Rattle.intervals.specs.rule.Bytes.{Range, greatest, put}
use Rattle.intervals.specs.code.Runs.{AreRuns, EndsBelow}
use Rattle.intervals.specs.rule.Runs.{value_at}
use Rattle.intervals.specs.code.Entries.{BeginAbove}
use Rattle.intervals.specs.code.Parts.{all_runs, AreSome, BeginsTo, row_runs, runs_below, part_at, runs_above, runs_to, runs_within, IsPut, IsRewritten}
use Rattle.intervals.proofs.Runs.{drop_read}
use Rattle.intervals.proofs.Split.{runs-back, at-back, at-first}
use Rattle.intervals.proofs.Written.{ends_below-both, ends_below-front, ends_below-rest}
use Rattle.intervals.proofs.StartsWith.{put-in, put-below, put-above}
use Rattle.intervals.proofs.Ordered.{none_above}
use Rattle.intervals.proofs.Replaced.{AreReplaced, replaced}
use Rattle.intervals.proofs.Rows.{all_runs-append, all_runs-push, all_runs-split, some-append, some-take, some-drop, begins_ends, above-back, above_more}

-- the runs from part i on are the ones of part i and the ones of the parts above it
pub read_all : {V : Type 0} (l : List (List (ByteRun V))) (i : ℕ) → i < length l → all_runs (drop i l) ≡ get_or l i [] ++ all_runs (drop (suc i) l)
read_all [] i lt = absurd (omega arith)
read_all (p ∷ l) zero lt = refl
read_all (p ∷ l) (suc i) lt = read_all l i (omega arith)

-- the runs of a row are the ones below a place and the ones from it on
pub row_split : {V : Type 0} (row : Row V) (i : ℕ) → i ≤ length row.rest.items → row_runs row ≡ runs_below row i ++ (part_at row i ++ runs_above row i)
row_split row zero le = refl
row_split row (suc i) le =
    let rest = row.rest.items in
    ap (λ x. row.first ++ x) (all_runs-split rest i ∙ ap (λ x. all_runs (take i rest) ++ x) (read_all rest i (omega arith))) ∙ sym (append_assoc row.first (all_runs (take i rest)) (get_or rest i [] ++ all_runs (drop (suc i) rest)))

-- the runs of a row are the ones below, within and above several parts
pub row_within : {V : Type 0} (row : Row V) (i n : ℕ) → i + n ≤ length row.rest.items → row_runs row ≡ runs_below row i ++ (runs_within row i n ++ runs_above row (i + n))
row_within row i n le =
    let rest = row.rest.items in
    let more : runs_above row i ≡ all_runs (take n (drop i rest)) ++ runs_above row (i + n) = all_runs-split (drop i rest) n ∙ ap (λ x. all_runs (take n (drop i rest)) ++ all_runs x) (drop-drop n i rest) in
    row_split row i (omega arith) ∙ ap (λ x. runs_below row i ++ x) (ap (λ x. part_at row i ++ x) more ∙ sym (append_assoc (part_at row i) (all_runs (take n (drop i rest))) (runs_above row (i + n))))

-- the runs of a row are the ones up to a part and the ones above it
pub runs_to-split : {V : Type 0} (row : Row V) (i : ℕ) → row_runs row ≡ runs_to row i ++ runs_above row i
runs_to-split row i = ap (λ x. row.first ++ x) (all_runs-split row.rest.items i) ∙ sym (append_assoc row.first (all_runs (take i row.rest.items)) (runs_above row i))

take_read : {V : Type 0} (l : List (List (ByteRun V))) (h n : ℕ) → h < length l → all_runs (take (suc (h + n)) l) ≡ all_runs (take h l) ++ (get_or l h [] ++ all_runs (take n (drop (suc h) l)))
take_read [] h n lt = absurd (omega arith)
take_read (p ∷ l) zero n lt = let none : zero + n ≡ n = omega arith in rw none refl
take_read (p ∷ l) (suc h) n lt =
    let more : suc h + n ≡ suc (h + n) = omega arith in
    rw more (ap (λ x. p ++ x) (take_read l h n (omega arith)) ∙ sym (append_assoc p (all_runs (take h l)) (get_or l h [] ++ all_runs (take n (drop (suc h) l)))))

-- the runs up to a later part are the ones below the earlier one, and the ones within
pub runs_to-within : {V : Type 0} (row : Row V) (i n : ℕ) → i + n ≤ length row.rest.items → runs_to row (i + n) ≡ runs_below row i ++ runs_within row i n
runs_to-within row zero n le = let none : zero + n ≡ n = omega arith in rw none refl
runs_to-within row (suc h) n le =
    let rest = row.rest.items in
    let more : suc h + n ≡ suc (h + n) = omega arith in
    rw more (ap (λ x. row.first ++ x) (take_read rest h n (omega arith)) ∙ sym (append_assoc row.first (all_runs (take h rest)) (get_or rest h [] ++ all_runs (take n (drop (suc h) rest)))))

-- the runs within one more part
pub within_more : {V : Type 0} (row : Row V) (i n : ℕ) → i + n < length row.rest.items → runs_within row i (suc n) ≡ runs_within row i n ++ part_at row (suc (i + n))
within_more row i n lt =
    let rest = row.rest.items in
    let left : length (drop i rest) ≡ length rest - i = length-drop i rest in
    let next : suc n ≡ n + 1 = omega arith in
    let more : take (suc n) (drop i rest) ≡ take n (drop i rest) ++ get_or rest (i + n) [] ∷ [] = rw next (take_more (drop i rest) n [] (omega (arith, left)) ∙ ap (λ x. take n (drop i rest) ++ x ∷ []) (get_or-drop i rest n [])) in
    ap (λ x. part_at row i ++ x) (ap all_runs more ∙ all_runs-push (take n (drop i rest)) (get_or rest (i + n) [])) ∙ sym (append_assoc (part_at row i) (all_runs (take n (drop i rest))) (get_or rest (i + n) []))

pub above-front : {V : Type 0} (l m : List (ByteRun V)) (n : ℕ) → BeginAbove (l ++ m) n → BeginAbove l n
above-front [] m n above = tt
above-front (r ∷ l) m n above = (above.0, above-front l m n above.1)

-- a list made of the runs of the first and the last of several parts has the new value exactly on the span
module _ {V : Type 0} (row : Row V) (i n : ℕ) (s : Range) (v : Option V) (new : List (ByteRun V)) where
  pub bytes_within : i + n ≤ length row.rest.items → BeginAbove (runs_above row i) (s.lo - 1) → EndsBelow (runs_below row (i + n)) (s.hi + 1) → ((b : ℕ) → b < s.lo → value_at new b ≡ value_at (part_at row i) b) → ((b : ℕ) → s.lo ≤ b → b ≤ s.hi → value_at new b ≡ v) → ((b : ℕ) → s.hi < b → value_at new b ≡ value_at (part_at row (i + n)) b) → (b : ℕ) → value_at new b ≡ put (value_at (runs_within row i n)) s v b
  bytes_within le begin ended below inside above b = elim (cases_lt b s.lo) [
    | inl lt ↦ below b lt ∙ (sym (low lt) ∙ sym (put-below (value_at (runs_within row i n)) s v b lt))
    | inr ge ↦ elim (cases_lt s.hi b) [
      | inl past ↦ above b past ∙ (sym (high n le ended past) ∙ sym (put-above (value_at (runs_within row i n)) s v b past))
      | inr in_it ↦ inside b ge in_it ∙ sym (put-in (value_at (runs_within row i n)) s v b ge in_it)
    ]
  ]
    where
      rest : List (List (ByteRun V))
      rest = row.rest.items

      later : BeginAbove (all_runs (take n (drop i rest))) (s.lo - 1)
      later = above-front (all_runs (take n (drop i rest))) (all_runs (drop n (drop i rest))) (s.lo - 1) (subst (λ l. BeginAbove l (s.lo - 1)) (all_runs-split (drop i rest) n) begin)

      low : b < s.lo → value_at (runs_within row i n) b ≡ value_at (part_at row i) b
      low lt = at-first (part_at row i) (all_runs (take n (drop i rest))) b (none_above (all_runs (take n (drop i rest))) (s.lo - 1) b later (omega arith))

      high : (n : ℕ) → i + n ≤ length rest → EndsBelow (runs_below row (i + n)) (s.hi + 1) → s.hi < b → value_at (runs_within row i n) b ≡ value_at (part_at row (i + n)) b
      high zero le ended past =
          let same : i + zero ≡ i = omega arith in
          rw same (ap (λ l. value_at l b) (append-nil (part_at row i)))
      high (suc k) le ended past =
          let same : i + suc k ≡ suc (i + k) = omega arith in
          let under : EndsBelow (runs_to row (i + k)) (s.hi + 1) = subst (λ m. EndsBelow (runs_below row m) (s.hi + 1)) same ended in
          let these : EndsBelow (runs_within row i k) (s.hi + 1) = ends_below-rest (runs_below row i) (runs_within row i k) (s.hi + 1) (subst (λ l. EndsBelow l (s.hi + 1)) (runs_to-within row i k (omega arith)) under) in
          rw same (ap (λ l. value_at l b) (within_more row i k (omega arith)) ∙ at-back (runs_within row i k) (part_at row (suc (i + k))) (s.hi + 1) b these (omega arith))

-- the row after a write: its runs are in order and give the new value exactly on the span, and their number is the counted one
pub record IsWritten {V : Type 0} (was is : Row V) (s : Range) (v : Option V) (had has : ℕ) : Type 0 where
  pub runs : AreRuns (row_runs is)
  pub bounded : EndsBelow (row_runs is) (greatest + 1)
  pub bytes : (b : ℕ) → value_at (row_runs is) b ≡ put (value_at (row_runs was)) s v b
  pub few : had ≤ length (row_runs was)
  pub count : length (row_runs is) + had ≡ length (row_runs was) + has

pub is_written : {V : Type 0} (was is : Row V) (i n : ℕ) (s : Range) (v : Option V) (had has : ℕ) → s.lo ≤ s.hi → i + n ≤ length was.rest.items → AreRuns (row_runs was) → EndsBelow (row_runs was) (greatest + 1) → EndsBelow (runs_below was i) (pred s.lo) → BeginAbove (runs_above was (i + n)) (s.hi + 1) → IsRewritten was is i n s v had has → IsWritten was is s v had has
is_written was is i n s v had has order le made bounded ended above it =
    let before = runs_below was i in
    let old = runs_within was i n in
    let after = runs_above was (i + n) in
    let whole : row_runs was ≡ before ++ (old ++ after) = row_within was i n le in
    let runs : AreRuns (before ++ (old ++ after)) = subst AreRuns whole made in
    let under : EndsBelow (before ++ (old ++ after)) (greatest + 1) = subst (λ l. EndsBelow l (greatest + 1)) whole bounded in
    let all : AreReplaced before old it.runs after s.lo s.hi v = replaced before old it.runs after s.lo s.hi v order runs ended above it.made it.bytes in
    let few : length (row_runs was) ≡ length before + (length old + length after) = ap length whole ∙ (length-append before (old ++ after) ∙ ap (λ m. length before + m) (length-append old after)) in
    let now : length (row_runs is) ≡ length before + (length it.runs + length after) = ap length it.placed.whole ∙ (length-append before (it.runs ++ after) ∙ ap (λ m. length before + m) (length-append it.runs after)) in
    record {
      runs = subst AreRuns (sym it.placed.whole) all.runs;
      bounded = subst (λ l. EndsBelow l (greatest + 1)) (sym it.placed.whole) (ends_below-both before (it.runs ++ after) (greatest + 1) (ends_below-front before (old ++ after) (greatest + 1) under) (ends_below-both it.runs after (greatest + 1) it.bounded (ends_below-rest old after (greatest + 1) (ends_below-rest before (old ++ after) (greatest + 1) under))));
      bytes = λ b. ap (λ l. value_at l b) it.placed.whole ∙ (all.bytes b ∙ ap (λ l. put (value_at l) s v b) (sym whole));
      few = omega (arith, it.before, few);
      count = omega (arith, it.before, it.now, few, now);
    }

-- the runs of all parts after one part is replaced
pub all_runs-set : {V : Type 0} (l x : List (List (ByteRun V))) (i : ℕ) (p : List (ByteRun V)) → i < length l → all_runs (set (take (suc i) l ++ x) i p) ≡ all_runs (take i l) ++ (p ++ all_runs x)
all_runs-set [] x i p lt = absurd (omega arith)
all_runs-set (q ∷ l) x zero p lt = refl
all_runs-set (q ∷ l) x (suc i) p lt = ap (λ y. q ++ y) (all_runs-set l x i p (omega arith)) ∙ sym (append_assoc q (all_runs (take i l)) (p ++ all_runs x))

pub some-set : {V : Type 0} (l : List (List (ByteRun V))) (i : ℕ) (p : List (ByteRun V)) → AreSome l → 0 < length p → AreSome (set l i p)
some-set [] zero p some has = tt
some-set [] (suc i) p some has = tt
some-set (q ∷ l) zero p some has = (has, some.1)
some-set (q ∷ l) (suc i) p some has = (some.0, some-set l i p some.1 has)

pub all_runs-remove : {V : Type 0} (l x : List (List (ByteRun V))) (i : ℕ) → i < length l → all_runs (remove (take (suc i) l ++ x) i) ≡ all_runs (take i l) ++ all_runs x
all_runs-remove [] x i lt = absurd (omega arith)
all_runs-remove (q ∷ l) x zero lt = refl
all_runs-remove (q ∷ l) x (suc i) lt = ap (λ y. q ++ y) (all_runs-remove l x i (omega arith)) ∙ sym (append_assoc q (all_runs (take i l)) (all_runs x))

pub some-remove : {V : Type 0} (l : List (List (ByteRun V))) (i : ℕ) → AreSome l → AreSome (remove l i)
some-remove l i some = some-append (take i l) (drop (suc i) l) (some-take l i some) (some-drop l (suc i) some)

-- the runs of all parts after one part is inserted
pub all_runs-insert : {V : Type 0} (l : List (List (ByteRun V))) (i : ℕ) (p : List (ByteRun V)) → all_runs (insert l i p) ≡ all_runs (take i l) ++ (p ++ all_runs (drop i l))
all_runs-insert l i p = all_runs-append (take i l) (p ∷ drop i l)

pub some-insert : {V : Type 0} (l : List (List (ByteRun V))) (i : ℕ) (p : List (ByteRun V)) → AreSome l → 0 < length p → AreSome (insert l i p)
some-insert l i p some has = some-append (take i l) (p ∷ drop i l) (some-take l i some) (has, some-drop l i some)

-- the runs below place i end below byte n where the part there begins at n or below it
pub place_ended : {V : Type 0} (row : Row V) (i n : ℕ) → AreRuns (row_runs row) → (0 < i → BeginsTo (runs_above row (i - 1)) n) → EndsBelow (runs_below row i) n
place_ended row zero n runs begins = tt
place_ended row (suc i) n runs begins =
    let here : suc i - 1 ≡ i = omega arith in
    let to : BeginsTo (runs_above row i) n = subst (λ k. BeginsTo (runs_above row k) n) here (begins (omega arith)) in
    begins_ends (runs_to row i) (runs_above row i) n (subst AreRuns (runs_to-split row i) runs) to

-- the runs below, at and above a place are runs
pub runs_near : {V : Type 0} (row : Row V) (i : ℕ) → i ≤ length row.rest.items → AreRuns (row_runs row) → AreRuns (part_at row i ++ runs_above row i)
runs_near row i le runs = runs-back (runs_below row i) (part_at row i ++ runs_above row i) (subst AreRuns (row_split row i le) runs)

pub ends_near : {V : Type 0} (row : Row V) (i n : ℕ) → i ≤ length row.rest.items → EndsBelow (row_runs row) n → EndsBelow (part_at row i) n
ends_near row i n le ends = ends_below-front (part_at row i) (runs_above row i) n (ends_below-rest (runs_below row i) (part_at row i ++ runs_above row i) n (subst (λ l. EndsBelow l n) (row_split row i le) ends))

pub length_near : {V : Type 0} (row : Row V) (i : ℕ) → i ≤ length row.rest.items → length (part_at row i) ≤ length (row_runs row)
length_near row i le =
    let all : length (row_runs row) ≡ length (runs_below row i) + (length (part_at row i) + length (runs_above row i)) = ap length (row_split row i le) ∙ (length-append (runs_below row i) (part_at row i ++ runs_above row i) ∙ ap (λ m. length (runs_below row i) + m) (length-append (part_at row i) (runs_above row i))) in
    omega (arith, all)

pub not_above : {V : Type 0} (l : List (ByteRun V)) (m n : ℕ) → m ≤ n → BeginsTo l m → BeginAbove l n → ⊥
not_above [] m n le begins above = begins
not_above (r ∷ l) m n le begins above = omega (arith, begins, above.0)

-- the place of a greater byte is not lower
pub places_rise : {V : Type 0} (row : Row V) (i j m n : ℕ) → m ≤ n → AreSome row.rest.items → i ≤ length row.rest.items → (0 < i → BeginsTo (runs_above row (i - 1)) m) → BeginAbove (runs_above row j) n → i ≤ j
places_rise row i j m n le some within begins above = elim (cases_lt j i) [
  | inl lt ↦ absurd (not_above (runs_above row (i - 1)) m n le (begins (omega arith)) (above_more row.rest.items j (i - 1) n (omega arith) above))
  | inr ge ↦ ge
]

-- several parts have no more runs than the row
pub within_few : {V : Type 0} (row : Row V) (i n : ℕ) → i + n ≤ length row.rest.items → length (runs_within row i n) ≤ length (row_runs row)
within_few row i n le =
    let all : length (row_runs row) ≡ length (runs_below row i) + (length (runs_within row i n) + length (runs_above row (i + n))) = ap length (row_within row i n le) ∙ (length-append (runs_below row i) (runs_within row i n ++ runs_above row (i + n)) ∙ ap (λ m. length (runs_below row i) + m) (length-append (runs_within row i n) (runs_above row (i + n)))) in
    omega (arith, all)

-- the runs of the first parts with one more part
pub take_part : {V : Type 0} (l : List (List (ByteRun V))) (i : ℕ) (part : List (ByteRun V)) → i < length l → part ≡ get_or l i part → all_runs (take (i + 1) l) ≡ all_runs (take i l) ++ part
take_part l i part lt is = ap all_runs (take_more l i part lt ∙ ap (λ x. take i l ++ x ∷ []) (sym is)) ∙ all_runs-push (take i l) part

pub take_few : {V : Type 0} (l : List (List (ByteRun V))) (i : ℕ) → length (all_runs (take i l)) ≤ length (all_runs l)
take_few l i =
    let all : length (all_runs l) ≡ length (all_runs (take i l)) + length (all_runs (drop i l)) = ap length (all_runs-split l i) ∙ length-append (all_runs (take i l)) (all_runs (drop i l)) in
    omega (arith, all)

-- a row after runs are put in place of its first part
pub put_first : {V : Type 0} (row is : Row V) (i n : ℕ) (runs : List (ByteRun V)) → i ≡ 0 → is.first ≡ runs → is.rest.items ≡ take i row.rest.items ++ drop (i + n) row.rest.items → AreSome row.rest.items → IsPut row is i n runs
put_first row is zero n runs none first rest some = record { whole = λ j. first j ++ all_runs (rest j); some = subst AreSome (sym rest) (some-drop row.rest.items (0 + n) some) }
put_first row is (suc i) n runs none first rest some = absurd (omega (arith, none))

-- a row after several later parts are taken out
pub put_none : {V : Type 0} (row is : Row V) (i n : ℕ) (left : List (List (ByteRun V))) (runs : List (ByteRun V)) → (i ≡ 0 → ⊥) → i ≤ length row.rest.items → runs ≡ [] → left ≡ take i row.rest.items ++ drop (i + n) row.rest.items → is.first ≡ row.first → is.rest.items ≡ remove left (i - 1) → AreSome row.rest.items → IsPut row is i n runs
put_none row is zero n left runs some le none here first rest has = absurd (some refl)
put_none row is (suc i) n left runs some le none here first rest has =
    let l = row.rest.items in
    let at : suc i - 1 ≡ i = omega arith in
    let items : is.rest.items ≡ remove (take (suc i) l ++ drop (suc i + n) l) i = rest ∙ (λ j. remove (here j) (at j)) in
    record {
      whole = (λ j. first j ++ all_runs (items j)) ∙ (ap (λ x. row.first ++ x) (all_runs-remove l (drop (suc i + n) l) i (omega arith)) ∙ (sym (append_assoc row.first (all_runs (take i l)) (all_runs (drop (suc i + n) l))) ∙ ap (λ x. runs_below row (suc i) ++ (x ++ runs_above row (suc i + n))) (sym none)));
      some = subst AreSome (sym items) (some-remove (take (suc i) l ++ drop (suc i + n) l) i (some-append (take (suc i) l) (drop (suc i + n) l) (some-take l (suc i) has) (some-drop l (suc i + n) has)));
    }

-- a row after runs are put in place of several later parts
pub put_part : {V : Type 0} (row is : Row V) (i n : ℕ) (left : List (List (ByteRun V))) (runs : List (ByteRun V)) → (i ≡ 0 → ⊥) → i ≤ length row.rest.items → 0 < length runs → left ≡ take i row.rest.items ++ drop (i + n) row.rest.items → is.first ≡ row.first → is.rest.items ≡ set left (i - 1) runs → AreSome row.rest.items → IsPut row is i n runs
put_part row is zero n left runs some le more here first rest has = absurd (some refl)
put_part row is (suc i) n left runs some le more here first rest has =
    let l = row.rest.items in
    let at : suc i - 1 ≡ i = omega arith in
    let items : is.rest.items ≡ set (take (suc i) l ++ drop (suc i + n) l) i runs = rest ∙ (λ j. set (here j) (at j) runs) in
    record {
      whole = (λ j. first j ++ all_runs (items j)) ∙ (ap (λ x. row.first ++ x) (all_runs-set l (drop (suc i + n) l) i runs (omega arith)) ∙ sym (append_assoc row.first (all_runs (take i l)) (runs ++ all_runs (drop (suc i + n) l))));
      some = subst AreSome (sym items) (some-set (take (suc i) l ++ drop (suc i + n) l) i runs (some-append (take (suc i) l) (drop (suc i + n) l) (some-take l (suc i) has) (some-drop l (suc i + n) has)) more);
    }

take-set : {V : Type 0} (l x : List (List (ByteRun V))) (i : ℕ) (p : List (ByteRun V)) → i < length l → all_runs (take (suc i) (set (take (suc i) l ++ x) i p)) ≡ all_runs (take i l) ++ p
take-set [] x i p lt = absurd (omega arith)
take-set (q ∷ l) x zero p lt = append-nil p
take-set (q ∷ l) x (suc i) p lt = ap (λ y. q ++ y) (take-set l x i p (omega arith)) ∙ sym (append_assoc q (all_runs (take i l)) p)

pub put_to : {V : Type 0} (row : Row V) (i n : ℕ) (left : List (List (ByteRun V))) (runs : List (ByteRun V)) → (i ≡ 0 → ⊥) → i ≤ length row.rest.items → left ≡ take i row.rest.items ++ drop (i + n) row.rest.items → row.first ++ all_runs (take i (set left (i - 1) runs)) ≡ runs_below row i ++ runs
put_to row zero n left runs some le here = absurd (some refl)
put_to row (suc i) n left runs some le here =
    let l = row.rest.items in
    let at : suc i - 1 ≡ i = omega arith in
    let items : set left (suc i - 1) runs ≡ set (take (suc i) l ++ drop (suc i + n) l) i runs = λ j. set (here j) (at j) runs in
    ap (λ x. row.first ++ all_runs (take (suc i) x)) items ∙ (ap (λ x. row.first ++ x) (take-set l (drop (suc i + n) l) i runs (omega arith)) ∙ sym (append_assoc row.first (all_runs (take i l)) runs))

-- rows with equal parts have equal runs below a place
below_same : {V : Type 0} (was mid : Row V) (i : ℕ) → mid.first ≡ was.first → mid.rest.items ≡ was.rest.items → runs_below mid i ≡ runs_below was i
below_same was mid zero first rest = refl
below_same was mid (suc i) first rest = λ j. first j ++ all_runs (take i (rest j))

-- a row after runs are put in place of others in two parts
pub placed_both : {V : Type 0} (was mid left is : Row V) (i n : ℕ) (lower upper runs : List (ByteRun V)) → mid.first ≡ was.first → mid.rest.items ≡ was.rest.items → lower ++ upper ≡ runs → IsPut mid left i n lower → (0 < length upper → 0 < length lower) → (0 < length lower → runs_to left i ≡ runs_below mid i ++ lower) → (0 < length lower → runs_above left i ≡ runs_above mid (i + n)) → (0 < length upper → row_runs is ≡ runs_to left i ++ (upper ++ runs_above left i)) → (length upper ≡ 0 → row_runs is ≡ row_runs left) → AreSome is.rest.items → IsPut was is i n runs
placed_both was mid left is i n lower [] runs first rest both put kept below above more none some =
    let all : lower ≡ runs = sym (append-nil lower) ∙ both in
    let before = below_same was mid i first rest in
    record { whole = none refl ∙ (put.whole ∙ (λ j. before j ++ (all j ++ all_runs (drop (i + n) (rest j))))); some = some }
placed_both was mid left is i n lower (u ∷ upper) runs first rest both put kept below above more none some =
    let has : 0 < length lower = kept (omega arith) in
    let before = below_same was mid i first rest in
    let after = above has ∙ ap (λ l. all_runs (drop (i + n) l)) rest in
    record {
      whole = more (omega arith) ∙ ((λ j. below has j ++ ((u ∷ upper) ++ after j)) ∙ (append_assoc (runs_below mid i) lower ((u ∷ upper) ++ runs_above was (i + n)) ∙ ((λ j. before j ++ (lower ++ ((u ∷ upper) ++ runs_above was (i + n)))) ∙ (ap (λ x. runs_below was i ++ x) (sym (append_assoc lower (u ∷ upper) (runs_above was (i + n)))) ∙ ap (λ x. runs_below was i ++ (x ++ runs_above was (i + n))) both))));
      some = some;
    }

take_drop : {A : Type 0} (l : List A) (i : ℕ) → l ≡ take i l ++ drop i l
take_drop l zero = refl
take_drop [] (suc i) = refl
take_drop (x ∷ l) (suc i) = ap (λ y. x ∷ y) (take_drop l i)

-- a list is what is before and after a place
pub rejoined : {A : Type 0} (l : List A) (i : ℕ) → l ≡ take i l ++ drop (i + 0) l
rejoined l i = let none : i + 0 ≡ i = omega arith in rw none (take_drop l i)

read_at : {V : Type 0} (l : List (List (ByteRun V))) (i : ℕ) (x : List (ByteRun V)) → i < length l → x ≡ get_or l i x → x ≡ get_or l i []
read_at [] i x lt is = absurd (omega arith)
read_at (p ∷ l) zero x lt is = is
read_at (p ∷ l) (suc i) x lt is = read_at l i x (omega arith) is

-- a part that is read at a place other than the first
pub part_read : {V : Type 0} (row : Row V) (i : ℕ) (x : List (ByteRun V)) → (i ≡ 0 → ⊥) → i ≤ length row.rest.items → x ≡ get_or row.rest.items (i - 1) x → part_at row i ≡ x
part_read row zero x some le is = absurd (some refl)
part_read row (suc i) x some le is =
    let at : suc i - 1 ≡ i = omega arith in
    sym (read_at row.rest.items i x (omega arith) (is ∙ ap (λ k. get_or row.rest.items k x) at))

-- a row after one part is written
pub rewritten : {V : Type 0} (row is : Row V) (i : ℕ) (s : Range) (v : Option V) (old new : List (ByteRun V)) (had has : ℕ) → IsPut row is i 0 new → part_at row i ≡ old → AreRuns new → EndsBelow new (greatest + 1) → ((b : ℕ) → value_at new b ≡ put (value_at old) s v b) → had ≡ length old → has ≡ length new → IsRewritten row is i 0 s v had has
rewritten row is i s v old new had has placed part made bounded bytes before now =
    let same : runs_within row i 0 ≡ old = append-nil (part_at row i) ∙ part in
    record {
      runs = new;
      placed = placed;
      made = made;
      bounded = bounded;
      bytes = λ b. bytes b ∙ ap (λ l. put (value_at l) s v b) (sym same);
      before = before ∙ ap length (sym same);
      now = now;
    }

pub no_runs : {V : Type 0} (l : List (ByteRun V)) → length l ≡ 0 → l ≡ []
no_runs [] none = refl
no_runs (r ∷ l) none = absurd (omega (arith, none))

remove_set : {A : Type 0} (l : List A) (i : ℕ) (x : A) → remove (set l i x) i ≡ remove l i
remove_set [] zero x = refl
remove_set [] (suc i) x = refl
remove_set (y ∷ l) zero x = refl
remove_set (y ∷ l) (suc i) x = ap (λ z. y ∷ z) (remove_set l i x)

-- a part that came to have no runs is taken out
pub put_emptied : {V : Type 0} (row is : Row V) (i : ℕ) (new : List (ByteRun V)) → (i ≡ 0 → ⊥) → i ≤ length row.rest.items → new ≡ [] → is.first ≡ row.first → is.rest.items ≡ remove (set row.rest.items (i - 1) new) (i - 1) → AreSome row.rest.items → IsPut row is i 0 new
put_emptied row is i new some le none first rest has = put_none row is i 0 row.rest.items new some le none (rejoined row.rest.items i) first (rest ∙ remove_set row.rest.items (i - 1) new) has

-- the runs near a place are some of the row
pub near_few : {V : Type 0} (row : Row V) (i : ℕ) → i ≤ length row.rest.items → length (part_at row i) + length (runs_above row i) ≤ length (row_runs row)
near_few row i le =
    let all : length (row_runs row) ≡ length (runs_below row i) + (length (part_at row i) + length (runs_above row i)) = ap length (row_split row i le) ∙ (length-append (runs_below row i) (part_at row i ++ runs_above row i) ∙ ap (λ m. length (runs_below row i) + m) (length-append (part_at row i) (runs_above row i))) in
    omega (arith, all)

-- a part with the runs of the parts above it
pub part_on : {V : Type 0} (l : List (List (ByteRun V))) (i : ℕ) (part : List (ByteRun V)) → i < length l → part ≡ get_or l i part → all_runs l ≡ all_runs (take i l) ++ (part ++ all_runs (drop (i + 1) l))
part_on l i part lt is = all_runs-split l i ∙ ap (λ x. all_runs (take i l) ++ all_runs x) (drop_read l i part lt is)

pub part_runs : {V : Type 0} (l : List (List (ByteRun V))) (i : ℕ) (part : List (ByteRun V)) → i < length l → part ≡ get_or l i part → AreRuns (all_runs l) → AreRuns (part ++ all_runs (drop (i + 1) l))
part_runs l i part lt is runs = runs-back (all_runs (take i l)) (part ++ all_runs (drop (i + 1) l)) (subst AreRuns (part_on l i part lt is) runs)

pub part_above : {V : Type 0} (l : List (List (ByteRun V))) (i : ℕ) (part : List (ByteRun V)) (n : ℕ) → i < length l → part ≡ get_or l i part → BeginAbove (all_runs l) n → BeginAbove part n
part_above l i part n lt is above = above-front part (all_runs (drop (i + 1) l)) n (above-back (all_runs (take i l)) (part ++ all_runs (drop (i + 1) l)) n (subst (λ x. BeginAbove x n) (part_on l i part lt is) above))
