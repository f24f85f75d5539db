-- What reads of a row give.
use Rattle.std.proofs.Common.{◌≡◌, ℕ, zero, suc, ◌+◌, ◌-◌, ◌<◌, ◌≤◌, max, length, get_or, drop, List, [], ◌∷◌, ◌++◌, Option, Some, None, MatchOption, subst, ap, sym, ◌∙◌, inr, arith}
use Rattle.std.proofs.lemmas.List.{append_assoc}
use Rattle.intervals.specs.declared.byte_run.ByteRun.{ByteRun}
use Rattle.intervals.specs.declared.row.Row.{Row}
use Rattle.intervals.specs.rule.Bytes.{Range, greatest, IsRun, IsBarred, IsFirstIn, NoneIn}
use Rattle.intervals.specs.code.Runs.{IsBarredValue, AreRuns, EndsBelow, EndsFrom}
use Rattle.intervals.specs.rule.Runs.{bytes_of, value_at}
use Rattle.intervals.specs.code.Entries.{BeginAbove, IsLastTo, NoneFrom, IsNext}
use Rattle.intervals.specs.code.Parts.{all_runs, AreSome, BeginsTo, row_runs, runs_below, part_at, runs_above}
use Rattle.intervals.proofs.Find.{BarredLeft, value_at-none, barred-along, left-skip, left-first, left-stop, left-none}
use Rattle.intervals.proofs.Split.{at-back, runs-back}
use Rattle.intervals.proofs.Written.{ends_below-both}
use Rattle.intervals.proofs.Ordered.{stands, ends, none_under, none_above}
use Rattle.intervals.proofs.Places.{row_split, read_all}

above-both : {V : Type 0} (l m : List (ByteRun V)) (n : ℕ) → BeginAbove l n → BeginAbove m n → BeginAbove (l ++ m) n
above-both [] m n above more = more
above-both (r ∷ l) m n above more = (above.0, above-both l m n above.1 more)

-- `rest` is the runs from the first one on that ends at byte n or above it
pub record IsRest {V : Type 0} (runs rest : List (ByteRun V)) (n : ℕ) : Type 0 where
  pub before : List (ByteRun V)
  pub whole : runs ≡ before ++ rest
  pub ended : EndsBelow before n
  pub reached : EndsFrom rest n

reached_more : {V : Type 0} (l m : List (ByteRun V)) (n : ℕ) → AreRuns (l ++ m) → EndsFrom l n → BeginAbove m n → EndsFrom (l ++ m) n
reached_more (r ∷ l) m n runs reached above = reached
reached_more [] [] n runs reached above = tt
reached_more [] (r ∷ m) n runs reached above = omega (arith, runs.0, above.0)

-- the rest of the runs of a row: the rest of one part, and the parts above it
pub rest_of : {V : Type 0} (row : Row V) (i n : ℕ) (near lower upper : List (ByteRun V)) (above : List (List (ByteRun V))) → i ≤ length row.rest.items → AreRuns (row_runs row) → EndsBelow (runs_below row i) n → BeginAbove (runs_above row i) n → near ≡ part_at row i → near ≡ lower ++ upper → EndsBelow lower n → EndsFrom upper n → above ≡ drop i row.rest.items → IsRest (row_runs row) (upper ++ all_runs above) n
rest_of row i n near lower upper above le runs below begin here split ended reached is =
    let later : all_runs above ≡ runs_above row i = ap all_runs is in
    let whole : row_runs row ≡ (runs_below row i ++ lower) ++ (upper ++ all_runs above) = row_split row i le ∙ ((λ j. runs_below row i ++ ((sym here ∙ split) j ++ sym later j)) ∙ (ap (λ x. runs_below row i ++ x) (append_assoc lower upper (all_runs above)) ∙ sym (append_assoc (runs_below row i) lower (upper ++ all_runs above)))) in
    let rest : AreRuns (upper ++ all_runs above) = runs-back (runs_below row i ++ lower) (upper ++ all_runs above) (subst AreRuns whole runs) in
    record {
      before = runs_below row i ++ lower;
      whole = whole;
      ended = ends_below-both (runs_below row i) lower n below ended;
      reached = reached_more upper (all_runs above) n rest reached (subst (λ l. BeginAbove l n) (sym later) begin);
    }

-- the first run of the rest is the next run
pub rest_next : {V : Type 0} (runs rest : List (ByteRun V)) (n : ℕ) (r : ByteRun V) (more : List (ByteRun V)) → AreRuns runs → EndsBelow runs (greatest + 1) → IsRest runs rest n → rest ≡ r ∷ more → IsNext (value_at runs) n r
rest_next runs rest n r more made bounded it is =
    let whole : runs ≡ it.before ++ r ∷ more = it.whole ∙ ap (λ l. it.before ++ l) is in
    let all : AreRuns (it.before ++ r ∷ more) = subst AreRuns whole made in
    let under : EndsBelow (it.before ++ r ∷ more) (greatest + 1) = subst (λ l. EndsBelow l (greatest + 1)) whole bounded in
    let reached : EndsFrom (r ∷ more) n = subst (λ l. EndsFrom l n) is it.reached in
    let over = ends it.before more r all (greatest + 1) under in
    subst (λ l. IsNext (value_at l) n r) (sym whole) (record {
      run = stands it.before more r all;
      reached = reached;
      bounded = omega (arith, over);
      none_before = λ b le lt. none_under it.before more r all n b it.ended le lt;
    })

-- where the rest has no run no byte from n on has a value
pub rest_none : {V : Type 0} (runs rest : List (ByteRun V)) (n : ℕ) → IsRest runs rest n → rest ≡ [] → NoneFrom (value_at runs) n
rest_none runs rest n it is b le = ap (λ l. value_at l b) (it.whole ∙ ap (λ l. it.before ++ l) is) ∙ (at-back it.before [] n b it.ended le ∙ value_at-none b)

-- byte n has no value where the rest begins above it
pub rest_lacks : {V : Type 0} (runs rest : List (ByteRun V)) (n : ℕ) → IsRest runs rest n → BeginAbove rest n → value_at runs n ≡ None
rest_lacks runs rest n it above = ap (λ l. value_at l n) it.whole ∙ (at-back it.before rest n n it.ended (omega arith) ∙ none_above rest n n above (omega arith))

-- where a part has no run left the parts above it give the rest
pub above_only : {V : Type 0} (l m : List (ByteRun V)) (n : ℕ) → length l ≡ 0 → BeginAbove m n → BeginAbove (l ++ m) n
above_only [] m n none above = above
above_only (r ∷ l) m n none above = absurd (omega (arith, none))

some_at : {V : Type 0} (l : List (List (ByteRun V))) (i : ℕ) → i < length l → AreSome l → 0 < length (get_or l i [])
some_at [] i lt some = absurd (omega arith)
some_at (p ∷ l) zero lt some = some.0
some_at (p ∷ l) (suc i) lt some = some_at l i (omega arith) some.1

first_not_above : {V : Type 0} (l m : List (ByteRun V)) (n : ℕ) → 0 < length l → BeginAbove l n → BeginsTo (l ++ m) n → ⊥
first_not_above [] m n some above begins = absurd (omega arith)
first_not_above (r ∷ l) m n some above begins = omega (arith, above.0, begins)

-- no run begins at byte n or below it where all runs of its part begin above it
none_near : {V : Type 0} (row : Row V) (i n : ℕ) → i ≤ length row.rest.items → AreSome row.rest.items → (0 < i → BeginsTo (runs_above row (i - 1)) n) → BeginAbove (part_at row i) n → BeginAbove (runs_above row i) n → BeginAbove (row_runs row) n
none_near row zero n le some begins here above = above-both row.first (runs_above row 0) n here above
none_near row (suc i) n le some begins here above =
    let rest = row.rest.items in
    let at : suc i - 1 ≡ i = omega arith in
    let to : BeginsTo (all_runs (drop i rest)) n = subst (λ k. BeginsTo (runs_above row k) n) at (begins (omega arith)) in
    absurd (first_not_above (get_or rest i []) (all_runs (drop (suc i) rest)) n (some_at rest i (omega arith) some) here (subst (λ l. BeginsTo l n) (read_all rest i (omega arith)) to))

-- the last run up to byte n is in the last part that begins there or below
pub last_near : {V : Type 0} (row : Row V) (i n : ℕ) (near : List (ByteRun V)) (x : Option (ByteRun V)) → i ≤ length row.rest.items → AreSome row.rest.items → (0 < i → BeginsTo (runs_above row (i - 1)) n) → BeginAbove (runs_above row i) n → near ≡ part_at row i → MatchOption x (BeginAbove near n) (IsLastTo near n) → MatchOption x (BeginAbove (row_runs row) n) (IsLastTo (row_runs row) n)
last_near row i n near None le some begins above here is = none_near row i n le some begins (subst (λ l. BeginAbove l n) here is) above
last_near row i n near (Some r) le some begins above here is = record {
  before = runs_below row i ++ is.before;
  after = is.after ++ runs_above row i;
  whole = row_split row i le ∙ (ap (λ l. runs_below row i ++ (l ++ runs_above row i)) (sym here ∙ is.whole) ∙ (ap (λ l. runs_below row i ++ l) (append_assoc is.before (r ∷ is.after) (runs_above row i)) ∙ sym (append_assoc (runs_below row i) is.before (r ∷ (is.after ++ runs_above row i)))));
  begins = is.begins;
  above = above-both is.after (runs_above row i) n is.above above;
}

-- the barred bytes of the span are in the runs that are left, which are the last
pub record IsLeft {V : Type 0} (runs left : List (ByteRun V)) (bar : Option V) (s : Range) : Type 0 where
  pub before : List (ByteRun V)
  pub whole : runs ≡ before ++ left
  pub reached : EndsFrom left s.lo
  pub barred : BarredLeft runs left bar s

pub left_begin : {V : Type 0} (runs rest : List (ByteRun V)) (bar : Option V) (s : Range) → IsRest runs rest s.lo → IsLeft runs rest bar s
left_begin runs rest bar s it = record {
  before = it.before;
  whole = it.whole;
  reached = it.reached;
  barred = λ b lo hi here. barred-along (value_at runs) (value_at rest) bar b (ap (λ l. value_at l b) it.whole ∙ at-back it.before rest s.lo b it.ended lo) here;
}

next_reached : {V : Type 0} (r : ByteRun V) (l : List (ByteRun V)) (n : ℕ) → AreRuns (r ∷ l) → n ≤ r.hi → EndsFrom l n
next_reached r [] n runs le = tt
next_reached r (t ∷ l) n runs le = omega (arith, le, runs.1.0, runs.2.0)

module _ {V : Type 0} (runs left more : List (ByteRun V)) (r : ByteRun V) (bar : Option V) (s : Range) (made : AreRuns runs) (it : IsLeft runs left bar s) (is : left ≡ r ∷ more) where
  whole_left : runs ≡ it.before ++ r ∷ more
  whole_left = it.whole ∙ ap (λ l. it.before ++ l) is

  all_left : AreRuns (it.before ++ r ∷ more)
  all_left = subst AreRuns whole_left made

  these_left : AreRuns (r ∷ more)
  these_left = runs-back it.before (r ∷ more) all_left

  barred_left : BarredLeft runs (r ∷ more) bar s
  barred_left = subst (λ l. BarredLeft runs l bar s) is it.barred

  -- the first run that is left, if barred, has the first barred byte
  pub left_found : s.lo ≤ s.hi → r.lo ≤ s.hi → IsBarredValue bar r.value → IsFirstIn (IsBarred (value_at runs) bar) s (max r.lo s.lo)
  left_found order within here =
      let run : IsRun (value_at runs) (bytes_of r) r.value = subst (λ l. IsRun (value_at l) (bytes_of r) r.value) (sym whole_left) (stands it.before more r all_left) in
      left-first runs more r bar s barred_left these_left run order (subst (λ l. EndsFrom l s.lo) is it.reached) within here

  -- where the first run that is left begins above the span no byte of it is barred
  pub left_past : s.hi < r.lo → NoneIn (IsBarred (value_at runs) bar) s
  left_past above = left-stop runs more r bar s barred_left these_left above

  -- a run that is not barred is passed over
  pub left_more : (IsBarredValue bar r.value → ⊥) → IsLeft runs more bar s
  left_more free = record {
    before = it.before ++ r ∷ [];
    whole = whole_left ∙ sym (append_assoc it.before (r ∷ []) more);
    reached = next_reached r more s.lo these_left (subst (λ l. EndsFrom l s.lo) is it.reached);
    barred = left-skip runs more r bar s barred_left (inr (inr free));
  }

-- where no run is left no byte of the span is barred
pub left_end : {V : Type 0} (runs left : List (ByteRun V)) (bar : Option V) (s : Range) → IsLeft runs left bar s → left ≡ [] → NoneIn (IsBarred (value_at runs) bar) s
left_end runs left bar s it is = left-none runs bar s (subst (λ l. BarredLeft runs l bar s) is it.barred)
