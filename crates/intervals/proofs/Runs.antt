-- The value that a list of runs gives at a byte.
use Rattle.std.proofs.Common.{◌≡◌, ℕ, zero, suc, ◌+◌, ◌<◌, ◌≤◌, Bool, true, false, length, get_or, set, drop, drop-cons, add-one, ◌∙◌, List, [], ◌∷◌, ◌++◌, Some, None, refl, ap, inl, inr, arith}
use Rattle.std.proofs.lemmas.Bool.{cases_lt, cases_Bool, and_parts}
use Rattle.std.proofs.lemmas.Bool.Decides.{nat_tests}
use Rattle.std.proofs.lemmas.Grind.{common_steps}
use Rattle.intervals.specs.declared.byte_run.ByteRun.{ByteRun}
use Rattle.intervals.specs.rule.Bytes.{put}
use Rattle.intervals.specs.code.Runs.{Follows, AreRuns, EndsBelow}
use Rattle.intervals.specs.rule.Runs.{bytes_of, value_at}
use Rattle.intervals.proofs.Join.{joins, join}

-- runs that end below m end below each greater number
pub ends_below_le : {V : Type 0} (l : List (ByteRun V)) (m n : ℕ) → m ≤ n → EndsBelow l m → EndsBelow l n
ends_below_le [] m n le h = tt
ends_below_le (r ∷ rest) m n le h = (omega arith, ends_below_le rest m n le h.1)

-- a byte past all runs has no value
pub at-past : {V : Type 0} (l : List (ByteRun V)) (b : ℕ) → EndsBelow l b → value_at l b ≡ None
unfolding value_at
at-past [] b h = refl
at-past (r ∷ rest) b h = grind (arith, nat_tests, at-past rest b h.1)

-- the value at a byte after one more run is added at the end
pub at-append : {V : Type 0} (l : List (ByteRun V)) (s : ByteRun V) (b : ℕ) → EndsBelow l s.lo → value_at (l ++ s ∷ []) b ≡ put (value_at l) (bytes_of s) (Some s.value) b
unfolding value_at
at-append [] s b h = refl
at-append (r ∷ rest) s b h = grind (arith, nat_tests, at-append rest s b h.1)

-- run r still follows rightly if one more run is added at the end
follows-join : {V : Type 0} (eq : V → V → Bool) (r t : ByteRun V) (rest : List (ByteRun V)) (s : ByteRun V) → Follows r (t ∷ rest) → Follows r (join eq (t ∷ rest) s)
unfolding join
follows-join eq r t [] s h = elim (cases_Bool (joins eq t s)) [ inl side ↦ rw side h | inr apart ↦ rw apart h ]
follows-join eq r t (u ∷ rest) s h = h

-- the runs end below the byte past the run that was added
pub ends_below-join : {V : Type 0} (eq : V → V → Bool) (l : List (ByteRun V)) (s : ByteRun V) → EndsBelow l s.lo → s.lo ≤ s.hi → EndsBelow (join eq l s) (s.hi + 1)
unfolding join
ends_below-join eq [] s below order = (omega arith, tt)
ends_below-join eq (r ∷ []) s below order = elim (cases_Bool (joins eq r s)) [ inl side ↦ rw side (omega arith, tt) | inr apart ↦ rw apart (omega arith, (omega arith, tt)) ]
ends_below-join eq (r ∷ t ∷ rest) s below order = (omega arith, ends_below-join eq (t ∷ rest) s below.1 order)

module _ {V : Type 0} (eq : V → V → Bool) (exact : (a b : V) → eq a b ≡ true → a ≡ b) (reflexive : (a : V) → eq a a ≡ true) where
  -- runs that do not join follow each other
  follows_apart : (r s : ByteRun V) → r.hi < s.lo → joins eq r s ≡ false → Follows r (s ∷ [])
  follows_apart r s lt apart = (lt, λ beside same. grind (arith, nat_tests, reflexive r.value))

  -- runs with one more run are runs
  pub runs-join : (l : List (ByteRun V)) (s : ByteRun V) → AreRuns l → EndsBelow l s.lo → s.lo ≤ s.hi → AreRuns (join eq l s)
  unfolding join
  runs-join [] s runs below order = (order, tt, tt)
  runs-join (r ∷ []) s runs below order = elim (cases_Bool (joins eq r s)) [
    | inl side ↦ rw side (omega arith, tt, tt)
    | inr apart ↦ rw apart (runs.0, follows_apart r s below.0 apart, (order, tt, tt))
  ]
  runs-join (r ∷ t ∷ rest) s runs below order = (runs.0, follows-join eq r t rest s runs.1, runs-join (t ∷ rest) s runs.2 below.1 order)

  -- one more run changes exactly its own bytes
  pub at-join : (l : List (ByteRun V)) (s : ByteRun V) (b : ℕ) → AreRuns l → EndsBelow l s.lo → s.lo ≤ s.hi → value_at (join eq l s) b ≡ put (value_at l) (bytes_of s) (Some s.value) b
  unfolding join value_at
  at-join [] s b runs below order = refl
  at-join (r ∷ []) s b runs below order = elim (cases_Bool (joins eq r s)) [
    | inl side ↦ rw side (let same : r.value ≡ s.value = exact _ _ (and_parts _ _ side).1 in grind (arith, nat_tests))
    | inr apart ↦ rw apart (grind (arith, nat_tests))
  ]
  at-join (r ∷ t ∷ rest) s b runs below order = grind (arith, nat_tests, at-join (t ∷ rest) s b runs.2 below.1 order)

-- the last run ends below n
pub last_below : {V : Type 0} (l : List (ByteRun V)) (n i : ℕ) (last : ByteRun V) → EndsBelow l n → i + 1 ≡ length l → last ≡ get_or l i last → last.hi < n
last_below [] n i last h e is = absurd (omega arith)
last_below (r ∷ []) n zero last h e is = rw is h.0
last_below (r ∷ []) n (suc i) last h e is = absurd (omega arith)
last_below (r ∷ t ∷ rest) n zero last h e is = absurd (omega arith)
last_below (r ∷ t ∷ rest) n (suc i) last h e is = last_below (t ∷ rest) n i last h.1 (omega arith) is

-- the last run, merged with an added run
pub join_last : {V : Type 0} (eq : V → V → Bool) (l : List (ByteRun V)) (s : ByteRun V) (i : ℕ) (last : ByteRun V) → i + 1 ≡ length l → last ≡ get_or l i last → joins eq last s ≡ true → join eq l s ≡ set l i (record last { hi = s.hi })
unfolding join
join_last eq [] s i last e is side = absurd (omega arith)
join_last eq (r ∷ []) s zero last e is side = let beside : joins eq r s ≡ true = rw is at side in rw (beside, is) refl
join_last eq (r ∷ []) s (suc i) last e is side = absurd (omega arith)
join_last eq (r ∷ t ∷ rest) s zero last e is side = absurd (omega arith)
join_last eq (r ∷ t ∷ rest) s (suc i) last e is side = ap (λ x. r ∷ x) (join_last eq (t ∷ rest) s i last (omega arith) is side)

-- an added run that comes after the last one without joining it
pub join_apart : {V : Type 0} (eq : V → V → Bool) (l : List (ByteRun V)) (s : ByteRun V) (i : ℕ) (last : ByteRun V) → i + 1 ≡ length l → last ≡ get_or l i last → joins eq last s ≡ false → join eq l s ≡ l ++ s ∷ []
unfolding join
join_apart eq [] s i last e is apart = refl
join_apart eq (r ∷ []) s zero last e is apart = let beside : joins eq r s ≡ false = rw is at apart in rw beside refl
join_apart eq (r ∷ []) s (suc i) last e is apart = absurd (omega arith)
join_apart eq (r ∷ t ∷ rest) s zero last e is apart = absurd (omega arith)
join_apart eq (r ∷ t ∷ rest) s (suc i) last e is apart = ap (λ x. r ∷ x) (join_apart eq (t ∷ rest) s i last (omega arith) is apart)

-- an added run is alone in an empty list
pub join_first : {V : Type 0} (eq : V → V → Bool) (l : List (ByteRun V)) (s : ByteRun V) → length l ≡ 0 → join eq l s ≡ l ++ s ∷ []
unfolding join
join_first eq [] s e = refl
join_first eq (r ∷ rest) s e = absurd (omega arith)

-- a list is the same after an element is set to what it is
pub set_self : {A : Type 0} (l : List A) (i : ℕ) (x : A) → i < length l → x ≡ get_or l i x → set l i x ≡ l
set_self [] i x lt is = refl
set_self (y ∷ l) zero x lt is = ap (λ z. z ∷ l) is
set_self (y ∷ l) (suc i) x lt is = ap (λ z. y ∷ z) (set_self l i x (omega arith) is)

-- runs that end below n give no value from n on
pub at-below : {V : Type 0} (l : List (ByteRun V)) (b n : ℕ) → EndsBelow l n → n ≤ b → value_at l b ≡ None
at-below l b n h le = at-past l b (ends_below_le l n b le h)

-- the element at i is the first of the list from i on
pub drop_read : {A : Type 0} (l : List A) (i : ℕ) (x : A) → i < length l → x ≡ get_or l i x → drop i l ≡ x ∷ drop (i + 1) l
drop_read l i x lt is = drop-cons l i x lt ∙ rw (← is, add-one) refl

-- the list from its end on is empty
pub drop_all : {A : Type 0} (l : List A) (i : ℕ) → length l ≤ i → drop i l ≡ []
drop_all l i le = grind (arith, common_steps)

module _ {V : Type 0} (eq : V → V → Bool) (exact : (a b : V) → eq a b ≡ true → a ≡ b) (reflexive : (a : V) → eq a a ≡ true) where
  -- the runs after one more run is added
  pub joined : (l new : List (ByteRun V)) (s : ByteRun V) → AreRuns l → EndsBelow l s.lo → s.lo ≤ s.hi → new ≡ join eq l s → record { made : AreRuns new; below : EndsBelow new (s.hi + 1); bytes : (b : ℕ) → value_at new b ≡ put (value_at l) (bytes_of s) (Some s.value) b }
  joined l new s made below rises e = record {
    made = rw e (runs-join eq exact reflexive l s made below rises);
    below = rw e (ends_below-join eq l s below rises);
    bytes = λ b. rw e (at-join eq exact reflexive l s b made below rises);
  }

-- a write of no value changes nothing where there was none
pub put_none : {V : Type 0} (l : List (ByteRun V)) (lo hi b : ℕ) → EndsBelow l lo → value_at l b ≡ put (value_at l) (record { lo = lo; hi = hi }) None b
put_none l lo hi b ends = elim (cases_lt b lo) [
  | inl lt ↦ grind (arith, nat_tests)
  | inr ge ↦ let none = at-below l b lo ends ge in grind (arith, nat_tests)
]
