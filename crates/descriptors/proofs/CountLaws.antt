-- Sums over the descriptors of a node, and the counts of descriptions.
use Rattle.std.specs.Prelude.{◌≡◌, ◌≢◌, ◌⊎◌, ℕ, zero, suc, ◌+◌, ◌-◌, ◌*◌, ◌<◌, ◌≤◌, ◌||◌, ◌&&◌, ◌==◌, not, nat_lt, Bool, true, false, if◌then◌else◌, List, [], Option, Some, None, length, slice_set, refl}
use Rattle.std.proofs.Common.{arith, ap, subst, sym, ◌∙◌, inl, inr}
use Rattle.std.proofs.lemmas.Bool.{cases_lt, cases_eq, eq-eqb, ne_eqb, eqb-true, false≢true}
use Rattle.std.proofs.lemmas.Bool.Decides.{nat_tests}
use Rattle.std.proofs.lemmas.List.{get_or-set_same, get_or-set_other, get_or_past}
use Rattle.intervals.specs.rule.Search.{first, some_passes, IsFirst}
use Rattle.model.specs.declared.opened.Opened.{Opened}
use Rattle.model.specs.rule.Limits.{IsNumber, most_processes, most_descriptors, most_descriptions}
use Rattle.model.specs.rule.Descriptors.{Processes, is_of, is_open, with_process, with_descriptor, lowest_description}
use Rattle.intervals.proofs.SearchLaws.{first_is_first}
use Rattle.model.proofs.SearchLaws.{some_passes-found, first-passes}
use Rattle.descriptors.specs.code.Edits.{IsKnown}
use Rattle.descriptors.specs.code.Rows.{total, one_of, references_below, references, count_of, AreCounts, AreUsed, places, AreRows}
use Rattle.descriptors.proofs.RowLaws.{some_passes-zero, some_passes-more, processes-opened, processes-runs, runs_within, runs-numbered}
use Rattle.model.proofs.Pigeons.{no_hole}
use Rattle.descriptors.specs.declared.process_entry.ProcessEntry.{ProcessEntry}
use Rattle.descriptors.specs.rule.Rows.{slot, idle, processes}

-- two sums of equal terms are equal
pub total-same : (f g : ℕ → ℕ) (lo n : ℕ) → ((k : ℕ) → lo ≤ k → k < lo + n → f k ≡ g k) → total f lo n ≡ total g lo n
unfolding total
total-same f g lo zero h = refl
total-same f g lo (suc n) h =
    let rest : total f lo n ≡ total g lo n = total-same f g lo n (λ k above below. h k above (omega arith)) in
    let last : f (lo + n) ≡ g (lo + n) = h (lo + n) (omega arith) (omega arith) in
    omega arith

-- two sums that differ in one term
pub total-changed : (f g : ℕ → ℕ) (lo n i : ℕ) → lo ≤ i → i < lo + n → ((k : ℕ) → k ≢ i → g k ≡ f k) → total g lo n + f i ≡ total f lo n + g i
unfolding total
total-changed f g lo zero i above below h = absurd (none above below)
  where
    none : lo ≤ i → i < lo + 0 → ⊥
    none a b = omega arith
total-changed f g lo (suc n) i above below h = elim (cases_eq i (lo + n)) [
  | inl is ↦
      let rest : total g lo n ≡ total f lo n = total-same g f lo n (λ k least lt. h k (λ e. apart k e is lt)) in
      let old : f i ≡ f (lo + n) = ap f is in
      let new : g i ≡ g (lo + n) = ap g is in
      omega arith
  | inr ne ↦
      let rest = total-changed f g lo n i above (before ne below) h in
      let last : g (lo + n) ≡ f (lo + n) = h (lo + n) (λ e. ne (sym e)) in
      omega arith
]
  where
    apart : (k : ℕ) → k ≡ i → i ≡ lo + n → k < lo + n → ⊥
    apart k e is lt = omega arith

    before : i ≢ lo + n → i < lo + suc n → i < lo + n
    before ne lt = omega arith

-- a sum of zeros is zero
pub total-none : (f : ℕ → ℕ) (lo n : ℕ) → ((k : ℕ) → f k ≡ 0) → total f lo n ≡ 0
unfolding total
total-none f lo zero h = refl
total-none f lo (suc n) h =
    let rest : total f lo n ≡ 0 = total-none f lo n h in
    let last : f (lo + n) ≡ 0 = h (lo + n) in
    omega arith

pub total-zero : (f : ℕ → ℕ) (lo : ℕ) → total f lo 0 ≡ 0
unfolding total
total-zero f lo = refl

pub total-more : (f : ℕ → ℕ) (lo n : ℕ) → total f lo (n + 1) ≡ total f lo n + f (lo + n)
unfolding total
total-more f lo n = rw (one n) refl
  where
    one : (k : ℕ) → k + 1 ≡ suc k
    one k = omega arith

-- a term is at most the sum, and so is a sum of fewer terms
pub total-term : (f : ℕ → ℕ) (lo n i : ℕ) → lo ≤ i → i < lo + n → f i ≤ total f lo n
unfolding total
total-term f lo zero i above below = absurd (none above below)
  where
    none : lo ≤ i → i < lo + 0 → ⊥
    none a b = omega arith
total-term f lo (suc n) i above below = elim (cases_eq i (lo + n)) [
  | inl is ↦ let here : f i ≡ f (lo + n) = ap f is in omega arith
  | inr ne ↦ let rest = total-term f lo n i above (before ne below) in omega arith
]
  where
    before : i ≢ lo + n → i < lo + suc n → i < lo + n
    before ne lt = omega arith

pub total-part : (f : ℕ → ℕ) (lo m n : ℕ) → m ≤ n → total f lo m ≤ total f lo n
unfolding total
total-part f lo m zero le = let e : m ≡ 0 = omega arith in rw e (omega arith)
total-part f lo m (suc n) le = elim (cases_eq m (suc n)) [
  | inl is ↦ rw is (omega arith)
  | inr ne ↦ let rest = total-part f lo m n (less ne le) in omega arith
]
  where
    less : m ≢ suc n → m ≤ suc n → m ≤ n
    less ne lt = omega arith

-- bounds of sums by the number of their terms
total-ones : (f : ℕ → ℕ) (lo n : ℕ) → ((k : ℕ) → f k ≤ 1) → total f lo n ≤ n
unfolding total
total-ones f lo zero h = omega arith
total-ones f lo (suc n) h = let rest = total-ones f lo n h in let last = h (lo + n) in omega arith

total-rows : (f : ℕ → ℕ) (lo n : ℕ) → ((k : ℕ) → f k ≤ 64) → total f lo n ≤ n * 64
unfolding total
total-rows f lo zero h = omega arith
total-rows f lo (suc n) h = let rest = total-rows f lo n h in let last = h (lo + n) in omega arith

one-at_most : (d : ℕ) (o : Option Opened) → one_of d o ≤ 1
one-at_most d o = at_if (is_of d o)
  where
    at_if : (b : Bool) → (if b then 1 else 0) ≤ 1
    at_if true = omega arith
    at_if false = omega arith

pub references_below-most : (fds : ℕ → Option Opened) (d n : ℕ) → references_below fds d n ≤ n
references_below-most fds d n = total-ones (λ fd. one_of d (fds fd)) 0 n (λ k. one-at_most d (fds k))

pub references-most : (ps : Processes) (d : ℕ) → references ps d ≤ 16384
references-most ps d = total-rows (λ pid. references_below (ps.opened pid) d 64) 1 256 (λ pid. references_below-most (ps.opened pid) d 64)

-- a sum is positive where one of its terms is
positive-true : (n : ℕ) → 0 < n → nat_lt 0 n ≡ true
positive-true n lt = grind (arith, nat_tests, lt)

or-positive : (a b : ℕ) → nat_lt 0 (a + b) ≡ (nat_lt 0 a || nat_lt 0 b)
or-positive a b = elim (cases_lt 0 a) [
  | inl lt ↦ positive-true (a + b) (omega arith) ∙ ap (λ x. x || nat_lt 0 b) (sym (positive-true a lt))
  | inr le ↦
      let none : a ≡ 0 = omega arith in
      let rest : a + b ≡ b = omega arith in
      ap (nat_lt 0) rest ∙ sym (ap (λ n. nat_lt 0 n || nat_lt 0 b) none)
]

pub total-some : (f : ℕ → ℕ) (passes : ℕ → Bool) (lo n : ℕ) → ((k : ℕ) → nat_lt 0 (f k) ≡ passes k) → nat_lt 0 (total f lo n) ≡ some_passes passes lo n
total-some f passes lo zero h = ap (nat_lt 0) (total-zero f lo) ∙ sym (some_passes-zero passes lo)
total-some f passes lo (suc n) h =
    ap (λ m. nat_lt 0 (total f lo m)) (one n) ∙ ap (nat_lt 0) (total-more f lo n) ∙ or-positive (total f lo n) (f (lo + n))
    ∙ ap (λ b. b || nat_lt 0 (f (lo + n))) (total-some f passes lo n h) ∙ ap (λ b. some_passes passes lo n || b) (h (lo + n))
    ∙ sym (some_passes-more passes lo n) ∙ ap (some_passes passes lo) (sym (one n))
  where
    one : (k : ℕ) → suc k ≡ k + 1
    one k = omega arith

one-is_of : (d : ℕ) (o : Option Opened) → nat_lt 0 (one_of d o) ≡ is_of d o
one-is_of d o = at_if (is_of d o)
  where
    at_if : (b : Bool) → nat_lt 0 (if b then 1 else 0) ≡ b
    at_if true = refl
    at_if false = refl

-- a description is open where a descriptor refers to it
pub references-open : (ps : Processes) (d : ℕ) → nat_lt 0 (references ps d) ≡ is_open ps d
references-open ps d = total-some (λ pid. references_below (ps.opened pid) d 64) (λ pid. some_passes (λ fd. is_of d (ps.opened pid fd)) 0 64) 1 256
    (λ pid. total-some (λ fd. one_of d (ps.opened pid fd)) (λ fd. is_of d (ps.opened pid fd)) 0 64 (λ fd. one-is_of d (ps.opened pid fd)))

not-positive : (n : ℕ) → (n == 0) ≡ not (nat_lt 0 n)
not-positive n = elim (cases_eq n 0) [
  | inl is ↦ eq-eqb n 0 is ∙ sym (ap (λ k. not (nat_lt 0 k)) is)
  | inr ne ↦ ne_eqb n 0 ne ∙ sym (ap not (positive-true n (more n ne)))
]
  where
    more : (k : ℕ) → k ≢ 0 → 0 < k
    more k ne = omega arith

pub count-closed : (ps : Processes) (counts : List ℕ) (d : ℕ) → AreCounts ps counts → (count_of counts d == 0) ≡ not (is_open ps d)
count-closed ps counts d h = ap (λ n. n == 0) (h d) ∙ not-positive (references ps d) ∙ ap not (references-open ps d)

-- the number of references to a description after one descriptor changes
pub references-descriptor : (ps : Processes) (pid fd : ℕ) (o : Option Opened) (d : ℕ) → IsNumber most_processes pid → fd < most_descriptors → references (with_descriptor ps pid fd o) d + one_of d (ps.opened pid fd) ≡ references ps d + one_of d o
references-descriptor ps pid fd o d number within =
    let old : ℕ → ℕ = λ p. references_below (ps.opened p) d 64 in
    let new : ℕ → ℕ = λ p. references_below ((with_descriptor ps pid fd o).opened p) d 64 in
    let rows : references (with_descriptor ps pid fd o) d + old pid ≡ references ps d + new pid =
    total-changed old new 1 256 pid number.0 (omega (arith, number.1)) (λ k ne. ap (λ (b : Bool). references_below (λ j. if b && (j == fd) then o else ps.opened k j) d 64) (ne_eqb k pid ne)) in
    let slots : new pid + one_of d (ps.opened pid fd) ≡ old pid + one_of d ((with_descriptor ps pid fd o).opened pid fd) =
    total-changed (λ j. one_of d (ps.opened pid j)) (λ j. one_of d ((with_descriptor ps pid fd o).opened pid j)) 0 64 fd (omega arith) (omega (arith, within))
    (λ k ne. (λ i. one_of d (if (eq-eqb pid pid refl i) && (ne_eqb k fd ne i) then o else ps.opened pid k))) in
    let here : one_of d ((with_descriptor ps pid fd o).opened pid fd) ≡ one_of d o = (λ i. one_of d (if (eq-eqb pid pid refl i) && (eq-eqb fd fd refl i) then o else ps.opened pid fd)) in
    joined (references (with_descriptor ps pid fd o) d) (old pid) (references ps d) (new pid) (one_of d (ps.opened pid fd)) (one_of d ((with_descriptor ps pid fd o).opened pid fd)) (one_of d o) rows slots here
  where
    joined : (a b c e x y z : ℕ) → a + b ≡ c + e → e + x ≡ b + y → y ≡ z → a + x ≡ c + z
    joined a b c e x y z h k l = omega arith

-- the number of references to a description after a process begins or ends
pub references-process : (ps : Processes) (pid : ℕ) (runs : Bool) (fds : ℕ → Option Opened) (d : ℕ) → IsNumber most_processes pid → references (with_process ps pid runs fds) d + references_below (ps.opened pid) d most_descriptors ≡ references ps d + references_below fds d most_descriptors
references-process ps pid runs fds d number =
    let old : ℕ → ℕ = λ p. references_below (ps.opened p) d 64 in
    let new : ℕ → ℕ = λ p. references_below ((with_process ps pid runs fds).opened p) d 64 in
    let rows : references (with_process ps pid runs fds) d + old pid ≡ references ps d + new pid =
    total-changed old new 1 256 pid number.0 (omega (arith, number.1)) (λ k ne. ap (λ (b : Bool). references_below (λ j. if b then fds j else ps.opened k j) d 64) (ne_eqb k pid ne)) in
    let here : new pid ≡ references_below fds d 64 = ap (λ (b : Bool). references_below (λ j. if b then fds j else ps.opened pid j) d 64) (eq-eqb pid pid refl) in
    rows ∙ ap (λ n. references ps d + n) here

-- a process without descriptors has no reference to a description
pub references-none : (fds : ℕ → Option Opened) (d n : ℕ) → ((fd : ℕ) → fds fd ≡ None) → references_below fds d n ≡ 0
references-none fds d n none = total-none (λ fd. one_of d (fds fd)) 0 n (λ k. ap (one_of d) (none k))

references-same : (ps qs : Processes) (d : ℕ) → ((p k : ℕ) → qs.opened p k ≡ ps.opened p k) → references qs d ≡ references ps d
references-same ps qs d h = λ i. total (λ p. total (λ k. one_of d (h p k i)) 0 64) 1 256

-- the empty counts are right where no process has a descriptor
pub counts-none : (ps : Processes) → ((p k : ℕ) → ps.opened p k ≡ None) → AreCounts ps []
counts-none ps none d = get_or_past [] d 0 (omega arith) ∙ sym (total-none (λ pid. references_below (ps.opened pid) d 64) 1 256 (λ pid. references-none (ps.opened pid) d 64 (none pid)))

-- the counts stay right where a process begins without descriptors
pub counts-begun : (ps : Processes) (pid : ℕ) (runs : Bool) (counts : List ℕ) → ((k : ℕ) → ps.opened pid k ≡ None) → AreCounts ps counts → AreCounts (with_process ps pid runs (λ fd. None)) counts
counts-begun ps pid runs counts none h d = h d ∙ sym (references-same ps (with_process ps pid runs (λ fd. None)) d (λ q k. at_if q k (q == pid) refl))
  where
    at_if : (q k : ℕ) (b : Bool) → (q == pid) ≡ b → (if b then None else ps.opened q k) ≡ ps.opened q k
    at_if q k true is = sym (ap (λ p. ps.opened p k) (eqb-true q pid is) ∙ none k)
    at_if q k false is = refl

-- the counts after a process begins with the descriptors of another
pub counts-shared : (ps : Processes) (pid child : ℕ) (old new : List ℕ) → IsNumber most_processes child → ((k : ℕ) → ps.opened child k ≡ None) → ((d : ℕ) → count_of new d ≡ count_of old d + references_below (ps.opened pid) d most_descriptors) → AreCounts ps old → AreCounts (with_process ps child true (ps.opened pid)) new
counts-shared ps pid child old new number none more h d =
    joined (count_of new d) (count_of old d) (references_below (ps.opened pid) d 64) (references ps d) (references (with_process ps child true (ps.opened pid)) d) (references_below (ps.opened child) d 64)
    (more d) (h d) (references-process ps child true (ps.opened pid) d number) (references-none (ps.opened child) d 64 none)
  where
    joined : (n o x r s y : ℕ) → n ≡ o + x → o ≡ r → s + y ≡ r + x → y ≡ 0 → n ≡ s
    joined n o x r s y a b c e = omega arith

-- the counts after a process ends
pub counts-ended : (ps : Processes) (pid : ℕ) (old new : List ℕ) → IsNumber most_processes pid ⊎ ((k : ℕ) → ps.opened pid k ≡ None) → ((d : ℕ) → count_of new d + references_below (ps.opened pid) d most_descriptors ≡ count_of old d) → AreCounts ps old → AreCounts (with_process ps pid false (λ fd. None)) new
counts-ended ps pid old new which fewer h = elim which [
  | inl number ↦ λ d. joined (count_of new d) (count_of old d) (references_below (ps.opened pid) d 64) (references ps d) (references (with_process ps pid false (λ fd. None)) d) (references_below (λ fd. None) d 64)
      (fewer d) (h d) (references-process ps pid false (λ fd. None) d number) (references-none (λ fd. None) d 64 (λ k. refl))
  | inr none ↦ counts-begun ps pid false new none (λ d. still (count_of new d) (count_of old d) (references_below (ps.opened pid) d 64) (references ps d) (fewer d) (h d) (references-none (ps.opened pid) d 64 none))
]
  where
    joined : (n o x r s y : ℕ) → n + x ≡ o → o ≡ r → s + x ≡ r + y → y ≡ 0 → n ≡ s
    joined n o x r s y a b c e = omega arith

    still : (n o x r : ℕ) → n + x ≡ o → o ≡ r → x ≡ 0 → n ≡ r
    still n o x r a b c = omega arith

-- a descriptor refers to description d, or doesn't, by the number of its description
one-same : (d : ℕ) (o : Opened) → d ≡ o.description → one_of d (Some o) ≡ 1
one-same d o is = ap (λ (b : Bool). if b then 1 else 0) (eq-eqb o.description d (sym is))

one-other : (d : ℕ) (o : Opened) → d ≢ o.description → one_of d (Some o) ≡ 0
one-other d o ne = ap (λ (b : Bool). if b then 1 else 0) (ne_eqb o.description d (λ e. ne (sym e)))

-- a description that is counted has a place
pub counted-place : (counts : List ℕ) (d : ℕ) → 0 < count_of counts d → d < length counts
counted-place counts d some = elim (cases_lt d (length counts)) [
  | inl lt ↦ lt
  | inr le ↦ let none : count_of counts d ≡ 0 = get_or_past counts d 0 le in absurd (apart (count_of counts d) some none)
]
  where
    apart : (n : ℕ) → 0 < n → n ≡ 0 → ⊥
    apart n lt is = omega arith

-- the counts with one more descriptor of a description
pub raised : (counts : List ℕ) (o : Opened) (k : ℕ) → o.description < length counts → count_of (slice_set counts o.description (count_of counts o.description + 1)) k ≡ count_of counts k + one_of k (Some o)
raised counts o k place = elim (cases_eq k o.description) [
  | inl is ↦
      let new : count_of (slice_set counts o.description (count_of counts o.description + 1)) k ≡ count_of counts k + 1 =
      ap (count_of (slice_set counts o.description (count_of counts o.description + 1))) is ∙ get_or-set_same counts o.description (count_of counts o.description + 1) 0 place ∙ ap (λ n. count_of counts n + 1) (sym is) in
      new ∙ ap (λ n. count_of counts k + n) (sym (one-same k o is))
  | inr ne ↦
      let new : count_of (slice_set counts o.description (count_of counts o.description + 1)) k ≡ count_of counts k = get_or-set_other counts o.description k (count_of counts o.description + 1) 0 ne in
      new ∙ and_none (count_of counts k) (one_of k (Some o)) (one-other k o ne)
]
  where
    and_none : (n x : ℕ) → x ≡ 0 → n ≡ n + x
    and_none n x is = omega arith

-- the counts with one descriptor less of a description
pub lowered : (counts : List ℕ) (o : Opened) (k : ℕ) → 0 < count_of counts o.description → count_of (slice_set counts o.description (count_of counts o.description - 1)) k + one_of k (Some o) ≡ count_of counts k
lowered counts o k some = elim (cases_eq k o.description) [
  | inl is ↦
      let new : count_of (slice_set counts o.description (count_of counts o.description - 1)) k ≡ count_of counts o.description - 1 =
      ap (count_of (slice_set counts o.description (count_of counts o.description - 1))) is ∙ get_or-set_same counts o.description (count_of counts o.description - 1) 0 (counted-place counts o.description some) in
      less _ (count_of counts o.description) (count_of counts k) _ new some (ap (count_of counts) is) (one-same k o is)
  | inr ne ↦
      let new : count_of (slice_set counts o.description (count_of counts o.description - 1)) k ≡ count_of counts k = get_or-set_other counts o.description k (count_of counts o.description - 1) 0 ne in
      still _ (count_of counts k) _ new (one-other k o ne)
]
  where
    less : (n c d x : ℕ) → n ≡ c - 1 → 0 < c → d ≡ c → x ≡ 1 → n + x ≡ d
    less n c d x a b e f = omega arith

    still : (n c x : ℕ) → n ≡ c → x ≡ 0 → n + x ≡ c
    still n c x a b = omega arith

-- the counts stay right where a free descriptor gets to refer to a description
pub counts-opened : (ps : Processes) (pid fd : ℕ) (o : Opened) (counts : List ℕ) → IsNumber most_processes pid → fd < most_descriptors → ps.opened pid fd ≡ None → o.description < length counts → AreCounts ps counts → AreCounts (with_descriptor ps pid fd (Some o)) (slice_set counts o.description (count_of counts o.description + 1))
counts-opened ps pid fd o counts number within free place h d =
    joined _ (count_of counts d) (references ps d) _ _ _ (raised counts o d place) (h d) (references-descriptor ps pid fd (Some o) d number within) (ap (one_of d) free)
  where
    joined : (n c r s x y : ℕ) → n ≡ c + y → c ≡ r → s + x ≡ r + y → x ≡ 0 → n ≡ s
    joined n c r s x y a b e f = omega arith

-- the description of an open descriptor has a count above 0
pub descriptor-counted : (ps : Processes) (pid fd : ℕ) (o : Opened) (counts : List ℕ) → IsNumber most_processes pid → fd < most_descriptors → ps.opened pid fd ≡ Some o → AreCounts ps counts → 0 < count_of counts o.description
descriptor-counted ps pid fd o counts number within was h =
    let row = total-term (λ p. references_below (ps.opened p) o.description 64) 1 256 pid number.0 (omega (arith, number.1)) in
    let one = total-term (λ k. one_of o.description (ps.opened pid k)) 0 64 fd (omega arith) (omega (arith, within)) in
    let is : one_of o.description (ps.opened pid fd) ≡ 1 = ap (one_of o.description) was ∙ one-same o.description o refl in
    joined (count_of counts o.description) (references ps o.description) (references_below (ps.opened pid) o.description 64) (one_of o.description (ps.opened pid fd)) (h o.description) row one is
  where
    joined : (c r x y : ℕ) → c ≡ r → x ≤ r → y ≤ x → y ≡ 1 → 0 < c
    joined c r x y a b e f = omega arith

-- the counts stay right where a descriptor is closed
pub counts-closed : (ps : Processes) (pid fd : ℕ) (o : Opened) (counts : List ℕ) → IsNumber most_processes pid → fd < most_descriptors → ps.opened pid fd ≡ Some o → AreCounts ps counts → AreCounts (with_descriptor ps pid fd None) (slice_set counts o.description (count_of counts o.description - 1))
counts-closed ps pid fd o counts number within was h d =
    joined _ (count_of counts d) (references ps d) _ (one_of d (ps.opened pid fd)) (one_of d (Some o)) (lowered counts o d (descriptor-counted ps pid fd o counts number within was h)) (h d) (references-descriptor ps pid fd None d number within) (ap (one_of d) was)
  where
    joined : (n c r s x y : ℕ) → n + y ≡ c → c ≡ r → s + x ≡ r + 0 → x ≡ y → n ≡ s
    joined n c r s x y a b e f = omega arith

-- the references of a process's first n + 1 descriptors
pub below-more : (fds : ℕ → Option Opened) (d n : ℕ) → references_below fds d (n + 1) ≡ references_below fds d n + one_of d (fds n)
below-more fds d n =
    let e : 0 + n ≡ n = omega arith in
    total-more (λ fd. one_of d (fds fd)) 0 n ∙ ap (λ k. references_below fds d n + one_of d (fds k)) e

pub below-none : (fds : ℕ → Option Opened) (d n : ℕ) → fds n ≡ None → references_below fds d (n + 1) ≡ references_below fds d n
below-none fds d n none = below-more fds d n ∙ plain (references_below fds d n) _ (ap (one_of d) none)
  where
    plain : (a x : ℕ) → x ≡ 0 → a + x ≡ a
    plain a x is = omega arith

-- while a process's references are taken off the counts, the next one is still counted
pub left-counted : (ps : Processes) (pid n : ℕ) (o : Opened) (old left : List ℕ) → IsNumber most_processes pid → n < most_descriptors → ps.opened pid n ≡ Some o → AreCounts ps old → count_of left o.description + references_below (ps.opened pid) o.description n ≡ count_of old o.description → 0 < count_of left o.description
left-counted ps pid n o old left number within was h so_far =
    let row = total-term (λ p. references_below (ps.opened p) o.description 64) 1 256 pid number.0 (omega (arith, number.1)) in
    let part = total-part (λ k. one_of o.description (ps.opened pid k)) 0 (n + 1) 64 (omega (arith, within)) in
    let is : one_of o.description (ps.opened pid n) ≡ 1 = ap (one_of o.description) was ∙ one-same o.description o refl in
    joined (count_of left o.description) (references_below (ps.opened pid) o.description n) (count_of old o.description) (references ps o.description) (references_below (ps.opened pid) o.description 64) (references_below (ps.opened pid) o.description (n + 1)) (one_of o.description (ps.opened pid n))
    so_far (h o.description) row part (below-more (ps.opened pid) o.description n) is
  where
    joined : (l x c r z w y : ℕ) → l + x ≡ c → c ≡ r → z ≤ r → w ≤ z → w ≡ x + y → y ≡ 1 → 0 < l
    joined l x c r z w y a b e f g k = omega arith

-- an open description has a count above 0
positive-lt : (n : ℕ) → nat_lt 0 n ≡ true → 0 < n
positive-lt zero h = absurd (false≢true h)
positive-lt (suc n) h = omega arith

pub open-counted : (ps : Processes) (counts : List ℕ) (d : ℕ) → AreCounts ps counts → is_open ps d ≡ true → 0 < count_of counts d
open-counted ps counts d h opens = positive-lt (count_of counts d) (ap (nat_lt 0) (h d) ∙ references-open ps d ∙ opens)

-- the description of an open descriptor is open
pub descriptor-open : (ps : Processes) (pid fd : ℕ) (o : Opened) → IsNumber most_processes pid → fd < most_descriptors → ps.opened pid fd ≡ Some o → is_open ps o.description ≡ true
descriptor-open ps pid fd o number within was =
    let is : is_of o.description (ps.opened pid fd) ≡ true = ap (is_of o.description) was ∙ eq-eqb o.description o.description refl in
    let here = some_passes-found (λ k. is_of o.description (ps.opened pid k)) 0 64 fd (omega arith) (omega (arith, within)) is in
    some_passes-found (λ q. some_passes (λ k. is_of o.description (ps.opened q k)) 0 64) 1 256 pid number.0 (omega (arith, number.1)) here

-- where the next description to be opened has no descriptor, each lower one has
pub known-lowest : (ps : Processes) (counts : List ℕ) (d : ℕ) → AreCounts ps counts → IsKnown ps d → count_of counts d ≡ 0 → AreUsed counts d
known-lowest ps counts d h known none k least below = elim known [
  | inl opens ↦ absurd (apart (count_of counts d) (open-counted ps counts d h opens) none)
  | inr is ↦ open-counted ps counts k h (opened (is_open ps k) ((first_is_first (λ n. not (is_open ps n)) 1 most_descriptions).none_before k least (subst (λ n. k < n) is below)))
]
  where
    apart : (n : ℕ) → 0 < n → n ≡ 0 → ⊥
    apart n lt is = omega arith

    opened : (b : Bool) → not b ≡ false → b ≡ true
    opened true e = refl
    opened false e = absurd (false≢true (sym e))

-- the lowest description without a count is the lowest one that isn't open
pub lowest-unused : (ps : Processes) (counts : List ℕ) → AreCounts ps counts → first (λ d. count_of counts d == 0) 1 most_descriptions ≡ lowest_description ps
lowest-unused ps counts h = λ i. first (λ d. count-closed ps counts d h i) 1 most_descriptions

-- while a process's references are counted once more, there is room for the next one
pub shared-room : (ps : Processes) (pid d n : ℕ) (old new : List ℕ) → AreCounts ps old → count_of new d ≡ count_of old d + references_below (ps.opened pid) d n → n < most_descriptors → count_of new d < 65535
shared-room ps pid d n old new h is within = joined (count_of new d) (count_of old d) (references_below (ps.opened pid) d n) (references ps d) n is (h d) (references-most ps d) (references_below-most (ps.opened pid) d n) within
  where
    joined : (n c x r f : ℕ) → n ≡ c + x → c ≡ r → r ≤ 16384 → x ≤ f → f < 64 → n < 65535
    joined n c x r f a b e g k = omega arith

pub shared-some : (n c x : ℕ) → n ≡ c + x → 0 < c → n ≡ 0 → ⊥
shared-some n c x is some none = omega arith

pub room-for-one : (ps : Processes) (counts : List ℕ) (d : ℕ) → AreCounts ps counts → count_of counts d < 65535
room-for-one ps counts d h = joined (count_of counts d) (references ps d) (h d) (references-most ps d)
  where
    joined : (c r : ℕ) → c ≡ r → r ≤ 16384 → c < 65535
    joined c r a b = omega arith

-- the counts while a process's references are added or taken off: before the first one, and after one more
pub shared-none : (fds : ℕ → Option Opened) (d n : ℕ) → n ≡ n + references_below fds d 0
shared-none fds d n = joined n (references_below fds d 0) (total-zero (λ fd. one_of d (fds fd)) 0)
  where
    joined : (n x : ℕ) → x ≡ 0 → n ≡ n + x
    joined n x is = omega arith

pub shared-more : (fds : ℕ → Option Opened) (d n : ℕ) (old now : List ℕ) (o : Opened) → o.description < length now → fds n ≡ Some o → count_of now d ≡ count_of old d + references_below fds d n → count_of (slice_set now o.description (count_of now o.description + 1)) d ≡ count_of old d + references_below fds d (n + 1)
shared-more fds d n old now o place was so_far =
    joined _ (count_of now d) (count_of old d) (references_below fds d n) (references_below fds d (n + 1)) (one_of d (fds n)) (one_of d (Some o)) (raised now o d place) so_far (below-more fds d n) (ap (one_of d) was)
  where
    joined : (k c b r s x y : ℕ) → k ≡ c + y → c ≡ b + r → s ≡ r + x → x ≡ y → k ≡ b + s
    joined k c b r s x y e f g h = omega arith

pub released-more : (fds : ℕ → Option Opened) (d n : ℕ) (old now : List ℕ) (o : Opened) → 0 < count_of now o.description → fds n ≡ Some o → count_of now d + references_below fds d n ≡ count_of old d → count_of (slice_set now o.description (count_of now o.description - 1)) d + references_below fds d (n + 1) ≡ count_of old d
released-more fds d n old now o some was so_far =
    joined _ (count_of now d) (count_of old d) (references_below fds d n) (references_below fds d (n + 1)) (one_of d (fds n)) (one_of d (Some o)) (lowered now o d some) so_far (below-more fds d n) (ap (one_of d) was)
  where
    joined : (k c b r s x y : ℕ) → k + y ≡ c → c + r ≡ b → s ≡ r + x → x ≡ y → k + s ≡ b
    joined k c b r s x y e f g h = omega arith

-- the first process, and its first descriptor, that refer to description d
pid_of : Processes → ℕ → ℕ
pid_of ps d = first (λ pid. some_passes (λ fd. is_of d (ps.opened pid fd)) 0 most_descriptors) 1 most_processes

fd_of : Processes → ℕ → ℕ
fd_of ps d = first (λ fd. is_of d (ps.opened (pid_of ps d) fd)) 0 most_descriptors

-- the descriptor fd of process pid, whose number is at most `last`, refers to description d
record Refers (ps : Processes) (last d pid fd : ℕ) : Type 0 where
  pub pid_in : IsNumber last pid
  pub fd_in : fd < most_descriptors
  pub refers : is_of d (ps.opened pid fd) ≡ true

not_of_none : (d : ℕ) (o : Option Opened) → o ≡ None → is_of d o ≡ true → ⊥
not_of_none d o h k = false≢true (ap (is_of d) (sym h) ∙ k)

open_refers : (ps : Processes) (last d : ℕ) → ((p k : ℕ) → last < p → ps.opened p k ≡ None) → is_open ps d ≡ true → Refers ps last d (pid_of ps d) (fd_of ps d)
unfolding pid_of fd_of
open_refers ps last d past h =
    let p = first-passes (λ pid. some_passes (λ fd. is_of d (ps.opened pid fd)) 0 most_descriptors) 1 most_processes h in
    let f = first-passes (λ fd. is_of d (ps.opened (pid_of ps d) fd)) 0 most_descriptors p.here in
    record { pid_in = (p.least, up_to (pid_of ps d) (fd_of ps d) f.here); fd_in = below _ f.below; refers = f.here }
  where
    below : (k : ℕ) → k < 0 + 64 → k < 64
    below k h = omega arith

    up_to : (pid fd : ℕ) → is_of d (ps.opened pid fd) ≡ true → pid ≤ last
    up_to pid fd is = elim (cases_lt last pid) [
      | inl lt ↦ absurd (not_of_none d (ps.opened pid fd) (past pid fd lt) is)
      | inr le ↦ le
    ]

-- the place of a descriptor when all descriptors of a node stand in a row
abbrev place_of : ℕ → ℕ → ℕ
place_of pid fd = (pid - 1) * 64 + fd

place-below : (last pid fd : ℕ) → IsNumber last pid → fd < 64 → place_of pid fd < last * 64
place-below last pid fd h lt = let p = h.0 in let q = h.1 in omega arith

place-pid : (a b x y : ℕ) → 1 ≤ a → 1 ≤ b → x < 64 → y < 64 → place_of a x ≡ place_of b y → a ≡ b
place-pid a b x y ha hb hx hy e = omega arith

place-fd : (a b x y : ℕ) → 1 ≤ a → 1 ≤ b → x < 64 → y < 64 → place_of a x ≡ place_of b y → x ≡ y
place-fd a b x y ha hb hx hy e = omega arith

one_description : (d e : ℕ) (o : Option Opened) → is_of d o ≡ true → is_of e o ≡ true → d ≡ e
one_description d e None h k = absurd (false≢true h)
one_description d e (Some o) h k = sym (eqb-true _ _ h) ∙ eqb-true _ _ k

same_place : (ps : Processes) (last d e p q x y : ℕ) → Refers ps last d p x → Refers ps last e q y → place_of p x ≡ place_of q y → d ≡ e
same_place ps last d e p q x y f g h =
    let pids : p ≡ q = place-pid p q x y f.pid_in.0 g.pid_in.0 f.fd_in g.fd_in h in
    let fds : x ≡ y = place-fd p q x y f.pid_in.0 g.pid_in.0 f.fd_in g.fd_in h in
    one_description d e (ps.opened p x) f.refers (rw (pids, fds) g.refers)

-- where a descriptor of the first processes is free, fewer descriptions are open than these have descriptors
not_all_open : (ps : Processes) (last pid fd : ℕ) → ((p k : ℕ) → last < p → ps.opened p k ≡ None) → IsNumber last pid → fd < most_descriptors → ps.opened pid fd ≡ None → ((d : ℕ) → 1 ≤ d → d ≤ last * 64 → is_open ps d ≡ true) → ⊥
not_all_open ps last pid fd past pid_in fd_in free all = no_hole (last * 64) (λ k. place_of (pid_of ps (k + 1)) (fd_of ps (k + 1))) (place_of pid fd) (record {
  within = λ k h. let r = of k h in place-below last _ _ r.pid_in r.fd_in;
  own = λ j k hj hk e. less j k (same_place ps last (j + 1) (k + 1) _ _ _ _ (of j hj) (of k hk) e);
  hole_in = place-below last pid fd pid_in fd_in;
  empty = λ k h e. let r = of k h in
      let pids : pid_of ps (k + 1) ≡ pid = place-pid _ pid _ fd r.pid_in.0 pid_in.0 r.fd_in fd_in e in
      let fds : fd_of ps (k + 1) ≡ fd = place-fd _ pid _ fd r.pid_in.0 pid_in.0 r.fd_in fd_in e in
      not_of_none (k + 1) (ps.opened pid fd) free (rw (← pids, ← fds) r.refers);
})
  where
    of : (k : ℕ) → k < last * 64 → Refers ps last (k + 1) (pid_of ps (k + 1)) (fd_of ps (k + 1))
    of k h = open_refers ps last (k + 1) past (all (k + 1) (omega arith) (omega arith))

    less : (j k : ℕ) → j + 1 ≡ k + 1 → j ≡ k
    less j k e = omega arith

-- the lowest description that isn't open is at most the number of the first processes' descriptors
lowest-within : (ps : Processes) (last pid fd : ℕ) → ((p k : ℕ) → last < p → ps.opened p k ≡ None) → IsNumber last pid → fd < most_descriptors → ps.opened pid fd ≡ None → lowest_description ps ≤ last * 64
lowest-within ps last pid fd past pid_in fd_in free = met (lowest_description ps) (first_is_first (λ d. not (is_open ps d)) 1 most_descriptions)
  where
    opens : (b : Bool) → not b ≡ false → b ≡ true
    opens true h = refl
    opens false h = absurd (false≢true (sym h))

    met : (k : ℕ) → IsFirst (λ d. not (is_open ps d)) 1 most_descriptions k → k ≤ last * 64
    met k f = elim (cases_lt (last * 64) k) [
      | inl lt ↦ absurd (not_all_open ps last pid fd past pid_in fd_in free (λ d least le. opens (is_open ps d) (f.none_before d least (omega arith))))
      | inr le ↦ le
    ]

-- the lowest description that isn't open has a place for its count
pub lowest-place : (rows : List ProcessEntry) (pid fd : ℕ) → pid < length rows → 1 ≤ pid → fd < most_descriptors → (processes rows).opened pid fd ≡ None → lowest_description (processes rows) < 64 * length rows
lowest-place rows pid fd within number fd_in free = met (lowest_description (processes rows)) (length rows) within
    (lowest-within (processes rows) (length rows - 1) pid fd past (number, less (length rows) within) fd_in free)
  where
    less : (n : ℕ) → pid < n → pid ≤ n - 1
    less n lt = omega arith

    reaches : (n p : ℕ) → n - 1 < p → n ≤ p
    reaches n p lt = omega arith

    past : (p k : ℕ) → length rows - 1 < p → (processes rows).opened p k ≡ None
    past p k lt = processes-opened rows p k ∙ ap (λ (r : ProcessEntry). slot r.opened k) (get_or_past rows p idle (reaches (length rows) p lt))

    met : (d n : ℕ) → pid < n → d ≤ (n - 1) * 64 → d < 64 * n
    met d n lt le = omega arith

pub known-place : (rows : List ProcessEntry) (counts : List ℕ) (pid fd d : ℕ) → AreRows rows → length counts ≡ places rows → AreCounts (processes rows) counts → (processes rows).runs pid ≡ true → fd < most_descriptors → (processes rows).opened pid fd ≡ None → IsKnown (processes rows) d → d < length counts
known-place rows counts pid fd d h len counted runs within free known = elim known [
  | inl opens ↦ counted-place counts d (open-counted (processes rows) counts d counted opens)
  | inr is ↦ joined d (lowest_description (processes rows)) (length rows) (length counts) is (lowest-place rows pid fd (runs_within rows pid (sym (processes-runs rows pid) ∙ runs)) (runs-numbered rows pid h runs).0 within free) len
]
  where
    joined : (d l n c : ℕ) → d ≡ l → l < 64 * n → c ≡ 64 * n → d < c
    joined d l n c a b e = omega arith
