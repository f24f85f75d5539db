-- Rows of processes: what they say, and what changes of them say.
use Rattle.std.specs.Prelude.{◌≡◌, ◌≢◌, ◌⊎◌, ℕ, zero, suc, ◌+◌, ◌<◌, ◌≤◌, ◌||◌, ◌&&◌, ◌==◌, Bool, true, false, if◌then◌else◌, List, Option, Some, None, Ok, Err, IfSome, length, replicate, slice_index_or, slice_set, refl}
use Rattle.std.proofs.Common.{arith, ap, subst, sym, ◌∙◌, inl, inr}
use Rattle.std.proofs.lemmas.Bool.{cases_lt, cases_Bool, cases_eq, eq-eqb, ne_eqb, eqb-true, both_ways, false≢true}
use Rattle.std.proofs.lemmas.List.{get_or-set_same, get_or-set_other, get_or_past}
use Rattle.intervals.specs.rule.Search.{some_passes, first}
use Rattle.model.specs.declared.opened.Opened.{Opened}
use Rattle.model.specs.rule.Limits.{IsNumber, most_processes, most_descriptions}
use Rattle.model.specs.rule.Descriptors.{Processes, no_processes, with_process, with_descriptor}
use Rattle.model.proofs.SearchLaws.{failed-start, first-passes, some_passes-found, some_passes-none}
use Rattle.descriptors.specs.declared.process_entry.ProcessEntry.{ProcessEntry}
use Rattle.descriptors.specs.declared.error.FdError.TheVariants.{NoProcess}
use Rattle.descriptors.specs.code.Rows.{IsSameRow, AreNumbered, IsRow, AreRows, resolved, opened_or, CanBegin}
use Rattle.descriptors.specs.rule.Rows.{slot, idle, row, processes}
use Rattle.model.specs.declared.op.Op.TheVariants.{Process}
use Rattle.model.specs.declared.op.ProcessCall.{ProcessCall}
use Rattle.model.specs.declared.op.ProcessCall.TheVariants.{Spawn, Fork}
use Rattle.model.specs.rule.Step.{IsPossible}

-- a search of no numbers finds none that passes
pub some_passes-zero : (passes : ℕ → Bool) (lo : ℕ) → some_passes passes lo 0 ≡ false
some_passes-zero passes lo = some_passes-none passes lo 0 lo (failed-start passes lo) (omega arith)

-- of one more number, one passes if one of the others does or the last does
pub some_passes-more : (passes : ℕ → Bool) (lo n : ℕ) → some_passes passes lo (n + 1) ≡ (some_passes passes lo n || passes (lo + n))
some_passes-more passes lo n = elim (cases_Bool (some_passes passes lo n)) [
  | inl some ↦ let p = first-passes passes lo n some in
      some_passes-found passes lo (n + 1) (first passes lo n) p.least (more _ p.below) p.here ∙ ap (λ b. b || passes (lo + n)) (sym some)
  | inr none ↦ last (passes (lo + n)) refl none ∙ ap (λ b. b || passes (lo + n)) (sym none)
]
  where
    more : (k : ℕ) → k < lo + n → k < lo + (n + 1)
    more k h = omega arith

    end_in : lo + n < lo + (n + 1)
    end_in = omega arith

    least : lo ≤ lo + n
    least = omega arith

    before : (j : ℕ) → lo ≤ j → j < lo + (n + 1) → j ≢ lo + n → j < lo + n
    before j above below ne = omega arith

    fails : (j : ℕ) → some_passes passes lo n ≡ false → passes (lo + n) ≡ false → lo ≤ j → j < lo + (n + 1) → passes j ≡ false
    fails j none not_last above below = elim (cases_eq j (lo + n)) [
      | inl is ↦ ap passes is ∙ not_last
      | inr ne ↦ elim (cases_Bool (passes j)) [
        | inl yes_j ↦ absurd (both_ways _ none (some_passes-found passes lo n j above (before j above below ne) yes_j))
        | inr no_j ↦ no_j
      ]
    ]

    last : (b : Bool) → passes (lo + n) ≡ b → some_passes passes lo n ≡ false → some_passes passes lo (n + 1) ≡ b
    last true h none = some_passes-found passes lo (n + 1) (lo + n) least end_in h
    last false h none = some_passes-none passes lo (n + 1) (lo + (n + 1)) (record { all = λ j above below. fails j none h above below }) (omega arith)

-- a list of free descriptors refers to nothing
pub slot-none : (n fd : ℕ) → slot (replicate n None) fd ≡ None
slot-none zero fd = refl
slot-none (suc n) zero = refl
slot-none (suc n) (suc fd) = slot-none n fd

-- rows that agree with processes on each number stand for these processes
pub processes-is : (rows : List ProcessEntry) (ps : Processes) → ((q : ℕ) → (row rows q).runs ≡ ps.runs q) → ((q fd : ℕ) → slot (row rows q).opened fd ≡ ps.opened q fd) → processes rows ≡ ps
unfolding processes
processes-is rows ps runs opened = λ i. record { runs = λ q. runs q i; opened = λ q fd. opened q fd i }

pub processes-runs : (rows : List ProcessEntry) (pid : ℕ) → (processes rows).runs pid ≡ (row rows pid).runs
unfolding processes
processes-runs rows pid = refl

pub processes-opened : (rows : List ProcessEntry) (pid fd : ℕ) → (processes rows).opened pid fd ≡ slot (row rows pid).opened fd
unfolding processes
processes-opened rows pid fd = refl

pub processes-same : (rows others : List ProcessEntry) → ((q : ℕ) → IsSameRow (row rows q) (row others q)) → processes rows ≡ processes others
unfolding processes
processes-same rows others same = processes-is rows (processes others) (λ q. (same q).runs) (λ q fd. ap (λ f. f fd) (same q).opened)

pub same-processes : (rows others : List ProcessEntry) → processes rows ≡ processes others → (q : ℕ) → IsSameRow (row rows q) (row others q)
unfolding processes
same-processes rows others e q = record { runs = ap (λ (ps : Processes). ps.runs q) e; opened = ap (λ (ps : Processes). ps.opened q) e }

pub numbered-same : (fds others : List (Option Opened)) → slot fds ≡ slot others → AreNumbered others → AreNumbered fds
numbered-same fds others e h fd o some = h fd o (sym (ap (λ f. f fd) e) ∙ some)

pub row-same : (pid : ℕ) (r s : ProcessEntry) → IsSameRow r s → IsRow pid s → IsRow pid r
row-same pid r s same h = record {
  numbered = numbered-same r.opened s.opened same.opened h.numbered;
  number_in = λ runs. h.number_in (sym same.runs ∙ runs);
  idle = λ idle fd. ap (λ f. f fd) same.opened ∙ h.idle (sym same.runs ∙ idle) fd;
}

pub rows-same : (rows others : List ProcessEntry) → ((q : ℕ) → IsSameRow (row rows q) (row others q)) → AreRows others → AreRows rows
rows-same rows others same h pid = row-same pid (row rows pid) (row others pid) (same pid) (h pid)

-- a process that runs has a row
pub runs_within : (rows : List ProcessEntry) (pid : ℕ) → (row rows pid).runs ≡ true → pid < length rows
runs_within rows pid runs = elim (cases_lt pid (length rows)) [
  | inl lt ↦ lt
  | inr le ↦ absurd (false≢true (ap (λ (r : ProcessEntry). r.runs) (sym (get_or_past rows pid idle le)) ∙ runs))
]

-- a process that runs has a number in range
pub runs-numbered : (rows : List ProcessEntry) (pid : ℕ) → AreRows rows → (processes rows).runs pid ≡ true → IsNumber most_processes pid
runs-numbered rows pid h runs = (h pid).number_in (sym (processes-runs rows pid) ∙ runs)

-- a process with a descriptor has a number in range
pub opened-number : (rows : List ProcessEntry) (pid fd : ℕ) (o : Opened) → AreRows rows → (processes rows).opened pid fd ≡ Some o → IsNumber most_processes pid
opened-number rows pid fd o h is = elim (cases_Bool (row rows pid).runs) [
  | inl runs ↦ (h pid).number_in runs
  | inr not_running ↦ let e = sym ((h pid).idle not_running fd) ∙ sym (processes-opened rows pid fd) ∙ is in absurd (cc)
]

-- a process that doesn't run has no descriptors
pub idle-opened : (rows : List ProcessEntry) (pid fd : ℕ) → AreRows rows → (processes rows).runs pid ≡ false → (processes rows).opened pid fd ≡ None
idle-opened rows pid fd h is = processes-opened rows pid fd ∙ (h pid).idle (sym (processes-runs rows pid) ∙ is) fd

-- each process has a number in range, or no descriptors
pub number-or-none : (rows : List ProcessEntry) (pid : ℕ) → AreRows rows → IsNumber most_processes pid ⊎ ((fd : ℕ) → (processes rows).opened pid fd ≡ None)
number-or-none rows pid h = elim (cases_Bool ((processes rows).runs pid)) [
  | inl runs ↦ inl (runs-numbered rows pid h runs)
  | inr not_running ↦ inr (λ fd. idle-opened rows pid fd h not_running)
]

-- a descriptor that resolves is open, and refers to the result
pub resolved-opened : (ps : Processes) (pid fd : ℕ) (o : Opened) → resolved ps pid fd ≡ Ok o → ps.opened pid fd ≡ Some o
resolved-opened ps pid fd o is = at_if (ps.runs pid) (ps.opened pid fd) is
  where
    at_if : (b : Bool) (x : Option Opened) → (if b then opened_or x else Err NoProcess) ≡ Ok o → x ≡ Some o
    at_if true None h = absurd cc
    at_if true (Some y) h = let e : Ok y ≡ Ok o = h in cc
    at_if false x h = absurd cc

-- the rows after one of them is replaced
pub row-set : (rows : List ProcessEntry) (pid : ℕ) (r : ProcessEntry) (q : ℕ) → pid < length rows → row (slice_set rows pid r) q ≡ (if q == pid then r else row rows q)
row-set rows pid r q within = elim (cases_eq q pid) [
  | inl is ↦ ap (row (slice_set rows pid r)) is ∙ get_or-set_same rows pid r idle within ∙ ap (λ b. if b then r else row rows q) (sym (eq-eqb q pid is))
  | inr ne ↦ get_or-set_other rows pid q r idle ne ∙ ap (λ b. if b then r else row rows q) (sym (ne_eqb q pid ne))
]

runs-if : (b : Bool) (r s : ProcessEntry) → (if b then r else s).runs ≡ (if b then r.runs else s.runs)
runs-if true r s = refl
runs-if false r s = refl

slot-if : (b : Bool) (r s : ProcessEntry) (fd : ℕ) → slot (if b then r else s).opened fd ≡ (if b then slot r.opened fd else slot s.opened fd)
slot-if true r s fd = refl
slot-if false r s fd = refl

pub rows-set : (rows : List ProcessEntry) (pid : ℕ) (r : ProcessEntry) → pid < length rows → AreRows rows → IsRow pid r → AreRows (slice_set rows pid r)
rows-set rows pid r within h is q = subst (IsRow q) (sym (row-set rows pid r q within)) (at_if (q == pid) refl)
  where
    at_if : (b : Bool) → (q == pid) ≡ b → IsRow q (if b then r else row rows q)
    at_if true e = subst (λ n. IsRow n r) (sym (eqb-true q pid e)) is
    at_if false e = h q

-- the row of a process that begins without descriptors, or ends, is sound
pub fresh-row : (pid : ℕ) (r : ProcessEntry) (runs : Bool) → r.runs ≡ runs → ((fd : ℕ) → slot r.opened fd ≡ None) → (runs ≡ true → IsNumber most_processes pid) → IsRow pid r
fresh-row pid r runs is none number = record {
  numbered = λ fd o some. let e = sym (none fd) ∙ some in absurd (cc);
  number_in = λ begun. number (sym is ∙ begun);
  idle = λ ended fd. none fd;
}

-- the row of a process that begins with the descriptors of another is sound
pub copied-row : (pid from : ℕ) (r before : ProcessEntry) → IsSameRow r before → before.runs ≡ true → IsRow from before → IsNumber most_processes pid → IsRow pid r
copied-row pid from r before same runs h number = record {
  numbered = numbered-same r.opened before.opened same.opened h.numbered;
  number_in = λ begun. number;
  idle = λ ended fd. absurd (both_ways r.runs ended (same.runs ∙ runs));
}

-- the processes after one begins or ends
pub processes-reset : (rows : List ProcessEntry) (pid : ℕ) (runs : Bool) (fds : ℕ → Option Opened) (r : ProcessEntry) → pid < length rows → r.runs ≡ runs → ((fd : ℕ) → slot r.opened fd ≡ fds fd) → processes (slice_set rows pid r) ≡ with_process (processes rows) pid runs fds
unfolding processes
processes-reset rows pid runs fds r within is opened = processes-is (slice_set rows pid r) (with_process (processes rows) pid runs fds)
    (λ q. ap (λ (s : ProcessEntry). s.runs) (row-set rows pid r q within) ∙ runs-if (q == pid) r (row rows q) ∙ (λ i. if q == pid then is i else (row rows q).runs))
    (λ q fd. ap (λ (s : ProcessEntry). slot s.opened fd) (row-set rows pid r q within) ∙ slot-if (q == pid) r (row rows q) fd ∙ (λ i. if q == pid then opened fd i else slot (row rows q).opened fd))

-- a process without a row doesn't run
pub processes-past : (rows : List ProcessEntry) (pid : ℕ) → length rows ≤ pid → processes rows ≡ with_process (processes rows) pid false (λ fd. None)
unfolding processes
processes-past rows pid le = processes-is rows (with_process (processes rows) pid false (λ fd. None)) (λ q. runs q (q == pid) refl) (λ q fd. opened q fd (q == pid) refl)
  where
    runs : (q : ℕ) (b : Bool) → (q == pid) ≡ b → (row rows q).runs ≡ (if b then false else (row rows q).runs)
    runs q true is = ap (λ p. (row rows p).runs) (eqb-true q pid is) ∙ ap (λ (s : ProcessEntry). s.runs) (get_or_past rows pid idle le)
    runs q false ne = refl

    opened : (q fd : ℕ) (b : Bool) → (q == pid) ≡ b → slot (row rows q).opened fd ≡ (if b then None else slot (row rows q).opened fd)
    opened q fd true is = ap (λ p. slot (row rows p).opened fd) (eqb-true q pid is) ∙ ap (λ (s : ProcessEntry). slot s.opened fd) (get_or_past rows pid idle le)
    opened q fd false ne = refl

-- a process that has a descriptor runs
pub resolved-runs : (ps : Processes) (pid fd : ℕ) (o : Opened) → resolved ps pid fd ≡ Ok o → ps.runs pid ≡ true
resolved-runs ps pid fd o is = elim (cases_Bool (ps.runs pid)) [ inl runs ↦ runs | inr idle ↦ let e : Err NoProcess ≡ Ok o = rw idle at is in absurd cc ]

-- the processes after one descriptor changes
slots-if : (b : Bool) (r s : ProcessEntry) (o : Option Opened) (fd k : ℕ) → (b ≡ true → (if k == fd then o else slot s.opened k) ≡ slot r.opened k) → (if b then slot r.opened k else slot s.opened k) ≡ (if b && (k == fd) then o else slot s.opened k)
slots-if true r s o fd k h = sym (h refl)
slots-if false r s o fd k h = refl

pub processes-refer : (rows : List ProcessEntry) (pid fd : ℕ) (o : Option Opened) (r : ProcessEntry) → pid < length rows → r.runs ≡ (row rows pid).runs → ((k : ℕ) → slot r.opened k ≡ (if k == fd then o else slot (row rows pid).opened k)) → processes (slice_set rows pid r) ≡ with_descriptor (processes rows) pid fd o
unfolding processes
processes-refer rows pid fd o r within runs opened = processes-is (slice_set rows pid r) (with_descriptor (processes rows) pid fd o)
    (λ q. ap (λ (s : ProcessEntry). s.runs) (row-set rows pid r q within) ∙ runs-if (q == pid) r (row rows q) ∙ still q (q == pid) refl)
    (λ q k. ap (λ (s : ProcessEntry). slot s.opened k) (row-set rows pid r q within) ∙ slot-if (q == pid) r (row rows q) k ∙ slots-if (q == pid) r (row rows q) o fd k (λ is. ap (λ p. if k == fd then o else slot (row rows p).opened k) (eqb-true q pid is) ∙ sym (opened k)))
  where
    still : (q : ℕ) (b : Bool) → (q == pid) ≡ b → (if b then r.runs else (row rows q).runs) ≡ (row rows q).runs
    still q true is = runs ∙ ap (λ p. (row rows p).runs) (sym (eqb-true q pid is))
    still q false ne = refl

pub numbered-slot : (fds others : List (Option Opened)) (fd : ℕ) (o : Option Opened) → ((k : ℕ) → slot fds k ≡ (if k == fd then o else slot others k)) → AreNumbered others → IfSome o (λ x. IsNumber most_descriptions x.description) → AreNumbered fds
numbered-slot fds others fd o is h number k p some = at_if (k == fd) (sym (is k) ∙ some)
  where
    at_if : (b : Bool) → (if b then o else slot others k) ≡ Some p → IsNumber most_descriptions p.description
    at_if true e = subst (λ (x : Option Opened). IfSome x (λ y. IsNumber most_descriptions y.description)) e number
    at_if false e = h k p e

-- the row of a running process, with one descriptor changed, is sound
pub referred-row : (pid : ℕ) (r before : ProcessEntry) (fd : ℕ) (o : Option Opened) → r.runs ≡ before.runs → before.runs ≡ true → ((k : ℕ) → slot r.opened k ≡ (if k == fd then o else slot before.opened k)) → IsRow pid before → IfSome o (λ x. IsNumber most_descriptions x.description) → IsRow pid r
referred-row pid r before fd o same runs is h number = record {
  numbered = numbered-slot r.opened before.opened fd o is h.numbered number;
  number_in = λ still. h.number_in runs;
  idle = λ not_running k. absurd (both_ways r.runs not_running (same ∙ runs));
}

-- two rows are equal where their copies are
pub same-joined : (a b r s : ProcessEntry) → IsSameRow a r → IsSameRow r s → IsSameRow b s → IsSameRow a b
same-joined a b r s x y z = record { runs = x.runs ∙ y.runs ∙ sym z.runs; opened = x.opened ∙ y.opened ∙ sym z.opened }

pub same-past : (rows others : List ProcessEntry) (n : ℕ) → ((k : ℕ) → k < n → IsSameRow (row rows k) (row others k)) → length rows ≤ n → length others ≤ n → (k : ℕ) → IsSameRow (row rows k) (row others k)
same-past rows others n same within others_within k = elim (cases_lt k n) [
  | inl lt ↦ same k lt
  | inr le ↦ let e : row rows k ≡ row others k = get_or_past rows k idle (omega arith) ∙ sym (get_or_past others k idle (omega arith)) in
      record { runs = ap (λ (r : ProcessEntry). r.runs) e; opened = ap (λ (r : ProcessEntry). slot r.opened) e }
]

-- rows with more places, for processes that don't run, stand for the same processes
pub grown-same : (rows old : List ProcessEntry) (n : ℕ) (r : ProcessEntry) → length rows ≡ n → length old ≤ n → ((k : ℕ) (d : ProcessEntry) → k < n → k < length old → slice_index_or rows k d ≡ slice_index_or old k d) → ((k : ℕ) (d : ProcessEntry) → length old ≤ k → k < n → slice_index_or rows k d ≡ r) → r.runs ≡ false → ((fd : ℕ) → slot r.opened fd ≡ None) → (q : ℕ) → IsSameRow (row rows q) (row old q)
grown-same rows old n r len more first rest runs opened q = elim (cases_lt q (length old)) [
  | inl lt ↦ equal (first q idle (omega arith) lt)
  | inr le ↦ elim (cases_lt q n) [
    | inl lt ↦ let e = rest q idle le lt in let o = get_or_past old q idle le in record {
      runs = ap (λ (s : ProcessEntry). s.runs) e ∙ runs ∙ ap (λ (s : ProcessEntry). s.runs) (sym o);
      opened = ap (λ (s : ProcessEntry). slot s.opened) e ∙ (λ i fd. opened fd i) ∙ ap (λ (s : ProcessEntry). slot s.opened) (sym o);
    }
    | inr past ↦ equal (get_or_past rows q idle (omega arith) ∙ sym (get_or_past old q idle le))
  ]
]
  where
    equal : row rows q ≡ row old q → IsSameRow (row rows q) (row old q)
    equal e = record { runs = ap (λ (s : ProcessEntry). s.runs) e; opened = ap (λ (s : ProcessEntry). slot s.opened) e }

-- no process runs if no row says so
pub none_run : (rows : List ProcessEntry) (n : ℕ) → AreRows rows → ((k : ℕ) → k < n → (processes rows).runs k ≡ false) → length rows ≤ n → processes rows ≡ no_processes
none_run rows n are none within = processes-is rows no_processes runs (λ q fd. (are q).idle (runs q) fd)
  where
    runs : (q : ℕ) → (row rows q).runs ≡ false
    runs q = elim (cases_lt q n) [
      | inl lt ↦ sym (processes-runs rows q) ∙ none q lt
      | inr le ↦ ap (λ (r : ProcessEntry). r.runs) (get_or_past rows q idle (omega arith))
    ]

-- the process that would begin has a number that it can have
pub can_begin : (pid : ℕ) (call : ProcessCall) → IsNumber most_processes pid → IsPossible (Process call) → CanBegin pid call
can_begin pid Spawn pid_in possible = pid_in
can_begin pid (Fork child) pid_in possible = possible
can_begin pid _ pid_in possible = tt
