-- What the rows of a node say of its files, and those that are made.
use Rattle.std.specs.Prelude.{◌≡◌, ◌≢◌, ℕ, zero, suc, ◌+◌, ◌-◌, ◌<◌, ◌≤◌, ◌⊎◌, ◌==◌, if◌then◌else◌, List, [], ◌∷◌, ◌++◌, Some, length, slice_index_or, slice_set, refl, false}
use Rattle.std.specs.List.{slice_get}
use Rattle.std.proofs.Common.{arith, ap, sym, ◌∙◌, inl, inr}
use Rattle.std.proofs.lemmas.Bool.{cases_eq, cases_lt, eq-eqb, ne_eqb}
use Rattle.std.proofs.lemmas.Option.{slice_get_read, slice_get_past}
use Rattle.model.specs.rule.Limits.{IsNumber}
use Rattle.node_core.specs.declared.file_row.FileRow.{FileRow}
use Rattle.node_core.specs.rule.State.{FileState, first_file}
use Rattle.node_core.specs.rule.Files.{state_of, state_or, file_state}
use Rattle.intervals.specs.rule.Runs.{value_at}
use Rattle.node_core.specs.code.Plans.{first_row, rows_of, told}

-- the empty list of rows knows nothing of each file
pub file_state-none : file_state [] ≡ (λ file. first_file)
unfolding file_state
file_state-none = λ i file. none file i
  where
    none : (file : ℕ) → file_state [] file ≡ first_file
    none zero = refl
    none (suc file) = refl

nothing-push : (files : List FileRow) (r : FileRow) → ((k : ℕ) → state_or (slice_get files k) ≡ first_file) → state_of r ≡ first_file → (k : ℕ) → state_or (slice_get (files ++ r ∷ []) k) ≡ first_file
nothing-push [] r nothing e zero = e
nothing-push [] r nothing e (suc k) = refl
nothing-push (x ∷ files) r nothing e zero = nothing zero
nothing-push (x ∷ files) r nothing e (suc k) = nothing-push files r (λ j. nothing (suc j)) e k

-- one more row of a file that nothing is known of
pub file_state-push : (files : List FileRow) (r : FileRow) → file_state files ≡ (λ file. first_file) → state_of r ≡ first_file → file_state (files ++ r ∷ []) ≡ (λ file. first_file)
unfolding file_state
file_state-push files r nothing e = λ i file. pushed file i
  where
    pushed : (file : ℕ) → file_state (files ++ r ∷ []) file ≡ first_file
    pushed zero = refl
    pushed (suc file) = nothing-push files r (λ k. ap (λ f. f (suc k)) nothing) e file

-- the row of a file says what the rows say of the file
pub file_state-read : (files : List FileRow) (file : ℕ) (r : FileRow) → IsNumber (length files) file → r ≡ slice_index_or files (file - 1) r → state_of r ≡ file_state files file
unfolding file_state
file_state-read files zero r within e = absurd (let h = within.0 in omega arith)
file_state-read files (suc file) r within e =
    let at : suc file - 1 ≡ file = omega arith in
    let here : r ≡ slice_index_or files file r = e ∙ ap (λ k. slice_index_or files k r) at in
    ap state_or (sym (slice_get_read files (length files) file r refl (let h = within.1 in omega arith) here))

-- the row of a file is the one at its place
pub row-there : (files : List FileRow) (file : ℕ) (r : FileRow) → IsNumber (length files) file → r ≡ slice_index_or files (file - 1) r → slice_get files (file - 1) ≡ Some r
row-there files file r within e = slice_get_read files (length files) (file - 1) r refl (let h = within.0 in let k = within.1 in omega arith) e

slice_get-set_same : (files : List FileRow) (k : ℕ) (r : FileRow) → k < length files → slice_get (slice_set files k r) k ≡ Some r
slice_get-set_same [] k r within = absurd (omega arith)
slice_get-set_same (x ∷ files) zero r within = refl
slice_get-set_same (x ∷ files) (suc k) r within = slice_get-set_same files k r (omega arith)

slice_get-set_other : (files : List FileRow) (k j : ℕ) (r : FileRow) → j ≢ k → slice_get (slice_set files k r) j ≡ slice_get files j
slice_get-set_other [] k j r ne = refl
slice_get-set_other (x ∷ files) zero zero r ne = absurd (ne refl)
slice_get-set_other (x ∷ files) zero (suc j) r ne = refl
slice_get-set_other (x ∷ files) (suc k) zero r ne = refl
slice_get-set_other (x ∷ files) (suc k) (suc j) r ne = slice_get-set_other files k j r (λ e. ne (ap suc e))

-- the rows after one of them is replaced
pub file_state-set : (files : List FileRow) (file : ℕ) (r : FileRow) (state : FileState) → IsNumber (length files) file → state_of r ≡ state → file_state (slice_set files (file - 1) r) ≡ (λ f. if f == file then state else file_state files f)
unfolding file_state
file_state-set files zero r state within e = absurd (let h = within.0 in omega arith)
file_state-set files (suc file) r state within e = λ i f. changed f (cases_eq f (suc file)) i
  where
    at : suc file - 1 ≡ file
    at = omega arith

    inside : file < length files
    inside = let h = within.1 in omega arith

    apart : (f : ℕ) → (suc f ≡ suc file → ⊥) → f ≢ file
    apart f ne e = ne (ap suc e)

    changed : (f : ℕ) → (f ≡ suc file) ⊎ (f ≡ suc file → ⊥) → file_state (slice_set files (suc file - 1) r) f ≡ (if f == suc file then state else file_state files f)
    changed f (inl is) = ap (λ k. file_state (slice_set files k r) f) at ∙ ap (file_state (slice_set files file r)) is ∙ ap state_or (slice_get-set_same files file r inside) ∙ e ∙ ap (λ b. if b then state else file_state files f) (sym (eq-eqb f (suc file) is))
    changed zero (inr ne) = ap (λ b. if b then state else first_file) (sym (ne_eqb zero (suc file) ne))
    changed (suc f) (inr ne) = ap (λ k. state_or (slice_get (slice_set files k r) f)) at ∙ ap state_or (slice_get-set_other files file f r (apart f ne)) ∙ ap (λ b. if b then state else state_or (slice_get files f)) (sym (ne_eqb (suc f) (suc file) ne))

-- the rows after one of them is changed by a function of what it said
pub file_state-change : (files : List FileRow) (file : ℕ) (r new : FileRow) (change : FileState → FileState) → IsNumber (length files) file → r ≡ slice_index_or files (file - 1) r → state_of new ≡ change (state_of (slice_index_or files (file - 1) r)) → file_state (slice_set files (file - 1) new) ≡ (λ f. if f == file then change (file_state files file) else file_state files f)
file_state-change files file r new change within is e =
    file_state-set files file new (change (file_state files file)) within (e ∙ ap change (ap state_of (sym is) ∙ file_state-read files file r within is))

-- rows that agree one by one say the same of each file
pub file_state-same : (files others : List FileRow) (n : ℕ) → length files ≤ n → length others ≤ n → ((k : ℕ) → k < n → state_or (slice_get files k) ≡ state_or (slice_get others k)) → file_state files ≡ file_state others
unfolding file_state
file_state-same files others n within others_within same = λ i file. at file i
  where
    past : (k : ℕ) → n ≤ k → state_or (slice_get files k) ≡ state_or (slice_get others k)
    past k h = ap state_or (slice_get_past files k (omega arith) ∙ sym (slice_get_past others k (omega arith)))

    at : (file : ℕ) → file_state files file ≡ file_state others file
    at zero = refl
    at (suc k) = elim (cases_lt k n) [ inl lt ↦ same k lt | inr le ↦ past k le ]

pub same-file_state : (files others : List FileRow) (k : ℕ) → file_state files ≡ file_state others → state_or (slice_get files k) ≡ state_or (slice_get others k)
unfolding file_state
same-file_state files others k e = ap (λ f. f (suc k)) e

pub row_state : (files : List FileRow) (k : ℕ) (r : FileRow) → k < length files → r ≡ slice_index_or files k r → state_or (slice_get files k) ≡ state_of r
row_state files k r within e = ap state_or (slice_get_read files (length files) k r refl within e)

pub same-below : (files others : List FileRow) (n : ℕ) → ((k : ℕ) → k < n → state_or (slice_get files k) ≡ state_or (slice_get others k)) → state_or (slice_get files n) ≡ state_or (slice_get others n) → (k : ℕ) → k < n + 1 → state_or (slice_get files k) ≡ state_or (slice_get others k)
same-below files others n below here k lt = elim (cases_lt k n) [
  | inl under ↦ below k under
  | inr le ↦ let e : k ≡ n = omega arith in ap (λ j. state_or (slice_get files j)) e ∙ here ∙ ap (λ j. state_or (slice_get others j)) (sym e)
]

-- there is a row for each file
pub rows-count : (n : ℕ) (rows : List FileRow) → length (rows_of n rows) ≡ n
rows-count zero rows = refl
rows-count (suc n) [] = ap suc (rows-count n [])
rows-count (suc n) (r ∷ rows) = ap suc (rows-count n rows)

-- a row that is made of a file that nothing is known of changes nothing
pub rows-push : (n : ℕ) (rows : List FileRow) → rows_of n (rows ++ first_row ∷ []) ≡ rows_of n rows
rows-push zero rows = refl
rows-push (suc n) [] = refl
rows-push (suc n) (r ∷ rows) = ap (λ l. r ∷ l) (rows-push n rows)

rows-own : (n : ℕ) (rows : List FileRow) (k : ℕ) → k < length rows → k < n → slice_get (rows_of n rows) k ≡ slice_get rows k
rows-own zero rows k own lt = absurd (omega arith)
rows-own (suc n) [] k own lt = absurd (omega arith)
rows-own (suc n) (r ∷ rows) zero own lt = refl
rows-own (suc n) (r ∷ rows) (suc k) own lt = rows-own n rows k (omega arith) (omega arith)

rows-others : (n : ℕ) (rows : List FileRow) (k : ℕ) → length rows ≤ k → k < n → slice_get (rows_of n rows) k ≡ Some first_row
rows-others zero rows k past lt = absurd (omega arith)
rows-others (suc n) [] zero past lt = refl
rows-others (suc n) [] (suc k) past lt = rows-others n [] k (omega arith) (omega arith)
rows-others (suc n) (r ∷ rows) zero past lt = absurd (omega arith)
rows-others (suc n) (r ∷ rows) (suc k) past lt = rows-others n rows k (omega arith) (omega arith)

rows-set : (n : ℕ) (rows : List FileRow) (k : ℕ) (r : FileRow) → k < length rows → rows_of n (slice_set rows k r) ≡ slice_set (rows_of n rows) k r
rows-set zero rows k r own = refl
rows-set (suc n) [] k r own = absurd (omega arith)
rows-set (suc n) (x ∷ rows) zero r own = refl
rows-set (suc n) (x ∷ rows) (suc k) r own = ap (λ l. x ∷ l) (rows-set n rows k r (omega arith))

-- the first row says that nothing is known
first-state : state_of first_row ≡ first_file
unfolding value_at
first-state = refl

first-rows : (n k : ℕ) → state_or (slice_get (rows_of n []) k) ≡ first_file
first-rows zero k = refl
first-rows (suc n) zero = first-state
first-rows (suc n) (suc k) = first-rows n k

-- where no row is made, nothing is known of each file
pub nothing-made : (n : ℕ) → file_state (rows_of n []) ≡ (λ file. first_file)
unfolding file_state
nothing-made n = λ i file. at file i
  where
    at : (file : ℕ) → file_state (rows_of n []) file ≡ first_file
    at zero = refl
    at (suc file) = first-rows n file

-- the row of a file says what the rows say of the file
pub row-says : (files : List FileRow) (file : ℕ) (r : FileRow) → IsNumber (length files) file → slice_get files (file - 1) ≡ Some r → state_of r ≡ file_state files file
unfolding file_state
row-says files zero r within is = absurd (let h = within.0 in omega arith)
row-says files (suc file) r within is =
    let at : suc file - 1 ≡ file = omega arith in
    sym (ap state_or (ap (slice_get files) (sym at) ∙ is))

-- nothing changes where no Freed is owed
pub told-nothing : (files : ℕ → FileState) (file : ℕ) → (files file).owes_freed ≡ false → files ≡ told files file
told-nothing files file none = λ i f. at f (cases_eq f file) i
  where
    at : (f : ℕ) → (f ≡ file) ⊎ (f ≡ file → ⊥) → files f ≡ told files file f
    at f (inl is) =
        ap files is
        ∙ ap (λ b. record (files file) { owes_freed = b }) none
        ∙ ap (λ b. if b then record (files file) { owes_freed = false } else files f) (sym (eq-eqb f file is))
    at f (inr ne) = ap (λ b. if b then record (files file) { owes_freed = false } else files f) (sym (ne_eqb f file ne))

-- how many files there are
pub known-count : (n : ℕ) (rows now : List FileRow) → rows_of n rows ≡ now → length now ≡ n
known-count n rows now is = ap length (sym is) ∙ rows-count n rows

-- the row that is made of a file
pub own-row : (n : ℕ) (rows now : List FileRow) (file : ℕ) (r : FileRow) → rows_of n rows ≡ now → IsNumber (length now) file → file - 1 < length rows → r ≡ slice_index_or rows (file - 1) r → slice_get now (file - 1) ≡ Some r
own-row n rows now file r is within own at =
    let many = known-count n rows now is in
    let lt : file - 1 < n = let least = within.0 in let most = within.1 in omega arith in
    ap (λ l. slice_get l (file - 1)) (sym is) ∙ rows-own n rows (file - 1) own lt ∙ slice_get_read rows (length rows) (file - 1) r refl own at

-- the row of a file for which none is made
pub shared-row : (n : ℕ) (rows now : List FileRow) (file : ℕ) (r : FileRow) → rows_of n rows ≡ now → IsNumber (length now) file → length rows ≤ file - 1 → r ≡ first_row → slice_get now (file - 1) ≡ Some r
shared-row n rows now file r is within past fresh =
    let many = known-count n rows now is in
    let lt : file - 1 < n = let least = within.0 in let most = within.1 in omega arith in
    ap (λ l. slice_get l (file - 1)) (sym is) ∙ rows-others n rows (file - 1) past lt ∙ ap Some (sym fresh)

-- the row of a file by its place
pub row-at : (files : List FileRow) (k : ℕ) (r : FileRow) → slice_get files (k + 1 - 1) ≡ Some r → state_or (slice_get files k) ≡ state_of r
row-at files k r is = let at : k ≡ k + 1 - 1 = omega arith in ap state_or (ap (slice_get files) at ∙ is)

-- what is known after a row that is made is changed
pub row-written : (n : ℕ) (rows now : List FileRow) (file : ℕ) (r : FileRow) (state : FileState) → rows_of n rows ≡ now → IsNumber (length now) file → file - 1 < length rows → state_of r ≡ state → file_state (rows_of n (slice_set rows (file - 1) r)) ≡ (λ f. if f == file then state else file_state now f)
row-written n rows now file r state is within own e =
    ap file_state (rows-set n rows (file - 1) r own)
    ∙ ap (λ l. file_state (slice_set l (file - 1) r)) is
    ∙ file_state-set now file r state within e
