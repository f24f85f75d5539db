use Rattle.std.proofs.Common.{◌≡◌, ◌-◌, length, get_or, List, sym, ap, arith, ◌∙◌}
use Rattle.std.proofs.lemmas.Bool.{eqb-true}
use Rattle.std.proofs.lemmas.Option.{get_or_from_slice_get}
use Rattle.lock_table.specs.declared.owner_locks.OwnerLocks.{OwnerLocks}
use Rattle.lock_table.proofs.RowLemmas.{files_rise}
use Rattle.lock_table.proofs.place.are_of_file.Goals as goal

pub returns-then-first-file : goal.returns-then-first-file
returns-then-first-file c = λ same k d lt.
    let rows : List OwnerLocks = c.args.rows.now in
    let rise = files_rise rows c.requires in
    let low = rise 0 k d (omega arith) lt in
    let high = rise k (length rows - 1) d (omega arith) (omega arith) in
    let first : (get_or rows 0 d).file ≡ c.args.file = ap (λ (r : OwnerLocks). r.file) (get_or_from_slice_get rows 0 c.in-Some-Some.first.now d (sym c.in-Some-Some.ensures.value)) ∙ c.if-first-file.true in
    let last : (get_or rows (length rows - 1) d).file ≡ c.args.file = ap (λ (r : OwnerLocks). r.file) (get_or_from_slice_get rows (length rows - 1) c.in-Some-Some.last.now d (sym c.in-Some-Some.ensures'.value)) ∙ eqb-true _ _ same in
    omega (arith, low, high, first, last)
