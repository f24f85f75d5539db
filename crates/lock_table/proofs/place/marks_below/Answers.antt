use Rattle.std.proofs.Common.{◌<◌, ◌-◌, ltb, length, get_or, List, sym, ap, lt-ltb, rules, arith}
use Rattle.std.proofs.lemmas.Option.{get_or_from_slice_get}
use Rattle.std.proofs.lemmas.List.Sorted.{IsPartitionPoint-from_clause, IsPartitionedBy-ltb}
use Rattle.lock_table.specs.declared.owner_locks.OwnerLocks.{OwnerLocks}
use Rattle.lock_table.specs.code.Rows.{mark_of}
use Rattle.lock_table.proofs.RowLemmas.{marks_rise}
use Rattle.lock_table.proofs.place.marks_below.Goals as goal

pub returns-in-Some-clause-below : goal.returns-in-Some-clause-below
returns-in-Some-clause-below c = λ k d from lt.
    let rows : List OwnerLocks = c.args.rows.now in
    let high = marks_rise rows c.requires k (length rows - 1) d (omega arith) (omega arith) in
    let last = ap (λ (r : OwnerLocks). mark_of r.file r.owner) (get_or_from_slice_get rows (length rows - 1) c.in-Some.row.now d (sym c.in-Some.ensures.value)) in
    let small : mark_of (get_or rows k d).file (get_or rows k d).owner < c.args.bound = omega (arith, high, last, c.mark_of.ensures, c.if-mark_of-bound.true) in
    lt-ltb _ _ small

pub returns-in_default-clause-below : goal.returns-in_default-clause-below
returns-in_default-clause-below c =
    let parted = IsPartitionedBy-ltb (λ (r : OwnerLocks). mark_of r.file r.owner) c.args.rows.now c.args.bound (marks_rise c.args.rows.now c.requires) in
    let point = IsPartitionPoint-from_clause (λ (r : OwnerLocks). ltb (mark_of r.file r.owner) c.args.bound) _ _ c.partition_point.ensures.partitioned parted (λ a r q k. search rules) in
    point.0
