use Rattle.std.proofs.Common.{leb, ltb, rules}
use Rattle.std.proofs.lemmas.List.Sorted.{IsPartitionPoint-from_clause, IsPartitionedBy-leb, IsPartitionedBy-ltb}
use Rattle.lock_table.specs.declared.owner_locks.OwnerLocks.{OwnerLocks}
use Rattle.lock_table.proofs.RowLemmas.{files_rise, part_order, part_rows, part_file, part_held}
use Rattle.lock_table.proofs.place.rows_of.Goals as goal

pub slice_bounds-result-count : goal.slice_bounds-result-count
slice_bounds-result-count c =
    let rise = files_rise _ c.requires in
    let first = IsPartitionPoint-from_clause (λ (r : OwnerLocks). ltb r.file c.args.file) _ _ c.partition_point-start.ensures.partitioned (IsPartitionedBy-ltb (λ (r : OwnerLocks). r.file) _ c.args.file rise) (λ a r q k. search rules) in
    let second = IsPartitionPoint-from_clause (λ (r : OwnerLocks). leb r.file c.args.file) _ _ c.partition_point-end.ensures.partitioned (IsPartitionedBy-leb (λ (r : OwnerLocks). r.file) _ c.args.file rise) (λ a r q k. search rules) in
    part_order _ c.args.file _ _ c.requires c.partition_point-end.ensures.bound first.0 first.1 second.0 second.1 c.partition_point-start.ensures.bound

pub slice_bounds-result-start : goal.slice_bounds-result-start
slice_bounds-result-start c =
    let le = slice_bounds-result-count c in
    search rules

pub returns : goal.returns
returns c =
    let rise = files_rise _ c.requires in
    let first = IsPartitionPoint-from_clause (λ (r : OwnerLocks). ltb r.file c.args.file) _ _ c.partition_point-start.ensures.partitioned (IsPartitionedBy-ltb (λ (r : OwnerLocks). r.file) _ c.args.file rise) (λ a r q k. search rules) in
    let second = IsPartitionPoint-from_clause (λ (r : OwnerLocks). leb r.file c.args.file) _ _ c.partition_point-end.ensures.partitioned (IsPartitionedBy-leb (λ (r : OwnerLocks). r.file) _ c.args.file rise) (λ a r q k. search rules) in
    record {
      rows = part_rows _ c.args.file _ _ c.requires c.partition_point-end.ensures.bound first.0 first.1 second.0 second.1;
      file = part_file _ c.args.file _ _ c.requires c.partition_point-end.ensures.bound first.0 first.1 second.0 second.1;
      held = λ i o. part_held _ c.args.file _ _ c.requires c.partition_point-end.ensures.bound first.0 first.1 second.0 second.1 o i;
    }
