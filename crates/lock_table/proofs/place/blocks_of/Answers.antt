use Rattle.std.proofs.Common.{leb, ltb, List, rules, arith}
use Rattle.std.proofs.lemmas.List.Sorted.{IsPartitionPoint-from_clause, IsPartitionedBy-leb, IsPartitionedBy-ltb}
use Rattle.lock_table.specs.declared.owner_locks.OwnerLocks.{OwnerLocks}
use Rattle.lock_table.specs.code.Rows.{first_file}
use Rattle.lock_table.proofs.BlockRows.{first_files_rise, blocks_order, blocks_rows, blocks_held}
use Rattle.lock_table.proofs.place.blocks_of.Goals as goal

pub slice_bounds-result-count : goal.slice_bounds-result-count
slice_bounds-result-count c =
    let rise = first_files_rise _ c.requires.rows c.requires.some in
    let first = IsPartitionPoint-from_clause (λ (l : List OwnerLocks). ltb (first_file l) c.args.file) _ _ c.partition_point-begun.ensures.partitioned (IsPartitionedBy-ltb first_file _ c.args.file rise) (λ a r q k. search rules) in
    let second = IsPartitionPoint-from_clause (λ (l : List OwnerLocks). leb (first_file l) c.args.file) _ _ c.partition_point-end.ensures.partitioned (IsPartitionedBy-leb first_file _ c.args.file rise) (λ a r q k. search rules) in
    let order = blocks_order _ c.args.file _ _ c.requires.rows c.requires.some c.partition_point-end.ensures.bound first.0 first.1 second.0 second.1 c.partition_point-begun.ensures.bound in
    omega arith

pub slice_bounds-result-start : goal.slice_bounds-result-start
slice_bounds-result-start c =
    let le = slice_bounds-result-count c in
    search rules

pub returns-clause-rows : goal.returns-clause-rows
returns-clause-rows c =
    let rise = first_files_rise _ c.requires.rows c.requires.some in
    let first = IsPartitionPoint-from_clause (λ (l : List OwnerLocks). ltb (first_file l) c.args.file) _ _ c.partition_point-begun.ensures.partitioned (IsPartitionedBy-ltb first_file _ c.args.file rise) (λ a r q k. search rules) in
    let second = IsPartitionPoint-from_clause (λ (l : List OwnerLocks). leb (first_file l) c.args.file) _ _ c.partition_point-end.ensures.partitioned (IsPartitionedBy-leb first_file _ c.args.file rise) (λ a r q k. search rules) in
    rw c.saturating_sub.ensures (blocks_rows _ c.args.file _ _ c.requires.rows c.requires.some c.partition_point-end.ensures.bound first.0 first.1 second.0 second.1 c.partition_point-begun.ensures.bound)

pub returns-clause-held : goal.returns-clause-held
returns-clause-held c =
    let rise = first_files_rise _ c.requires.rows c.requires.some in
    let first = IsPartitionPoint-from_clause (λ (l : List OwnerLocks). ltb (first_file l) c.args.file) _ _ c.partition_point-begun.ensures.partitioned (IsPartitionedBy-ltb first_file _ c.args.file rise) (λ a r q k. search rules) in
    let second = IsPartitionPoint-from_clause (λ (l : List OwnerLocks). leb (first_file l) c.args.file) _ _ c.partition_point-end.ensures.partitioned (IsPartitionedBy-leb first_file _ c.args.file rise) (λ a r q k. search rules) in
    rw c.saturating_sub.ensures (λ i o. blocks_held _ c.args.file _ _ c.requires.rows c.requires.some c.partition_point-end.ensures.bound first.0 first.1 second.0 second.1 c.partition_point-begun.ensures.bound o i)
