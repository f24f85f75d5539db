use Rattle.std.proofs.Common.{ltb, ltb-true, ltb-false, rules, arith}
use Rattle.std.proofs.lemmas.List.Sorted.{IsPartitionPoint-from_clause, IsPartitionedBy-ltb}
use Rattle.intervals.proofs.Split.{ends_rise, ended_take, ended_last, reached_drop}
use Rattle.intervals.proofs.byte_run.ends_below.Goals as goal

pub returns-in-Some-last-clause-ended : goal.returns-in-Some-last-clause-ended
returns-in-Some-last-clause-ended g c = ended_last _ c.in-Some-last.run'.now c.args.byte c.requires c.in-Some-last.ensures.item.1 c.if-run-byte-2.true

pub returns-in_default-last-clause-ended : goal.returns-in_default-last-clause-ended
returns-in_default-last-clause-ended g c =
    let parted = IsPartitionedBy-ltb (λ run. run.hi) _ c.args.byte (ends_rise _ c.requires) in
    let point = IsPartitionPoint-from_clause (λ run. ltb run.hi c.args.byte) _ _ c.partition_point.ensures.partitioned parted (λ a r q k. search rules) in
    ended_take _ _ _ (λ k d lt. ltb-true _ _ (point.0 k d (omega arith) lt))

pub returns-in_default-last-clause-reached : goal.returns-in_default-last-clause-reached
returns-in_default-last-clause-reached g c =
    let parted = IsPartitionedBy-ltb (λ run. run.hi) _ c.args.byte (ends_rise _ c.requires) in
    let point = IsPartitionPoint-from_clause (λ run. ltb run.hi c.args.byte) _ _ c.partition_point.ensures.partitioned parted (λ a r q k. search rules) in
    reached_drop _ _ _ (λ k d le lt. ltb-false _ _ (point.1 k d le lt))
