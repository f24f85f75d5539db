use Rattle.std.proofs.Common.{leb, leb-true, leb-false, rules, arith}
use Rattle.std.proofs.lemmas.List.Sorted.{IsPartitionPoint-from_clause, IsPartitionedBy-leb}
use Rattle.intervals.proofs.StartsWith.{begins_rise}
use Rattle.intervals.proofs.Ordered.{begin_take, begin_drop, last_of, above_none}
use Rattle.intervals.proofs.byte_run.last_by_halves.Goals as goal

pub returns-in-Some : goal.returns-in-Some
returns-in-Some g c =
    let parted = IsPartitionedBy-leb (λ run. run.lo) _ c.args.byte (begins_rise _ c.requires) in
    let point = IsPartitionPoint-from_clause (λ run. leb run.lo c.args.byte) _ _ c.partition_point.ensures.partitioned parted (λ a r q k. search rules) in
    last_of c.args.runs.now c.split_at.result.0.now c.split_at.result.1.now c.in-Some.field-0-1.now c.in-Some.run'.now c.args.byte c.split_at.ensures.by_index.0 c.in-Some.ensures.cases.0 (rw c.split_at.ensures.front (begin_take _ _ _ (λ k d lt. leb-true _ _ (point.0 k d (omega arith) lt)))) (rw c.split_at.ensures.back (begin_drop _ _ _ (λ k d le lt. leb-false _ _ (point.1 k d le lt))))

pub returns-in-None : goal.returns-in-None
returns-in-None g c =
    let parted = IsPartitionedBy-leb (λ run. run.lo) _ c.args.byte (begins_rise _ c.requires) in
    let point = IsPartitionPoint-from_clause (λ run. leb run.lo c.args.byte) _ _ c.partition_point.ensures.partitioned parted (λ a r q k. search rules) in
    rw c.split_at.ensures.by_index.0 (above_none c.split_at.result.0.now c.split_at.result.1.now c.args.byte c.in-None.ensures.cases (rw c.split_at.ensures.back (begin_drop _ _ _ (λ k d le lt. leb-false _ _ (point.1 k d le lt)))))
