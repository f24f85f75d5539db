use Rattle.std.proofs.Common.{sym, ◌∙◌, ltb, ltb-true, ltb-false, rules, arith}
use Rattle.std.proofs.lemmas.List.Sorted.{IsPartitionPoint-from_clause, IsPartitionedBy-ltb}
use Rattle.intervals.proofs.Starts.{starts_below_are}
use Rattle.intervals.proofs.StartsWith.{begins_rise, begin_below_point}
use Rattle.intervals.proofs.byte_run.begin_below.Goals as goal

pub returns-clause-count : goal.returns-clause-count
returns-clause-count g c =
    let parted = IsPartitionedBy-ltb (λ run. run.lo) _ c.args.byte (begins_rise _ c.requires) in
    let point = IsPartitionPoint-from_clause (λ run. ltb run.lo c.args.byte) _ _ c.partition_point.ensures.partitioned parted (λ a r q k. search rules) in
    sym (starts_below_are g.V.PartialEq.eq g.met.V.Exact.exact g.met.V.Eq.laws.refl c.args.runs.now c.args.byte c.requires
    ∙ begin_below_point c.args.runs.now c.partition_point.result c.args.byte (omega arith) (λ k d lt. ltb-true _ _ (point.0 k d (omega arith) lt)) (λ k d le lt. ltb-false _ _ (point.1 k d le lt)))
