use Rattle.std.proofs.Common.{◌≡◌, ◌-◌, length, get_or, [], leb, leb-true, leb-false, rules, arith}
use Rattle.std.proofs.lemmas.List.Sorted.{IsPartitionPoint-from_clause, IsPartitionedBy-leb}
use Rattle.intervals.specs.code.Runs.{begins_at}
use Rattle.intervals.proofs.Rows.{parts_rise, begins_drop, above_drop}
use Rattle.intervals.proofs.row.begin_to.Goals as goal

pub returns-in-Some-clause-begins : goal.returns-in-Some-clause-begins
returns-in-Some-clause-begins g c some =
    let last : c.in-Some.part.now ≡ get_or c.args.parts.now (length c.args.parts.now - 1) c.in-Some.part.now = c.in-Some.ensures.item.1 in
    begins_drop c.args.parts.now c.requires.runs c.requires.some (length c.args.parts.now - 1) c.args.byte c.in-Some.part.now (omega arith) (rw (← last) (omega (arith, c.first.ensures, c.if-first-byte.true)))

pub returns-in_default-clause-begins : goal.returns-in_default-clause-begins
returns-in_default-clause-begins g c some =
    let parted = IsPartitionedBy-leb begins_at _ c.args.byte (parts_rise _ c.requires.runs c.requires.some) in
    let point = IsPartitionPoint-from_clause (λ part. leb (begins_at part) c.args.byte) _ _ c.partition_point.ensures.partitioned parted (λ a r q k. search rules) in
    begins_drop c.args.parts.now c.requires.runs c.requires.some (c.partition_point.result - 1) c.args.byte [] (omega arith) (leb-true _ _ (point.0 (c.partition_point.result - 1) [] (omega arith) (omega arith)))

pub returns-in_default-clause-above : goal.returns-in_default-clause-above
returns-in_default-clause-above g c =
    let parted = IsPartitionedBy-leb begins_at _ c.args.byte (parts_rise _ c.requires.runs c.requires.some) in
    let point = IsPartitionPoint-from_clause (λ part. leb (begins_at part) c.args.byte) _ _ c.partition_point.ensures.partitioned parted (λ a r q k. search rules) in
    above_drop c.args.parts.now c.requires.runs c.requires.some c.partition_point.result c.args.byte (λ d lt. leb-false _ _ (point.1 c.partition_point.result d (omega arith) lt))
