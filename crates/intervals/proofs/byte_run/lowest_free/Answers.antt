use Rattle.std.proofs.Common.{◌++◌, [], ◌∷◌, arith}
use Rattle.std.proofs.lemmas.Bool.{both_ways}
use Rattle.intervals.specs.code.Runs.{EndsBelow}
use Rattle.intervals.proofs.Around.{LeftBelow, lowest_start, lowest_end, lowest_stop, lowest_after, lowest_skip, ends-last}
use Rattle.intervals.proofs.byte_run.lowest_free.Goals as goal

pub loop-run-init : goal.loop-run-init
loop-run-init g c = lowest_start _ _ _ _ c.requires.runs c.requires.ended

pub overflow_add-result : goal.overflow_add-result
overflow_add-result g c =
    let ended : EndsBelow (c.in-Some.below.now ++ c.in-Some.run'.now ∷ []) c.args.from = rw (← c.in-Some.ensures.cases.0) c.loop-run.invariant.ended in
    omega (arith, ends-last _ _ _ ended)

pub returns-then-is_barred : goal.returns-then-is_barred
returns-then-is_barred g c =
    let left : LeftBelow c.args.runs.now (c.in-Some.below.now ++ c.in-Some.run'.now ∷ []) c.args.bar c.args.low c.args.from = rw (← c.in-Some.ensures.cases.0) c.loop-run.invariant in
    lowest_after _ _ _ _ _ _ left c.if-run-low.false (c.is_barred.ensures.0 c.if-is_barred.true)

pub loop-run-preserved : goal.loop-run-preserved
loop-run-preserved g c =
    let left : LeftBelow c.args.runs.now (c.in-Some.below.now ++ c.in-Some.run'.now ∷ []) c.args.bar c.args.low c.args.from = rw (← c.in-Some.ensures.cases.0) c.loop-run.invariant in
    lowest_skip _ _ _ _ _ _ left (λ barred. both_ways _ c.if-is_barred.false (c.is_barred.ensures.1 barred))

pub returns-then-run-low : goal.returns-then-run-low
returns-then-run-low g c =
    let left : LeftBelow c.args.runs.now (c.in-Some.below.now ++ c.in-Some.run'.now ∷ []) c.args.bar c.args.low c.args.from = rw (← c.in-Some.ensures.cases.0) c.loop-run.invariant in
    lowest_stop _ _ _ _ _ _ left c.requires.order c.if-run-low.true

pub returns-in_default : goal.returns-in_default
returns-in_default g c = lowest_end _ _ _ _ _ c.in_default.ensures.cases c.requires.order c.loop-run.invariant
