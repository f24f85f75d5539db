use Rattle.std.proofs.Common.{◌++◌, subst, arith}
use Rattle.std.proofs.lemmas.Bool.{both_ways}
use Rattle.intervals.specs.rule.Bytes.{Range}
use Rattle.intervals.specs.code.Runs.{AreRuns}
use Rattle.intervals.specs.code.Parts.{all_runs, row_runs, part_at, runs_above}
use Rattle.intervals.proofs.Split.{runs-front}
use Rattle.intervals.proofs.Rows.{some-drop}
use Rattle.intervals.proofs.Places.{runs_near}
use Rattle.intervals.proofs.RowReads.{IsLeft, rest_of, left_begin, left_found, left_past, left_more, left_end}
use Rattle.intervals.proofs.tree_map.TreeMapSpanMap.first_where.Goals as goal

pub split_before-requires : goal.split_before-requires
split_before-requires g c =
    let row = c.self.inside.row in
    rw c.part.ensures (runs-front (part_at row c.place-at.result) (runs_above row c.place-at.result) (runs_near row c.place-at.result (omega arith) c.self.invariant.0))

pub loop-run-init : goal.loop-run-init
loop-run-init g c =
    let row = c.self.inside.row in
    let s : Range = record { lo = c.span.inside.lo; hi = c.span.inside.hi } in
    let place = c.place-at.ensures in
    let split = c.split_before.ensures in
    let rest = c.split_before.result.1.now ++ all_runs c.above-parts.result.now in
    record {
      some = rw c.above-parts.ensures (some-drop row.rest.items c.place-at.result c.self.invariant.2);
      left = subst (λ l. IsLeft l rest c.args.bar s) c.self.view_is (left_begin (row_runs row) rest c.args.bar s (rest_of row c.place-at.result c.span.inside.lo c.part.result.now c.split_before.result.0.now c.split_before.result.1.now c.above-parts.result.now (omega arith) c.self.invariant.0 place.ended place.above c.part.ensures split.whole split.ended split.reached c.above-parts.ensures));
    }

pub returns-then-is_barred : goal.returns-then-is_barred
returns-then-is_barred g c =
    let s : Range = record { lo = c.span.inside.lo; hi = c.span.inside.hi } in
    let left = c.loop-run.runs.now ++ all_runs c.loop-run.parts.now in
    let made : AreRuns c.args.self.now = subst AreRuns c.self.view_is c.self.invariant.0 in
    rw (← c.span.view_is, c.max.ensures) (left_found c.args.self.now left _ c.in-Some.run' c.args.bar s made c.loop-run.invariant.left c.in-Some.ensures.next c.span.invariant.0 (omega arith) (c.is_barred.ensures.0 c.if-is_barred.true))

pub loop-run-preserved : goal.loop-run-preserved
loop-run-preserved g c =
    let s : Range = record { lo = c.span.inside.lo; hi = c.span.inside.hi } in
    let left = c.loop-run.runs.now ++ all_runs c.loop-run.parts.now in
    let made : AreRuns c.args.self.now = subst AreRuns c.self.view_is c.self.invariant.0 in
    record {
      some = c.in-Some.ensures.some;
      left = left_more c.args.self.now left _ c.in-Some.run' c.args.bar s made c.loop-run.invariant.left c.in-Some.ensures.next (λ barred. both_ways _ c.if-is_barred.false (c.is_barred.ensures.1 barred));
    }

pub returns-then-run-span : goal.returns-then-run-span
returns-then-run-span g c =
    let s : Range = record { lo = c.span.inside.lo; hi = c.span.inside.hi } in
    let left = c.loop-run.runs.now ++ all_runs c.loop-run.parts.now in
    let made : AreRuns c.args.self.now = subst AreRuns c.self.view_is c.self.invariant.0 in
    rw (← c.span.view_is) (left_past c.args.self.now left _ c.in-Some.run' c.args.bar s made c.loop-run.invariant.left c.in-Some.ensures.next (omega arith))

pub returns-in_default : goal.returns-in_default
returns-in_default g c =
    let s : Range = record { lo = c.span.inside.lo; hi = c.span.inside.hi } in
    let left = c.loop-run.runs.now ++ all_runs c.loop-run.parts.now in
    rw (← c.span.view_is) (left_end c.args.self.now left c.args.bar s c.loop-run.invariant.left c.in_default.ensures.next)

pub loop-run-smaller : goal.loop-run-smaller
loop-run-smaller g c = rw c.in-Some.ensures.next (omega arith)
