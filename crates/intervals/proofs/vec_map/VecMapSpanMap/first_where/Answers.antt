use Rattle.std.proofs.Common.{inr}
use Rattle.std.proofs.lemmas.Bool.{both_ways}
use Rattle.intervals.proofs.Runs.{drop_read, drop_all}
use Rattle.intervals.proofs.Find.{is_run_at, runs-drop, left-skip, left-first, left-none, left-stop}
use Rattle.intervals.proofs.Split.{none_in-back, first_in-back, reached_at}
use Rattle.intervals.proofs.vec_map.VecMapSpanMap.first_where.Goals as goal

pub returns-then-is_barred : goal.returns-then-is_barred
returns-then-is_barred g c =
    let split = c.split_before.ensures in
    let rest = drop_read _ _ _ c.loop-run-test.true c.run-item.is in
    let run = is_run_at _ _ _ split.last c.loop-run-test.true c.run-item.is in
    let reached = reached_at _ _ _ _ split.last split.reached c.loop-run-test.true c.run-item.is in
    let first = left-first _ _ _ _ _ (rw rest at c.loop-run.invariant) (rw rest at (runs-drop _ c.loop-run.run-index split.last)) run c.span.invariant.0 reached c.if-run-span.false (c.is_barred.ensures.0 c.if-is_barred.true) in
    rw (← c.self.view_is, ← c.deref.ensures.value, split.whole, ← c.span.view_is, c.max.ensures) (first_in-back _ _ _ _ split.ended _ first)

pub loop-run-preserved : goal.loop-run-preserved
loop-run-preserved g c =
    let rest = drop_read _ _ _ c.loop-run-test.true c.run-item.is in
    left-skip _ _ _ _ _ (rw rest at c.loop-run.invariant) (inr (inr (λ barred. both_ways _ c.if-is_barred.false (c.is_barred.ensures.1 barred))))

pub returns-after-loop-run : goal.returns-after-loop-run
returns-after-loop-run g c =
    let split = c.split_before.ensures in
    let none = left-none _ _ _ (rw (drop_all _ _ c.loop-run-test.false) at c.loop-run.invariant) in
    rw (← c.self.view_is, ← c.deref.ensures.value, split.whole, ← c.span.view_is) (none_in-back _ _ _ _ split.ended none)

pub returns-then-run-span : goal.returns-then-run-span
returns-then-run-span g c =
    let split = c.split_before.ensures in
    let rest = drop_read _ _ _ c.loop-run-test.true c.run-item.is in
    let none = left-stop _ _ _ _ _ (rw rest at c.loop-run.invariant) (rw rest at (runs-drop _ c.loop-run.run-index split.last)) c.if-run-span.true in
    rw (← c.self.view_is, ← c.deref.ensures.value, split.whole, ← c.span.view_is) (none_in-back _ _ _ _ split.ended none)
