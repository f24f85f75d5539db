use Rattle.std.proofs.Common.{inr, arith}
use Rattle.std.proofs.lemmas.Bool.{both_ways}
use Rattle.intervals.proofs.Runs.{drop_read, drop_all}
use Rattle.intervals.proofs.Find.{is_run_at, runs-drop, left-skip}
use Rattle.intervals.proofs.Around.{highest_end, highest_stop, highest_before}
use Rattle.intervals.proofs.Split.{reached_at}
use Rattle.intervals.proofs.byte_run.highest_free.Goals as goal

pub returns-then-is_barred : goal.returns-then-is_barred
returns-then-is_barred g c =
    let rest = drop_read _ _ _ c.loop-run-test.true c.run-item.is in
    let run = is_run_at _ _ _ c.requires.runs c.loop-run-test.true c.run-item.is in
    let over = reached_at _ _ _ _ c.requires.runs c.requires.reached c.loop-run-test.true c.run-item.is in
    highest_before _ _ _ _ c.requires.order _ _ _ (rw rest at c.loop-run.invariant) (rw rest at (runs-drop _ c.loop-run.run-index c.requires.runs)) run (c.is_barred.ensures.0 c.if-is_barred.true) (omega arith) (omega arith) (omega (arith, c.max.ensures, c.saturating_sub.ensures))

pub loop-run-preserved : goal.loop-run-preserved
loop-run-preserved g c =
    let rest = drop_read _ _ _ c.loop-run-test.true c.run-item.is in
    left-skip _ _ _ _ _ (rw rest at c.loop-run.invariant) (inr (inr (λ barred. both_ways _ c.if-is_barred.false (c.is_barred.ensures.1 barred))))

pub returns-after-loop-run : goal.returns-after-loop-run
returns-after-loop-run g c = highest_end _ _ _ _ c.requires.order (rw (drop_all _ _ c.loop-run-test.false) at c.loop-run.invariant)

pub returns-then-run-high : goal.returns-then-run-high
returns-then-run-high g c =
    let rest = drop_read _ _ _ c.loop-run-test.true c.run-item.is in
    highest_stop _ _ _ _ c.requires.order _ _ (rw rest at c.loop-run.invariant) (rw rest at (runs-drop _ c.loop-run.run-index c.requires.runs)) c.if-run-high.true
