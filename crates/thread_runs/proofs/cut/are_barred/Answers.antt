use Rattle.std.proofs.Common.{arith, refl}
use Rattle.std.proofs.lemmas.Option.{slice_get_read, slice_get_within}
use Rattle.thread_runs.specs.rule.Runs.{parts}
use Rattle.thread_runs.proofs.InCuts.{passed}
use Rattle.thread_runs.proofs.cut.are_barred.Goals as goal

pub loop-line-preserved : goal.loop-line-preserved
loop-line-preserved c =
    let e = c.in_ok-pass.ensures in
    let fine = c.if-not-branch.false in
    let at = slice_get_read c.args.lines.now _ c.loop-line.line-index c.line-item.result refl c.loop-line-test.true c.line-item.is in
    passed (parts c.args.no_join) c.args.lines.now c.loop-line.line-index c.loop-line.bars.askers.items c.pass.new.self.askers.items c.loop-line.bars.is_over c.pass.new.self.is_over c.line-item.result at c.loop-line.invariant
    (record { over_by = e.over.0; left_by = e.left.0 fine; open_by = e.opened fine })

pub returns : goal.returns
returns c = λ t j m at left.
    let last = slice_get_within c.args.lines.now j m at in
    let done = c.loop-line-test.false in
    c.loop-line.invariant.barred j m (omega arith) at left
