use Rattle.thread_runs.specs.rule.Runs.{parts}
use Rattle.thread_runs.proofs.Denied.{all_past}
use Rattle.thread_runs.proofs.denials.may_all_come.Goals as goal

pub loop-line-preserved : goal.loop-line-preserved
loop-line-preserved c = λ met rest.
    let fine = c.if-not-branch.false in
    let e = all_past (parts c.args.no_join) c.args.shape _ _ c.loop-line.passed.awaited c.pass.new.self.awaited c.args.lines.now c.loop-line.line-index c.line-item.result c.loop-line-test.true c.line-item.is (c.in_ok-pass.ensures.members fine) (c.in_ok-pass.ensures.may fine) met rest in
    c.loop-line.invariant e.0 e.1
