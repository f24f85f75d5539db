use Rattle.thread_runs.specs.rule.Runs.{parts}
use Rattle.thread_runs.proofs.InCuts.{Passed}
use Rattle.thread_runs.proofs.cut.are_barred.Given as goal

abbrev pub invariant-loop-line : goal.invariant-loop-line
invariant-loop-line l = Passed (parts l.fn.no_join) l.fn.lines l.line-index l.bars.askers.items l.bars.is_over
