use Rattle.thread_runs.specs.rule.Runs.{parts}
use Rattle.thread_runs.proofs.InPhases.{Passed}
use Rattle.thread_runs.proofs.phase_order.are_phases.Given as goal

abbrev pub invariant-loop-line : goal.invariant-loop-line
invariant-loop-line l = Passed (parts l.fn.no_join) l.fn.lines l.line-index l.known.all l.known.earlier
