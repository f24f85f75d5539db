use Rattle.std.proofs.Common.{drop}
use Rattle.thread_runs.specs.rule.Runs.{parts, MayAllCome, first_of}
use Rattle.thread_runs.specs.code.Awaited.{AreMet, members_of}
use Rattle.thread_runs.proofs.denials.may_all_come.Given as goal

abbrev pub invariant-loop-line : goal.invariant-loop-line
invariant-loop-line l =
    AreMet (parts l.no_join) l.passed.awaited (drop l.line-index l.lines)
    → MayAllCome (parts l.no_join) l.shape (members_of l.passed.members) (drop l.line-index l.lines)
    → MayAllCome (parts l.no_join) l.shape (first_of l.shape) l.lines
