use Rattle.std.proofs.Common.{subst}
use Rattle.messages.specs.rule.Shapes.{ShapeFields}
use Rattle.thread_runs.specs.rule.Runs.{MayAllCome, first_of, parts}
use Rattle.thread_runs.proofs.Denied.{if_ok}
use Rattle.thread_runs.proofs.thread_run.are_of_script.Goals as goal

pub returns-clause-come : goal.returns-clause-come
returns-clause-come c =
    let come = subst (λ (s : ShapeFields). MayAllCome (parts c.args.manner.no_join) s (first_of s) c.args.lines.now) c.shape.ensures (c.in_ok-may_all_come.ensures c.if-not-branch.false) in
    if_ok c.are_cut_so.result _ _ (λ are p e. come) c.are_cut_so.ensures.unanswered
