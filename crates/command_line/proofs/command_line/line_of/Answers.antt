use Rattle.std.proofs.lemmas.Result.{IfOk-weaker}
use Rattle.command_line.proofs.MetLine.{line_met}
use Rattle.command_line.proofs.command_line.line_of.Goals as goal

pub returns-in-run : goal.returns-in-run
returns-in-run c = line_met _ _ _ c.in-Some.name.now _ _ c.run_in.result c.in-Some.ensures.name c.in-Some.ensures.rows c.in-run.is c.run_in.ensures

pub returns-in-threads : goal.returns-in-threads
returns-in-threads c = line_met _ _ _ c.in-Some.name.now _ _ c.threads_in.result c.in-Some.ensures.name c.in-Some.ensures.rows c.in-threads.is c.threads_in.ensures

pub returns-in-audit : goal.returns-in-audit
returns-in-audit c = line_met _ _ _ c.in-Some.name.now _ _ c.audit_in.result c.in-Some.ensures.name c.in-Some.ensures.rows c.in-audit.is c.audit_in.ensures

pub returns-in-history : goal.returns-in-history
returns-in-history c = line_met _ _ _ c.in-Some.name.now _ _ c.history_in.result c.in-Some.ensures.name c.in-Some.ensures.rows c.in-history.is c.history_in.ensures

pub returns-in-state : goal.returns-in-state
returns-in-state c = line_met _ _ _ c.in-Some.name.now _ _ c.state_in.result c.in-Some.ensures.name c.in-Some.ensures.rows c.in-state.is c.state_in.ensures

pub returns-in-judge : goal.returns-in-judge
returns-in-judge c = IfOk-weaker c.judge_in.result _ _ (λ line met. line_met _ _ _ c.in-Some.name.now _ _ line c.in-Some.ensures.name c.in-Some.ensures.rows c.in-judge.is met) c.judge_in.ensures
