use Rattle.command_line.specs.rule.Tasks.{judge_task_of, judge}
use Rattle.replay.specs.rule.Judging.{IsJudgedWith}
use Rattle.replay.proofs.Tools.{tool-result}
use Rattle.replay.proofs.perform.shown_of.Goals as goal

pub returns-in-Judge-clause-fault : goal.returns-in-Judge-clause-fault
returns-in-Judge-clause-fault g c =
    let t = judge_task_of c.in-Judge.asked in
    rw c.in-Judge.is (tool-result (g.S.Store.holds c.args.store.now) (g.S.Store.holds c.judge.new.store) (g.S.Store.ran_short c.judge.new.store) (g.S.Store.refuses c.judge.new.store) (judge t) (IsJudgedWith t.histories t.explains) c.judge.result c.judge.ensures.files (λ fault is. is) c.judge.ensures.fault)
