use Rattle.command_line.specs.rule.Tasks.{task_of}
use Rattle.replay.proofs.LeftFiles.{done-files, fault-files}
use Rattle.replay.proofs.perform.perform.Goals as goal

pub returns-in-Err-clause-files : goal.returns-in-Err-clause-files
returns-in-Err-clause-files g c =
    let holds = g.S.Store.holds in
    fault-files (holds c.args.store.now) (holds c.done.new.store) (g.S.Store.ran_short c.done.new.store) (g.S.Store.refuses c.done.new.store) (task_of c.args.line.now) c.in-Err.fault c.in-Err.ensures.fault.0

pub returns-in-Ok-clause-files : goal.returns-in-Ok-clause-files
returns-in-Ok-clause-files g c =
    let holds = g.S.Store.holds in
    done-files (holds c.args.store.now) (holds c.done.new.store) (task_of c.args.line.now) c.in-Ok.shown c.in-Ok.ensures.done
