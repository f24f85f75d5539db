use Rattle.node_core.proofs.PlanLaws.{processes-left}
use Rattle.node_core.proofs.node_edit.apply_table.Goals as goal

pub returns-in-OfProcess : goal.returns-in-OfProcess
returns-in-OfProcess c = rw c.in-OfProcess.is (processes-left c.args.host _ _ c.args.locks.now c.in-OfProcess.edit c.apply.ensures)
