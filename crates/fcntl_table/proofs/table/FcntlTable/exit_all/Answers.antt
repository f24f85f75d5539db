use Rattle.std.proofs.Common.{◌∙◌, arith}
use Rattle.model.proofs.FailLaws.{exited_before-first, exited_before-more, exited_before-whole}
use Rattle.fcntl_table.proofs.table.FcntlTable.exit_all.Goals as goal

pub loop-pid-init : goal.loop-pid-init
loop-pid-init c = exited_before-first _ _ _

pub loop-pid-preserved : goal.loop-pid-preserved
loop-pid-preserved c = c.exit_if.ensures ∙ exited_before-more _ _ _ _ _ c.loop-pid.auto.pid c.loop-pid.invariant

pub returns : goal.returns
returns c = exited_before-whole _ _ _ _ _ c.loop-pid.invariant (omega arith)
