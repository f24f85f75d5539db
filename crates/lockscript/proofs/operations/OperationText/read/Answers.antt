use Rattle.texts.proofs.FirstWords.{none-alone}
use Rattle.lockscript.proofs.OperationKinds.{begins-op}
use Rattle.lockscript.proofs.operations.OperationText.read.Goals as goal

pub returns-in_default : goal.returns-in_default
returns-in_default c = none-alone begins-op c.args.text.now c.in-None.ensures (c.in_default.not-spawn, (c.in_default.not-exit, tt))
