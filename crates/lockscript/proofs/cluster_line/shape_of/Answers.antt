use Rattle.std.specs.Prelude.{codes}
use Rattle.lockscript.specs.rule.Scripts.{IsScriptShape, counts_text}
use Rattle.texts.proofs.Pairs.{reads-after_none}
use Rattle.lockscript.proofs.cluster_line.shape_of.Goals as goal

pub returns-in_err-operands : goal.returns-in_err-operands
returns-in_err-operands c = rw c.from_residual.ensures (reads-after_none (codes "cluster nodes ") counts_text IsScriptShape c.args.line.now c.in_err-operands.ensures)
