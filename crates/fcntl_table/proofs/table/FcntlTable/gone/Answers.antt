use Rattle.std.proofs.Common.{sym}
use Rattle.model.proofs.FailLaws.{exited_to-none}
use Rattle.fcntl_table.specs.rule.Tables.{table_of}
use Rattle.fcntl_table.proofs.table.FcntlTable.gone.Goals as goal

pub returns-in_default : goal.returns-in_default
unfolding table_of
returns-in_default c = sym (exited_to-none _ _ _ 256 c.in_default.ensures)
