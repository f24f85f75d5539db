use Rattle.command_line.proofs.CommandLine.{refusal_is}
use Rattle.command_line.proofs.command_line.CommandLine.read.Goals as goal

pub returns-in-Err-clause-refused : goal.returns-in-Err-clause-refused
returns-in-Err-clause-refused g c = refusal_is _ _ c.of.result c.in-Err.ensures.kind c.of.ensures
