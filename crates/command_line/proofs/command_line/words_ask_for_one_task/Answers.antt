use Rattle.command_line.proofs.CommandLine.{asks_one}
use Rattle.command_line.proofs.command_line.words_ask_for_one_task.Goals as goal

pub returns : goal.returns
returns c = asks_one
