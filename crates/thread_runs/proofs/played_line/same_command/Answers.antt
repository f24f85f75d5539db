use Rattle.std.proofs.lemmas.Bool.Decides.{Decides-at}
use Rattle.thread_runs.proofs.SameCommands.{command_eq-Decides}
use Rattle.thread_runs.proofs.played_line.same_command.Goals as goal

pub returns : goal.returns
returns c = Decides-at _ _ c.eq.ensures (command_eq-Decides _ _)
