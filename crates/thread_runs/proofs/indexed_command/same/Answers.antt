use Rattle.std.proofs.lemmas.Slice.Eq.{slice_eq-Decides}
use Rattle.thread_runs.proofs.SameCommands.{asked_eq-Decides}
use Rattle.thread_runs.proofs.indexed_command.same.Goals as goal

pub returns : goal.returns
returns c = slice_eq-Decides asked_eq-Decides _ _ _ c.eq.ensures
