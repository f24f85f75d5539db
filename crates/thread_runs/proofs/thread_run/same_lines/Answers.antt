use Rattle.std.proofs.lemmas.Slice.Eq.{slice_eq-Decides}
use Rattle.thread_runs.proofs.SameCommands.{line_eq-Decides}
use Rattle.thread_runs.proofs.thread_run.same_lines.Goals as goal

pub returns : goal.returns
returns c = slice_eq-Decides line_eq-Decides _ _ _ c.eq.ensures
