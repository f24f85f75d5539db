use Rattle.std.proofs.lemmas.Slice.Eq.{slice_eq-Decides}
use Rattle.messages.proofs.RunEquality.{run_eq-Decides}
use Rattle.messages.proofs.token_run.TokenRuns.same.Goals as goal

pub returns : goal.returns
returns c = slice_eq-Decides run_eq-Decides c.args.self.now c.args.other.now _ c.eq.ensures
