use Rattle.progress.proofs.Chains.{rounds_answer}
use Rattle.progress.proofs.laws.rounds_answer_all_others.Goals as goal

pub returns : goal.returns
returns c = rounds_answer
