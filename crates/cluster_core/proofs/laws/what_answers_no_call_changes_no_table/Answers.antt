use Rattle.cluster_core.proofs.rounds.Quiet.{rests-without-answers}
use Rattle.cluster_core.proofs.laws.what_answers_no_call_changes_no_table.Goals as goal

pub returns : goal.returns
returns c = rests-without-answers
