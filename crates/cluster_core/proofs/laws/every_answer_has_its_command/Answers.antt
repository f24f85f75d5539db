use Rattle.cluster_core.proofs.rounds.Kinds.{every_answer}
use Rattle.cluster_core.proofs.laws.every_answer_has_its_command.Goals as goal

pub returns : goal.returns
returns c = every_answer
