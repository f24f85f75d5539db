use Rattle.progress.proofs.Rounds.{every_order}
use Rattle.progress.proofs.laws.every_order_makes_a_round.Goals as goal

pub returns : goal.returns
returns c = every_order
