use Rattle.progress.proofs.Rounds.{round_can_be_made}
use Rattle.progress.proofs.laws.a_round_can_be_made.Goals as goal

pub returns : goal.returns
returns c = round_can_be_made
