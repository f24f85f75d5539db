use Rattle.progress.proofs.Rounds.{all_others_can_be_answered}
use Rattle.progress.proofs.laws.all_others_can_be_answered.Goals as goal

pub returns : goal.returns
returns c = all_others_can_be_answered
