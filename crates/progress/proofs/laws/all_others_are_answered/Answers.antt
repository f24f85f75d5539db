use Rattle.progress.proofs.Rounds.{all_others_are_answered}
use Rattle.progress.proofs.laws.all_others_are_answered.Goals as goal

pub returns : goal.returns
returns c = all_others_are_answered
