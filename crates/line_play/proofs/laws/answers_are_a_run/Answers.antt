use Rattle.line_play.proofs.Transcribed.{answers_played}
use Rattle.line_play.proofs.laws.answers_are_a_run.Goals as goal

pub returns : goal.returns
returns c = answers_played
