use Rattle.player.proofs.FileRounds.{round_about}
use Rattle.player.proofs.play.a_round_is_one_about_each_file.Goals as goal

pub returns : goal.returns
returns c = round_about
