-- A script as far as it was played, as the code stores it, and what that stands for.
use Rattle.std.specs.Prelude.{ℕ, Option, option_map}
use Rattle.player.specs.code.Rounds.{PlayerParts, progress}
use Rattle.seat_text.specs.rule.Talks.{Saying}
use Rattle.line_play.specs.rule.Answers.{Says, Stage}

pub record PlayedParts : Type 0 where
  pub lines : ℕ
  pub player : Option PlayerParts

abbrev pub stage_of : PlayedParts → Stage
stage_of p = record { lines = p.lines; run = option_map progress p.player }

abbrev pub SaysAt : Saying PlayedParts
SaysAt a line said b = Says (stage_of a) line said (stage_of b)
