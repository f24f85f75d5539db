-- Playing the lines that are read.
use Rattle.std.specs.Prelude.{ℕ, List, Option, Some}
use Rattle.seat_text.specs.rule.Talks.{Turned}
use Rattle.seat_text.specs.declared.talk.TalkEnd.{TalkEnd}
use Rattle.seat_text.specs.declared.talk.TalkEnd.TheVariants.{NoMemory}
use Rattle.line_play.specs.declared.answering.PlayEnd.{PlayEnd}
use Rattle.line_play.specs.declared.answering.PlayEnd.TheVariants.{Line, Talk}
use Rattle.line_play.specs.rule.Answers.{Says, Stage, first_stage}

-- how the talk ended: a line that stops it is not answered, as where there is no memory
abbrev pub talk_end : PlayEnd → TalkEnd
talk_end (Talk end) = end
talk_end (Line stop) = NoMemory

-- there was a talk with who answers the lines of a script, from its first line on
pub record PlaysLines (end : PlayEnd) (unread left out_before out : Option (List ℕ)) : Type 0 where
  pub reached : Stage
  pub log_before : Option (List ℕ)
  pub log : Option (List ℕ)
  pub talks : Turned Says (Some (talk_end end)) first_stage reached unread left log_before log out_before out
