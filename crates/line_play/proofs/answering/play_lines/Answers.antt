use Rattle.std.proofs.Common.{None, ap, refl, sym}
use Rattle.line_play.specs.code.Parts.{PlayedParts}
use Rattle.line_play.specs.declared.answering.PlayEnd.TheVariants.{Line}
use Rattle.line_play.specs.rule.Playing.{talk_end}
use Rattle.line_play.proofs.Talks.{plays_lines}
use Rattle.line_play.proofs.answering.play_lines.Goals.{in_default, in_default-2}
use Rattle.line_play.proofs.answering.play_lines.Goals as goal

-- before any line
abbrev begun : PlayedParts
begun = record { lines = 0; player = None }

pub returns-in-NoMemory-Some : goal.returns-in-NoMemory-Some
returns-in-NoMemory-Some g c = plays_lines c.talk-end.result (Line c.in-NoMemory-Some.stop) begun _ _ _ _ _ _ _ refl c.in-NoMemory-Some.is-0 c.talk-end.ensures

pub returns : goal.returns
returns g c = elim c.match-end.branch [
  | in_default w ↦ plays_lines c.talk-end.result c.match-end.result begun _ _ _ _ _ _ _ refl (sym (ap talk_end w.result-is)) c.talk-end.ensures
  | in_default-2 w ↦ plays_lines c.talk-end.result c.match-end.result begun _ _ _ _ _ _ _ refl (sym (ap talk_end w.result-is)) c.talk-end.ensures
]
