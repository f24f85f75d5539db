-- Talks with who answers the lines of a script.
use Rattle.std.proofs.Common.{◌≡◌, ℕ, List, [], ◌∷◌, Option, Some, ap, inl, inr, subst}
use Rattle.seat_text.specs.rule.Talks.{Answers, BreaksOff, IsSaid, Talks, TalksToTheEnd, Turned}
use Rattle.seat_text.specs.declared.talk.TalkEnd.{TalkEnd}
use Rattle.seat_text.specs.declared.talk.TalkEnd.TheVariants.{AtEnd, CannotRead, CannotWrite, NoMemory}
use Rattle.line_play.specs.code.Parts.{PlayedParts, SaysAt, stage_of}
use Rattle.line_play.specs.declared.answering.PlayEnd.{PlayEnd}
use Rattle.line_play.specs.rule.Answers.{Says, Stage, first_stage}
use Rattle.line_play.specs.rule.Playing.{PlaysLines, talk_end}

-- what the code answers, and what stages stand for
answers_at : (lines : List (List ℕ)) (a z : PlayedParts) (said : List ℕ) → Answers SaysAt a lines said z → Answers Says (stage_of a) lines said (stage_of z)
answers_at [] a z said h = (h.0, ap stage_of h.1)
answers_at (line ∷ lines) a z said h = (h.0, h.1, stage_of h.2, h.3, answers_at lines h.2 z h.1 h.4, h.5)

talks_at : (a z : PlayedParts) (unread left log_before log out_before out : Option (List ℕ))
    → Talks SaysAt a z unread left log_before log out_before out → Talks Says (stage_of a) (stage_of z) unread left log_before log out_before out
talks_at a z unread left log_before log out_before out t = record {
  lines = t.lines;
  said = t.said;
  read = t.read;
  single = t.single;
  answers = answers_at t.lines a z t.said t.answers;
  logged = t.logged;
  wrote = t.wrote;
}

said_at : (a : PlayedParts) (bytes said : List ℕ) → IsSaid SaysAt a bytes said → IsSaid Says (stage_of a) bytes said
said_at a bytes said (inl none) = inl none
said_at a bytes said (inr (line, z, is, says)) = inr (line, stage_of z, is, says)

breaks_at : (a : PlayedParts) (unread left log_before log out_before out : Option (List ℕ))
    → BreaksOff SaysAt a unread left log_before log out_before out → BreaksOff Says (stage_of a) unread left log_before log out_before out
breaks_at a unread left log_before log out_before out t = record {
  between = t.between;
  log_between = t.log_between;
  out_between = t.out_between;
  now = stage_of t.now;
  talks = talks_at a t.now unread t.between log_before t.log_between out_before t.out_between t.talks;
  last = t.last;
  read = t.read;
  single = t.single;
  said = t.said;
  says_it = said_at t.now t.last t.said t.says_it;
  tells = t.tells;
}

ends_at : (a z : PlayedParts) (unread left log_before log out_before out : Option (List ℕ))
    → TalksToTheEnd SaysAt a z unread left log_before log out_before out → TalksToTheEnd Says (stage_of a) (stage_of z) unread left log_before log out_before out
ends_at a z unread left log_before log out_before out t = record {
  between = t.between;
  talks = talks_at a z unread t.between log_before log out_before out t.talks;
  rest = t.rest;
  read = t.read;
  unfinished = t.unfinished;
  ended = t.ended;
}

turned_at : (end : TalkEnd) (a z : PlayedParts) (unread left log_before log out_before out : Option (List ℕ))
    → Turned SaysAt (Some end) a z unread left log_before log out_before out → Turned Says (Some end) (stage_of a) (stage_of z) unread left log_before log out_before out
turned_at AtEnd a z unread left log_before log out_before out t = ends_at a z unread left log_before log out_before out t
turned_at CannotRead a z unread left log_before log out_before out t = breaks_at a unread left log_before log out_before out t
turned_at CannotWrite a z unread left log_before log out_before out t = breaks_at a unread left log_before log out_before out t
turned_at NoMemory a z unread left log_before log out_before out t = breaks_at a unread left log_before log out_before out t

-- a talk that begins before any line, and ended so
pub plays_lines : (talked : TalkEnd) (end : PlayEnd) (a z : PlayedParts) (unread left log_before log out_before out : Option (List ℕ))
    → stage_of a ≡ first_stage → talked ≡ talk_end end → Turned SaysAt (Some talked) a z unread left log_before log out_before out → PlaysLines end unread left out_before out
plays_lines talked end a z unread left log_before log out_before out first ends talk = record {
  reached = stage_of z;
  log_before = log_before;
  log = log;
  talks =
      subst (λ (e : TalkEnd). Turned Says (Some e) first_stage (stage_of z) unread left log_before log out_before out) ends
      (subst (λ (s : Stage). Turned Says (Some talked) s (stage_of z) unread left log_before log out_before out) first
      (turned_at talked a z unread left log_before log out_before out talk));
}
