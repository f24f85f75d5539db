-- Where a line of a journal may stand.
use Rattle.std.specs.Prelude.{◌≡◌, ℕ, ◌+◌, ◌==◌, if◌then◌else◌, List, [], Option, Some, None}
use Rattle.messages.specs.declared.version.Version.{Version}
use Rattle.texts.specs.rule.LineFeeds.{line_feeds, BeginsWithLine}
use Rattle.journal_text.specs.declared.lines.JournalLine.{JournalLine}
use Rattle.journal_text.specs.declared.lines.JournalLine.TheVariants.{Entry, Answer, Send, End}
use Rattle.journal_text.specs.declared.journal_place.Phase.{Phase}
use Rattle.journal_text.specs.declared.journal_place.Phase.TheVariants.{Empty, Begun, Sending, Ended}
use Rattle.journal_text.specs.declared.journal_place.JournalPlace.{JournalPlace}
use Rattle.journal_text.specs.rule.Lines.{IsServedLine, line_text}

abbrev pub place : ℕ → Phase → JournalPlace
place count phase = record { count = count; phase = phase }

-- the place behind the first line
abbrev pub start : JournalPlace
start = place 0 Empty

-- the place behind an entry's first line, which has to have the next position
abbrev pub after_entry : ℕ → Phase → ℕ → Option JournalPlace
after_entry count Ended position = None
after_entry count phase position = if position == count + 1 then Some (place position Begun) else None

-- the place behind a reply, which has to stand behind an entry's first line
abbrev pub after_answer : ℕ → Phase → Option JournalPlace
after_answer count Begun = Some (place count Sending)
after_answer count phase = None

-- the place behind a message, which has to stand in an entry
abbrev pub after_send : ℕ → Phase → Option JournalPlace
after_send count Begun = Some (place count Sending)
after_send count Sending = Some (place count Sending)
after_send count phase = None

-- the place behind the last line, which has to have the number of entries
abbrev pub after_end : ℕ → Phase → ℕ → Option JournalPlace
after_end count Ended told = None
after_end count phase told = if told == count then Some (place count Ended) else None

-- the place behind a line, if it may stand behind that many entries at this phase
abbrev pub next_place : ℕ → Phase → JournalLine → Option JournalPlace
next_place count phase (Entry position event) = after_entry count phase position
next_place count phase (Answer call reply) = after_answer count phase
next_place count phase (Send message) = after_send count phase
next_place count phase (End told) = after_end count phase told

-- the bytes are the text of no line that may stand here
abbrev pub IsMisplaced : Version → JournalPlace → List ℕ → Type 0
IsMisplaced version p bytes = (j : JournalLine) → IsServedLine version j → bytes ≡ line_text version j → next_place p.count p.phase j ≡ None

-- no whole line comes next and the journal isn't complete, or the line that comes next may not stand here
pub data IsStuck (version : Version) (p : JournalPlace) (rest : List ℕ) : Type 0 where
  no_line : line_feeds rest ≡ 0 → (rest ≡ [] → p.phase ≡ Ended → ⊥) → IsStuck version p rest
  misplaced : (line after : List ℕ) → BeginsWithLine rest line after → IsMisplaced version p line → IsStuck version p rest

-- the rest begins with line j, which may stand here
pub record StandsNext (version : Version) (p : JournalPlace) (rest : List ℕ) (j : JournalLine) (q : JournalPlace) (after : List ℕ) : Type 0 where
  pub begins : BeginsWithLine rest (line_text version j) after
  pub served : IsServedLine version j
  pub next : next_place p.count p.phase j ≡ Some q
