-- What a text says of a journal: that it is one, or which line is the first bad one.
use Rattle.std.specs.Prelude.{◌≡◌, ℕ, ◌+◌, List, [], ◌∷◌, ◌++◌, All, length, map, Option, Some, None}
use Rattle.model.specs.declared.call.CallId.{CallId}
use Rattle.model.specs.declared.reply.Reply.{Reply}
use Rattle.messages.specs.rule.Entries.{EntryFields}
use Rattle.messages.specs.rule.Shapes.{IsShape, ShapeFields}
use Rattle.messages.specs.declared.version.Version.TheVariants.{First}
use Rattle.texts.specs.rule.FirstBadLine.{IsFirstBadOf, Passes}
use Rattle.texts.specs.rule.LineFeeds.{BeginsWithLine}
use Rattle.lockscript.specs.declared.error.ParseError.{ParseError}
use Rattle.lockscript.specs.declared.error.ParseError.TheVariants.{NoMemory, BadLine}
use Rattle.journal_text.specs.declared.named_entry.NamedEntry.{NamedEntry}
use Rattle.journal_text.specs.declared.lines.JournalLine.{JournalLine}
use Rattle.journal_text.specs.declared.lines.JournalLine.TheVariants.{Entry, Answer, Send, End}
use Rattle.journal_text.specs.rule.Events.{call_of, event_of, incarnation_of}
use Rattle.journal_text.specs.rule.Journals.{head_text}
use Rattle.journal_text.specs.rule.Lines.{IsServedLine, line_text}

-- an entry with the names in its event, as an entry of a journal
abbrev pub entry_in : NamedEntry → EntryFields
entry_in e = record { event = event_of e.event; incarnation = incarnation_of e.event; call = call_of e.event; reply = e.reply; sends = e.sends }

abbrev pub answer_lines : Option (CallId × Reply) → List JournalLine
answer_lines None = []
answer_lines (Some answer) = Answer answer.0 answer.1 ∷ []

-- the lines of an entry at this position
abbrev pub entry_lines : ℕ → NamedEntry → List JournalLine
entry_lines position e = Entry position e.event ∷ (answer_lines e.reply ++ map Send e.sends)

-- the lines of the entries, the first one at this position
abbrev pub lines_of : ℕ → List NamedEntry → List JournalLine
lines_of position [] = []
lines_of position (e ∷ es) = entry_lines position e ++ lines_of (position + 1) es

-- the lines of a journal behind the first one
abbrev pub body_lines : List NamedEntry → List JournalLine
body_lines es = lines_of 1 es ++ End (length es) ∷ []

-- the lines, without their line feeds, are those of a journal of these entries
pub record Writes (lines : List (List ℕ)) (s : ShapeFields) (es : List NamedEntry) : Type 0 where
  pub texts : lines ≡ head_text s ∷ map (line_text s.version) (body_lines es)
  pub shape_in : IsShape s
  pub lines_in : All (IsServedLine s.version) (body_lines es)

-- the text is a journal of these entries, with the names in their events
pub record IsJournalText (text : List ℕ) (s : ShapeFields) (es : List NamedEntry) : Type 0 where
  pub lines : List (List ℕ)
  pub whole : Passes text lines []
  pub writes : Writes lines s es

-- the text is a journal of these entries
pub record WritesJournal (text : List ℕ) (s : ShapeFields) (entries : List EntryFields) : Type 0 where
  pub named : List NamedEntry
  pub same : entries ≡ map entry_in named
  pub written : IsJournalText text s named

-- the text is a journal of that many entries
abbrev pub HasLength : List ℕ → ShapeFields → ℕ → Type 0
HasLength text s count = (entries : List EntryFields) × WritesJournal text s entries × (count ≡ length entries)

-- the first line of the text is that of a journal of this shape
abbrev pub BeginsAs : List ℕ → ShapeFields → Type 0
BeginsAs text shape = (rest : List ℕ) × BeginsWithLine text (head_text shape) rest × IsShape shape

-- the first line of the text is that of a journal of version 1
pub record IsOld (text : List ℕ) : Type 0 where
  pub shape : ShapeFields
  pub rest : List ℕ
  pub begins : BeginsWithLine text (head_text shape) rest
  pub shape_in : IsShape shape
  pub is_first : shape.version ≡ First

-- the text is some journal
abbrev pub HasJournal : List ℕ → Type 0
HasJournal text = (s : ShapeFields) × ((es : List NamedEntry) × IsJournalText text s es)

-- the lines are those of some journal
abbrev pub AreJournal : List (List ℕ) → Type 0
AreJournal lines = (s : ShapeFields) × ((es : List NamedEntry) × Writes lines s es)

-- the line of this number is the first bad one
abbrev pub IsFirstBad : List ℕ → ℕ → Type 0
IsFirstBad = IsFirstBadOf AreJournal

-- the error has the number of the first bad line
abbrev pub IsBadLine : List ℕ → ParseError → Type 0
IsBadLine text NoMemory = ⊥
IsBadLine text (BadLine number) = IsFirstBad text number

-- the text is no journal for this reason, or it is one for which there was no memory
abbrev pub IsRefused : List ℕ → ParseError → Type 0
IsRefused text NoMemory = HasJournal text
IsRefused text (BadLine number) = IsFirstBad text number
