-- Each text is that of one value at most.
use Rattle.std.specs.Prelude.{◌≡◌, ℕ, List, All, map}
use Rattle.message_text.specs.code.Reports.{HasOneValue}
use Rattle.lockscript.specs.rule.Texts.{reply_text}
use Rattle.messages.specs.rule.Entries.{EntryFields}
use Rattle.messages.specs.rule.Shapes.{IsShape, ShapeFields}
use Rattle.messages.specs.declared.version.Version.{Version}
use Rattle.journal_text.specs.declared.named_entry.NamedEntry.{NamedEntry}
use Rattle.journal_text.specs.rule.Events.{IsServedEvent, named_text}
use Rattle.journal_text.specs.rule.Journals.{journal_text}
use Rattle.journal_text.specs.rule.Lines.{IsServedLine, line_text}
use Rattle.journal_text.specs.rule.Readings.{IsFirstBad, WritesJournal, body_lines, entry_in}
use Rattle.message_text.specs.rule.Texts.{IsServedMessage, message_text}
use Rattle.journal_text.specs.rule.Served.{IsServedReply}

-- a journal each of whose lines has its numbers within their limits
pub record IsServedJournal (s : ShapeFields) (es : List EntryFields) : Type 0 where
  pub named : List NamedEntry
  pub same : es ≡ map entry_in named
  pub shape_in : IsShape s
  pub lines_in : All (IsServedLine s.version) (body_lines named)

-- two journals of one version with one text are equal, and so are two messages, events, replies or lines
pub record EachTextHasOneValue : Type 0 where
  pub messages : (version : Version) → HasOneValue (message_text version) (IsServedMessage version)
  pub events : (version : Version) → HasOneValue (named_text version) (IsServedEvent version)
  pub replies : HasOneValue reply_text IsServedReply
  pub lines : (version : Version) → HasOneValue (line_text version) (IsServedLine version)
  pub journals : (s t : ShapeFields) (es fs : List EntryFields) → IsServedJournal s es → IsServedJournal t fs → journal_text s es ≡ journal_text t fs → (s ≡ t) × (es ≡ fs)

-- the text that is printed of a journal within its limits is this journal
abbrev pub EveryJournalIsRead : Type 0
EveryJournalIsRead = (s : ShapeFields) (es : List EntryFields) → IsServedJournal s es → WritesJournal (journal_text s es) s es

-- the text is one journal at most, and then the one that is printed of it, or has one first bad line, and not both
pub record HasOneReading (text : List ℕ) : Type 0 where
  pub one_journal : (s t : ShapeFields) (es fs : List EntryFields) → WritesJournal text s es → WritesJournal text t fs → (s ≡ t) × (es ≡ fs)
  pub one_bad_line : (m n : ℕ) → IsFirstBad text m → IsFirstBad text n → m ≡ n
  pub not_both : (s : ShapeFields) (es : List EntryFields) (n : ℕ) → WritesJournal text s es → IsFirstBad text n → ⊥
  pub as_printed : (s : ShapeFields) (es : List EntryFields) → WritesJournal text s es → text ≡ journal_text s es

abbrev pub EveryTextHasOneReading : Type 0
EveryTextHasOneReading = (text : List ℕ) → HasOneReading text
