-- The entries that lines of a journal build.
use Rattle.std.specs.Prelude.{List, [], ◌∷◌, ◌++◌, Option, Some, None, ⊤}
use Rattle.messages.specs.rule.Entries.{EntryFields, NamesItsIncarnation}
use Rattle.model.specs.declared.call.CallId.{CallId}
use Rattle.model.specs.declared.reply.Reply.{Reply}
use Rattle.messages.specs.declared.message.Message.{Message}
use Rattle.journal_text.specs.declared.lines.JournalLine.{JournalLine}
use Rattle.journal_text.specs.declared.lines.JournalLine.TheVariants.{Entry, Answer, Send, End}
use Rattle.journal_text.specs.declared.named_entry.NamedEntry.{NamedEntry}
use Rattle.journal_text.specs.declared.named_event.NamedEvent.{NamedEvent}
use Rattle.journal_text.specs.rule.Events.{event_of, incarnation_of}
use Rattle.journal_text.specs.rule.Readings.{entry_in}

-- the complete entries, and the open one, which may have more lines
pub record BuilderFields : Type 0 where
  pub entries : List EntryFields
  pub last : Option NamedEntry

abbrev pub fields : List EntryFields → Option NamedEntry → BuilderFields
fields entries last = record { entries = entries; last = last }

-- the event of the open entry names an incarnation if and only if its kind does
abbrev pub IsOpen : Option NamedEntry → Type 0
IsOpen None = ⊤
IsOpen (Some e) = NamesItsIncarnation (event_of e.event) (incarnation_of e.event)

-- the entry of an event, without an answer and messages so far
abbrev pub begun : NamedEvent → NamedEntry
begun event = record { event = event; reply = None; sends = [] }

abbrev pub answered : CallId × Reply → Option NamedEntry → Option NamedEntry
answered answer None = None
answered answer (Some e) = Some (record { event = e.event; reply = Some answer; sends = e.sends })

abbrev pub sending : Message → Option NamedEntry → Option NamedEntry
sending message None = None
sending message (Some e) = Some (record { event = e.event; reply = e.reply; sends = e.sends ++ message ∷ [] })

-- the complete entries, after the open one is completed
abbrev pub closed : List EntryFields → Option NamedEntry → List EntryFields
closed entries None = entries
closed entries (Some e) = entries ++ entry_in e ∷ []

-- the entries after one more line
abbrev pub built : BuilderFields → JournalLine → BuilderFields
built b (Entry position event) = fields (closed b.entries b.last) (Some (begun event))
built b (Answer call reply) = fields b.entries (answered (call, reply) b.last)
built b (Send message) = fields b.entries (sending message b.last)
built b (End count) = fields (closed b.entries b.last) None
