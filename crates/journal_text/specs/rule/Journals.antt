-- Journals as texts.
use Rattle.std.specs.Prelude.{ℕ, ◌+◌, List, [], ◌∷◌, ◌++◌, codes, decimal, flat_map, length, Option, Some, None}
use Rattle.model.specs.declared.call.CallId.{CallId}
use Rattle.model.specs.declared.reply.Reply.{Reply}
use Rattle.messages.specs.declared.message.Message.{Message}
use Rattle.messages.specs.rule.Entries.{EntryFields}
use Rattle.messages.specs.rule.Shapes.{ShapeFields}
use Rattle.messages.specs.declared.version.Version.{Version}
use Rattle.messages.specs.declared.version.Version.TheVariants.{First, Second}
use Rattle.lockscript.specs.rule.Scripts.{counts_text}
use Rattle.message_text.specs.rule.Texts.{call_text, message_text}
use Rattle.lockscript.specs.rule.Texts.{reply_text}
use Rattle.journal_text.specs.rule.Texts.{event_text}

-- the line of the answer, if there is one
abbrev pub reply_line : Option (CallId × Reply) → List ℕ
reply_line None = []
reply_line (Some answer) = codes "reply " ++ call_text answer.0 ++ codes " " ++ reply_text answer.1 ++ codes "\n"

abbrev pub send_line : Version → Message → List ℕ
send_line version message = codes "send " ++ message_text version message ++ codes "\n"

-- the lines of an entry at this position: its event, its answer, and the messages that it sends
abbrev pub entry_text : Version → ℕ → EntryFields → List ℕ
entry_text version position e =
    codes "entry " ++ decimal position ++ codes " " ++ event_text version e.event e.incarnation e.call ++ codes "\n"
    ++ reply_line e.reply
    ++ flat_map (send_line version) e.sends

-- the lines of the entries, the first one at this position
abbrev pub entries_text : Version → ℕ → List EntryFields → List ℕ
entries_text version position [] = []
entries_text version position (e ∷ es) = entry_text version position e ++ entries_text version (position + 1) es

-- the text with which the first line of a journal of this version begins
abbrev pub head_front : Version → List ℕ
head_front First = codes "journal 1 nodes "
head_front Second = codes "journal 2 nodes "

-- the first line of a journal of this shape
abbrev pub head_text : ShapeFields → List ℕ
head_text s = head_front s.version ++ counts_text s

-- the last line of a journal of that many entries
abbrev pub end_text : ℕ → List ℕ
end_text count = codes "end " ++ decimal count

-- a journal as a text, in the version of its shape
abbrev pub journal_text : ShapeFields → List EntryFields → List ℕ
journal_text s entries = head_text s ++ codes "\n" ++ entries_text s.version 1 entries ++ end_text (length entries) ++ codes "\n"
