-- The lines of journals behind the first one.
use Rattle.std.specs.Prelude.{ℕ, ◌≤◌, List, ◌++◌, codes, decimal}
use Rattle.model.specs.rule.Limits.{IsCall, IsNumber}
use Rattle.messages.specs.declared.version.Version.{Version}
use Rattle.texts.specs.rule.Reads.{pair_text}
use Rattle.message_text.specs.rule.Texts.{call_text, IsServedMessage, message_text}
use Rattle.lockscript.specs.rule.Texts.{reply_text}
use Rattle.journal_text.specs.declared.lines.JournalLine.{JournalLine}
use Rattle.journal_text.specs.declared.lines.JournalLine.TheVariants.{Entry, Answer, Send, End}
use Rattle.journal_text.specs.rule.Events.{IsServedEvent, named_text}
use Rattle.journal_text.specs.rule.Served.{IsServedReply}

-- the position of an entry is in range
abbrev pub IsPosition : ℕ → Type 0
IsPosition = IsNumber 4294967295

-- the number of entries is in range
abbrev pub IsCount : ℕ → Type 0
IsCount count = count ≤ 4294967295

abbrev pub line_text : Version → JournalLine → List ℕ
line_text version (Entry position event) = codes "entry " ++ pair_text decimal (named_text version) (position, event)
line_text version (Answer call reply) = codes "reply " ++ pair_text call_text reply_text (call, reply)
line_text version (Send message) = codes "send " ++ message_text version message
line_text version (End count) = codes "end " ++ decimal count

-- the numbers of the line are within their limits
abbrev pub IsServedLine : Version → JournalLine → Type 0
IsServedLine version (Entry position event) = IsPosition position × IsServedEvent version event
IsServedLine version (Answer call reply) = IsCall call × IsServedReply reply
IsServedLine version (Send message) = IsServedMessage version message
IsServedLine version (End count) = IsCount count
