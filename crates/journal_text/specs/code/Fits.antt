-- What the types of an entry's parts guarantee.
use Rattle.std.specs.Prelude.{ℕ, ◌≤◌, All, FitsSigned, IfSome, ⊤}
use Rattle.std.specs.Int.{w64}
use Rattle.model.specs.declared.call.CallId.{CallId}
use Rattle.model.specs.declared.op.Op.{Op}
use Rattle.model.specs.declared.op.Op.TheVariants.{Process, Close, Lock, Unlock}
use Rattle.model.specs.declared.op.ProcessCall.TheVariants.{Dup}
use Rattle.model.specs.declared.reply.Reply.{Reply}
use Rattle.model.specs.rule.Limits.{IsCall}
use Rattle.messages.specs.rule.Entries.{EntryFields, NamesItsCall, NamesItsIncarnation}
use Rattle.messages.specs.declared.event.Event.{Event}
use Rattle.messages.specs.declared.event.Event.TheVariants.{AtNode, AtServer, Deliver}
use Rattle.messages.specs.declared.event.NodeInput.TheVariants.{Call}
use Rattle.messages.specs.declared.event.ServerInput.TheVariants.{Learn}
use Rattle.messages.specs.declared.message.Message.{Message}
use Rattle.messages.specs.declared.version.Version.TheVariants.{Second}
use Rattle.lockscript.specs.rule.Served.{IsDescriptor}
use Rattle.message_text.specs.rule.Texts.{IsServedMessage}
use Rattle.journal_text.specs.rule.Served.{IsServedReply}

-- the numbers of an operation fit their types: 8 bits for a descriptor, 64 bits for a start and a length
abbrev pub FitsOp : Op → Type 0
FitsOp (Process (Dup fd)) = IsDescriptor fd
FitsOp (Close fd) = IsDescriptor fd
FitsOp (Lock call) = IsDescriptor call.fd × FitsSigned w64 call.start × FitsSigned w64 call.len
FitsOp (Unlock fd kind start len) = IsDescriptor fd × FitsSigned w64 start × FitsSigned w64 len
FitsOp _ = ⊤

-- an incarnation fits its type, of 16 bits
abbrev pub FitsIncarnation : ℕ → Type 0
FitsIncarnation incarnation = incarnation ≤ 65535

-- a message has a text in version 2
abbrev pub FitsMessage : Message → Type 0
FitsMessage = IsServedMessage Second

abbrev pub FitsEvent : Event → Type 0
FitsEvent (AtNode node (Call pid op)) = FitsOp op
FitsEvent (AtServer file (Learn node incarnation)) = FitsIncarnation incarnation
FitsEvent (Deliver message) = FitsMessage message
FitsEvent _ = ⊤

-- the name of a call and the reply to it are within their limits
abbrev pub IsServedAnswer : CallId × Reply → Type 0
IsServedAnswer answer = IsCall answer.0 × IsServedReply answer.1

-- an entry fits its types, and all its numbers are within their limits but those of nodes, processes and files in its event
pub record FitsEntry (e : EntryFields) : Type 0 where
  pub event_in : FitsEvent e.event
  pub incarnation_in : FitsIncarnation e.incarnation
  pub incarnation_named : NamesItsIncarnation e.event e.incarnation
  pub call_in : IfSome e.call IsCall
  pub call_named : NamesItsCall e.event e.call
  pub reply_in : IfSome e.reply IsServedAnswer
  pub sends_in : All FitsMessage e.sends
