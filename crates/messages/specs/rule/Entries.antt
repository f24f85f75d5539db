-- The entries of the journal, and the numbers of refusals in listings.
use Rattle.std.specs.Prelude.{ℕ, ◌≡◌, ◌≤◌, List, Option, Some, None}
use Rattle.messages.specs.declared.refusal.StepError.{StepError}
use Rattle.messages.specs.declared.refusal.StepError.TheVariants as step
use Rattle.messages.specs.declared.refusal.Refused.{Refused}
use Rattle.messages.specs.declared.refusal.Refused.TheVariants.{NoMemory, Busy, Stranger, JournalFull, Spent, NotAlive, NotDead, TooManyRestarts, Fenced}
use Rattle.model.specs.declared.call.CallId.{CallId}
use Rattle.model.specs.declared.reply.Reply.{Reply}
use Rattle.model.specs.rule.Limits.{IsCall}
use Rattle.messages.specs.declared.message.Message.{Message}
use Rattle.messages.specs.declared.outcome.Outcome.{Outcome}
use Rattle.messages.specs.declared.event.Event.{Event}
use Rattle.messages.specs.declared.event.Event.TheVariants.{AtNode, Member}
use Rattle.messages.specs.declared.event.NodeInput.TheVariants.{Call, Interrupt, Retry}

-- the number of a refusal in listings
abbrev pub number_of : Refused → ℕ
number_of NoMemory = 3
number_of Busy = 13
number_of Stranger = 14
number_of JournalFull = 16
number_of Spent = 19
number_of NotAlive = 10
number_of NotDead = 11
number_of TooManyRestarts = 12
number_of Fenced = 15

-- the refusal of an event, where the step of its actor is refused
abbrev pub refused_by : StepError → Refused
refused_by step.NoMemory = NoMemory
refused_by step.Busy = Busy
refused_by step.Stranger = Stranger
refused_by step.Spent = Spent

pub record EntryFields : Type 0 where
  pub event : Event
  pub incarnation : ℕ
  pub call : Option CallId
  pub reply : Option (CallId × Reply)
  pub sends : List Message

-- a call has a name, which is of its node; any other event has none
abbrev pub NamesItsCall : Event → Option CallId → Type 0
NamesItsCall (AtNode node (Call pid op)) None = ⊥
NamesItsCall (AtNode node (Call pid op)) (Some id) = id.node ≡ node
NamesItsCall _ call = call ≡ None

-- the incarnation or epoch of an event, from 1: live (interrupt, retry), declared failed (declaration, failure) or beginning (restart, start); else 0
abbrev pub NamesItsIncarnation : Event → ℕ → Type 0
NamesItsIncarnation (AtNode node (Interrupt pid)) incarnation = 1 ≤ incarnation
NamesItsIncarnation (AtNode node (Retry pid)) incarnation = 1 ≤ incarnation
NamesItsIncarnation (Member event) incarnation = 1 ≤ incarnation
NamesItsIncarnation _ incarnation = incarnation ≡ 0

-- the entry as it is stored: one number for the incarnation of a call's name and for the one that another event names
abbrev pub kept : Event → ℕ → ℕ → Option (CallId × Reply) → List Message → EntryFields
kept (AtNode node (Call pid op)) incarnation number reply sends =
    record { event = AtNode node (Call pid op); incarnation = 0; call = Some (record { node = node; incarnation = incarnation; number = number }); reply = reply; sends = sends }
kept event incarnation number reply sends = record { event = event; incarnation = incarnation; call = None; reply = reply; sends = sends }

-- the two numbers stored with an event: incarnation and number of a call's name; else the incarnation that the event names, if any
abbrev pub IsKept : Event → ℕ → ℕ → Type 0
IsKept (AtNode node (Call pid op)) incarnation number = IsCall (record { node = node; incarnation = incarnation; number = number })
IsKept event incarnation number = NamesItsIncarnation event incarnation

-- the incarnation and the number that are stored: the ones of the call's name if there is one, else the incarnation that the event names
abbrev pub kept_name : ℕ → Option CallId → ℕ × ℕ
kept_name incarnation (Some call) = (call.incarnation, call.number)
kept_name incarnation None = (incarnation, 0)

-- the entry of an event with its outcome and the incarnation that it names, 0 for none
abbrev pub entry_of : Event → ℕ → Outcome → EntryFields
entry_of event incarnation outcome = record { event = event; incarnation = incarnation; call = outcome.call; reply = outcome.reply; sends = outcome.sends }
