-- The answers of nodes, each to a command of its kind.
use Rattle.std.specs.Prelude.{◌≡◌, true, List}
use Rattle.intervals.specs.rule.Bytes.{Range}
use Rattle.model.specs.declared.mode.Mode.{Mode}
use Rattle.messages.specs.rule.Shapes.{ShapeFields, IsShape}
use Rattle.messages.specs.rule.TokenRuns.{Wants}
use Rattle.messages.specs.rule.Messages.{is_among}
use Rattle.messages.specs.declared.message.Message.{Message}
use Rattle.messages.specs.declared.message.Message.TheVariants.{Grant, Revoke, Taken, Released, Conflict, Hello, Report}
use Rattle.messages.specs.declared.entry.Entry.{Entry}
use Rattle.cluster_core.specs.rule.World.{WorldState, first_world}
use Rattle.cluster_core.specs.rule.Runs.{Leads}

-- the message is the answer to the command: of its kind, with its number, and its call or its holder
abbrev pub IsAnswerTo : Message → Message → Type 0
IsAnswerTo (Grant file number call mode span) (Taken f k c) = (f ≡ file) × (k ≡ number) × (c ≡ call)
IsAnswerTo (Revoke file number holder call mode wanted) (Released f k h c span) = (f ≡ file) × (k ≡ number) × (h ≡ holder) × (c ≡ call)
IsAnswerTo (Revoke file number holder call mode wanted) (Conflict f k h c lock) = (f ≡ file) × (k ≡ number) × (h ≡ holder) × (c ≡ call)
IsAnswerTo (Hello file number holder) (Report f k h runs) = (f ≡ file) × (k ≡ number) × (h ≡ holder)
IsAnswerTo _ _ = ⊥

-- if the message is an answer, its command is one of these messages: for a Taken the Grant with its number and call, for a Released or a Conflict the Revoke with its number, holder and call, for a Report the Hello with its number and holder
abbrev pub HasItsCommand : List Message → Message → Type 0
HasItsCommand sent (Taken file number call) = (mode : Mode) × (span : Range) × (is_among sent (Grant file number call mode span) ≡ true)
HasItsCommand sent (Released file number holder call span) = (mode : Mode) × (wanted : Wants) × (is_among sent (Revoke file number holder call mode wanted) ≡ true)
HasItsCommand sent (Conflict file number holder call lock) = (mode : Mode) × (wanted : Wants) × (is_among sent (Revoke file number holder call mode wanted) ≡ true)
HasItsCommand sent (Report file number holder runs) = is_among sent (Hello file number holder) ≡ true
HasItsCommand sent _ = Unit {0}

-- after every run the command of each answer that was sent was sent
abbrev pub EveryAnswerHasItsCommand : Type 0
EveryAnswerHasItsCommand = (shape : ShapeFields) (es : List Entry) (w : WorldState) (m : Message) → IsShape shape → Leads (first_world shape) es w → is_among w.sent m ≡ true → HasItsCommand w.sent m
