-- The numbers of the commands of token servers.
use Rattle.std.specs.Prelude.{◌≡◌, ℕ, Bool, true, false, List}
use Rattle.messages.specs.rule.Shapes.{ShapeFields, IsShape}
use Rattle.messages.specs.rule.Messages.{file_of, host_of, is_among}
use Rattle.messages.specs.declared.message.Message.{Message}
use Rattle.messages.specs.declared.message.Message.TheVariants.{Grant, Revoke}
use Rattle.messages.specs.declared.entry.Entry.{Entry}
use Rattle.cluster_core.specs.rule.World.{WorldState, first_world}
use Rattle.cluster_core.specs.rule.Runs.{Leads}

-- the message is a Grant or a Revoke
abbrev pub is_command : Message → Bool
is_command (Grant file number call mode span) = true
is_command (Revoke file number holder call mode wanted) = true
is_command _ = false

-- the number of a Grant or a Revoke, from 1; 0 of another message
abbrev pub number_of : Message → ℕ
number_of (Grant file number call mode span) = number
number_of (Revoke file number holder call mode wanted) = number
number_of _ = 0

-- no two commands about one file to one incarnation of a node have one number
abbrev pub NumbersTellCommands : WorldState → Type 0
NumbersTellCommands w = (m other : Message) → is_among w.sent m ≡ true → is_among w.sent other ≡ true → is_command m ≡ true → is_command other ≡ true → file_of m ≡ file_of other → host_of m ≡ host_of other → number_of m ≡ number_of other → m ≡ other

-- in each world that the entries lead to, no two commands about one file to one incarnation of a node have one number
abbrev pub LeadsToNumbers : ShapeFields → List Entry → Type 0
LeadsToNumbers shape es = (w : WorldState) → Leads (first_world shape) es w → NumbersTellCommands w

-- after every run no two commands about one file to one incarnation of a node have one number
abbrev pub NoNumberIsUsedTwice : Type 0
NoNumberIsUsedTwice = (shape : ShapeFields) (es : List Entry) → IsShape shape → LeadsToNumbers shape es
