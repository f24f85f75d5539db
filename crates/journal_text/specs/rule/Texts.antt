-- The texts of events.
use Rattle.std.specs.Prelude.{ℕ, List, [], ◌++◌, codes, decimal, Option, Some, None}
use Rattle.model.specs.declared.call.CallId.{CallId}
use Rattle.messages.specs.declared.event.Event.{Event}
use Rattle.messages.specs.declared.event.Event.TheVariants.{AtNode, AtServer, Deliver, Member}
use Rattle.messages.specs.declared.event.NodeInput.{NodeInput}
use Rattle.messages.specs.declared.event.NodeInput.TheVariants.{Call, Interrupt, Retry}
use Rattle.messages.specs.declared.event.ServerInput.{ServerInput}
use Rattle.messages.specs.declared.event.ServerInput.TheVariants.{Resend, Learn}
use Rattle.messages.specs.declared.event.MemberEvent.{MemberEvent}
use Rattle.messages.specs.declared.event.MemberEvent.TheVariants.{Declare, Restart, FailServer, StartServer}
use Rattle.messages.specs.declared.version.Version.{Version}
use Rattle.texts.specs.rule.Reads.{pair_text}
use Rattle.message_text.specs.rule.Texts.{call_text, host_text, server_text, message_text}
use Rattle.lockscript.specs.rule.Texts.{op_text}

-- what comes to a node, with the incarnation and the call that its entry names; a call without a name, which no entry has, has the empty text
abbrev pub node_input_text : ℕ → NodeInput → ℕ → Option CallId → List ℕ
node_input_text node (Call pid op) incarnation None = []
node_input_text node (Call pid op) incarnation (Some call) = codes "call " ++ pair_text call_text (pair_text decimal op_text) (call, (pid, op))
node_input_text node (Interrupt pid) incarnation call = codes "interrupt " ++ pair_text (host_text node) decimal (incarnation, pid)
node_input_text node (Retry pid) incarnation call = codes "retry " ++ pair_text (host_text node) decimal (incarnation, pid)

-- what comes to the token server of a file
abbrev pub server_input_text : ℕ → ServerInput → List ℕ
server_input_text file Resend = codes "resend " ++ decimal file
server_input_text file (Learn node known) = codes "learn " ++ pair_text decimal (host_text node) (file, known)

-- the change of a member, with the incarnation or the epoch that its entry names
abbrev pub member_text : MemberEvent → ℕ → List ℕ
member_text (Declare node) incarnation = codes "declare " ++ host_text node incarnation
member_text (Restart node) incarnation = codes "restart " ++ host_text node incarnation
member_text (FailServer file) epoch = codes "fail-server " ++ server_text (file, epoch)
member_text (StartServer file) epoch = codes "start-server " ++ server_text (file, epoch)

-- an event, with the incarnation and the call that its entry names
abbrev pub event_text : Version → Event → ℕ → Option CallId → List ℕ
event_text version (AtNode node input) incarnation call = node_input_text node input incarnation call
event_text version (AtServer file input) incarnation call = server_input_text file input
event_text version (Deliver message) incarnation call = codes "deliver " ++ message_text version message
event_text version (Member event) incarnation call = member_text event incarnation
