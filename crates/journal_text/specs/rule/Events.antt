-- Events with the names that their entries give them.
use Rattle.std.specs.Prelude.{◌≡◌, ℕ, true, List, Option, Some, None}
use Rattle.model.specs.declared.call.CallId.{CallId}
use Rattle.model.specs.rule.Limits.{IsCall, IsNumber, most_processes}
use Rattle.messages.specs.rule.Shapes.{IsEpoch, may_rebuild}
use Rattle.messages.specs.declared.version.Version.{Version}
use Rattle.messages.specs.declared.event.Event.{Event}
use Rattle.messages.specs.declared.event.Event.TheVariants.{AtNode, AtServer, Member}
use Rattle.messages.specs.declared.event.Event.TheVariants as event
use Rattle.messages.specs.declared.event.NodeInput.TheVariants as input
use Rattle.messages.specs.declared.event.ServerInput.TheVariants as order
use Rattle.messages.specs.declared.event.MemberEvent.TheVariants as change
use Rattle.lockscript.specs.rule.Served.{IsServedOp}
use Rattle.journal_text.specs.declared.named_event.NamedEvent.{NamedEvent}
use Rattle.journal_text.specs.declared.named_event.NamedEvent.TheVariants.{Call, Deliver, Interrupt, Retry, Resend, Declare, Restart, Learn, FailServer, StartServer}
use Rattle.message_text.specs.rule.Texts.{IsFile, IsHolder, IsServedMessage}
use Rattle.journal_text.specs.rule.Texts.{event_text}

abbrev pub event_of : NamedEvent → Event
event_of (Call call pid op) = AtNode call.node (input.Call pid op)
event_of (Deliver message) = event.Deliver message
event_of (Interrupt host pid) = AtNode host.node (input.Interrupt pid)
event_of (Retry host pid) = AtNode host.node (input.Retry pid)
event_of (Resend file) = AtServer file order.Resend
event_of (Declare host) = Member (change.Declare host.node)
event_of (Restart host) = Member (change.Restart host.node)
event_of (Learn file host) = AtServer file (order.Learn host.node host.incarnation)
event_of (FailServer file epoch) = Member (change.FailServer file)
event_of (StartServer file epoch) = Member (change.StartServer file)

-- the incarnation, or the epoch of a server, that an entry of the event names; 0 for none
abbrev pub incarnation_of : NamedEvent → ℕ
incarnation_of (Interrupt host pid) = host.incarnation
incarnation_of (Retry host pid) = host.incarnation
incarnation_of (Declare host) = host.incarnation
incarnation_of (Restart host) = host.incarnation
incarnation_of (FailServer file epoch) = epoch
incarnation_of (StartServer file epoch) = epoch
incarnation_of _ = 0

-- the call that an entry of the event names, if it names one
abbrev pub call_of : NamedEvent → Option CallId
call_of (Call call pid op) = Some call
call_of _ = None

abbrev pub named_text : Version → NamedEvent → List ℕ
named_text version e = event_text version (event_of e) (incarnation_of e) (call_of e)

-- the numbers of the event are within their limits; servers fail and are rebuilt only in a version in which they may
abbrev pub IsServedEvent : Version → NamedEvent → Type 0
IsServedEvent version (Call call pid op) = IsCall call × IsNumber most_processes pid × IsServedOp op
IsServedEvent version (Deliver message) = IsServedMessage version message
IsServedEvent version (Interrupt host pid) = IsHolder host × IsNumber most_processes pid
IsServedEvent version (Retry host pid) = IsHolder host × IsNumber most_processes pid
IsServedEvent version (Resend file) = IsFile file
IsServedEvent version (Declare host) = IsHolder host
IsServedEvent version (Restart host) = IsHolder host
IsServedEvent version (Learn file host) = IsFile file × IsHolder host
IsServedEvent version (FailServer file epoch) = (may_rebuild version ≡ true) × IsFile file × IsEpoch epoch
IsServedEvent version (StartServer file epoch) = (may_rebuild version ≡ true) × IsFile file × IsEpoch epoch
