-- The step of the cluster at an event.
use Rattle.std.specs.Prelude.{ℕ, ◌+◌, Bool, true, false, not, ◌&&◌, ◌==◌, nat_le, nat_lt, if◌then◌else◌, [], ◌++◌, Result, Ok, Err}
use Rattle.messages.specs.declared.refusal.StepError.{StepError}
use Rattle.messages.specs.declared.refusal.Refused.{Refused}
use Rattle.messages.specs.declared.refusal.Refused.TheVariants.{Stranger, JournalFull, NotAlive, NotDead, TooManyRestarts, Fenced}
use Rattle.messages.specs.rule.Shapes.{ShapeFields, may_rebuild}
use Rattle.messages.specs.rule.Entries.{refused_by}
use Rattle.messages.specs.declared.message.Message.{Message}
use Rattle.messages.specs.declared.event.Event.{Event}
use Rattle.messages.specs.declared.event.Event.TheVariants.{AtNode, AtServer, Deliver, Member}
use Rattle.messages.specs.declared.event.NodeInput.{NodeInput}
use Rattle.messages.specs.declared.event.NodeInput.TheVariants.{Call, Interrupt, Retry}
use Rattle.messages.specs.declared.event.ServerInput.{ServerInput}
use Rattle.messages.specs.declared.event.ServerInput.TheVariants.{Resend, Learn}
use Rattle.messages.specs.declared.event.MemberEvent.{MemberEvent}
use Rattle.messages.specs.declared.event.MemberEvent.TheVariants.{Declare, Restart, FailServer, StartServer}
use Rattle.messages.specs.declared.outcome.Outcome.{Outcome}
use Rattle.messages.specs.declared.entry.Entry.{Entry}
use Rattle.messages.specs.declared.actor.Actor.{Actor}
use Rattle.messages.specs.declared.actor.Actor.TheVariants.{Node as ANode, Server as AServer}
use Rattle.messages.specs.rule.Messages.{addressee, is_among, sending}
use Rattle.node_core.specs.declared.event.NodeEvent.TheVariants as node
use Rattle.node_core.specs.rule.State.{NodeState, first_node}
use Rattle.node_core.specs.rule.Calls.{is_pid, is_in_shape}
use Rattle.node_core.specs.rule.Node.{node_rule}
use Rattle.token_server.specs.declared.event.ServerEvent.TheVariants as server
use Rattle.token_server.specs.rule.State.{ServerState, rebuilt}
use Rattle.token_server.specs.rule.Resends.{outstanding}
use Rattle.token_server.specs.rule.Server.{server_rule}
use Rattle.cluster_core.specs.rule.World.{WorldState, journal_limit, most_incarnations, has_node, has_file, was_declared}

-- the actor is one of the shape
abbrev pub has_actor : WorldState → Actor → Bool
has_actor w (ANode n) = has_node w n
has_actor w (AServer file) = has_file w file

-- what comes to a node names processes and files of the shape
abbrev pub fits_shape : ShapeFields → NodeInput → Bool
fits_shape shape (Call pid op) = is_pid pid && is_in_shape shape op
fits_shape shape (Interrupt pid) = is_pid pid
fits_shape shape (Retry pid) = is_pid pid

-- what comes to a token server tells, if anything, of an incarnation that was declared failed
abbrev pub is_true : WorldState → ServerInput → Bool
is_true w Resend = true
is_true w (Learn n incarnation) = has_node w n && was_declared w n incarnation

-- the event is of a node of the shape, or of a server of the shape that may fail in its version
abbrev pub has_member : WorldState → MemberEvent → Bool
has_member w (Declare n) = has_node w n
has_member w (Restart n) = has_node w n
has_member w (FailServer file) = may_rebuild w.shape.version && has_file w file
has_member w (StartServer file) = may_rebuild w.shape.version && has_file w file

-- the event names nodes, processes, files of the shape, a message sent to one of its actors, a declared incarnation, or a server that may fail in its version
abbrev pub is_known : WorldState → Event → Bool
is_known w (AtNode n input) = has_node w n && fits_shape w.shape input
is_known w (AtServer file input) = has_file w file && is_true w input
is_known w (Deliver m) = has_actor w (addressee m) && is_among w.sent m
is_known w (Member event) = has_member w event

-- the actor is a node or a token server that was declared failed and is not started again
abbrev pub is_stopped : WorldState → Actor → Bool
is_stopped w (ANode n) = not (w.alive n)
is_stopped w (AServer file) = not (w.working file)

-- the event would be a step of an actor that was declared failed
abbrev pub is_fenced : WorldState → Event → Bool
is_fenced w (AtNode n input) = is_stopped w (ANode n)
is_fenced w (AtServer file input) = is_stopped w (AServer file)
is_fenced w (Deliver m) = is_stopped w (addressee m)
is_fenced w (Member event) = false

-- the incarnation that the entry of a node's event names, 0 for none: an interrupt and a retry name the live one
abbrev pub named_incarnation : NodeState → Event → ℕ
named_incarnation s (AtNode n (Interrupt pid)) = s.incarnation
named_incarnation s (AtNode n (Retry pid)) = s.incarnation
named_incarnation s _ = 0

abbrev pub entry : Event → ℕ → Outcome → Entry
entry event incarnation o = record { event = event; incarnation = incarnation; call = o.call; reply = o.reply; sends = o.sends }

-- the world with one more entry, and that entry, which sends these messages
abbrev pub recorded : WorldState → Event → ℕ → Outcome → WorldState × Entry
recorded w event incarnation o = (record w { sent = w.sent ++ o.sends; length = w.length + 1 }, entry event incarnation o)

abbrev pub with_node : WorldState → ℕ → NodeState → WorldState
with_node w n state = record w { nodes = λ m. if m == n then state else w.nodes m }

abbrev pub with_server : WorldState → ℕ → ServerState → WorldState
with_server w file state = record w { servers = λ f. if f == file then state else w.servers f }

abbrev pub after_node : WorldState → Event → ℕ → Result (NodeState × Outcome) StepError → Result (WorldState × Entry) Refused
after_node w event n (Ok done) = Ok (recorded (with_node w n done.0) event (named_incarnation (w.nodes n) event) done.1)
after_node w event n (Err e) = Err (refused_by e)

abbrev pub after_server : WorldState → Event → ℕ → Result (ServerState × Outcome) StepError → Result (WorldState × Entry) Refused
after_server w event file (Ok done) = Ok (recorded (with_server w file done.0) event 0 done.1)
after_server w event file (Err e) = Err (refused_by e)

abbrev pub delivered : WorldState → Message → Actor → Result (WorldState × Entry) Refused
delivered w m (ANode n) = after_node w (Deliver m) n (node_rule (w.nodes n) (node.Deliver m))
delivered w m (AServer file) = after_server w (Deliver m) file (server_rule (w.servers file) (server.Deliver m))

-- the node is in its next incarnation, empty, and is not alive until it restarts
abbrev pub declared : WorldState → ℕ → WorldState
declared w n = record (with_node w n (first_node w.shape n ((w.nodes n).incarnation + 1))) { alive = λ m. if m == n then false else w.alive m }

-- the node is alive again
abbrev pub restarted : WorldState → ℕ → WorldState
restarted w n = record w { alive = λ m. if m == n then true else w.alive m }

-- the world with one more entry, and that entry, which sends nothing
abbrev pub silent : WorldState → Event → ℕ → WorldState × Entry
silent w event incarnation = recorded w event incarnation (sending [])

-- Declare: a node that is alive is declared failed
abbrev pub declare_rule : WorldState → ℕ → Result (WorldState × Entry) Refused
declare_rule w n = if w.alive n then Ok (silent (declared w n) (Member (Declare n)) (w.nodes n).incarnation) else Err NotAlive

-- Restart: a node that was declared failed begins again, unless no incarnation is left
abbrev pub restart_rule : WorldState → ℕ → Result (WorldState × Entry) Refused
restart_rule w n =
    if w.alive n then Err NotDead
    else (if nat_le (w.nodes n).incarnation most_incarnations then Ok (silent (restarted w n) (Member (Restart n)) (w.nodes n).incarnation) else Err TooManyRestarts)

-- the token server takes no step from here on
abbrev pub failed : WorldState → ℕ → WorldState
failed w file = record w { working = λ f. if f == file then false else w.working f }

-- the token server as it begins again, in the next epoch, from the nodes that are alive
abbrev pub next_server : WorldState → ℕ → ServerState
next_server w file = rebuilt w.shape file ((w.servers file).epoch + 1) w.alive (λ n. (w.nodes n).incarnation)

abbrev pub started : WorldState → ℕ → WorldState
started w file = record (with_server w file (next_server w file)) { working = λ f. if f == file then true else w.working f }

-- FailServer: a token server that works is declared failed
abbrev pub fail_rule : WorldState → ℕ → Result (WorldState × Entry) Refused
fail_rule w file = if w.working file then Ok (silent (failed w file) (Member (FailServer file)) (w.servers file).epoch) else Err NotAlive

-- StartServer: a token server that was declared failed is rebuilt, and asks the live nodes for their tokens, unless no epoch is left
abbrev pub start_rule : WorldState → ℕ → Result (WorldState × Entry) Refused
start_rule w file =
    if w.working file then Err NotDead
    else (if nat_lt (w.servers file).epoch most_incarnations
    then Ok (recorded (started w file) (Member (StartServer file)) ((w.servers file).epoch + 1) (sending (outstanding (next_server w file))))
    else Err TooManyRestarts)

-- a node or a token server is declared failed, or started again
abbrev pub member_rule : WorldState → MemberEvent → Result (WorldState × Entry) Refused
member_rule w (Declare n) = declare_rule w n
member_rule w (Restart n) = restart_rule w n
member_rule w (FailServer file) = fail_rule w file
member_rule w (StartServer file) = start_rule w file

-- the one actor that takes the event makes its step, or a member changes; all others stay
abbrev pub taken : WorldState → Event → Result (WorldState × Entry) Refused
taken w (AtNode n input) = after_node w (AtNode n input) n (node_rule (w.nodes n) (node.Input input))
taken w (AtServer file input) = after_server w (AtServer file input) file (server_rule (w.servers file) (server.Input input))
taken w (Deliver m) = delivered w m (addressee m)
taken w (Member event) = member_rule w event

-- the world after the event and the entry that it makes, or the first refusal: `Stranger`, then `Fenced`, and then that of the actor's step
abbrev pub next : WorldState → Event → Result (WorldState × Entry) Refused
next w event =
    if not (is_known w event) then Err Stranger
    else (if is_fenced w event then Err Fenced
    else taken w event)

-- the step of a cluster that keeps a journal, which refuses each event once the journal is full
abbrev pub kept_next : WorldState → Event → Result (WorldState × Entry) Refused
kept_next w event = if nat_le journal_limit w.length then Err JournalFull else next w event
