-- The step of one actor at an event of the cluster, and the run that goes on by it.
use Rattle.std.specs.Prelude.{◌≡◌, ℕ, ◌==◌, if◌then◌else◌, true, [], ◌∷◌, ◌++◌, Option, Some, None, Result, Ok, Err}
use Rattle.messages.specs.declared.refusal.StepError.{StepError}
use Rattle.messages.specs.declared.refusal.StepError.TheVariants.{Stranger}
use Rattle.messages.specs.declared.event.Event.{Event}
use Rattle.messages.specs.declared.event.Event.TheVariants.{AtNode, AtServer, Deliver}
use Rattle.messages.specs.declared.event.MemberEvent.{MemberEvent}
use Rattle.messages.specs.declared.event.MemberEvent.TheVariants.{Declare, Restart, FailServer, StartServer}
use Rattle.messages.specs.declared.actor.Actor.{Actor}
use Rattle.messages.specs.declared.actor.Actor.TheVariants.{Node as ANode, Server as AServer}
use Rattle.messages.specs.declared.outcome.Outcome.{Outcome}
use Rattle.messages.specs.declared.entry.Entry.{Entry}
use Rattle.messages.specs.rule.Messages.{addressee}
use Rattle.node_core.specs.declared.event.NodeEvent.{NodeEvent}
use Rattle.node_core.specs.declared.event.NodeEvent.TheVariants as node
use Rattle.node_core.specs.rule.State.{NodeState}
use Rattle.node_core.specs.rule.Commands.{is_node}
use Rattle.node_core.specs.rule.Node.{node_rule}
use Rattle.token_server.specs.declared.event.ServerEvent.{ServerEvent}
use Rattle.token_server.specs.declared.event.ServerEvent.TheVariants as server
use Rattle.token_server.specs.rule.State.{ServerState}
use Rattle.token_server.specs.rule.Server.{server_rule, is_server}
use Rattle.cluster_core.specs.rule.World.{WorldState, has_node, has_file}
use Rattle.cluster_core.specs.rule.Next.{named_incarnation, with_node, with_server, recorded, next}
use Rattle.cluster_core.specs.rule.Parts.{world_state}
use Rattle.cluster_core.specs.rule.Journals.{RunFields}

-- the node or the token server that fails, or begins again
abbrev pub member_of : MemberEvent → Actor
member_of (Declare n) = ANode n
member_of (Restart n) = ANode n
member_of (FailServer file) = AServer file
member_of (StartServer file) = AServer file

-- the event as the node with that number takes it, or none
abbrev pub node_event : ℕ → Event → Option NodeEvent
node_event n (AtNode k input) = if k == n then Some (node.Input input) else None
node_event n (Deliver m) = if is_node n (addressee m) then Some (node.Deliver m) else None
node_event n _ = None

-- the event as the token server of the file takes it, or none
abbrev pub server_event : ℕ → Event → Option ServerEvent
server_event f (AtServer file input) = if file == f then Some (server.Input input) else None
server_event f (Deliver m) = if is_server f (addressee m) then Some (server.Deliver m) else None
server_event f _ = None

abbrev pub node_at : NodeState → Option NodeEvent → Result (NodeState × Outcome) StepError
node_at s None = Err Stranger
node_at s (Some event) = node_rule s event

abbrev pub server_at : ServerState → Option ServerEvent → Result (ServerState × Outcome) StepError
server_at s None = Err Stranger
server_at s (Some event) = server_rule s event

-- the step of the node with that number at an event; an event that it doesn't take is strange to it
abbrev pub node_step : ℕ → NodeState → Event → Result (NodeState × Outcome) StepError
node_step n s event = node_at s (node_event n event)

-- the step of the token server of the file at an event; an event that it doesn't take is strange to it
abbrev pub server_step : ℕ → ServerState → Event → Result (ServerState × Outcome) StepError
server_step f s event = server_at s (server_event f event)

-- the node with that number is alive, and in this state
pub record HasNode (w : WorldState) (n : ℕ) (s : NodeState) : Type 0 where
  pub number : has_node w n ≡ true
  pub alive : w.alive n ≡ true
  pub state : w.nodes n ≡ s

-- the token server of the file works, and is in this state
pub record HasServer (w : WorldState) (f : ℕ) (s : ServerState) : Type 0 where
  pub number : has_file w f ≡ true
  pub working : w.working f ≡ true
  pub state : w.servers f ≡ s

-- the world and the entry that a node's new state and outcome make
abbrev pub made_by_node : WorldState → Event → ℕ → NodeState → Outcome → WorldState × Entry
made_by_node w event n s o = recorded (with_node w n s) event (named_incarnation (w.nodes n) event) o

abbrev pub made_by_server : WorldState → Event → ℕ → ServerState → Outcome → WorldState × Entry
made_by_server w event f s o = recorded (with_server w f s) event 0 o

-- the run goes on by the event, which makes this world and this entry
pub record Records (r : RunFields) (event : Event) (made : WorldState × Entry) (s : RunFields) : Type 0 where
  pub step : next (world_state r.world) event ≡ Ok made
  pub world : world_state s.world ≡ made.0
  pub entries : s.entries ≡ r.entries ++ made.1 ∷ []
