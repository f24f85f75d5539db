-- The state of one actor, and the fields of seats, prepared steps, stamps and receipts.
use Rattle.std.specs.Prelude.{◌≡◌, ℕ, Bool, ◌&&◌, Option, Some, None, Result, Ok, Err}
use Rattle.messages.specs.declared.actor.Actor.{Actor}
use Rattle.messages.specs.declared.actor.Actor.TheVariants.{Node as ANode, Server as AServer}
use Rattle.messages.specs.declared.event.Event.{Event}
use Rattle.messages.specs.declared.entry.Entry.{Entry}
use Rattle.messages.specs.declared.outcome.Outcome.{Outcome}
use Rattle.messages.specs.declared.refusal.StepError.{StepError}
use Rattle.node_core.specs.rule.State.{NodeState}
use Rattle.token_server.specs.rule.State.{ServerState}
use Rattle.cluster_core.specs.rule.World.{WorldState, has_node, has_file, was_declared, has_failed}
use Rattle.cluster_core.specs.rule.Actors.{HasNode, HasServer, node_step, server_step, made_by_node, made_by_server}
use Rattle.node_core.specs.rule.Parts.{node_state}
use Rattle.token_server.specs.rule.Parts.{server_state}
use Rattle.book.specs.declared.state.State.{State}
use Rattle.book.specs.declared.state.State.TheVariants.{OfNode, OfServer}
use Rattle.model.specs.declared.call.CallId.{CallId}
use Rattle.model.specs.declared.op.Op.{Op}
use Rattle.model.specs.declared.reply.Reply.{Reply}
use Rattle.book.specs.declared.state_edit.StateEdit.{StateEdit}

-- the state of the node with that number, or of the token server of that file
pub data ActorState : Type 0 where
  NodeIs : ℕ → NodeState → ActorState
  ServerIs : ℕ → ServerState → ActorState

abbrev pub actor_of : ActorState → Actor
actor_of (NodeIs n s) = ANode n
actor_of (ServerIs f s) = AServer f

-- the incarnation of the node, or the epoch of the token server
abbrev pub incarnation_of : ActorState → ℕ
incarnation_of (NodeIs n s) = s.incarnation
incarnation_of (ServerIs f s) = s.epoch

-- the event leads from one state to another, with this outcome
abbrev pub StepsTo : ActorState → Event → ActorState → Outcome → Type 0
StepsTo (NodeIs n s) event (NodeIs m t) o = (m ≡ n) × (node_step n s event ≡ Ok (t, o))
StepsTo (ServerIs f s) event (ServerIs g t) o = (g ≡ f) × (server_step f s event ≡ Ok (t, o))
StepsTo _ event _ o = ⊥

-- the event leads on from the state
abbrev pub MayTake : ActorState → Event → Type 0
MayTake s event = (t : ActorState) × (o : Outcome) × StepsTo s event t o

-- the actor refuses the event with this error
abbrev pub Rejects : ActorState → Event → StepError → Type 0
Rejects (NodeIs n s) event e = node_step n s event ≡ Err e
Rejects (ServerIs f s) event e = server_step f s event ≡ Err e

-- the new state that a step makes, or the old one where it is refused
abbrev pub left_by : {S : Type 0} → S → Result (S × Outcome) StepError → S
left_by s (Ok done) = done.0
left_by s (Err e) = s

-- the state once the event is taken, if there is one
abbrev pub once_taken : ActorState → Option Event → ActorState
once_taken s None = s
once_taken (NodeIs n s) (Some event) = NodeIs n (left_by s (node_step n s event))
once_taken (ServerIs f s) (Some event) = ServerIs f (left_by s (server_step f s event))

-- the actor is alive in the world, and in this state
abbrev pub HasState : WorldState → ActorState → Type 0
HasState w (NodeIs n s) = HasNode w n s
HasState w (ServerIs f s) = HasServer w f s

-- the incarnation of the node, or the epoch of the token server, was declared failed in the world
abbrev pub is_declared : WorldState → ActorState → Bool
is_declared w (NodeIs n s) = has_node w n && was_declared w n s.incarnation
is_declared w (ServerIs f s) = has_file w f && has_failed w f s.epoch

-- the world and the entry that the event makes, where the actor makes this state and outcome of it
abbrev pub made_by : WorldState → Event → ActorState → Outcome → WorldState × Entry
made_by w event (NodeIs n s) o = made_by_node w event n s o
made_by w event (ServerIs f s) o = made_by_server w event f s o

-- the state of which this is a copy
abbrev pub state_of : State → ActorState
state_of (OfNode n s) = NodeIs n (node_state s.value)
state_of (OfServer f s) = ServerIs f (server_state s.value)

-- where a seat stands: a copy of its actor's state, and the event that was taken since and that the copy has still to take, if there is one
pub record StandingFields : Type 0 where
  pub copy : State
  pub behind : Option Event

-- the state in which the actor is
abbrev pub standing_state : StandingFields → ActorState
standing_state x = once_taken (state_of x.copy) x.behind

-- a seat: where it stands, and the number of commits made from it
pub record SeatFields : Type 0 where
  pub standing : StandingFields
  pub commits : ℕ

-- the state of the seat's actor
abbrev pub seat_state : SeatFields → ActorState
seat_state s = standing_state s.standing

-- the copy has taken all that was committed
abbrev pub IsLevel : SeatFields → Type 0
IsLevel s = s.standing.behind ≡ None

-- the same seat, however far behind its copy is
abbrev pub IsSameSeat : SeatFields → SeatFields → Type 0
IsSameSeat s t = (seat_state t ≡ seat_state s) × (t.commits ≡ s.commits)

-- a prepared step: its actor, the seat's number of commits, its event, its change, and its outcome
pub record PreparedFields : Type 0 where
  pub actor : Actor
  pub incarnation : ℕ
  pub commits : ℕ
  pub event : Event
  pub edit : StateEdit
  pub outcome : Outcome

-- a stamp: the position of an entry, from 1; its event and outcome; the position up to which its actor had seen the journal
pub record StampFields : Type 0 where
  pub position : ℕ
  pub event : Event
  pub outcome : Outcome
  pub seen : ℕ

-- a receipt: a call with its process and its reply, and the positions of both
pub record ReceiptFields : Type 0 where
  pub call : CallId
  pub pid : ℕ
  pub op : Op
  pub reply : Reply
  pub seen : ℕ
  pub call_at : ℕ
  pub reply_at : ℕ
