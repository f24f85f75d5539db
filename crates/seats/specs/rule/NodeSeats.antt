-- The seat of a node: what it does as it is told.
use Rattle.std.specs.Prelude.{ℕ, ◌-◌, ◌==◌, not, if◌then◌else◌, List, [], ◌∷◌, ◌++◌, Option, Some, None, Result, Ok, Err}
use Rattle.std.specs.List.{fold}
use Rattle.messages.specs.declared.event.Event.{Event}
use Rattle.messages.specs.declared.event.Event.TheVariants.{AtNode, Deliver, Member}
use Rattle.messages.specs.declared.event.MemberEvent.{MemberEvent}
use Rattle.messages.specs.declared.event.MemberEvent.TheVariants.{Declare, Restart, FailServer, StartServer}
use Rattle.messages.specs.declared.event.NodeInput.{NodeInput}
use Rattle.messages.specs.declared.event.NodeInput.TheVariants.{Call, Interrupt, Retry}
use Rattle.messages.specs.declared.outcome.Outcome.{Outcome}
use Rattle.messages.specs.declared.refusal.Refused.{Refused}
use Rattle.messages.specs.declared.refusal.Refused.TheVariants.{Stranger, Fenced}
use Rattle.messages.specs.declared.refusal.StepError.{StepError}
use Rattle.messages.specs.rule.Messages.{host_of, sending}
use Rattle.messages.specs.rule.Shapes.{ShapeFields}
use Rattle.messages.specs.rule.Members.{MembersState, declared_failed, first_members, restarted}
use Rattle.node_core.specs.declared.event.NodeEvent.TheVariants as own
use Rattle.node_core.specs.declared.open_call.OpenCall.{OpenCall}
use Rattle.node_core.specs.rule.Node.{node_rule}
use Rattle.node_core.specs.rule.State.{NodeState, first_node}
use Rattle.seats.specs.declared.order.Order.{Order}
use Rattle.seats.specs.declared.order.Order.TheVariants.{Happens, Tick}
use Rattle.seats.specs.declared.seat_step.SeatStep.{SeatStep}
use Rattle.seats.specs.declared.wait.Wait.{Wait}
use Rattle.seats.specs.rule.Steps.{is_made, wait_of, waited, has_begun, of_member, step_of, stepped}

-- a node, how many of its beginnings it leaves to seats before, its state while it works, how long its open calls wait, and the members as the seat was
-- told of them
pub record NodeSeatState : Type 0 where
  pub shape : ShapeFields
  pub nodes : MembersState
  pub servers : MembersState
  pub node : ℕ
  pub left : ℕ
  pub state : Option NodeState
  pub waits : List Wait

-- the seat of a node that works from the beginning on
abbrev pub first_node_seat : ShapeFields → ℕ → NodeSeatState
first_node_seat shape n =
    record { shape = shape; nodes = first_members shape.nodes; servers = first_members shape.files; node = n; left = 0; state = Some (first_node shape n 1); waits = [] }

-- the seat of a node that begins again later, behind so many beginnings of other seats: it is told of all that happened to members
abbrev pub later_node_seat : ShapeFields → ℕ → ℕ → NodeSeatState
later_node_seat shape n left = record (first_node_seat shape n) { left = left; state = None }

-- what a seat does: it is another one then, and these steps happen; or it is refused
abbrev pub Done : Type 0
Done = Result (NodeSeatState × List SeatStep) Refused

-- the incarnation that the entry of what comes to a node names, 0 for none
abbrev pub named_incarnation : NodeState → NodeInput → ℕ
named_incarnation s (Call pid op) = 0
named_incarnation s (Interrupt pid) = s.incarnation
named_incarnation s (Retry pid) = s.incarnation

-- a step of node n at the event, if that is its own; a message names no incarnation to come
abbrev pub node_takes : ℕ → MembersState → NodeState → Event → Result (NodeState × List SeatStep) Refused
node_takes n nodes s (AtNode m input) = if m == n then stepped (AtNode m input) (named_incarnation s input) (node_rule s (own.Input input)) else Err Stranger
node_takes n nodes s (Deliver m) = if has_begun nodes (host_of m) then stepped (Deliver m) 0 (node_rule s (own.Deliver m)) else Err Stranger
node_takes n nodes s _ = Err Stranger

-- a node at a tick, as far as the tick went: the waits of the calls that it went over, and the steps
abbrev pub Ticked : Type 0
Ticked = NodeState × (List Wait × List SeatStep)

-- the tick goes over a call of this process that has this wait, whose retry comes to this
abbrev pub retried_by : ℕ → ℕ → Wait → Ticked → Result (NodeState × Outcome) StepError → Ticked
retried_by n pid w t (Ok r) =
    if is_made w r.1 then (r.0, (t.1.0 ++ waited w r.1 ∷ [], t.1.1 ++ step_of (AtNode n (Retry pid)) t.0.incarnation r.1 ∷ []))
    else (t.0, (t.1.0 ++ waited w r.1 ∷ [], t.1.1))
retried_by n pid w t (Err e) = t

abbrev pub retried : ℕ → List Wait → Ticked → OpenCall → Ticked
retried n waits t c = retried_by n c.pid (wait_of waits c.number) t (node_rule t.0 (own.Input (Retry c.pid)))

-- a tick at a node goes over its open calls, in the order in which it took them
abbrev pub node_ticked : ℕ → List Wait → NodeState → Ticked
node_ticked n waits s = fold (retried n waits) (s, ([], [])) s.pending

abbrev pub with_node : NodeSeatState → Result (NodeState × List SeatStep) Refused → Done
with_node s (Ok r) = Ok (record s { state = Some r.0 }, r.1)
with_node s (Err e) = Err e

abbrev pub after_tick : NodeSeatState → Ticked → Done
after_tick s t = Ok (record s { state = Some t.0; waits = t.1.0 }, t.1.1)

-- what is asked of the node itself
abbrev pub node_told : NodeSeatState → Option NodeState → Order → Done
node_told s None order = Err Fenced
node_told s (Some state) (Happens event) = with_node s (node_takes s.node s.nodes state event)
node_told s (Some state) Tick = after_tick s (node_ticked s.node s.waits state)

abbrev pub after_declare : NodeSeatState → ℕ → Result (MembersState × ℕ) Refused → Done
after_declare s n (Ok r) = Ok ((if n == s.node then record s { nodes = r.0; state = None; waits = [] } else record s { nodes = r.0 }), of_member (Declare n) r.1 (sending []) ∷ [])
after_declare s n (Err e) = Err e

-- the node began in this incarnation: it is the seat's own, or that of a seat before, or another one
abbrev pub begun_at : NodeSeatState → ℕ → MembersState → ℕ → NodeSeatState
begun_at s n nodes incarnation =
    if not (n == s.node) then record s { nodes = nodes }
    else if s.left == 0 then record s { nodes = nodes; state = Some (first_node s.shape n incarnation) }
    else record s { nodes = nodes; left = s.left - 1 }

abbrev pub after_restart : NodeSeatState → ℕ → Result (MembersState × ℕ) Refused → Done
after_restart s n (Ok r) = Ok (begun_at s n r.0 r.1, of_member (Restart n) r.1 (sending []) ∷ [])
after_restart s n (Err e) = Err e

abbrev pub with_servers : NodeSeatState → MemberEvent → Result (MembersState × ℕ) Refused → Done
with_servers s change (Ok r) = Ok (record s { servers = r.0 }, of_member change r.1 (sending []) ∷ [])
with_servers s change (Err e) = Err e

-- a member is declared failed, or begins again: the seat's own node stops, or begins empty
abbrev pub node_member_rule : NodeSeatState → MemberEvent → Done
node_member_rule s (Declare n) = after_declare s n (declared_failed s.nodes n)
node_member_rule s (Restart n) = after_restart s n (restarted s.nodes n)
node_member_rule s (FailServer file) = with_servers s (FailServer file) (declared_failed s.servers file)
node_member_rule s (StartServer file) = with_servers s (StartServer file) (restarted s.servers file)

-- the rule of a node's seat
abbrev pub node_seat_rule : NodeSeatState → Order → Done
node_seat_rule s (Happens (Member change)) = node_member_rule s change
node_seat_rule s order = node_told s s.state order
