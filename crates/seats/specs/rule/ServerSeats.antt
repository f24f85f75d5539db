-- The seat of a token server: what it does as it is told.
use Rattle.std.specs.Prelude.{ℕ, ◌-◌, ◌==◌, not, if◌then◌else◌, List, [], ◌∷◌, Option, Some, None, Result, Ok, Err}
use Rattle.messages.specs.declared.event.Event.{Event}
use Rattle.messages.specs.declared.event.Event.TheVariants.{AtServer, Deliver, Member}
use Rattle.messages.specs.declared.event.MemberEvent.{MemberEvent}
use Rattle.messages.specs.declared.event.MemberEvent.TheVariants.{Declare, Restart, FailServer, StartServer}
use Rattle.messages.specs.declared.event.ServerInput.TheVariants.{Resend, Learn}
use Rattle.messages.specs.declared.outcome.Outcome.{Outcome}
use Rattle.messages.specs.declared.refusal.Refused.{Refused}
use Rattle.messages.specs.declared.refusal.Refused.TheVariants.{Stranger, Fenced}
use Rattle.messages.specs.declared.refusal.StepError.{StepError}
use Rattle.messages.specs.rule.Messages.{host_of, sending}
use Rattle.messages.specs.rule.Entries.{refused_by}
use Rattle.messages.specs.rule.Shapes.{ShapeFields}
use Rattle.messages.specs.rule.Members.{MembersState, declared_failed, first_members, restarted}
use Rattle.token_server.specs.declared.event.ServerEvent.TheVariants as own
use Rattle.token_server.specs.rule.Resends.{outstanding}
use Rattle.token_server.specs.rule.Server.{server_rule}
use Rattle.token_server.specs.rule.State.{ServerState, first_server, rebuilt}
use Rattle.seats.specs.declared.order.Order.{Order}
use Rattle.seats.specs.declared.order.Order.TheVariants.{Happens, Tick}
use Rattle.messages.specs.declared.pace.Pace.{Pace}
use Rattle.seats.specs.declared.seat_step.SeatStep.{SeatStep}
use Rattle.messages.specs.rule.Distances.{at_rest, begun, is_due_at, noted, passed}
use Rattle.seats.specs.rule.Steps.{is_none, has_begun, of_member, step_of, stepped}

-- the token server of a file, how many of its beginnings it leaves to seats before, its state while it works, when it sends again, and the members as
-- the seat was told of them
pub record ServerSeatState : Type 0 where
  pub shape : ShapeFields
  pub nodes : MembersState
  pub servers : MembersState
  pub file : ℕ
  pub left : ℕ
  pub state : Option ServerState
  pub pace : Pace

-- the seat of a server that works from the beginning on
abbrev pub first_server_seat : ShapeFields → ℕ → ServerSeatState
first_server_seat shape file =
    record { shape = shape; nodes = first_members shape.nodes; servers = first_members shape.files; file = file; left = 0; state = Some (first_server shape file); pace = at_rest }

-- the seat of a server that begins again later, behind so many beginnings of other seats: it is told of all that happened to members
abbrev pub later_server_seat : ShapeFields → ℕ → ℕ → ServerSeatState
later_server_seat shape file left = record (first_server_seat shape file) { left = left; state = None }

-- what a seat does: it is another one then, and these steps happen; or it is refused
abbrev pub Done : Type 0
Done = Result (ServerSeatState × List SeatStep) Refused

-- a step of the server of the file at the event, if that is its own; a message names no incarnation to come. What a server learns it is not told by events
abbrev pub server_takes : ℕ → MembersState → ServerState → Event → Result (ServerState × List SeatStep) Refused
server_takes file nodes s (AtServer f Resend) = if f == file then stepped (AtServer f Resend) 0 (server_rule s (own.Input Resend)) else Err Stranger
server_takes file nodes s (Deliver m) = if has_begun nodes (host_of m) then stepped (Deliver m) 0 (server_rule s (own.Deliver m)) else Err Stranger
server_takes file nodes s _ = Err Stranger

abbrev pub with_server : ServerSeatState → Event → Result (ServerState × List SeatStep) Refused → Done
with_server s event (Ok r) = Ok (record s { state = Some r.0; pace = noted s.pace event }, r.1)
with_server s event (Err e) = Err e

-- a resend that is due comes to this: one that would send nothing is none, and the server rests
abbrev pub resent : ℕ → Pace → ServerState → Result (ServerState × Outcome) StepError → Result (ServerState × (Pace × List SeatStep)) Refused
resent file p s (Ok r) = if is_none r.1.sends then Ok (s, (at_rest, [])) else Ok (r.0, (passed p, step_of (AtServer file Resend) 0 r.1 ∷ []))
resent file p s (Err e) = Err (refused_by e)

-- a tick at the server
abbrev pub server_ticked : ℕ → Pace → ServerState → Result (ServerState × (Pace × List SeatStep)) Refused
server_ticked file p s = if is_due_at p then resent file p s (server_rule s (own.Input Resend)) else Ok (s, (passed p, []))

abbrev pub after_tick : ServerSeatState → Result (ServerState × (Pace × List SeatStep)) Refused → Done
after_tick s (Ok r) = Ok (record s { state = Some r.0; pace = r.1.0 }, r.1.1)
after_tick s (Err e) = Err e

-- what is asked of the server itself
abbrev pub server_told : ServerSeatState → Option ServerState → Order → Done
server_told s None order = Err Fenced
server_told s (Some state) (Happens event) = with_server s event (server_takes s.file s.nodes state event)
server_told s (Some state) Tick = after_tick s (server_ticked s.file s.pace state)

abbrev pub with_nodes : ServerSeatState → MemberEvent → Result (MembersState × ℕ) Refused → Done
with_nodes s change (Ok r) = Ok (record s { nodes = r.0 }, of_member change r.1 (sending []) ∷ [])
with_nodes s change (Err e) = Err e

-- what the server heard of the nodes, its state, and the steps
abbrev pub Heard : Type 0
Heard = Result (MembersState × (ServerState × List SeatStep)) Refused

-- the server learns that this incarnation of the node was declared failed, which makes this of it
abbrev pub learns : ℕ → ℕ → ℕ → MembersState → Result (ServerState × Outcome) StepError → Heard
learns file n incarnation nodes (Ok r) =
    Ok (nodes, (r.0, of_member (Declare n) incarnation (sending []) ∷ step_of (AtServer file (Learn n incarnation)) 0 r.1 ∷ []))
learns file n incarnation nodes (Err e) = Err (refused_by e)

-- a server that works hears of the failure of a node, which makes this of the nodes
abbrev pub hears_of : ℕ → ℕ → ServerState → Result (MembersState × ℕ) Refused → Heard
hears_of file n s (Ok r) = learns file n r.1 r.0 (server_rule s (own.Input (Learn n r.1)))
hears_of file n s (Err e) = Err e

abbrev pub after_hearing : ServerSeatState → ℕ → Heard → Done
after_hearing s n (Ok r) = Ok (record s { nodes = r.0; state = Some r.1.0; pace = noted s.pace (Member (Declare n)) }, r.1.1)
after_hearing s n (Err e) = Err e

abbrev pub declared_at : ServerSeatState → Option ServerState → ℕ → Done
declared_at s None n = with_nodes s (Declare n) (declared_failed s.nodes n)
declared_at s (Some state) n = after_hearing s n (hears_of s.file n state (declared_failed s.nodes n))

abbrev pub after_failure : ServerSeatState → ℕ → Result (MembersState × ℕ) Refused → Done
after_failure s f (Ok r) = Ok ((if f == s.file then record s { servers = r.0; state = None; pace = at_rest } else record s { servers = r.0 }), of_member (FailServer f) r.1 (sending []) ∷ [])
after_failure s f (Err e) = Err e

-- the servers, the own one as it begins again, and the step
abbrev pub Begun : Type 0
Begun = Result (MembersState × (ServerState × List SeatStep)) Refused

-- the server of the file is rebuilt from the nodes that are alive, where its beginning makes this of the servers
abbrev pub begins : ShapeFields → ℕ → MembersState → Result (MembersState × ℕ) Refused → Begun
begins shape f nodes (Ok r) =
    let server = rebuilt shape f r.1 nodes.alive nodes.incarnation in
    Ok (r.0, (server, of_member (StartServer f) r.1 (sending (outstanding server)) ∷ []))
begins shape f nodes (Err e) = Err e

abbrev pub after_beginning : ServerSeatState → Begun → Done
after_beginning s (Ok r) = Ok (record s { servers = r.0; state = Some r.1.0; pace = begun }, r.1.1)
after_beginning s (Err e) = Err e

-- the seat's own server begins again
abbrev pub begun_at : ServerSeatState → Done
begun_at s = after_beginning s (begins s.shape s.file s.nodes (restarted s.servers s.file))

abbrev pub with_servers : ServerSeatState → MemberEvent → Result (MembersState × ℕ) Refused → Done
with_servers s change (Ok r) = Ok (record s { servers = r.0 }, of_member change r.1 (sending []) ∷ [])
with_servers s change (Err e) = Err e

-- the server of the file began again as another seat had it
abbrev pub left_to_others : ServerSeatState → Result (MembersState × ℕ) Refused → Done
left_to_others s (Ok r) = Ok (record s { servers = r.0; left = s.left - 1 }, of_member (StartServer s.file) r.1 (sending []) ∷ [])
left_to_others s (Err e) = Err e

abbrev pub started_at : ServerSeatState → ℕ → Done
started_at s f =
    if not (f == s.file) then with_servers s (StartServer f) (restarted s.servers f)
    else if s.left == 0 then begun_at s
    else left_to_others s (restarted s.servers f)

-- a member is declared failed, or begins again: a server that works learns of a node; the seat's own server stops, or is rebuilt
abbrev pub server_member_rule : ServerSeatState → MemberEvent → Done
server_member_rule s (Declare n) = declared_at s s.state n
server_member_rule s (Restart n) = with_nodes s (Restart n) (restarted s.nodes n)
server_member_rule s (FailServer file) = after_failure s file (declared_failed s.servers file)
server_member_rule s (StartServer file) = started_at s file

-- the rule of a token server's seat
abbrev pub server_seat_rule : ServerSeatState → Order → Done
server_seat_rule s (Happens (Member change)) = server_member_rule s change
server_seat_rule s order = server_told s s.state order
