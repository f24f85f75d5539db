-- Having the seat of an actor.
use Rattle.std.specs.Prelude.{◌≡◌, ◌⊎◌, ℕ, List, Option, Some, Bool, true, false, if◌then◌else◌, ◌++◌}
use Rattle.std.specs.Io.KnownBytes.{Appends}
use Rattle.seat_text.specs.rule.Talks.{Saying, TellsPart, Turned}
use Rattle.seat_text.specs.declared.talk.TalkEnd.{TalkEnd}
use Rattle.seat_text.specs.declared.talk.TalkEnd.TheVariants.{CannotWrite}
use Rattle.messages.specs.declared.actor.Actor.{Actor}
use Rattle.messages.specs.declared.actor.Actor.TheVariants.{Node, Server}
use Rattle.messages.specs.rule.Shapes.{ShapeFields}
use Rattle.model.specs.rule.Limits.{IsNumber}
use Rattle.seats.specs.rule.NodeSeats.{NodeSeatState, first_node_seat, later_node_seat, node_seat_rule}
use Rattle.seats.specs.rule.Parts.{NodeSeatParts, ServerSeatParts, node_seat, server_seat}
use Rattle.seats.specs.rule.ServerSeats.{ServerSeatState, first_server_seat, later_server_seat, server_seat_rule}
use Rattle.seats.specs.rule.Steps.{Does}
use Rattle.seat_text.specs.rule.Blocks.{first_block, no_entries}
use Rattle.seat_text.specs.rule.Speaking.{Doing, Says, Speaking}
use Rattle.seat_commands.specs.declared.lines.ActorLine.{ActorLine}
use Rattle.seat_commands.specs.rule.Clocks.{IsInterval, SaysTimed, Timing, at_line}

-- the text stands in the log and was written out, and then there was a talk
pub record TalksBehind {A : Type 0} (says : Saying A) (text : List ℕ) (end : TalkEnd) (a z : A) (unread left log_before log out_before out : Option (List ℕ)) : Type 0 where
  pub log_begun : Option (List ℕ)
  pub out_begun : Option (List ℕ)
  pub logged : Appends log_before log_begun text
  pub wrote : Appends out_before out_begun text
  pub talk : Turned says (Some end) a z unread left log_begun log out_begun out

-- the text was not written whole: a beginning of it stands in the log, and a beginning of that was written out; nothing was read
pub record BreaksOffAtOnce {A : Type 0} (text : List ℕ) (end : TalkEnd) (a z : A) (unread left log_before log out_before out : Option (List ℕ)) : Type 0 where
  pub failed : end ≡ CannotWrite
  pub same : z ≡ a
  pub unheard : left ≡ unread
  pub tells : TellsPart log_before log out_before out text

abbrev pub Holds : {A : Type 0} → Saying A → List ℕ → TalkEnd → A → A → (unread left log_before log out_before out : Option (List ℕ)) → Type 0
Holds says text end a z unread left log_before log out_before out =
    TalksBehind says text end a z unread left log_before log out_before out ⊎ BreaksOffAtOnce text end a z unread left log_before log out_before out

-- the actor is one of the cluster
abbrev pub IsIn : ShapeFields → Actor → Type 0
IsIn shape (Node n) = IsNumber shape.nodes n
IsIn shape (Server file) = IsNumber shape.files file

-- who has the seat, and has written nothing
abbrev pub speaking : {S : Type 0} → S → Speaking S
speaking seat = record { seat = seat; ledger = no_entries }

-- who has the seat, behind a reading of the clock
abbrev pub timing : {S : Type 0} → S → ℕ → Timing (Speaking S)
timing seat last = record { who = speaking seat; last = last }

-- there is a talk with who has the seat, which begins with this text; with two readings of a clock first in each block, if a clock is to be read
abbrev pub SeatTalks : {S : Type 0} → Doing S → Bool → List ℕ → S → TalkEnd → (unread left log_before log out_before out : Option (List ℕ)) → Type 0
SeatTalks {S} does false text seat end unread left log_before log out_before out =
    (z : Speaking S) × Holds (Says does) text end (speaking seat) z unread left log_before log out_before out
SeatTalks {S} does true text seat end unread left log_before log out_before out =
    (began : ℕ) × (ended : ℕ) × (z : Timing (Speaking S)) × IsInterval 0 began ended
    × Holds (SaysTimed (Says does)) (at_line began ended ++ text) end (timing seat ended) z unread left log_before log out_before out

-- by its rule a node's seat does this as it is told
abbrev pub node_does : Doing NodeSeatParts
node_does a order done b = Does node_seat_rule (node_seat a) order done (node_seat b)

-- by its rule a token server's seat does this as it is told
abbrev pub server_does : Doing ServerSeatParts
server_does a order done b = Does server_seat_rule (server_seat a) order done (server_seat b)

-- the seat of a node that works at once, or only once it begins again, behind so many beginnings of seats before
abbrev pub node_begun : Bool → ℕ → ShapeFields → ℕ → NodeSeatState
node_begun again left shape n = if again then later_node_seat shape n left else first_node_seat shape n

-- the same of a token server
abbrev pub server_begun : Bool → ℕ → ShapeFields → ℕ → ServerSeatState
server_begun again left shape file = if again then later_server_seat shape file left else first_server_seat shape file

-- the first block of the seat
abbrev pub begin_of : ActorLine → List ℕ
begin_of line = first_block line.shape line.actor line.again

-- there is a talk with who has the seat of the actor
abbrev pub TalksFor : ActorLine → Actor → TalkEnd → (unread left log_before log out_before out : Option (List ℕ)) → Type 0
TalksFor line (Node n) end unread left log_before log out_before out =
    (seat : NodeSeatParts) × (node_seat seat ≡ node_begun line.again line.left line.shape n) × SeatTalks node_does line.clock (begin_of line) seat end unread left log_before log out_before out
TalksFor line (Server file) end unread left log_before log out_before out =
    (seat : ServerSeatParts) × (server_seat seat ≡ server_begun line.again line.left line.shape file) × SeatTalks server_does line.clock (begin_of line) seat end unread left log_before log out_before out
