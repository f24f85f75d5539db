-- A token server that has no outstanding command, and how the rows of nodes go on.
use Rattle.std.specs.Prelude.{◌≡◌, ◌⊎◌, ℕ, ◌<◌, ◌≤◌, Bool, true, false, [], All, is_some, Option, Some, None, Ok}
use Rattle.std.specs.List.{list_any}
use Rattle.model.specs.declared.call.CallId.{CallId}
use Rattle.model.specs.declared.mode.Mode.{Mode}
use Rattle.model.specs.rule.Limits.{IsNumber}
use Rattle.model.specs.rule.Owners.{host_of_call}
use Rattle.messages.specs.declared.message.Message.{Message}
use Rattle.messages.specs.declared.message.Message.TheVariants.{Request, Taken, Conflict}
use Rattle.messages.specs.declared.outcome.Outcome.{Outcome}
use Rattle.messages.specs.rule.Messages.{is_within}
use Rattle.messages.specs.rule.Shapes.{ShapeFields}
use Rattle.token_server.specs.declared.token_queue.token_request.TokenRequest.{TokenRequest}
use Rattle.token_server.specs.rule.Requests.{is_of_call}
use Rattle.token_server.specs.rule.Rows.{Row, outstanding_of, is_grant, revoked_mode}
use Rattle.token_server.specs.declared.event.ServerEvent.{ServerEvent}
use Rattle.token_server.specs.declared.event.ServerEvent.TheVariants.{Input, Deliver}
use Rattle.token_server.specs.rule.State.{ServerState, awaits, requests, first_server, rebuilt}
use Rattle.token_server.specs.rule.Server.{row_of_host, server_rule}
use Rattle.token_server.specs.rule.Obstacles.{obstacle, are_apart, is_idle}
use Rattle.token_server.specs.rule.Obstacles.{all_stay}

-- the request needs some bytes, which are among the desired ones
pub record IsWanted (r : TokenRequest) : Type 0 where
  pub ordered : r.wanted.required.lo ≤ r.wanted.required.hi
  pub starts : r.wanted.desired.lo ≤ r.wanted.required.lo
  pub ends : r.wanted.required.hi ≤ r.wanted.desired.hi

-- if the event delivers a request, that needs some bytes, which are among the desired ones
abbrev pub BringsWanted : ServerEvent → Type 0
BringsWanted (Deliver (Request file call blocking mode wanted)) = IsWanted (record { call = call; blocking = blocking; mode = mode; wanted = wanted })
BringsWanted _ = Unit {0}

-- the request waits for a node to which no command may go: one is outstanding, or the node has no row
abbrev pub IsBusy : ServerState → TokenRequest → Type 0
IsBusy s r = is_idle (s.rows (obstacle s r)) ≡ false

-- what holds of each server between two steps: no two active requests need a byte in common, and once each node has reported its token, each active request is busy, and each queued one needs a byte of an active one or of one before it
pub record IsServing (s : ServerState) : Type 0 where
  pub wanted : All IsWanted (requests s)
  pub apart : are_apart s.active ≡ true
  pub busy : awaits s ≡ false → All (IsBusy s) s.active
  pub settled : awaits s ≡ false → all_stay s.active [] s.queue ≡ true

-- the request is of a node of the shape that has a row
pub record HasRow (s : ServerState) (r : TokenRequest) : Type 0 where
  pub within : is_within s.shape.nodes r.call.node ≡ true
  pub row : is_some (s.rows r.call.node) ≡ true

-- no command is outstanding to any node, so none is asked for its token either
abbrev pub IsAtRest : ServerState → Type 0
IsAtRest s = (n : ℕ) → IsNumber s.shape.nodes n → outstanding_of (s.rows n) ≡ None

-- a server is serving when it begins and when it is rebuilt, and after each step
pub record EachServerIsServing : Type 0 where
  pub first : (shape : ShapeFields) (file : ℕ) → IsServing (first_server shape file)
  pub again : (shape : ShapeFields) (file epoch : ℕ) (is_live : ℕ → Bool) (incarnation : ℕ → ℕ) → IsServing (rebuilt shape file epoch is_live incarnation)
  pub step : (s : ServerState) (event : ServerEvent) (new : ServerState) (out : Outcome) → server_rule s event ≡ Ok (new, out) → BringsWanted event → IsServing s → IsServing new

-- where no command is outstanding, no request is active and none is queued
abbrev pub RestsWithoutRequests : Type 0
RestsWithoutRequests = (s : ServerState) → IsServing s → All (HasRow s) s.active → IsAtRest s → (s.active ≡ []) × (s.queue ≡ [])

-- a row goes on as another of its incarnation: its number never falls, and a command that is outstanding then was outstanding before, under the same number, or has a greater one
pub record GoesOn (row next : Row) : Type 0 where
  pub number : row.number ≤ next.number
  pub command : (m : Message) → next.outstanding ≡ Some m → ((row.outstanding ≡ Some m) × (next.number ≡ row.number)) ⊎ (row.number < next.number)

abbrev pub RowGoesOn : Option Row → Option Row → Type 0
RowGoesOn (Some row) (Some next) = next.incarnation ≡ row.incarnation → GoesOn row next
RowGoesOn _ _ = Unit {0}

-- each row goes on in each step of a server
abbrev pub EachRowGoesOn : Type 0
EachRowGoesOn = (s : ServerState) (event : ServerEvent) (new : ServerState) (out : Outcome) (n : ℕ) → server_rule s event ≡ Ok (new, out) → RowGoesOn (s.rows n) (new.rows n)

-- the call has an active or a queued request
abbrev pub IsInLine : CallId → ServerState → Type 0
IsInLine call s = (list_any (is_of_call call) s.active ≡ true) ⊎ (list_any (is_of_call call) s.queue ≡ true)

-- the incarnation of the call's node is known to be dead
abbrev pub IsGone : CallId → ServerState → Type 0
IsGone call s = call.incarnation ≤ s.dead call.node

-- the message is an answer that ends the request of the call: its grant was taken, or a lock is in its way
abbrev pub EndsRequest : ServerState → CallId → Message → Type 0
EndsRequest s call (Taken file number own) = (own ≡ call) × (row : Row) × (row_of_host s (host_of_call own) ≡ Some row) × (is_grant number row.outstanding ≡ true)
EndsRequest s call (Conflict file number holder own lock) = (own ≡ call) × (list_any (is_of_call call) s.active ≡ true) × (row : Row) × (mode : Mode) × (row_of_host s holder ≡ Some row) × (revoked_mode number row.outstanding ≡ Some mode)
EndsRequest s call m = ⊥

abbrev pub EventEnds : ServerState → CallId → ServerEvent → Type 0
EventEnds s call (Deliver m) = EndsRequest s call m
EventEnds s call (Input input) = ⊥

-- a call that has an active or a queued request has one after the next step too, or its node's incarnation is known to be dead, or the event ends its request
abbrev pub KeepsWhatIsInLine : Type 0
KeepsWhatIsInLine =
    (s : ServerState) (event : ServerEvent) (new : ServerState) (out : Outcome) (call : CallId)
    → server_rule s event ≡ Ok (new, out)
    → IsInLine call s
    → (IsInLine call new ⊎ IsGone call new) ⊎ EventEnds s call event
