-- What a token server promises to requests, those that wait and those that are admitted from the queue.
use Rattle.std.specs.Prelude.{◌≡◌, ℕ, ◌<◌, ◌≤◌, Bool, true, if◌then◌else◌, List, length, drop, slice_index_or, Option, Some, None, option_map, is_some, ◌-◌, false, ◌&&◌, ◌||◌, ◌==◌, nat_le, ◌≢◌, ◌+◌, [], ◌∷◌, ◌++◌, Ok, ◌⊎◌, not, filter, count_by}
use Rattle.model.specs.declared.call.CallId.{CallId}
use Rattle.messages.specs.rule.Messages.{same_call, greatest_number}
use Rattle.indexmap.specs.IndexMap.{IndexMap, get, index_map_len}
use Rattle.token_server.specs.declared.token_queue.token_request.TokenRequest.{TokenRequest}
use Rattle.token_server.specs.rule.Requests.{requests_in, meets, is_of_call}
use Rattle.intervals.specs.rule.Bytes.{Range}
use Rattle.token_server.specs.declared.token_queue.active_request.ActiveRequest.{ActiveRequest}
use Rattle.token_server.specs.declared.known_nodes.known_change.KnownChange.{KnownChange}
use Rattle.token_server.specs.declared.known_nodes.known_change.KnownChange.TheVariants.{Forgotten, Asked, Answered, Relieved, Reported}
use Rattle.token_server.specs.declared.known_nodes.known_change.Changed.{Changed}
use Rattle.token_server.specs.rule.Rows.{Row, row_conflicts}
use Rattle.token_server.specs.code.Rows.{may_bar}
use Rattle.model.specs.rule.Limits.{IsNumber}
use Rattle.messages.specs.declared.message.Message.{Message}
use Rattle.messages.specs.declared.message.Message.TheVariants.{Grant, Request}
use Rattle.token_server.specs.rule.State.{ServerState, begin, awaits, requests}
use Rattle.token_server.specs.rule.Serve.{ready, with_more, each_served, serve, meets_some, admitted}
use Rattle.std.specs.List.{list_any}
use Rattle.messages.specs.declared.outcome.Outcome.{Outcome}
use Rattle.token_server.specs.declared.event.ServerEvent.{ServerEvent}
use Rattle.token_server.specs.rule.Server.{server_rule}
use Rattle.token_server.specs.declared.event.ServerEvent.TheVariants.{Deliver}

-- slots that hold a request or none, and how many more may come without asking for memory
pub record SlotParts : Type 0 where
  pub slots : List (Option TokenRequest)
  pub room : ℕ

-- the request in a slot, if it holds one
abbrev pub request_at : List (Option TokenRequest) → ℕ → Option TokenRequest
request_at slots place = slice_index_or slots place None

-- the call of the request in a slot, if it holds one
abbrev pub call_at : List (Option TokenRequest) → ℕ → Option CallId
call_at slots place = option_map (λ r. r.call) (request_at slots place)

-- empties a slot whose request passes the test
abbrev pub unless : (TokenRequest → Bool) → Option TokenRequest → Option TokenRequest
unless drops None = None
unless drops (Some r) = if drops r then None else Some r

-- the index holds for each request in a slot its call with the slot's place, and no other call
pub record ArePlaced {S : Type 0} (slots : List (Option TokenRequest)) (places : IndexMap CallId ℕ S) : Type 0 where
  pub found : (call : CallId) (place : ℕ) → call_at slots place ≡ Some call → get same_call places call ≡ Some place
  pub held : (call : CallId) (place : ℕ) → get same_call places call ≡ Some place → call_at slots place ≡ Some call
  pub counted : index_map_len places ≡ length (requests_in slots)

-- no slot before the front holds a request, and the front's slot holds one, unless the front is the end
pub record IsFront (slots : List (Option TokenRequest)) (front : ℕ) : Type 0 where
  pub within : front ≤ length slots
  pub rest : requests_in (drop front slots) ≡ requests_in slots
  pub holds : front < length slots → is_some (request_at slots front) ≡ true

-- the row is of that incarnation or an older one, which are known to be dead
abbrev pub is_dropped : ℕ → Option Row → Bool
is_dropped incarnation None = false
is_dropped incarnation (Some row) = nat_le row.incarnation incarnation

-- the change of a node's row may free bytes of the span, or block others
abbrev pub frees : KnownChange → Option Row → Range → Bool
frees (Forgotten incarnation) row s = is_dropped incarnation row
frees (Asked host begin) row s = is_dropped (host.incarnation - 1) row
frees Answered row s = false
frees (Relieved span mode) row s = meets span s
frees (Reported runs) row s = true

-- the change of a node's row may make the active request wait for another row
abbrev pub may_turn : Changed → Option Row → ActiveRequest → Bool
may_turn c row h = (may_bar c.change || (h.at == c.node)) && frees c.change row h.request.wanted.required

-- the turn of an active request: all tokens are reported, earlier ones are served, its node has that row; it needs bytes, which are among those it desires
pub record IsServed (s : ServerState) (r : TokenRequest) (row : Row) : Type 0 where
  pub told : awaits s ≡ false
  pub before : List TokenRequest
  pub after : List TokenRequest
  pub among : (ready s).active ≡ before ++ r ∷ after
  pub now : ServerState
  pub sent : List Message
  pub turn : each_served before (ready s) ≡ Ok (now, sent)
  pub row_is : now.rows r.call.node ≡ Some row
  pub ordered : r.wanted.required.lo ≤ r.wanted.required.hi
  pub starts : r.wanted.desired.lo ≤ r.wanted.required.lo
  pub ends : r.wanted.required.hi ≤ r.wanted.desired.hi

-- no other node's row conflicts with the bytes that the request needs, no command to its own node is outstanding, and a number is left
pub record IsUnhindered (s : ServerState) (r : TokenRequest) (row : Row) : Type 0 where
  pub unopposed : (n : ℕ) → IsNumber s.shape.nodes n → n ≢ r.call.node → row_conflicts (s.rows n) r.wanted.required r.mode ≡ false
  pub idle : row.outstanding ≡ None
  pub room : row.number < begin s + greatest_number

-- the server grants the request all bytes that it needs, and then serves the requests behind it
pub record IsGranted (s : ServerState) (r : TokenRequest) (row : Row) (is : IsServed s r row) : Type 0 where
  pub new : ServerState
  pub span : Range
  pub starts : span.lo ≤ r.wanted.required.lo
  pub ends : r.wanted.required.hi ≤ span.hi
  pub serves : serve s ≡ with_more (is.sent ++ Grant is.now.file (row.number + 1) r.call r.mode span ∷ []) (each_served is.after new)

-- an active request that nothing blocks when its turn comes is granted
abbrev pub GrantsWhatIsFree : Type 0
GrantsWhatIsFree = (s : ServerState) (r : TokenRequest) (row : Row) (is : IsServed s r row) → IsUnhindered is.now r row → IsGranted s r row is

-- a call that has a waiting request has a request at the server after the next step too, or its node's incarnation is known to be dead
abbrev pub KeepsWhatWaits : Type 0
KeepsWhatWaits =
    (s : ServerState) (event : ServerEvent) (new : ServerState) (out : Outcome) (call : CallId)
    → server_rule s event ≡ Ok (new, out)
    → list_any (is_of_call call) s.waiting ≡ true
    → (list_any (is_of_call call) (requests new) ≡ true) ⊎ (call.incarnation ≤ new.dead call.node)

-- all tokens are reported, the call has no request at the server, its incarnation isn't known to be dead, and no active or queued request needs its bytes
pub record MeetsNone (s : ServerState) (r : TokenRequest) : Type 0 where
  pub told : awaits s ≡ false
  pub living : s.dead r.call.node < r.call.incarnation
  pub new : list_any (is_of_call r.call) (requests s) ≡ false
  pub apart : meets_some r s.active ≡ false
  pub clear : meets_some r s.queue ≡ false

-- a request that needs no byte of an active or queued one is active after the step in which it comes, as the last
abbrev pub ServesWhatMeetsNone : Type 0
ServesWhatMeetsNone =
    (s : ServerState) (file : ℕ) (r : TokenRequest) (new : ServerState) (out : Outcome)
    → server_rule s (Deliver (Request file r.call r.blocking r.mode r.wanted)) ≡ Ok (new, out)
    → MeetsNone s r
    → (before : List TokenRequest) × (new.active ≡ before ++ r ∷ [])

-- one of these requests is of the same call
abbrev pub has_call_of : List TokenRequest → TokenRequest → Bool
has_call_of rs r = list_any (is_of_call r.call) rs

-- the requests without those of the calls of these
abbrev pub all_but : List TokenRequest → List TokenRequest → List TokenRequest
all_but fresh rs = filter (λ r. not (has_call_of fresh r)) rs

-- these requests of that part of the queue are admitted beside the active ones, and the others stay
pub record IsAdmitted (active done fresh : List TokenRequest) : Type 0 where
  pub comes : admitted active [] done ≡ (active ++ fresh, all_but fresh done)
  pub meeting : (r : TokenRequest) → (meets_some r fresh || meets_some r (all_but fresh done)) ≡ meets_some r done
  pub counted : (call : CallId) → count_by (is_of_call call) fresh + count_by (is_of_call call) (all_but fresh done) ≡ count_by (is_of_call call) done
