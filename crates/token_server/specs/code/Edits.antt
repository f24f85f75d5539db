-- The change that a planned step makes of a token server: the sketch of its event, and the turns that follow.
use Rattle.std.specs.Prelude.{◌≡◌, ℕ, ◌<◌, ◌≤◌, Bool, true, false, List, [], length, count_by, All, IfSome, not, ◌||◌, is_some, if◌then◌else◌, ◌∷◌, ◌++◌, filter, Option, Some, None, ◌+◌, ◌-◌, ◌==◌, nat_lt, max, min, map, find, ◌&&◌, Ok, Vec}
use Rattle.model.specs.declared.call.CallId.{CallId}
use Rattle.model.specs.rule.Limits.{IsNumber}
use Rattle.messages.specs.rule.Shapes.{IsEpoch}
use Rattle.token_server.specs.declared.token_queue.active_request.ActiveRequest.{ActiveRequest}
use Rattle.token_server.specs.declared.token_queue.token_request.TokenRequest.{TokenRequest}
use Rattle.token_server.specs.rule.Requests.{is_of_call, is_up_to, LineParts, AreOfDistinctCalls, meets, requests_in}
use Rattle.token_server.specs.rule.State.{ServerState, requests, begin, awaits}
use Rattle.token_server.specs.rule.Parts.{ServerParts, server_state}
use Rattle.token_server.specs.rule.Obstacles.{obstacle, are_apart, is_idle, all_stay}
use Rattle.std.specs.Option.{option_map, option_to_list}
use Rattle.messages.specs.declared.message.Message.{Message}
use Rattle.messages.specs.declared.message.Message.TheVariants.{Taken, Released, Conflict}
use Rattle.token_server.specs.rule.Actives.{requests_of, ActiveParts, waiting_for}
use Rattle.token_server.specs.declared.sketch.Moved.{Moved}
use Rattle.token_server.specs.declared.sketch.Moved.TheVariants.{Nothing, New, Again, Waiting, PutOff}
use Rattle.token_server.specs.declared.known_nodes.known_change.Changed.{Changed}
use Rattle.token_server.specs.declared.sketch.Sketch.{Sketch}
use Rattle.token_server.specs.rule.Rows.{Commands, Row}
use Rattle.token_server.specs.rule.Server.{request_of}
use Rattle.token_server.specs.rule.RowParts.{rows_of, deaths_of}
use Rattle.token_server.specs.code.Rows.{dropped_to, rows_after, deaths_after, promised, rows_overlaid, deaths_overlaid, given_of, given_rows}
use Rattle.intervals.specs.rule.Bytes.{Range}
use Rattle.token_server.specs.declared.sent_command.SentCommand.{SentCommand}
use Rattle.std.specs.Global.{Global, Box}
use Rattle.std.specs.Vec.{vec_capacity}
use Rattle.token_server.specs.declared.known_nodes.known_node.KnownNode.{KnownNode}
use Rattle.token_server.specs.declared.known_nodes.row_edit.RowEdit.{RowEdit}
use Rattle.token_server.specs.declared.known_nodes.new_row.NewRow.{NewRow}
use Rattle.token_server.specs.declared.change.ServerEdit.{ServerEdit}
use Rattle.token_server.specs.rule.Serve.{serve, meets_some, served, each_served}
use Rattle.token_server.specs.code.Admissions.{all_but, IsAdmitted}
use Rattle.token_server.specs.declared.gone.Gone.{Gone}

-- no two of the requests are of one call
abbrev pub AreDistinct : List TokenRequest → Type 0
AreDistinct rs = (call : CallId) → count_by (is_of_call call) rs ≤ 1

-- the number of each row is at least the base of the server's epoch
abbrev pub AreOfEpoch : ServerState → Type 0
AreOfEpoch s = (node : ℕ) → IfSome (s.rows node) (λ row. begin s ≤ row.number)

-- no two requests are of one call, none is of an incarnation known to be dead, and the number of each row is at least the base of the epoch
pub record IsOrderly (s : ServerState) : Type 0 where
  pub distinct : AreDistinct (requests s)
  pub living : All (λ r. s.dead r.call.node < r.call.incarnation) (requests s)
  pub counted : AreOfEpoch s

-- No two active requests need a common byte, and each waits for the row of a node with an outstanding command. While a node has not reported its token none is
-- active; after that each queued request needs a byte of an active one, or of one before it.
pub record IsReady (s : ServerState) (held : List ActiveRequest) : Type 0 where
  pub waits : All (λ h. obstacle s h.request ≡ h.at) held
  pub quiet : All (λ h. is_idle (s.rows h.at) ≡ false) held
  pub apart : are_apart s.active ≡ true
  pub resting : awaits s ≡ true → s.active ≡ []
  pub settled : awaits s ≡ false → all_stay s.active [] s.queue ≡ true
  pub orderly : IsOrderly s

-- the list has each node of the cluster, the file is one of the cluster's, and the mark says whether a node has not reported its token
pub record IsServer (p : ServerParts) (awaiting : Bool) : Type 0 where
  pub each_node : length p.known_nodes ≡ p.shape.nodes
  pub file_in : IsNumber p.shape.files p.file
  pub epoch_in : IsEpoch p.epoch
  pub awaited : awaiting ≡ awaits (server_state p)
  pub ready : IsReady (server_state p) p.active.held

-- the commands to the node of a row
abbrev pub commands_of : Row → Commands
commands_of row = record { incarnation = row.incarnation; number = row.number; outstanding = row.outstanding }

-- the node, and the incarnation up to which its requests are dropped, if any are
abbrev pub dropped : Option Changed → Option (ℕ × ℕ)
dropped None = None
dropped (Some c) = option_map (λ incarnation. (c.node, incarnation)) (dropped_to c.change)

abbrev pub without : Option (ℕ × ℕ) → List TokenRequest → List TokenRequest
without None requests = requests
without (Some d) requests = filter (λ r. not (is_up_to d.0 d.1 r)) requests

-- the active requests without that of the call that ends, if one does
abbrev pub still_active : Option CallId → List TokenRequest → List TokenRequest
still_active None active = active
still_active (Some call) active = filter (λ r. not (is_of_call call r)) active

-- the queue after the move, where those requests wait
abbrev pub queue_moved : Moved → List TokenRequest → List TokenRequest → List TokenRequest
queue_moved Nothing queue waiting = queue
queue_moved (New r) queue waiting = queue ++ r ∷ []
queue_moved (Again call r) queue waiting = queue ++ r ∷ []
queue_moved Waiting queue waiting = queue ++ waiting
queue_moved (PutOff r) queue waiting = queue

abbrev pub waiting_moved : Moved → List TokenRequest → List TokenRequest
waiting_moved Nothing waiting = waiting
waiting_moved (New r) waiting = waiting
waiting_moved (Again call r) waiting = filter (λ q. not (is_of_call call q)) waiting
waiting_moved Waiting waiting = []
waiting_moved (PutOff r) waiting = waiting ++ r ∷ []

abbrev pub moved_with : TokenRequest → Option TokenRequest → Moved
moved_with r None = New r
moved_with r (Some own) = Again r.call own

-- If the call is queued or active: nothing. If it waits: that older request goes to the end of the queue. Else this one does.
abbrev pub moved_for : TokenRequest → List TokenRequest → List TokenRequest → List TokenRequest → Moved
moved_for r active queue waiting =
    if is_some (request_of r.call active) || is_some (request_of r.call queue) then Nothing
    else moved_with r (request_of r.call waiting)

-- the state after the sketched changes
abbrev pub sketched : ServerParts → Sketch → ServerState
sketched p k = record {
  shape = p.shape;
  file = p.file;
  epoch = p.epoch;
  rows = rows_after k.changed (rows_of p.known_nodes);
  dead = deaths_after k.changed (deaths_of p.known_nodes);
  queue = queue_moved k.moved (without (dropped k.changed) p.queue.requests) (without (dropped k.changed) p.waiting.requests);
  active = still_active k.ended (without (dropped k.changed) (requests_of p.active.held));
  waiting = waiting_moved k.moved (without (dropped k.changed) p.waiting.requests);
}

-- the message is an answer to a Grant or a Revoke
abbrev pub is_answer : Message → Bool
is_answer (Taken file number call) = true
is_answer (Released file number holder call span) = true
is_answer (Conflict file number holder call lock) = true
is_answer _ = false

-- the command to the node among these, if there is one
abbrev pub told_to : List SentCommand → ℕ → Option SentCommand
told_to ts n = find (λ t. t.node == n) ts

abbrev pub row_told : Option SentCommand → Option Row → Option Row
row_told None row = row
row_told (Some t) None = None
row_told (Some t) (Some row) = Some (record { incarnation = t.commands.incarnation; token = promised t.command row.token; number = t.commands.number; outstanding = Some t.command })

-- the server after these commands are sent
abbrev pub with_told : List SentCommand → ServerState → ServerState
with_told ts s = record s { rows = λ n. row_told (told_to ts n) (s.rows n) }

-- the commands as messages, in order
abbrev pub commands_told : List SentCommand → List Message
commands_told ts = map (λ t. t.command) ts

-- `required`, widened inside `within` until it meets `other`
abbrev pub cut : Range → Range → Range → Range
cut required within other = record {
  lo = if nat_lt other.lo required.lo then max within.lo (min (other.hi + 1) required.lo) else within.lo;
  hi = if nat_lt required.hi other.hi then min within.hi (max (other.lo - 1) required.hi) else within.hi;
}

-- `required`, widened inside `within` until it meets bytes that one of these requests needs
abbrev pub cut_all : Range → Range → List TokenRequest → Range
cut_all required within [] = within
cut_all required within (q ∷ qs) = cut_all required (cut required within q.wanted.required) qs

-- the active requests without that of the call that ends, if one does
abbrev pub held_still : Option CallId → List ActiveRequest → List ActiveRequest
held_still None held = held
held_still (Some call) held = filter (λ h. not (is_of_call call h.request)) held

-- the active requests without those of the node up to the incarnation that is dropped, if one is
abbrev pub held_without : Option (ℕ × ℕ) → List ActiveRequest → List ActiveRequest
held_without None held = held
held_without (Some d) held = filter (λ h. not (is_up_to d.0 d.1 h.request)) held

-- a request is of the dropped incarnations, if any are; `keeps` is of one that is neither dropped nor of the call that ends
abbrev pub is_up_to_any : Option (ℕ × ℕ) → TokenRequest → Bool
is_up_to_any None r = false
is_up_to_any (Some d) r = is_up_to d.0 d.1 r

abbrev pub is_of_any : Option CallId → TokenRequest → Bool
is_of_any None r = false
is_of_any (Some call) r = is_of_call call r

abbrev pub keeps : Option (ℕ × ℕ) → Option CallId → TokenRequest → Bool
keeps dropped ended r = not (is_up_to_any dropped r) && not (is_of_any ended r)

-- the active requests after the change: those that stay active, each with the row that it waits for then, and those that are admitted
abbrev pub held_after : ServerEdit → List ActiveRequest → List ActiveRequest
held_after l held = held_still l.gone.ended (held_without l.gone.dropped (waiting_for l.ats.items held)) ++ l.fresh.items

-- the queue after the change
abbrev pub queue_after : ServerEdit → List TokenRequest → List TokenRequest → List TokenRequest
queue_after l queue waiting = all_but (requests_of l.fresh.items) (queue_moved l.moved (without l.gone.dropped queue) (without l.gone.dropped waiting))

-- the waiting requests after the change
abbrev pub waiting_after : ServerEdit → List TokenRequest → List TokenRequest
waiting_after l waiting = waiting_moved l.moved (without l.gone.dropped waiting)

-- the state after a row is edited, before any request moves
abbrev pub reached : ServerParts → Option RowEdit → ServerState
reached p rows = record { shape = p.shape; file = p.file; epoch = p.epoch; rows = rows_overlaid p.known_nodes rows; dead = deaths_overlaid p.known_nodes rows; queue = p.queue.requests; active = requests_of p.active.held; waiting = p.waiting.requests }

-- the requests change as the sketch says; then some are admitted, unless a node has not reported its token; each active one has the node whose row it waits for
pub record AreListed (p : ServerParts) (k : Sketch) (l : ServerEdit) : Type 0 where
  pub served : still_active l.gone.ended (without l.gone.dropped (requests_of p.active.held)) ≡ (sketched p k).active
  pub queued : queue_moved l.moved (without l.gone.dropped p.queue.requests) (without l.gone.dropped p.waiting.requests) ≡ (sketched p k).queue
  pub put_off : waiting_moved l.moved (without l.gone.dropped p.waiting.requests) ≡ (sketched p k).waiting
  pub comes : awaits (sketched p k) ≡ false → IsAdmitted (sketched p k).active (sketched p k).queue (requests_of l.fresh.items)
  pub rests : awaits (sketched p k) ≡ true → l.fresh.items ≡ []
  pub waits : All (λ h. obstacle (reached p l.rows) h.request ≡ h.at) (held_after l p.active.held)

-- the state after the draft is made
abbrev pub drafted : ServerParts → ServerEdit → ServerState
drafted p d = record {
  shape = p.shape;
  file = p.file;
  epoch = p.epoch;
  rows = rows_overlaid p.known_nodes d.rows;
  dead = deaths_overlaid p.known_nodes d.rows;
  queue = queue_after d p.queue.requests p.waiting.requests;
  active = requests_of (held_after d p.active.held);
  waiting = waiting_after d p.waiting.requests;
}

-- the draft makes the sketched changes of a server that holds what it has to between two steps
pub record IsDrafted (p : ServerParts) (k : Sketch) (d : ServerEdit) : Type 0 where
  pub before : IsReady (server_state p) p.active.held
  pub orderly : IsOrderly (sketched p k)
  pub rows : rows_overlaid p.known_nodes d.rows ≡ rows_after k.changed (rows_of p.known_nodes)
  pub deaths : deaths_overlaid p.known_nodes d.rows ≡ deaths_after k.changed (deaths_of p.known_nodes)
  pub listed : AreListed p k d
  pub awaited : d.awaits ≡ awaits (drafted p d)

abbrev pub with_given : List NewRow → List KnownNode → ServerState → ServerState
with_given gs known_nodes s = record s { rows = given_rows gs known_nodes }

-- the state after the draft and the new rows are made
abbrev pub made_of : ServerParts → ServerEdit → List NewRow → ServerState
made_of p d gs = with_given (gs ++ given_of d.rows) p.known_nodes (drafted p d)

-- serving the draft leads to the state with these new rows, and to these messages
pub record IsServed (p : ServerParts) (k : Sketch) (d : ServerEdit) (gs : List NewRow) (out : List Message) : Type 0 where
  pub comes : serve (sketched p k) ≡ Ok (made_of p d gs, out)
  pub awaited : d.awaits ≡ awaits (made_of p d gs)
  pub ready : IsReady (made_of p d gs) (held_after d p.active.held)

-- the state after these parts of a change are made
abbrev pub made : ServerParts → ServerEdit → ServerState
made p v = made_of p v v.given.items

-- the state after a planned change is made
abbrev pub planned : ServerParts → Box ServerEdit → ServerState
planned p e = made p e.value

-- the number of requests that go to the end of the queue
abbrev pub many_moved : Moved → List TokenRequest → ℕ
many_moved moved waiting = length (queue_moved moved [] waiting)

-- the number of requests that go to the end of those that wait
abbrev pub many_put_off : Moved → ℕ
many_put_off (PutOff r) = 1
many_put_off _ = 0

-- a line has room for that many more, or the spare line that comes with the change has room for all
abbrev pub HasRoom : LineParts → Option (Box LineParts) → ℕ → Type 0
HasRoom l None more = more ≤ l.room
HasRoom l (Some spare) more = (spare.value.requests ≡ []) × (length l.requests + more ≤ spare.value.room)

abbrev pub HeldHasRoom : ActiveParts → Option (Vec ActiveRequest Global) → ℕ → Type 0
HeldHasRoom a None more = more ≤ a.room
HeldHasRoom a (Some spare) more = (spare.items ≡ []) × (length a.held + more ≤ vec_capacity spare)

-- the list to which a request moves has none of its call
abbrev pub IsNewCall : Moved → List TokenRequest → List TokenRequest → Type 0
IsNewCall (New r) queue waiting = find (is_of_call r.call) queue ≡ None
IsNewCall (Again call r) queue waiting = find (is_of_call r.call) queue ≡ None
IsNewCall (PutOff r) queue waiting = find (is_of_call r.call) waiting ≡ None
IsNewCall Waiting queue waiting = AreOfDistinctCalls (queue ++ waiting)
IsNewCall Nothing queue waiting = Unit {0}

-- the parts of a change were planned from a server with these parts: there is room for it, and what holds between two steps holds after it
pub record PartsFit (p : ServerParts) (v : ServerEdit) : Type 0 where
  pub new : IsNewCall v.moved (without v.gone.dropped p.queue.requests) (without v.gone.dropped p.waiting.requests)
  pub served : HeldHasRoom p.active v.active_spare (length v.fresh.items)
  pub queued : HasRoom p.queue v.queue_spare (many_moved v.moved (without v.gone.dropped p.waiting.requests))
  pub put_off : HasRoom p.waiting v.waiting_spare (many_put_off v.moved)
  pub awaited : v.awaits ≡ awaits (made p v)
  pub ready : IsReady (made p v) (held_after v p.active.held)

-- the change was planned from a server with these parts
abbrev pub Fits : ServerParts → Box ServerEdit → Type 0
Fits p e = PartsFit p e.value

-- the active requests that stay active
abbrev pub served_on : Gone → List ActiveRequest → List TokenRequest
served_on g held = still_active g.ended (without g.dropped (requests_of held))

-- the requests in slots that are not dropped
abbrev pub left_in : Gone → List (Option TokenRequest) → List TokenRequest
left_in g slots = without g.dropped (requests_in slots)

-- each request that needs a byte of the ended one needs a byte of one of these
abbrev pub NeedsAllOf : TokenRequest → List TokenRequest → Type 0
NeedsAllOf ended rs = (r : TokenRequest) → meets r.wanted.required ended.wanted.required ≡ true → meets_some r rs ≡ true

-- the queue had settled beside the active requests, of which the ended one is the call's
pub record HasEnded (active queue : List TokenRequest) (call : CallId) (ended : TokenRequest) : Type 0 where
  pub few : count_by (is_of_call call) active ≤ 1
  pub found : find (is_of_call call) active ≡ Some ended
  pub settled : all_stay active [] queue ≡ true
  pub distinct : AreDistinct queue

-- the active requests that stay active
abbrev pub kept : ServerEdit → List ActiveRequest → List ActiveRequest
kept l held = filter (λ h. keeps l.gone.dropped l.gone.ended h.request) held

-- the active requests that stay active, each with the node whose row it waits for after the change
abbrev pub kept_of : ServerEdit → List ActiveRequest → List ActiveRequest
kept_of l held = kept l (waiting_for l.ats.items held)

-- after these commands the request is served: it leads to one more command, to the node whose row it waits for, if one may be sent
pub record IsTurn (s : ServerState) (h : ActiveRequest) (before after : List SentCommand) : Type 0 where
  pub next : Option SentCommand
  pub made : after ≡ before ++ option_to_list next
  pub node : IfSome next (λ t. 1 ≤ t.node)
  pub comes : served (with_told before s) h.request ≡ Ok (with_told (before ++ option_to_list next) s, commands_told (option_to_list next))
  pub order : h.request.wanted.required.lo ≤ h.request.wanted.required.hi
  pub starts : h.request.wanted.desired.lo ≤ h.request.wanted.required.lo
  pub ends : h.request.wanted.required.hi ≤ h.request.wanted.desired.hi

-- The first active requests were served and led to these commands. Each request still waits for the row that it waited for, and no further command may go to
-- the nodes whose rows the served ones wait for.
pub record AreServed (s : ServerState) (all done : List ActiveRequest) (told : List SentCommand) : Type 0 where
  pub comes : each_served (requests_of done) s ≡ Ok (with_told told s, commands_told told)
  pub nodes : All (λ t. 1 ≤ t.node) told
  pub waits : All (λ h. obstacle (with_told told s) h.request ≡ h.at) all
  pub quiet : All (λ h. is_idle ((with_told told s).rows h.at) ≡ false) done
