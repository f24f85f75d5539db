-- The rule of a token server: what it does at each event.
use Rattle.std.specs.Prelude.{ℕ, ◌-◌, Bool, false, not, ◌&&◌, ◌||◌, ◌==◌, nat_le, if◌then◌else◌, List, [], ◌∷◌, ◌++◌, filter, find, option_map, Option, Some, None, Result, Ok, Err}
use Rattle.std.specs.List.{list_any}
use Rattle.intervals.specs.rule.Bytes.{Range}
use Rattle.model.specs.declared.call.CallId.{CallId}
use Rattle.model.specs.declared.host.Host.{Host}
use Rattle.model.specs.declared.lock_info.LockInfo.{LockInfo}
use Rattle.model.specs.rule.Owners.{host_of_call}
use Rattle.token_set.specs.rule.Tokens.{Token, lowered}
use Rattle.messages.specs.declared.refusal.StepError.{StepError}
use Rattle.messages.specs.declared.refusal.StepError.TheVariants.{Stranger}
use Rattle.messages.specs.declared.message.Blocking.TheVariants.{No, Yes}
use Rattle.messages.specs.declared.message.Message.{Message}
use Rattle.messages.specs.declared.message.Message.TheVariants.{Request, Taken, Released, Conflict, Deny, Freed, Report}
use Rattle.messages.specs.declared.token_run.TokenRun.{TokenRun}
use Rattle.messages.specs.rule.Messages.{reported, addressee, host_of, is_within, same_blocking, sending}
use Rattle.messages.specs.declared.outcome.Outcome.{Outcome}
use Rattle.messages.specs.declared.actor.Actor.{Actor}
use Rattle.messages.specs.declared.actor.Actor.TheVariants.{Node as ANode, Server as AServer}
use Rattle.token_server.specs.declared.token_queue.token_request.TokenRequest.{TokenRequest}
use Rattle.messages.specs.declared.event.ServerInput.TheVariants.{Resend, Learn}
use Rattle.token_server.specs.declared.event.ServerEvent.{ServerEvent}
use Rattle.token_server.specs.declared.event.ServerEvent.TheVariants.{Input, Deliver}
use Rattle.token_server.specs.rule.Requests.{is_of_call}
use Rattle.token_server.specs.rule.Rows.{Row, empty_row, is_grant, revoked_mode, asks_token, row_of_incarnation}
use Rattle.token_server.specs.rule.State.{ServerState, begin, with_row, forgotten, requeued}
use Rattle.token_server.specs.rule.Serve.{serve}
use Rattle.token_server.specs.rule.Resends.{sending_first, resend_rule}

-- a new state, and the messages that are sent before the server serves
abbrev pub Change : Type 0
Change = ServerState × List Message

abbrev pub with_a_row : ServerState → CallId → Option Row → ServerState
with_a_row s call None = with_row s call.node (Some (empty_row (begin s) call.incarnation))
with_a_row s call (Some row) = s

-- the first request of the call, if there is one
abbrev pub request_of : CallId → List TokenRequest → Option TokenRequest
request_of call requests = find (is_of_call call) requests

-- the older request of the call, which waits, goes to the end of the queue; if there is none, the new one does
abbrev pub enqueued_with : ServerState → TokenRequest → Option TokenRequest → ServerState
enqueued_with s r None = record s { queue = s.queue ++ r ∷ [] }
enqueued_with s r (Some own) = record s { queue = s.queue ++ own ∷ []; waiting = filter (λ q. not (is_of_call r.call q)) s.waiting }

-- if the call is queued or active: nothing. If it waits: that older request goes to the end of the queue. Else this one does
abbrev pub enqueued : ServerState → TokenRequest → ServerState
enqueued s r = if list_any (is_of_call r.call) s.active || list_any (is_of_call r.call) s.queue then s else enqueued_with s r (request_of r.call s.waiting)

-- a request: incarnations of its node before this one are known to be dead, and the node gets a row if it has none
abbrev pub asked : ServerState → TokenRequest → ServerState
asked s r =
    let young = forgotten s r.call.node (r.call.incarnation - 1) in
    enqueued (with_a_row young r.call (young.rows r.call.node)) r

-- the row of the node has this token, and no outstanding command
abbrev pub acknowledged : ServerState → ℕ → Row → Token → ServerState
acknowledged s node row token = with_row s node (Some (record row { token = token; outstanding = None }))

-- the request of the call is not active any more
abbrev pub ended : CallId → ServerState → ServerState
ended call s = record s { active = filter (λ r. not (is_of_call call r)) s.active }

-- the request, if there is one and it may wait
abbrev pub put_off : Option TokenRequest → List TokenRequest
put_off None = []
put_off (Some r) = if same_blocking r.blocking Yes then r ∷ [] else []

-- the request of the call is not active any more; if it may wait, it is the last of those that wait
abbrev pub postponed : CallId → ServerState → ServerState
postponed call s = record (ended call s) { waiting = s.waiting ++ put_off (request_of call s.active) }

-- the denial of the request, if there is one and it may not wait
abbrev pub denial : Message → Option TokenRequest → List Message
denial deny None = []
denial deny (Some r) = if same_blocking r.blocking No then deny ∷ [] else []

-- Taken, the answer to a Grant: the request of the call is not active any more
abbrev pub taken : ServerState → ℕ → CallId → Option Row → Option Change
taken s number call None = None
taken s number call (Some row) = if is_grant number row.outstanding then Some (ended call (acknowledged s call.node row row.token), []) else None

-- Released, the answer to a Revoke: the holder gave up the span, and the request stays active
abbrev pub released : ServerState → ℕ → Host → Range → Option Row → Option Change
released s number holder span None = None
released s number holder span (Some row) =
    option_map (λ mode. (acknowledged s holder.node row (lowered row.token span mode), [])) (revoked_mode number row.outstanding)

-- Conflict, the answer to a Revoke: a lock of the holder blocks the request, which is denied or waits
abbrev pub in_conflict : ServerState → ℕ → Host → CallId → LockInfo → Option Row → Option Change
in_conflict s number holder call lock None = None
in_conflict s number holder call lock (Some row) =
    option_map (λ mode. (postponed call (acknowledged s holder.node row row.token), denial (Deny s.file call holder number lock) (request_of call s.active))) (revoked_mode number row.outstanding)

-- Report, the answer to a Hello: the row of the node has the reported token
abbrev pub heard : ServerState → ℕ → Host → List TokenRun → Option Row → Option Change
heard s number holder runs None = None
heard s number holder runs (Some row) = if asks_token number row.outstanding then Some (acknowledged s holder.node row (reported runs), []) else None

-- the row of the node, if it is of the host's incarnation
abbrev pub row_of_host : ServerState → Host → Option Row
row_of_host s h = row_of_incarnation h.incarnation (s.rows h.node)

-- Freed: locks of a holder may be gone. If its row is of that incarnation, the waiting requests are queued again
abbrev pub freed : ServerState → Option Row → ServerState
freed s None = s
freed s (Some row) = requeued s

-- what a message changes and sends before the server serves: an answer counts where its row has an outstanding command of its kind and number
abbrev pub delivered : ServerState → Message → Option Change
delivered s (Request file call blocking mode wanted) = Some (asked s (record { call = call; blocking = blocking; mode = mode; wanted = wanted }), [])
delivered s (Taken file number call) = taken s number call (row_of_host s (host_of_call call))
delivered s (Released file number holder call span) = released s number holder span (row_of_host s holder)
delivered s (Conflict file number holder call lock) = in_conflict s number holder call lock (row_of_host s holder)
delivered s (Freed file holder) = Some (freed s (row_of_host s holder), [])
delivered s (Report file number holder runs) = heard s number holder runs (row_of_host s holder)
delivered s _ = None

abbrev pub is_server : ℕ → Actor → Bool
is_server file (ANode node) = false
is_server file (AServer f) = f == file

-- a message, unless it is for another server or of no node of the cluster; one of an incarnation known to be dead does nothing
abbrev pub change : ServerState → Message → Result (Option Change) StepError
change s m =
    if not (is_server s.file (addressee m) && is_within s.shape.nodes (host_of m).node) then Err Stranger
    else (if nat_le (host_of m).incarnation (s.dead (host_of m).node) then Ok None
    else Ok (delivered s m))

abbrev pub then_serve : ServerState → Result (Option Change) StepError → Result (ServerState × Outcome) StepError
then_serve s (Err e) = Err e
then_serve s (Ok None) = Ok (s, sending [])
then_serve s (Ok (Some changed)) = sending_first changed.1 (serve changed.0)

-- Learn: the incarnation of the node is known to be dead, the waiting requests are queued again, and then the server serves
abbrev pub learn_rule : ServerState → ℕ → ℕ → Result (ServerState × Outcome) StepError
learn_rule s node incarnation = if not (is_within s.shape.nodes node) then Err Stranger else sending_first [] (serve (requeued (forgotten s node incarnation)))

-- what a token server does at an event, or why it refuses the event
abbrev pub server_rule : ServerState → ServerEvent → Result (ServerState × Outcome) StepError
server_rule s (Input Resend) = resend_rule s
server_rule s (Input (Learn node incarnation)) = learn_rule s node incarnation
server_rule s (Deliver m) = then_serve s (change s m)
