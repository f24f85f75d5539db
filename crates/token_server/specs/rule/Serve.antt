-- How a token server serves: requests are admitted from the queue, and the active ones are granted or lead to revokes.
use Rattle.std.specs.Prelude.{ℕ, ◌+◌, Bool, not, ◌&&◌, ◌||◌, ◌==◌, nat_le, nat_lt, if◌then◌else◌, List, [], ◌∷◌, ◌++◌, is_some, Option, Some, None, Result, Ok, Err}
use Rattle.std.specs.List.{list_any}
use Rattle.intervals.specs.rule.Search.{first, some_passes}
use Rattle.intervals.specs.rule.Bytes.{Range, is_in, largest_around}
use Rattle.model.specs.declared.host.Host.{Host}
use Rattle.token_set.specs.rule.Tokens.{Token, raised}
use Rattle.messages.specs.rule.TokenRuns.{Wants}
use Rattle.messages.specs.declared.refusal.StepError.{StepError}
use Rattle.messages.specs.declared.refusal.StepError.TheVariants.{Spent}
use Rattle.messages.specs.declared.message.Message.{Message}
use Rattle.messages.specs.declared.message.Message.TheVariants.{Grant, Revoke}
use Rattle.messages.specs.rule.Messages.{greatest_number}
use Rattle.token_server.specs.declared.token_queue.token_request.TokenRequest.{TokenRequest}
use Rattle.token_server.specs.rule.Requests.{meets}
use Rattle.token_server.specs.rule.Rows.{Row, row_conflicts, row_conflicts_at}
use Rattle.token_server.specs.rule.State.{ServerState, with_row, begin, awaits}

-- the request needs a byte that one of these needs
abbrev pub meets_some : TokenRequest → List TokenRequest → Bool
meets_some r others = list_any (λ q. meets r.wanted.required q.wanted.required) others

-- Walks the queue: a request that needs no byte of an active one, nor of an earlier one that stays, becomes the last active one. Gives the active, and the rest
abbrev pub admitted : List TokenRequest → List TokenRequest → List TokenRequest → List TokenRequest × List TokenRequest
admitted active staying [] = (active, staying)
admitted active staying (r ∷ rest) =
    if meets_some r active || meets_some r staying
    then admitted active (staying ++ r ∷ []) rest
    else admitted (active ++ r ∷ []) staying rest

-- another active request needs the byte, and this request doesn't
abbrev pub is_needed : List TokenRequest → TokenRequest → ℕ → Bool
is_needed active r b = not (is_in r.wanted.required b) && list_any (λ q. is_in q.wanted.required b) active

-- the largest span within the desired one, around the required one, without bytes that another active request needs
abbrev pub narrowed : List TokenRequest → TokenRequest → Range
narrowed active r = largest_around (is_needed active r) r.wanted.required r.wanted.desired

-- the row of another node conflicts with the request at the byte
abbrev pub is_taken : ServerState → TokenRequest → ℕ → Bool
is_taken s r b = some_passes (λ n. not (n == r.call.node) && row_conflicts_at (s.rows n) b r.mode) 1 s.shape.nodes

-- the span that a request is granted: the largest within its narrowed desired span that no other node's row conflicts with
abbrev pub granted_span : ServerState → TokenRequest → Range
granted_span s r = largest_around (is_taken s r) r.wanted.required (narrowed s.active r)

-- the least other node whose row conflicts with the bytes that the request needs, or the number after the last node
abbrev pub conflicting_node : ServerState → TokenRequest → ℕ
conflicting_node s r = first (λ n. not (n == r.call.node) && row_conflicts (s.rows n) r.wanted.required r.mode) 1 s.shape.nodes

-- the next command goes to the node, unless one is outstanding
abbrev pub commanded : ServerState → ℕ → Row → Token → Message → Result (ServerState × List Message) StepError
commanded s node row token command =
    if is_some row.outstanding then Ok (s, [])
    else (if nat_lt row.number (begin s + greatest_number)
    then Ok (with_row s node (Some (record row { token = token; number = row.number + 1; outstanding = Some command })), command ∷ [])
    else Err Spent)

-- a Grant to the request's own node: its row has the granted span from now on
abbrev pub granted_to : ServerState → TokenRequest → Option Row → Result (ServerState × List Message) StepError
granted_to s r None = Ok (s, [])
granted_to s r (Some row) =
    commanded s r.call.node row (raised row.token (granted_span s r) r.mode) (Grant s.file (row.number + 1) r.call r.mode (granted_span s r))

-- a Revoke to the holder of the row: it is to give up the required bytes, and of the desired ones as much as it can
abbrev pub revoked_from : ServerState → TokenRequest → ℕ → Option Row → Result (ServerState × List Message) StepError
revoked_from s r node None = Ok (s, [])
revoked_from s r node (Some row) =
    let holder : Host = record { node = node; incarnation = row.incarnation } in
    let wanted : Wants = record { required = r.wanted.required; desired = narrowed s.active r } in
    commanded s node row row.token (Revoke s.file (row.number + 1) holder r.call r.mode wanted)

-- the request is granted, unless another node's row conflicts with it: then the token of the least such node is revoked first
abbrev pub served : ServerState → TokenRequest → Result (ServerState × List Message) StepError
served s r =
    let node = conflicting_node s r in
    if nat_le node s.shape.nodes then revoked_from s r node (s.rows node) else granted_to s r (s.rows r.call.node)

-- the result with these messages before its own
abbrev pub with_more : List Message → Result (ServerState × List Message) StepError → Result (ServerState × List Message) StepError
with_more before (Err e) = Err e
with_more before (Ok done) = Ok (done.0, before ++ done.1)

-- the first step and then the second, with the messages of both
abbrev pub and_then : Result (ServerState × List Message) StepError → (ServerState → Result (ServerState × List Message) StepError) → Result (ServerState × List Message) StepError
and_then (Err e) next = Err e
and_then (Ok done) next = with_more done.1 (next done.0)

-- the requests are served in order: each meets the rows as the requests before it left them
abbrev pub each_served : List TokenRequest → ServerState → Result (ServerState × List Message) StepError
each_served [] s = Ok (s, [])
each_served (r ∷ rest) s = and_then (served s r) (each_served rest)

-- the server after requests are admitted from the queue
abbrev pub ready : ServerState → ServerState
ready s =
    let next = admitted s.active [] s.queue in
    record s { active = next.0; queue = next.1 }

-- requests are admitted from the queue and all active ones are served; nothing happens before each node that was asked for its token has reported it
abbrev pub serve : ServerState → Result (ServerState × List Message) StepError
serve s =
    let next = ready s in
    if awaits s then Ok (s, []) else each_served next.active next
