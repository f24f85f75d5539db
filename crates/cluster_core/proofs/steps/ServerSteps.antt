-- A server's step names no call and answers none.
use Rattle.std.specs.Prelude.{IfSome, is_some, nat_le, nat_lt, option_map}
use Rattle.std.proofs.Common.{◌≡◌, ℕ, ◌+◌, ◌-◌, ◌&&◌, not, refl, subst, List, [], ◌∷◌, ◌++◌, Option, Some, None, Result, Ok, Err}
use Rattle.intervals.specs.rule.Bytes.{Range}
use Rattle.model.specs.declared.call.CallId.{CallId}
use Rattle.model.specs.declared.host.Host.{Host}
use Rattle.model.specs.declared.lock_info.LockInfo.{LockInfo}
use Rattle.model.specs.declared.mode.Mode.{Mode}
use Rattle.model.specs.rule.Owners.{host_of_call}
use Rattle.token_set.specs.rule.Tokens.{Token}
use Rattle.messages.specs.declared.event.ServerInput.TheVariants.{Resend, Learn}
use Rattle.messages.specs.declared.refusal.StepError.{StepError}
use Rattle.messages.specs.declared.refusal.StepError.TheVariants.{Stranger, Spent}
use Rattle.messages.specs.rule.Messages.{addressee, host_of, greatest_number, is_within}
use Rattle.messages.specs.declared.token_run.TokenRun.{TokenRun}
use Rattle.messages.specs.declared.message.Message.{Message}
use Rattle.messages.specs.declared.message.Message.TheVariants.{Request, Taken, Released, Conflict, Freed, Report}
use Rattle.messages.specs.declared.outcome.Outcome.{Outcome}
use Rattle.token_server.specs.declared.token_queue.token_request.TokenRequest.{TokenRequest}
use Rattle.token_server.specs.declared.event.ServerEvent.{ServerEvent}
use Rattle.token_server.specs.declared.event.ServerEvent.TheVariants.{Input, Deliver}
use Rattle.token_server.specs.rule.Rows.{Row, is_grant, revoked_mode, asks_token}
use Rattle.token_server.specs.rule.State.{ServerState, begin, awaits, with_row, forgotten, requeued}
use Rattle.token_server.specs.rule.Serve.{conflicting_node, commanded, granted_to, revoked_from, served, with_more, and_then, each_served, ready, serve}
use Rattle.token_server.specs.rule.Resends.{outstanding, sending_first}
use Rattle.token_server.specs.rule.Server.{Change, with_a_row, asked, taken, released, in_conflict, heard, row_of_host, freed, delivered, is_server, change, then_serve, server_rule}
use Rattle.cluster_core.proofs.common.Choices.{if_either}
use Rattle.cluster_core.proofs.common.Refusals.{ok_is, unless_refused}
use Rattle.cluster_core.proofs.steps.ServerMoves.{enqueued-stays}

-- the outcome only sends messages
abbrev pub IsSending : ServerState × Outcome → Type 0
IsSending p = (p.1.call ≡ None) × (p.1.reply ≡ None)

sending_first-sending : (commands : List Message) (r : Result (ServerState × List Message) StepError) (p : ServerState × Outcome) → sending_first commands r ≡ Ok p → IsSending p
sending_first-sending commands (Ok done) p h = subst IsSending (ok_is _ p h) (refl, refl)
sending_first-sending commands (Err e) p h = absurd (cc)

then_serve-sending : (s : ServerState) (c : Result (Option Change) StepError) (p : ServerState × Outcome) → then_serve s c ≡ Ok p → IsSending p
then_serve-sending s (Err e) p h = absurd (cc)
then_serve-sending s (Ok None) p h = subst IsSending (ok_is _ p h) (refl, refl)
then_serve-sending s (Ok (Some changed)) p h = sending_first-sending changed.1 (serve changed.0) p h

pub server_rule-sending : (s : ServerState) (event : ServerEvent) (p : ServerState × Outcome) → server_rule s event ≡ Ok p → IsSending p
server_rule-sending s (Deliver m) p h = then_serve-sending s (change s m) p h
server_rule-sending s (Input Resend) p h = sending_first-sending (outstanding s) (serve (requeued s)) p h
server_rule-sending s (Input (Learn node incarnation)) p h = sending_first-sending [] (serve (requeued (forgotten s node incarnation))) p (unless_refused (not (is_within s.shape.nodes node)) _ p Stranger h).1

-- serving does not change the epoch
abbrev Keeps : ℕ → Result (ServerState × List Message) StepError → Type 0
Keeps epoch r = (p : ServerState × List Message) → r ≡ Ok p → p.0.epoch ≡ epoch

one-epoch : (epoch : ℕ) (q : ServerState × List Message) → q.0.epoch ≡ epoch → Keeps epoch (Ok q)
one-epoch epoch q same p h = subst (λ (x : ServerState × List Message). x.0.epoch ≡ epoch) (ok_is q p h) same

none-epoch : (epoch : ℕ) (e : StepError) → Keeps epoch (Err e)
none-epoch epoch e p h = absurd (cc)

commanded-epoch : (s : ServerState) (node : ℕ) (row : Row) (token : Token) (command : Message) → Keeps s.epoch (commanded s node row token command)
commanded-epoch s node row token command =
    if_either (Keeps s.epoch) (is_some row.outstanding) _ _ (one-epoch s.epoch (s, []) refl)
    (if_either (Keeps s.epoch) (nat_lt row.number (begin s + greatest_number)) _ _ (one-epoch s.epoch (with_row s node (Some (record row { token = token; number = row.number + 1; outstanding = Some command })), command ∷ []) refl) (none-epoch s.epoch Spent))

granted-epoch : (s : ServerState) (r : TokenRequest) (row : Option Row) → Keeps s.epoch (granted_to s r row)
granted-epoch s r None = one-epoch s.epoch (s, []) refl
granted-epoch s r (Some row) = commanded-epoch s r.call.node row _ _

revoked-epoch : (s : ServerState) (r : TokenRequest) (node : ℕ) (row : Option Row) → Keeps s.epoch (revoked_from s r node row)
revoked-epoch s r node None = one-epoch s.epoch (s, []) refl
revoked-epoch s r node (Some row) = commanded-epoch s node row _ _

served-epoch : (s : ServerState) (r : TokenRequest) → Keeps s.epoch (served s r)
served-epoch s r =
    let node = conflicting_node s r in
    if_either (Keeps s.epoch) (nat_le node s.shape.nodes) _ _ (revoked-epoch s r node (s.rows node)) (granted-epoch s r (s.rows r.call.node))

more-epoch : (epoch : ℕ) (before : List Message) (r : Result (ServerState × List Message) StepError) → Keeps epoch r → Keeps epoch (with_more before r)
more-epoch epoch before (Ok done) keeps = one-epoch epoch (done.0, before ++ done.1) (keeps done refl)
more-epoch epoch before (Err e) keeps = none-epoch epoch e

then-epoch : (epoch : ℕ) (r : Result (ServerState × List Message) StepError) (next : ServerState → Result (ServerState × List Message) StepError) → Keeps epoch r → ((t : ServerState) → Keeps t.epoch (next t)) → Keeps epoch (and_then r next)
then-epoch epoch (Ok done) next keeps later =
    more-epoch epoch done.1 (next done.0) (subst (λ (k : ℕ). Keeps k (next done.0)) (keeps done refl) (later done.0))
then-epoch epoch (Err e) next keeps later = none-epoch epoch e

each-epoch : (rs : List TokenRequest) (s : ServerState) → Keeps s.epoch (each_served rs s)
each-epoch [] s = one-epoch s.epoch (s, []) refl
each-epoch (r ∷ rest) s = then-epoch s.epoch (served s r) (each_served rest) (served-epoch s r) (each-epoch rest)

serve-epoch : (s : ServerState) → Keeps s.epoch (serve s)
serve-epoch s = if_either (Keeps s.epoch) (awaits s) _ _ (one-epoch s.epoch (s, []) refl) (each-epoch (ready s).active (ready s))

-- a message does not change the epoch before the server serves
abbrev Stays : ℕ → Option Change → Type 0
Stays epoch c = IfSome c (λ x. x.0.epoch ≡ epoch)

with_a_row-epoch : (s : ServerState) (call : CallId) (row : Option Row) → (with_a_row s call row).epoch ≡ s.epoch
with_a_row-epoch s call None = refl
with_a_row-epoch s call (Some row) = refl

asked-epoch : (s : ServerState) (r : TokenRequest) → (asked s r).epoch ≡ s.epoch
asked-epoch s r =
    let young = forgotten s r.call.node (r.call.incarnation - 1) in
    enqueued-stays (λ (t : ServerState). t.epoch ≡ s.epoch) (with_a_row young r.call (young.rows r.call.node)) (λ active queue waiting. with_a_row-epoch young r.call (young.rows r.call.node)) r

mapped-epoch : (epoch : ℕ) (f : Mode → Change) (mode : Option Mode) → ((m : Mode) → (f m).0.epoch ≡ epoch) → Stays epoch (option_map f mode)
mapped-epoch epoch f None same = tt
mapped-epoch epoch f (Some m) same = same m

taken-epoch : (s : ServerState) (number : ℕ) (call : CallId) (row : Option Row) → Stays s.epoch (taken s number call row)
taken-epoch s number call None = tt
taken-epoch s number call (Some row) = if_either (Stays s.epoch) (is_grant number row.outstanding) _ _ refl tt

released-epoch : (s : ServerState) (number : ℕ) (holder : Host) (span : Range) (row : Option Row) → Stays s.epoch (released s number holder span row)
released-epoch s number holder span None = tt
released-epoch s number holder span (Some row) = mapped-epoch s.epoch _ (revoked_mode number row.outstanding) (λ m. refl)

in_conflict-epoch : (s : ServerState) (number : ℕ) (holder : Host) (call : CallId) (lock : LockInfo) (row : Option Row) → Stays s.epoch (in_conflict s number holder call lock row)
in_conflict-epoch s number holder call lock None = tt
in_conflict-epoch s number holder call lock (Some row) = mapped-epoch s.epoch _ (revoked_mode number row.outstanding) (λ m. refl)

heard-epoch : (s : ServerState) (number : ℕ) (holder : Host) (runs : List TokenRun) (row : Option Row) → Stays s.epoch (heard s number holder runs row)
heard-epoch s number holder runs None = tt
heard-epoch s number holder runs (Some row) = if_either (Stays s.epoch) (asks_token number row.outstanding) _ _ refl tt

freed-epoch : (s : ServerState) (row : Option Row) → (freed s row).epoch ≡ s.epoch
freed-epoch s None = refl
freed-epoch s (Some row) = refl

delivered-epoch : (s : ServerState) (m : Message) → Stays s.epoch (delivered s m)
delivered-epoch s (Request file call blocking mode wanted) = asked-epoch s (record { call = call; blocking = blocking; mode = mode; wanted = wanted })
delivered-epoch s (Taken file number call) = taken-epoch s number call (row_of_host s (host_of_call call))
delivered-epoch s (Released file number holder call span) = released-epoch s number holder span (row_of_host s holder)
delivered-epoch s (Conflict file number holder call lock) = in_conflict-epoch s number holder call lock (row_of_host s holder)
delivered-epoch s (Freed file holder) = freed-epoch s (row_of_host s holder)
delivered-epoch s (Report file number holder runs) = heard-epoch s number holder runs (row_of_host s holder)
delivered-epoch s _ = tt

abbrev KeepsAll : ℕ → Result (ServerState × Outcome) StepError → Type 0
KeepsAll epoch r = (p : ServerState × Outcome) → r ≡ Ok p → p.0.epoch ≡ epoch

sends-epoch : (epoch : ℕ) (first : List Message) (r : Result (ServerState × List Message) StepError) → Keeps epoch r → KeepsAll epoch (sending_first first r)
sends-epoch epoch first (Ok done) keeps p h = subst (λ (x : ServerState × Outcome). x.0.epoch ≡ epoch) (ok_is _ p h) (keeps done refl)
sends-epoch epoch first (Err e) keeps p h = absurd (cc)

then_serve-epoch : (s : ServerState) (c : Option Change) → Stays s.epoch c → KeepsAll s.epoch (then_serve s (Ok c))
then_serve-epoch s None stays p h = subst (λ (x : ServerState × Outcome). x.0.epoch ≡ s.epoch) (ok_is _ p h) refl
then_serve-epoch s (Some x) stays p h = subst (λ (k : ℕ). KeepsAll k (sending_first x.1 (serve x.0))) stays (sends-epoch x.0.epoch x.1 (serve x.0) (serve-epoch x.0)) p h

change-epoch : (s : ServerState) (m : Message) → KeepsAll s.epoch (then_serve s (change s m))
change-epoch s m =
    let P : Result (Option Change) StepError → Type 0 = λ r. KeepsAll s.epoch (then_serve s r) in
    if_either P (not (is_server s.file (addressee m) && is_within s.shape.nodes (host_of m).node)) _ _ (λ p h. absurd (cc))
    (if_either P (nat_le (host_of m).incarnation (s.dead (host_of m).node)) _ _ (then_serve-epoch s None tt) (then_serve-epoch s (delivered s m) (delivered-epoch s m)))

pub server_rule-epoch : (s : ServerState) (event : ServerEvent) (p : ServerState × Outcome) → server_rule s event ≡ Ok p → p.0.epoch ≡ s.epoch
server_rule-epoch s (Deliver m) = change-epoch s m
server_rule-epoch s (Input Resend) = sends-epoch s.epoch (outstanding s) (serve (requeued s)) (serve-epoch (requeued s))
server_rule-epoch s (Input (Learn node incarnation)) =
    if_either (KeepsAll s.epoch) (not (is_within s.shape.nodes node)) _ _ (λ p h. absurd (cc))
    (sends-epoch s.epoch [] (serve (requeued (forgotten s node incarnation))) (serve-epoch (requeued (forgotten s node incarnation))))
