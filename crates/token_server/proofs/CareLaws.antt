-- The requests of a server, as one list, through an event.
use Rattle.std.specs.Prelude.{◌≡◌, ℕ, ◌-◌, Bool, true, false, not, cond, ◌||◌, List, [], ◌∷◌, ◌++◌, All, find, IfSome, Option, Some, None}
use Rattle.std.specs.List.{list_any}
use Rattle.std.proofs.Common.{refl}
use Rattle.std.proofs.lemmas.List.Elements.{All-nil, All-cons, All-head, All-tail, All-append, All-push, All-filter, filter_passes}
use Rattle.model.specs.declared.call.CallId.{CallId}
use Rattle.messages.specs.declared.message.Blocking.TheVariants.{Yes}
use Rattle.messages.specs.rule.Messages.{same_blocking}
use Rattle.token_server.specs.declared.token_queue.token_request.TokenRequest.{TokenRequest}
use Rattle.token_server.specs.rule.Requests.{is_of_call, is_up_to}
use Rattle.token_server.specs.rule.Rows.{Row}
use Rattle.token_server.specs.rule.State.{ServerState, forgotten, requests, requeued}
use Rattle.token_server.specs.rule.Serve.{meets_some, admitted, ready}
use Rattle.token_server.specs.rule.Server.{with_a_row, request_of, enqueued_with, enqueued, asked, ended, put_off, postponed, freed}

-- P holds of the active, of the queued and of the waiting requests
pub record AreRequests (P : TokenRequest → Type 0) (s : ServerState) : Type 0 where
  pub active : All P s.active
  pub queue : All P s.queue
  pub waiting : All P s.waiting

-- P holds of each element of two lists together, then of each element of the first
pub All-left : {X : Type 0} (P : X → Type 0) (xs ys : List X) → All P (xs ++ ys) → All P xs
All-left P [] ys all = All-nil P
All-left P (x ∷ xs) ys all = All-cons P x xs (All-head P x (xs ++ ys) all) (All-left P xs ys (All-tail P x (xs ++ ys) all))

pub All-right : {X : Type 0} (P : X → Type 0) (xs ys : List X) → All P (xs ++ ys) → All P ys
All-right P [] ys all = all
All-right P (x ∷ xs) ys all = All-right P xs ys (All-tail P x (xs ++ ys) all)

-- P holds of all requests, then of one that is found
pub find-each : (P : TokenRequest → Type 0) (test : TokenRequest → Bool) (rs : List TokenRequest) → All P rs → IfSome (find test rs) P
find-each P test [] all = tt
find-each P test (r ∷ rs) all =
    elim (test r) as (λ b. IfSome (cond b (Some r) (find test rs)) P) [ true ↦ All-head P r rs all | false ↦ find-each P test rs (All-tail P r rs all) ]

-- a request that is found passes the test
pub find-passes : (test : TokenRequest → Bool) (rs : List TokenRequest) → IfSome (find test rs) (λ r. test r ≡ true)
find-passes test [] = tt
find-passes test (r ∷ rs) = by (test r) refl (find-passes test rs)
  where
    by : (b : Bool) → test r ≡ b → IfSome (find test rs) (λ x. test x ≡ true) → IfSome (cond b (Some r) (find test rs)) (λ x. test x ≡ true)
    by true is rest = is
    by false is rest = rest

-- P holds of all requests, then of those of each list
pub requests-parts : (P : TokenRequest → Type 0) (s : ServerState) → All P (requests s) → AreRequests P s
requests-parts P s all = record {
  active = All-left P s.active (s.queue ++ s.waiting) all;
  queue = All-left P s.queue s.waiting (All-right P s.active (s.queue ++ s.waiting) all);
  waiting = All-right P s.queue s.waiting (All-right P s.active (s.queue ++ s.waiting) all);
}

pub requests-whole : (P : TokenRequest → Type 0) (s : ServerState) → AreRequests P s → All P (requests s)
requests-whole P s are = All-append P s.active (s.queue ++ s.waiting) are.active (All-append P s.queue s.waiting are.queue are.waiting)

-- P holds of all requests, then of the active ones
pub active-each : (P : TokenRequest → Type 0) (s : ServerState) → All P (requests s) → All P s.active
active-each P s all = (requests-parts P s all).active

-- P holds of all requests after some are admitted
pub admitted-all : (P : TokenRequest → Type 0) (active staying queue : List TokenRequest) → All P active → All P staying → All P queue → (let next = admitted active staying queue in All P next.0 × All P next.1)
admitted-all P active staying [] a b c = (a, b)
admitted-all P active staying (r ∷ rest) a b c =
    let one = All-head P r rest c in
    let others = All-tail P r rest c in
    let Q : List TokenRequest × List TokenRequest → Type 0 = λ next. All P next.0 × All P next.1 in
    elim (meets_some r active || meets_some r staying) as (λ t. Q (cond t (admitted active (staying ++ r ∷ []) rest) (admitted (active ++ r ∷ []) staying rest))) [
      | true ↦ admitted-all P active (staying ++ r ∷ []) rest a (All-push P staying r b one) others
      | false ↦ admitted-all P (active ++ r ∷ []) staying rest (All-push P active r a one) b others
    ]

pub ready-each : (P : TokenRequest → Type 0) (s : ServerState) → All P (requests s) → All P (requests (ready s))
ready-each P s all =
    let are = requests-parts P s all in
    let both = admitted-all P s.active [] s.queue are.active (All-nil P) are.queue in
    requests-whole P (ready s) (record { active = both.0; queue = both.1; waiting = are.waiting })

-- P holds of all requests after the waiting ones are queued again
pub requeued-each : (P : TokenRequest → Type 0) (s : ServerState) → All P (requests s) → All P (requests (requeued s))
requeued-each P s all =
    let are = requests-parts P s all in
    requests-whole P (requeued s) (record { active = are.active; queue = All-append P s.queue s.waiting are.queue are.waiting; waiting = All-nil P })

pub freed-each : (P : TokenRequest → Type 0) (s : ServerState) (row : Option Row) → All P (requests s) → All P (requests (freed s row))
freed-each P s None all = all
freed-each P s (Some row) all = requeued-each P s all

-- P holds of all requests after the call's active one ends
pub ended-each : (P : TokenRequest → Type 0) (call : CallId) (s : ServerState) → All P (requests s) → All P (requests (ended call s))
ended-each P call s all =
    let are = requests-parts P s all in
    requests-whole P (ended call s) (record { active = All-filter (λ r. not (is_of_call call r)) P s.active are.active; queue = are.queue; waiting = are.waiting })

put_off-each : (P : TokenRequest → Type 0) (own : Option TokenRequest) → IfSome own P → All P (put_off own)
put_off-each P None one = All-nil P
put_off-each P (Some r) one = elim (same_blocking r.blocking Yes) as (λ b. All P (cond b (r ∷ []) [])) [ true ↦ All-cons P r [] one (All-nil P) | false ↦ All-nil P ]

-- P holds of all requests after the call's active one is put off
pub postponed-each : (P : TokenRequest → Type 0) (call : CallId) (s : ServerState) → All P (requests s) → All P (requests (postponed call s))
postponed-each P call s all =
    let are = requests-parts P s all in
    requests-whole P (postponed call s) (record {
      active = All-filter (λ r. not (is_of_call call r)) P s.active are.active;
      queue = are.queue;
      waiting = All-append P s.waiting (put_off (request_of call s.active)) are.waiting (put_off-each P (request_of call s.active) (find-each P (is_of_call call) s.active are.active));
    })

-- P holds of all requests after those of dead incarnations go
pub forgotten-each : (P : TokenRequest → Type 0) (s : ServerState) (node incarnation : ℕ) → All P (requests s) → All P (requests (forgotten s node incarnation))
forgotten-each P s node incarnation all =
    let are = requests-parts P s all in
    let stays : TokenRequest → Bool = λ r. not (is_up_to node incarnation r) in
    requests-whole P (forgotten s node incarnation) (record {
      active = All-filter stays P s.active are.active;
      queue = All-filter stays P s.queue are.queue;
      waiting = All-filter stays P s.waiting are.waiting;
    })

-- no request of the dead incarnations is left
pub forgotten-young : (s : ServerState) (node incarnation : ℕ) → All (λ r. not (is_up_to node incarnation r) ≡ true) (requests (forgotten s node incarnation))
forgotten-young s node incarnation =
    let stays : TokenRequest → Bool = λ r. not (is_up_to node incarnation r) in
    requests-whole (λ r. stays r ≡ true) (forgotten s node incarnation) (record {
      active = filter_passes stays s.active;
      queue = filter_passes stays s.queue;
      waiting = filter_passes stays s.waiting;
    })

-- P holds of all requests after one is queued, where it holds of the new one
pub enqueued_with-each : (P : TokenRequest → Type 0) (s : ServerState) (r : TokenRequest) (own : Option TokenRequest) → P r → IfSome own P → AreRequests P s → All P (requests (enqueued_with s r own))
enqueued_with-each P s r None new old are = requests-whole P (enqueued_with s r None) (record { active = are.active; queue = All-push P s.queue r are.queue new; waiting = are.waiting })
enqueued_with-each P s r (Some own) new old are = requests-whole P (enqueued_with s r (Some own)) (record {
  active = are.active;
  queue = All-push P s.queue own are.queue old;
  waiting = All-filter (λ q. not (is_of_call r.call q)) P s.waiting are.waiting;
})

pub enqueued-each : (P : TokenRequest → Type 0) (s : ServerState) (r : TokenRequest) → P r → All P (requests s) → All P (requests (enqueued s r))
enqueued-each P s r new all =
    let are = requests-parts P s all in
    let added = enqueued_with s r (request_of r.call s.waiting) in
    elim (list_any (is_of_call r.call) s.active || list_any (is_of_call r.call) s.queue) as (λ b. All P (requests (cond b s added))) [
      | true ↦ all
      | false ↦ enqueued_with-each P s r (request_of r.call s.waiting) new (find-each P (is_of_call r.call) s.waiting are.waiting) are
    ]

-- P holds of all requests after a row is added
pub with_a_row-each : (P : TokenRequest → Type 0) (s : ServerState) (call : CallId) (row : Option Row) → All P (requests s) → All P (requests (with_a_row s call row))
with_a_row-each P s call None all = all
with_a_row-each P s call (Some row) all = all

pub asked-each : (P : TokenRequest → Type 0) (s : ServerState) (r : TokenRequest) → P r → All P (requests s) → All P (requests (asked s r))
asked-each P s r new all =
    let young = forgotten s r.call.node (r.call.incarnation - 1) in
    enqueued-each P (with_a_row young r.call (young.rows r.call.node)) r new (with_a_row-each P young r.call (young.rows r.call.node) (forgotten-each P s r.call.node (r.call.incarnation - 1) all))
