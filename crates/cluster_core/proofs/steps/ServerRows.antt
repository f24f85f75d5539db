-- What a token server's step does to its rows, and the messages that it sends.
use Rattle.std.specs.Prelude.{max, nat_le, nat_lt, ◌==◌, not, filter, is_some, option_map, IfSome}
use Rattle.std.specs.List.{All}
use Rattle.std.proofs.Common.{◌≡◌, ℕ, ◌+◌, ◌-◌, ◌<◌, ◌≤◌, Bool, true, false, if◌then◌else◌, ◌⊎◌, inl, inr, refl, sym, ◌∙◌, ap, subst, arith, List, [], ◌∷◌, ◌++◌, Option, Some, None, Result, Ok, Err}
use Rattle.std.proofs.lemmas.Bool.{both_ways, cases_Bool, cases_lt, and_parts, and_from, eqb-true, eq-eqb, ne_eqb, leb-true, leb-false, ltb-true, le-leb, lt-leb, not-true, not_from_false, false_from_ne_true}
use Rattle.std.proofs.lemmas.Option.{same_Some, none-some}
use Rattle.std.proofs.lemmas.List.Elements.{All-weaker}
use Rattle.intervals.specs.rule.Search.{first}
use Rattle.intervals.specs.rule.Bytes.{Range, is_in, NoneIn}
use Rattle.intervals.proofs.SearchLaws.{first_is_first}
use Rattle.model.specs.declared.mode.Mode.{Mode}
use Rattle.model.specs.declared.call.CallId.{CallId}
use Rattle.model.specs.declared.host.Host.{Host}
use Rattle.model.specs.declared.lock_info.LockInfo.{LockInfo}
use Rattle.model.specs.rule.Owners.{host_of_call}
use Rattle.token_set.specs.rule.Tokens.{Token, lowered}
use Rattle.token_set.proofs.TokenLaws.{some_passes-first, some_passes-none}
use Rattle.messages.specs.declared.message.Message.{Message}
use Rattle.messages.specs.declared.message.Message.TheVariants.{Request, Grant, Revoke, Taken, Released, Conflict, Deny, Freed, Hello, Report}
use Rattle.messages.specs.declared.token_run.TokenRun.{TokenRun}
use Rattle.messages.specs.rule.Messages.{reported, addressee, host_of, same_blocking, greatest_number, is_within, sending}
use Rattle.messages.specs.declared.refusal.StepError.{StepError}
use Rattle.messages.specs.declared.message.Blocking.TheVariants.{No}
use Rattle.messages.specs.declared.actor.Actor.TheVariants.{Server as AServer}
use Rattle.messages.specs.declared.refusal.StepError.TheVariants.{Spent}
use Rattle.messages.specs.declared.outcome.Outcome.{Outcome}
use Rattle.messages.specs.rule.Shapes.{ShapeFields}
use Rattle.node_core.specs.rule.State.{NodeState}
use Rattle.token_server.specs.declared.token_queue.token_request.TokenRequest.{TokenRequest}
use Rattle.token_server.specs.declared.event.ServerEvent.TheVariants.{Deliver}
use Rattle.token_server.specs.rule.Requests.{is_of_call, is_up_to}
use Rattle.token_server.specs.rule.Rows.{Row, empty_row, is_hello, is_awaited, row_above, row_conflicts, row_conflicts_at, is_grant, revoked_mode, row_of_incarnation, asks_token}
use Rattle.token_server.specs.rule.State.{ServerState, begin, awaits, with_row, forgotten, requests, requeued}
use Rattle.token_server.specs.rule.Serve.{is_taken, narrowed, granted_span, conflicting_node, commanded, granted_to, revoked_from, served, each_served, ready, serve}
use Rattle.token_server.specs.rule.Resends.{sending_first}
use Rattle.token_server.specs.rule.Server.{Change, with_a_row, request_of, enqueued, asked, acknowledged, ended, put_off, postponed, denial, row_of_host, taken, released, in_conflict, heard, freed, delivered, change, then_serve, server_rule}
use Rattle.token_server.proofs.CareLaws.{find-each, find-passes, active-each, ready-each, requeued-each, freed-each, ended-each, postponed-each, forgotten-each, forgotten-young, enqueued-each}
use Rattle.token_server.proofs.KnownNodeLaws.{row_free}
use Rattle.token_server.proofs.GrantLaws.{conflicts_at, conflicts_at_byte}
use Rattle.cluster_core.proofs.common.Choices.{if_either, at_number}
use Rattle.cluster_core.proofs.common.Refusals.{ok_is}
use Rattle.cluster_core.proofs.common.Lists.{All-both}
use Rattle.cluster_core.proofs.steps.ServerMoves.{WhateverRequests, enqueued-stays, freed-stays, ready-stays}
use Rattle.cluster_core.proofs.steps.Requested.{change_done}
use Rattle.cluster_core.proofs.tokens.Clearing.{around_free}
use Rattle.cluster_core.proofs.tokens.Talks.{Sent, IsCommandTo, IsAnswerOf, IsHostOf, promised, settled, owing_nothing, in_epoch, Talk}
use Rattle.cluster_core.proofs.tokens.TalkMoves.{is_answer}
use Rattle.cluster_core.proofs.tokens.RowMoves.{talk-forgets, talk-row, talk-answered, talk-heard, cleared_row, answered_row, commanded_row}
use Rattle.cluster_core.proofs.steps.NodeTokens.{Only, only_none, only_one}

-- the facts that a server and the nodes share
abbrev pub TalkOf : Sent → (ℕ → NodeState) → ℕ → ServerState → ℕ → Type 0
TalkOf was nodes file t n = Talk was file n (nodes n).incarnation (owing_nothing ((nodes n).files file)) (t.rows n) (t.dead n) (begin t)

-- the request is of the incarnation after those known to be dead, of a node of the shape that has a row
pub record IsCurrent (t : ServerState) (r : TokenRequest) : Type 0 where
  pub of : r.call.incarnation ≡ t.dead r.call.node + 1
  pub within : is_within t.shape.nodes r.call.node ≡ true
  pub has_row : is_some (t.rows r.call.node) ≡ true

pub record Serves (was : Sent) (nodes : ℕ → NodeState) (shape : ShapeFields) (file : ℕ) (t : ServerState) : Type 0 where
  pub file_is : t.file ≡ file
  pub shape_is : t.shape ≡ shape
  pub from : 1 ≤ t.epoch
  pub talks : (n : ℕ) → TalkOf was nodes file t n
  pub held : All (IsCurrent t) (requests t)

-- a command that has no answer was sent
pub outstanding_sent : (was : Sent) (nodes : ℕ → NodeState) (shape : ShapeFields) (file : ℕ) (t : ServerState) → Serves was nodes shape file t → (n : ℕ) (row : Row) (m : Message) → t.rows n ≡ Some row → row.outstanding ≡ Some m → was m
outstanding_sent was nodes shape file t serves n row m there is = ((serves.talks n).waits row m there is).0

-- the outstanding command of the row waits for this answer with that number, which gives the row the new token
pub record Awaits (k : ℕ) (outstanding : Option Message) (old : Token) (answer : Message) (new : Token) : Type 0 where
  pub command : Message
  pub waiting : outstanding ≡ Some command
  pub plain : is_hello (Some command) ≡ false
  pub number : (file n i l : ℕ) → IsCommandTo file n i l command → k ≡ l
  pub token : settled old command answer ≡ new

pub awaits_taken : (k : ℕ) (o : Option Message) (t : Token) (answer : Message) → is_grant k o ≡ true → Awaits k o t answer t
awaits_taken k (Some (Grant f l call mode span)) t answer h = record { command = Grant f l call mode span; waiting = refl; plain = refl; number = λ file n i j to. sym (eqb-true l k h) ∙ to.1; token = refl }
awaits_taken k None t answer h = absurd (cc)
awaits_taken k (Some m) t answer h = absurd (cc)

-- the command is a Revoke of that number and mode
pub record Revokes (k : ℕ) (mode : Mode) (o : Option Message) : Type 0 where
  pub command : Message
  pub waiting : o ≡ Some command
  pub plain : is_hello (Some command) ≡ false
  pub number : (file n i l : ℕ) → IsCommandTo file n i l command → k ≡ l
  pub lowers : (t : Token) (f l : ℕ) (h : Host) (c : CallId) (span : Range) → settled t command (Released f l h c span) ≡ lowered t span mode
  pub keeps : (t : Token) (f l : ℕ) (h : Host) (c : CallId) (lock : LockInfo) → settled t command (Conflict f l h c lock) ≡ t

pub revokes : (k : ℕ) (mode : Mode) (o : Option Message) → revoked_mode k o ≡ Some mode → Revokes k mode o
revokes k mode (Some (Revoke f l holder call m wanted)) h =
    elim (l == k) as (λ b. (l == k) ≡ b → (if b then Some m else None) ≡ Some mode → Revokes k mode (Some (Revoke f l holder call m wanted))) [
      | true ↦ λ is h. record {
        command = Revoke f l holder call m wanted;
        waiting = refl;
        plain = refl;
        number = λ file n i j to. sym (eqb-true l k is) ∙ to.1;
        lowers = λ t g j x c span. ap (λ (y : Mode). lowered t span y) (same_Some m mode h);
        keeps = λ t g j x c lock. refl;
      }
      | false ↦ λ is h. absurd (none-some mode h)
    ] refl h
revokes k mode None h = absurd (cc)
revokes k mode (Some m) h = absurd (cc)

-- the message denies a call of a node that is known
abbrev pub IsDenial : (Host → Type 0) → Message → Type 0
IsDenial known (Deny file call holder number lock) = known (host_of_call call)
IsDenial known _ = ⊥

pub denial_command : (known : Host → Type 0) (file n i k : ℕ) (m : Message) → IsDenial known m → IsCommandTo file n i k m → ⊥
denial_command known file n i k (Deny f call holder number lock) is to = to
denial_command known file n i k m is to = is

pub denial_answer : (known : Host → Type 0) (file n i k : ℕ) (m : Message) → IsDenial known m → IsAnswerOf file n i k m → ⊥
denial_answer known file n i k (Deny f call holder number lock) is of = of
denial_answer known file n i k m is of = is

pub denial_known : (known : Host → Type 0) (m : Message) → IsDenial known m → known (host_of m)
denial_known known (Deny f call holder number lock) is = is
denial_known known m is = absurd is

has_some : {A : Type 0} (o : Option A) → is_some o ≡ true → (x : A) × (o ≡ Some x)
has_some None h = absurd (cc)
has_some (Some x) h = (x, refl)

-- a row of a later incarnation stays
above_stays : (j : ℕ) (o : Option Row) (r : Row) → o ≡ Some r → j < r.incarnation → is_some (row_above j o) ≡ true
above_stays j None r h above = absurd (none-some r h)
above_stays j (Some x) r h above =
    let of : x.incarnation ≡ r.incarnation = ap (λ (y : Row). y.incarnation) (same_Some x r h) in
    ap (λ (b : Bool). is_some (if b then None else Some x)) (lt-leb x.incarnation j (omega arith))

module _ (was : Sent) (nodes : ℕ → NodeState) (shape : ShapeFields) (file : ℕ) (t : ServerState) (serves : Serves was nodes shape file t) where
  module _ (n j : ℕ) (older : j < (nodes n).incarnation) where
    -- a request that is not forgotten is still of the incarnation after the dead ones
    current_forgets : (r : TokenRequest) → IsCurrent t r → is_up_to n j r ≡ false → IsCurrent (forgotten t n j) r
    current_forgets r c young = record {
      of = at_number r.call.node n (λ b. r.call.incarnation ≡ (if b then max (t.dead r.call.node) j else t.dead r.call.node) + 1)
          (λ same. let above = kept same in let of = c.of in omega arith)
          (λ other. c.of);
      within = c.within;
      has_row = at_number r.call.node n (λ b. is_some (if b then row_above j (t.rows r.call.node) else t.rows r.call.node) ≡ true)
          (λ same.
          let row = has_some (t.rows r.call.node) c.has_row in
          let aged = (serves.talks r.call.node).aged row.0 row.1 in
          let above = kept same in
          let of = c.of in
          above_stays j (t.rows r.call.node) row.0 row.1 (omega arith))
          (λ other. c.has_row);
    }
      where
        kept : r.call.node ≡ n → j < r.call.incarnation
        kept same = elim (cases_lt j r.call.incarnation) [
          | inl above ↦ above
          | inr old ↦ absurd (both_ways (is_up_to n j r) young (and_from (r.call.node == n) (nat_le r.call.incarnation j) (eq-eqb r.call.node n same) (le-leb r.call.incarnation j old)))
        ]

    pub forgets : Serves was nodes shape file (forgotten t n j)
    forgets = record {
      file_is = serves.file_is;
      shape_is = serves.shape_is;
      from = serves.from;
      talks = λ m. at_number m n (λ b. Talk was file m (nodes m).incarnation (owing_nothing ((nodes m).files file)) (if b then row_above j (t.rows m) else t.rows m) (if b then max (t.dead m) j else t.dead m) (begin t))
          (λ same.
          let before : j < (nodes m).incarnation = subst (λ (k : ℕ). j < (nodes k).incarnation) (sym same) older in
          talk-forgets was file m (nodes m).incarnation (owing_nothing ((nodes m).files file)) (t.dead m) (begin t) j before (t.rows m) (serves.talks m))
          (λ other. serves.talks m);
      held = All-both (IsCurrent t) (λ r. not (is_up_to n j r) ≡ true) (IsCurrent (forgotten t n j)) (λ r c young. current_forgets r c (not-true (is_up_to n j r) young)) (requests (forgotten t n j)) (forgotten-each (IsCurrent t) t n j serves.held) (forgotten-young t n j);
    }

  -- a new row of a node keeps its requests current
  pub current_row : (n : ℕ) (row : Row) (r : TokenRequest) → IsCurrent t r → IsCurrent (with_row t n (Some row)) r
  current_row n row r c = record {
    of = c.of;
    within = c.within;
    has_row = at_number r.call.node n (λ b. is_some (if b then Some row else t.rows r.call.node) ≡ true) (λ same. refl) (λ other. c.has_row);
  }

  put_row : (n : ℕ) (row : Row) → Talk was file n (nodes n).incarnation (owing_nothing ((nodes n).files file)) (Some row) (t.dead n) (begin t) → Serves was nodes shape file (with_row t n (Some row))
  put_row n row talk = record {
    file_is = serves.file_is;
    shape_is = serves.shape_is;
    from = serves.from;
    talks = λ m. at_number m n (λ b. Talk was file m (nodes m).incarnation (owing_nothing ((nodes m).files file)) (if b then Some row else t.rows m) (t.dead m) (begin t))
        (λ same. subst (λ (k : ℕ). Talk was file k (nodes k).incarnation (owing_nothing ((nodes k).files file)) (Some row) (t.dead k) (begin t)) (sym same) talk)
        (λ other. serves.talks m);
    held = All-weaker (IsCurrent t) (IsCurrent (with_row t n (Some row))) (current_row n row) (requests t) serves.held;
  }

  talk_with : (n : ℕ) (row : Option Row) → t.rows n ≡ row → Talk was file n (nodes n).incarnation (owing_nothing ((nodes n).files file)) row (t.dead n) (begin t)
  talk_with n row is = subst (λ (o : Option Row). Talk was file n (nodes n).incarnation (owing_nothing ((nodes n).files file)) o (t.dead n) (begin t)) is (serves.talks n)

  -- a row for a node that has none
  pub makes_row : (call : CallId) (row : Option Row) → t.rows call.node ≡ row → call.incarnation ≡ t.dead call.node + 1 → (m : Message) × was m × IsHostOf call.node call.incarnation (host_of m) → Serves was nodes shape file (with_a_row t call row)
  makes_row call None is of name = put_row call.node (empty_row (begin t) call.incarnation) (talk-row was file call.node (nodes call.node).incarnation (owing_nothing ((nodes call.node).files file)) (t.dead call.node) (begin t) call.incarnation of (talk_with call.node None is) name)
  makes_row call (Some row) is of name = serves

  -- other requests of the incarnations after the dead ones
  abbrev Holds : ServerState → Type 0
  Holds u = All (IsCurrent t) (requests u) → Serves was nodes shape file u

  moves : WhateverRequests Holds t
  moves active queue waiting held =
      let u : ServerState = record t { active = active; queue = queue; waiting = waiting } in
      record {
        file_is = serves.file_is;
        shape_is = serves.shape_is;
        from = serves.from;
        talks = serves.talks;
        held = All-weaker (IsCurrent t) (IsCurrent u) (λ r c. record { of = c.of; within = c.within; has_row = c.has_row }) (requests u) held;
      }

  -- one more request is queued
  pub queues : (r : TokenRequest) → IsCurrent t r → Serves was nodes shape file (enqueued t r)
  queues r current = enqueued-stays Holds t moves r (enqueued-each (IsCurrent t) t r current serves.held)

  -- what waits is asked for again
  pub requeues : Serves was nodes shape file (requeued t)
  requeues = moves t.active (t.queue ++ t.waiting) [] (requeued-each (IsCurrent t) t serves.held)

  pub frees : (row : Option Row) → Serves was nodes shape file (freed t row)
  frees row = freed-stays Holds t moves row (freed-each (IsCurrent t) t row serves.held)

  -- the answer that a row waits for
  pub acknowledges : (n k : ℕ) (row : Row) (answer : Message) (token : Token) → was answer → is_answer answer ≡ true → IsAnswerOf file n row.incarnation k answer → t.rows n ≡ Some row → Awaits k row.outstanding row.token answer token → Serves was nodes shape file (acknowledged t n row token)
  acknowledges n k row answer token told answers_it of there w =
      let P : Token → Type 0 = λ x. Serves was nodes shape file (acknowledged t n row x) in
      let sent = ((serves.talks n).waits row w.command there w.waiting).1 in
      subst P w.token (put_row n (answered_row row w.command answer)
      (talk-answered was file n (nodes n).incarnation (owing_nothing ((nodes n).files file)) row (t.dead n) (begin t) k w.command answer told answers_it of w.waiting w.plain (w.number file n row.incarnation row.number sent) (talk_with n (Some row) there)))

  -- a node that is asked for its token tells it
  pub hears : (n k : ℕ) (row : Row) (h : Host) (runs : List TokenRun) → was (Report file k h runs) → IsHostOf n row.incarnation h → t.rows n ≡ Some row → (command : Message) → row.outstanding ≡ Some command → is_hello (Some command) ≡ true → ((f l i j : ℕ) → IsCommandTo f l i j command → k ≡ j) → Serves was nodes shape file (acknowledged t n row (reported runs))
  hears n k row h runs told of there command waiting hello number =
      let sent = ((serves.talks n).waits row command there waiting).1 in
      put_row n (cleared_row row (reported runs))
      (talk-heard was file n (nodes n).incarnation (owing_nothing ((nodes n).files file)) row (t.dead n) (begin t) k h runs told of (ap is_hello waiting ∙ hello) (number file n row.incarnation row.number sent) (talk_with n (Some row) there))

  -- a request is served no longer, or waits from then on
  pub ends : (call : CallId) → Serves was nodes shape file (ended call t)
  ends call = moves (filter (λ r. not (is_of_call call r)) t.active) t.queue t.waiting (ended-each (IsCurrent t) call t serves.held)

  pub postpones : (call : CallId) → Serves was nodes shape file (postponed call t)
  postpones call = moves (filter (λ r. not (is_of_call call r)) t.active) t.queue (t.waiting ++ put_off (request_of call t.active)) (postponed-each (IsCurrent t) call t serves.held)

  -- a denial is of a call of a node that is known
  denies : (known : Host → Type 0) → ((m : Message) → was m → known (host_of m)) → (call : CallId) (holder : Host) (number : ℕ) (lock : LockInfo) (own : Option TokenRequest) → IfSome own (IsCurrent t) → IfSome own (λ r. is_of_call call r ≡ true) → Only (IsDenial known) (denial (Deny t.file call holder number lock) own)
  denies known all_known call holder number lock None current is = only_none (IsDenial known)
  denies known all_known call holder number lock (Some r) current is =
      let deny = Deny t.file call holder number lock in
      let same = and_parts (r.call.node == call.node) _ is in
      let node : r.call.node ≡ call.node = eqb-true r.call.node call.node same.0 in
      let incarnation : r.call.incarnation ≡ call.incarnation = eqb-true r.call.incarnation call.incarnation (and_parts (r.call.incarnation == call.incarnation) _ same.1).0 in
      let row = has_some (t.rows r.call.node) current.has_row in
      let aged = (serves.talks r.call.node).aged row.0 row.1 in
      let name = (serves.talks r.call.node).named row.0 row.1 in
      let nodes_are : (host_of name.0).node ≡ call.node = name.2.0 ∙ node in
      let incarnations_are : (host_of name.0).incarnation ≡ call.incarnation = name.2.1 ∙ (aged ∙ (sym current.of ∙ incarnation)) in
      let host_is : host_of name.0 ≡ host_of_call call = λ i. record { node = nodes_are i; incarnation = incarnations_are i } in
      if_either (Only (IsDenial known)) (same_blocking r.blocking No) _ _ (only_one (IsDenial known) deny (subst known host_is (all_known name.0 name.1))) (only_none (IsDenial known))

-- a row is there once it was made
row_made : (t : ServerState) (call : CallId) (row : Option Row) → t.rows call.node ≡ row → is_some ((with_a_row t call row).rows call.node) ≡ true
row_made t call None is = at_number call.node call.node (λ b. is_some (if b then Some (empty_row (begin t) call.incarnation) else t.rows call.node) ≡ true) (λ same. refl) (λ other. absurd (other refl))
row_made t call (Some row) is = ap (λ (o : Option Row). is_some o) is

same_shape : (t : ServerState) (call : CallId) (row : Option Row) → (with_a_row t call row).shape ≡ t.shape
same_shape t call None = refl
same_shape t call (Some row) = refl

-- the row of an incarnation is a row of it
pub row_found : (i : ℕ) (o : Option Row) (row : Row) → row_of_incarnation i o ≡ Some row → (o ≡ Some row) × (row.incarnation ≡ i)
row_found i None row h = absurd (none-some row h)
row_found i (Some x) row h =
    elim (x.incarnation == i) as (λ b. (x.incarnation == i) ≡ b → (if b then Some x else None) ≡ Some row → (Some x ≡ Some row) × (row.incarnation ≡ i)) [
      | true ↦ λ is h. (h, ap (λ (y : Row). y.incarnation) (sym (same_Some x row h)) ∙ eqb-true x.incarnation i is)
      | false ↦ λ is h. absurd (none-some row h)
    ] refl h

pub same_dead : (t : ServerState) (call : CallId) (row : Option Row) → (with_a_row t call row).dead ≡ t.dead
same_dead t call None = refl
same_dead t call (Some row) = refl

-- the change after which the server serves, with denials at most as messages
abbrev pub IsServing : Sent → (Host → Type 0) → (ℕ → NodeState) → ShapeFields → ℕ → Change → Type 0
IsServing was known nodes shape file x = Serves was nodes shape file x.0 × Only (IsDenial known) x.1

module _ (was : Sent) (known_host : Host → Type 0) (all_known : (m : Message) → was m → known_host (host_of m)) (nodes : ℕ → NodeState) (shape : ShapeFields) (file : ℕ) (t : ServerState) (serves : Serves was nodes shape file t) where
  -- a Request of an incarnation that is not known as dead
  pub asks : (r : TokenRequest) → (m : Message) × was m × IsHostOf r.call.node r.call.incarnation (host_of m) → is_within t.shape.nodes r.call.node ≡ true → t.dead r.call.node < r.call.incarnation → r.call.incarnation ≤ (nodes r.call.node).incarnation → Serves was nodes shape file (asked t r)
  asks r name within alive known =
      let young = forgotten t r.call.node (r.call.incarnation - 1) in
      let first : Serves was nodes shape file young = forgets was nodes shape file t serves r.call.node (r.call.incarnation - 1) (omega arith) in
      let row = young.rows r.call.node in
      let of : r.call.incarnation ≡ young.dead r.call.node + 1 =
      at_number r.call.node r.call.node (λ b. r.call.incarnation ≡ (if b then max (t.dead r.call.node) (r.call.incarnation - 1) else t.dead r.call.node) + 1) (λ same. omega arith) (λ other. absurd (other refl)) in
      let second : Serves was nodes shape file (with_a_row young r.call row) = makes_row was nodes shape file young first r.call row refl of name in
      queues was nodes shape file (with_a_row young r.call row) second r (record {
        of = of ∙ ap (λ (d : ℕ → ℕ). d r.call.node + 1) (sym (same_dead young r.call row));
        within = ap (λ (x : ShapeFields). is_within x.nodes r.call.node) (same_shape young r.call row) ∙ within;
        has_row = row_made young r.call row refl;
      })

  -- an answer that the row waits for
  answers_taken : (number : ℕ) (call : CallId) (row : Option Row) (x : Change) → was (Taken file number call) → row_of_host t (host_of_call call) ≡ row → taken t number call row ≡ Some x → IsServing was known_host nodes shape file x
  answers_taken number call None x told there h = absurd (none-some x h)
  answers_taken number call (Some row) x told there h =
      let found = row_found call.incarnation (t.rows call.node) row there in
      let next = acknowledged t call.node row row.token in
      elim (is_grant number row.outstanding) as (λ b. is_grant number row.outstanding ≡ b → (if b then Some (ended call next, []) else None) ≡ Some x → IsServing was known_host nodes shape file x) [
        | true ↦ λ fits h.
            let after : Serves was nodes shape file next = acknowledges was nodes shape file t serves call.node number row (Taken file number call) row.token told refl (refl, refl, refl, sym found.1) found.0 (awaits_taken number row.outstanding row.token (Taken file number call) fits) in
            subst (IsServing was known_host nodes shape file) (same_Some (ended call next, []) x h) (ends was nodes shape file next after call, only_none (IsDenial known_host))
        | false ↦ λ fits h. absurd (none-some x h)
      ] refl h

  answers_released : (number : ℕ) (holder : Host) (call : CallId) (span : Range) (row : Option Row) (x : Change) → was (Released file number holder call span) → row_of_host t holder ≡ row → released t number holder span row ≡ Some x → IsServing was known_host nodes shape file x
  answers_released number holder call span None x told there h = absurd (none-some x h)
  answers_released number holder call span (Some row) x told there h =
      let found = row_found holder.incarnation (t.rows holder.node) row there in
      let answer = Released file number holder call span in
      let next : Mode → ServerState = λ mode. acknowledged t holder.node row (lowered row.token span mode) in
      elim (revoked_mode number row.outstanding) as (λ o. revoked_mode number row.outstanding ≡ o → option_map (λ (mode : Mode). let c : Change = (next mode, []) in c) o ≡ Some x → IsServing was known_host nodes shape file x) [
        | Some mode ↦ λ fits h.
            let r = revokes number mode row.outstanding fits in
            let w : Awaits number row.outstanding row.token answer (lowered row.token span mode) = record { command = r.command; waiting = r.waiting; plain = r.plain; number = r.number; token = r.lowers row.token file number holder call span } in
            let after : Serves was nodes shape file (next mode) = acknowledges was nodes shape file t serves holder.node number row answer (lowered row.token span mode) told refl (refl, refl, refl, sym found.1) found.0 w in
            subst (IsServing was known_host nodes shape file) (same_Some (next mode, []) x h) (after, only_none (IsDenial known_host))
        | None ↦ λ fits h. absurd (none-some x h)
      ] refl h

  answers_conflict : (number : ℕ) (holder : Host) (call : CallId) (lock : LockInfo) (row : Option Row) (x : Change) → was (Conflict file number holder call lock) → row_of_host t holder ≡ row → in_conflict t number holder call lock row ≡ Some x → IsServing was known_host nodes shape file x
  answers_conflict number holder call lock None x told there h = absurd (none-some x h)
  answers_conflict number holder call lock (Some row) x told there h =
      let found = row_found holder.incarnation (t.rows holder.node) row there in
      let answer = Conflict file number holder call lock in
      let next = acknowledged t holder.node row row.token in
      let own = request_of call t.active in
      let deny = denial (Deny t.file call holder number lock) own in
      elim (revoked_mode number row.outstanding) as (λ o. revoked_mode number row.outstanding ≡ o → option_map (λ (mode : Mode). let c : Change = (postponed call next, deny) in c) o ≡ Some x → IsServing was known_host nodes shape file x) [
        | Some mode ↦ λ fits h.
            let r = revokes number mode row.outstanding fits in
            let w : Awaits number row.outstanding row.token answer row.token = record { command = r.command; waiting = r.waiting; plain = r.plain; number = r.number; token = r.keeps row.token file number holder call lock } in
            let after : Serves was nodes shape file next = acknowledges was nodes shape file t serves holder.node number row answer row.token told refl (refl, refl, refl, sym found.1) found.0 w in
            subst (IsServing was known_host nodes shape file) (same_Some (postponed call next, deny) x h) (postpones was nodes shape file next after call, denies was nodes shape file t serves known_host all_known call holder number lock own (find-each (IsCurrent t) (is_of_call call) t.active (active-each (IsCurrent t) t serves.held)) (find-passes (is_of_call call) t.active))
        | None ↦ λ fits h. absurd (none-some x h)
      ] refl h

  -- a Hello with that number
  asks_hello : (k : ℕ) (o : Option Message) → asks_token k o ≡ true → (command : Message) × (o ≡ Some command) × (is_hello (Some command) ≡ true) × ((f l i j : ℕ) → IsCommandTo f l i j command → k ≡ j)
  asks_hello k None h = absurd (cc)
  asks_hello k (Some (Hello f l holder)) h = (Hello f l holder, refl, refl, λ g n i j to. sym (eqb-true l k h) ∙ to.1)
  asks_hello k (Some m) h = absurd (cc)

  answers_report : (number : ℕ) (holder : Host) (runs : List TokenRun) (row : Option Row) (x : Change) → was (Report file number holder runs) → row_of_host t holder ≡ row → heard t number holder runs row ≡ Some x → IsServing was known_host nodes shape file x
  answers_report number holder runs None x told there h = absurd (none-some x h)
  answers_report number holder runs (Some row) x told there h =
      let found = row_found holder.incarnation (t.rows holder.node) row there in
      let next = acknowledged t holder.node row (reported runs) in
      elim (asks_token number row.outstanding) as (λ b. asks_token number row.outstanding ≡ b → (if b then Some (next, []) else None) ≡ Some x → IsServing was known_host nodes shape file x) [
        | true ↦ λ fits h.
            let a = asks_hello number row.outstanding fits in
            let after : Serves was nodes shape file next = hears was nodes shape file t serves holder.node number row holder runs told (refl, sym found.1) found.0 a.0 a.1 a.2 a.3 in
            subst (IsServing was known_host nodes shape file) (same_Some (next, []) x h) (after, only_none (IsDenial known_host))
        | false ↦ λ fits h. absurd (none-some x h)
      ] refl h

  -- what a message changes
  pub changes : (m : Message) → was m → addressee m ≡ AServer file → (host_of m).incarnation ≤ (nodes (host_of m).node).incarnation → is_within t.shape.nodes (host_of m).node ≡ true → t.dead (host_of m).node < (host_of m).incarnation → (x : Change) → delivered t m ≡ Some x → IsServing was known_host nodes shape file x
  changes (Request f call blocking mode wanted) told to known within alive x h =
      let r : TokenRequest = record { call = call; blocking = blocking; mode = mode; wanted = wanted } in
      subst (IsServing was known_host nodes shape file) (same_Some (asked t r, []) x h) (asks r (Request f call blocking mode wanted, told, (refl, refl)) within alive known, only_none (IsDenial known_host))
  changes (Taken f number call) told to known within alive x h =
      let same : f ≡ file = cc in
      answers_taken number call (row_of_host t (host_of_call call)) x (subst (λ (g : ℕ). was (Taken g number call)) same told) refl h
  changes (Released f number holder call span) told to known within alive x h =
      let same : f ≡ file = cc in
      answers_released number holder call span (row_of_host t holder) x (subst (λ (g : ℕ). was (Released g number holder call span)) same told) refl h
  changes (Conflict f number holder call lock) told to known within alive x h =
      let same : f ≡ file = cc in
      answers_conflict number holder call lock (row_of_host t holder) x (subst (λ (g : ℕ). was (Conflict g number holder call lock)) same told) refl h
  changes (Freed f holder) told to known within alive x h =
      let row = row_of_host t holder in
      subst (IsServing was known_host nodes shape file) (same_Some (freed t row, []) x h) (frees was nodes shape file t serves row, only_none (IsDenial known_host))
  changes (Report f number holder runs) told to known within alive x h =
      let same : f ≡ file = cc in
      answers_report number holder runs (row_of_host t holder) x (subst (λ (g : ℕ). was (Report g number holder runs)) same told) refl h
  changes m told to known within alive x h = absurd (none-some x h)

-- requests come from the queue
pub readies : (was : Sent) (nodes : ℕ → NodeState) (shape : ShapeFields) (file : ℕ) (t : ServerState) → Serves was nodes shape file t → Serves was nodes shape file (ready t)
readies was nodes shape file t serves = ready-stays (Holds was nodes shape file t serves) t (moves was nodes shape file t serves) (ready-each (IsCurrent t) t serves.held)

-- no byte of the span that is granted is one on which another node's row conflicts
module _ (t : ServerState) (r : TokenRequest) (unblocked : nat_le (conflicting_node t r) t.shape.nodes ≡ false) where
  free_row : (n : ℕ) → 1 ≤ n → n ≤ t.shape.nodes → conflicts_at t r n ≡ false
  free_row n least most =
      let past = leb-false (conflicting_node t r) t.shape.nodes unblocked in
      (first_is_first (conflicts_at t r) 1 t.shape.nodes).none_before n least (omega arith)

  free_byte : (n b : ℕ) → conflicts_at t r n ≡ false → r.wanted.required.lo ≤ b → b ≤ r.wanted.required.hi → conflicts_at_byte t r n b ≡ true → ⊥
  free_byte n b free above below here =
      let both = and_parts (not (n == r.call.node)) (row_conflicts_at (t.rows n) b r.mode) here in
      elim (cases_Bool (row_conflicts (t.rows n) r.wanted.required r.mode)) [
        | inl conflicts ↦ both_ways (conflicts_at t r n) free (and_from (not (n == r.call.node)) (row_conflicts (t.rows n) r.wanted.required r.mode) both.0 conflicts)
        | inr none ↦ row_free (t.rows n) r.wanted.required r.mode none b above below both.1
      ]

  none_taken : NoneIn (λ b. is_taken t r b ≡ true) r.wanted.required
  none_taken b above below some =
      let one = some_passes-first (λ n. conflicts_at_byte t r n b) 1 t.shape.nodes some in
      let under = one.below in
      free_byte (first (λ n. conflicts_at_byte t r n b) 1 t.shape.nodes) b (free_row (first (λ n. conflicts_at_byte t r n b) 1 t.shape.nodes) one.above (omega arith)) above below one.here

  pub span_free : (n b : ℕ) → is_within t.shape.nodes n ≡ true → (n ≡ r.call.node → ⊥) → is_in (granted_span t r) b ≡ true → row_conflicts_at (t.rows n) b r.mode ≡ false
  span_free n b within other here =
      let bounds = and_parts (nat_le 1 n) (nat_le n t.shape.nodes) within in
      let least = leb-true 1 n bounds.0 in
      let most = leb-true n t.shape.nodes bounds.1 in
      let span = granted_span t r in
      let ends = and_parts (nat_le span.lo b) (nat_le b span.hi) here in
      let free : is_taken t r b ≡ false = false_from_ne_true (is_taken t r b) (around_free (is_taken t r) r.wanted.required (narrowed t.active r) none_taken b (leb-true span.lo b ends.0) (leb-true b span.hi ends.1)) in
      let none : conflicts_at_byte t r n b ≡ false = some_passes-none (λ k. conflicts_at_byte t r k b) 1 t.shape.nodes n free least (omega arith) in
      false_from_ne_true (row_conflicts_at (t.rows n) b r.mode) (λ conflicts. both_ways (conflicts_at_byte t r n b) none (and_from (not (n == r.call.node)) (row_conflicts_at (t.rows n) b r.mode) (not_from_false (n == r.call.node) (ne_eqb n r.call.node other)) conflicts))

-- no other node's row conflicts with what a Grant to the node raises
abbrev pub IsFreeFor : ServerState → ℕ → Message → Type 0
IsFreeFor t node (Grant f k call mode span) = (n b : ℕ) → is_within t.shape.nodes n ≡ true → (n ≡ node → ⊥) → is_in span b ≡ true → row_conflicts_at (t.rows n) b mode ≡ false
IsFreeFor t node _ = Unit {0}

-- each node that was asked for its token has reported it
abbrev pub AllTold : ServerState → Type 0
AllTold t = (n : ℕ) → is_within t.shape.nodes n ≡ true → is_awaited (t.rows n) ≡ false

all_told : (t : ServerState) → awaits t ≡ false → AllTold t
all_told t none n within =
    let bounds = and_parts (nat_le 1 n) (nat_le n t.shape.nodes) within in
    let least = leb-true 1 n bounds.0 in
    let most = leb-true n t.shape.nodes bounds.1 in
    some_passes-none (λ k. is_awaited (t.rows k)) 1 t.shape.nodes n none least (omega arith)

-- the server sends a command to a node of which it waits for no answer
pub record Commands (was : Sent) (nodes : ℕ → NodeState) (shape : ShapeFields) (file : ℕ) (v : ServerState) (sends : List Message) : Type 0 where
  pub state : ServerState
  pub serves : Serves was nodes shape file state
  pub node : ℕ
  pub row : Row
  pub there : state.rows node ≡ Some row
  pub idle : row.outstanding ≡ None
  pub heard : AllTold state
  pub few : row.number + 1 < begin state + in_epoch
  pub command : Message
  pub plain : is_hello (Some command) ≡ false
  pub to : IsCommandTo file node row.incarnation (row.number + 1) command
  pub free : IsFreeFor state node command
  pub next : v ≡ with_row state node (Some (commanded_row row command))
  pub sent : sends ≡ command ∷ []

-- what serving one request sends: nothing, or one command
abbrev pub Served : Sent → (ℕ → NodeState) → ShapeFields → ℕ → ServerState → List Message → Type 0
Served was nodes shape file v sends = (Serves was nodes shape file v × (sends ≡ [])) ⊎ Commands was nodes shape file v sends

none_outstanding : (o : Option Message) → is_some o ≡ false → o ≡ None
none_outstanding None h = refl
none_outstanding (Some m) h = absurd (cc)

-- the requests of the one server are of the other, and if each node has reported its token to the one, it has to the other
pub record Keeps (t v : ServerState) : Type 0 where
  pub requests : (r : TokenRequest) → IsCurrent t r → IsCurrent v r
  pub told : AllTold t → AllTold v

keeps_all : (t : ServerState) → Keeps t t
keeps_all t = record { requests = λ r current. current; told = λ told. told }

module _ (was : Sent) (nodes : ℕ → NodeState) (shape : ShapeFields) (file : ℕ) (t : ServerState) (serves : Serves was nodes shape file t) (told : AllTold t) (v : ServerState) (sends : List Message) where
  abbrev ServedHere : Type 0
  ServedHere = Served was nodes shape file v sends × Keeps t v

  still : ◌≡◌ {A = Result (ServerState × List Message) StepError} (Ok (t, [])) (Ok (v, sends)) → ServedHere
  still h =
      let same = ok_is (t, []) (v, sends) h in
      let P : ServerState × List Message → Type 0 = λ x. Serves was nodes shape file x.0 × (x.1 ≡ []) in
      let Q : ServerState × List Message → Type 0 = λ x. Keeps t x.0 in
      (inl (subst P same (serves, refl)), subst Q same (keeps_all t))

  commands : (n : ℕ) (row : Row) (command : Message) → t.rows n ≡ Some row → is_hello (Some command) ≡ false → IsCommandTo file n row.incarnation (row.number + 1) command → IsFreeFor t n command → commanded t n row (promised row.token command) command ≡ Ok (v, sends) → ServedHere
  commands n row command there plain to free h =
      let later = with_row t n (Some (commanded_row row command)) in
      let R : Type 0 = Result (ServerState × List Message) StepError in
      let few : Bool = nat_lt row.number (begin t + greatest_number) in
      elim (is_some row.outstanding) as (λ b. is_some row.outstanding ≡ b → ◌≡◌ {A = R} (if b then Ok (t, []) else (if few then Ok (later, command ∷ []) else Err Spent)) (Ok (v, sends)) → ServedHere) [
        | true ↦ λ is h. still h
        | false ↦ λ is h. elim few as (λ b. few ≡ b → ◌≡◌ {A = R} (if b then Ok (later, command ∷ []) else Err Spent) (Ok (v, sends)) → ServedHere) [
          | true ↦ λ left h.
              let under = ltb-true row.number (begin t + greatest_number) left in
              let same = ok_is (later, command ∷ []) (v, sends) h in
              let Q : ServerState × List Message → Type 0 = λ x. Keeps t x.0 in (
                inr (record {
                  state = t;
                  serves = serves;
                  node = n;
                  row = row;
                  there = there;
                  idle = none_outstanding row.outstanding is;
                  heard = told;
                  few = omega arith;
                  command = command;
                  plain = plain;
                  to = to;
                  free = free;
                  next = ap (λ (x : ServerState × List Message). x.0) (sym same);
                  sent = ap (λ (x : ServerState × List Message). x.1) (sym same);
                }),
                subst Q same (record {
                  requests = current_row was nodes shape file t serves n (commanded_row row command);
                  told = λ all k within. at_number k n (λ b. is_awaited (if b then Some (commanded_row row command) else t.rows k) ≡ false) (λ same. plain) (λ other. all k within);
                }),
              )
          | false ↦ λ left h. absurd (cc)
        ] refl h
      ] refl h

  grants : (r : TokenRequest) → IsCurrent t r → nat_le (conflicting_node t r) t.shape.nodes ≡ false → (row : Option Row) → t.rows r.call.node ≡ row → granted_to t r row ≡ Ok (v, sends) → ServedHere
  grants r current unblocked None there h = still h
  grants r current unblocked (Some row) there h =
      let aged = (serves.talks r.call.node).aged row there in
      commands r.call.node row (Grant t.file (row.number + 1) r.call r.mode (granted_span t r)) there refl (serves.file_is, refl, refl, current.of ∙ sym aged) (span_free t r unblocked) h

  revokes_from : (r : TokenRequest) (n : ℕ) (row : Option Row) → t.rows n ≡ row → revoked_from t r n row ≡ Ok (v, sends) → ServedHere
  revokes_from r n None there h = still h
  revokes_from r n (Some row) there h =
      commands n row (Revoke t.file (row.number + 1) (record { node = n; incarnation = row.incarnation }) r.call r.mode (record { required = r.wanted.required; desired = narrowed t.active r })) there refl (serves.file_is, refl, refl, refl) tt h

  -- a request is served
  pub serves_one : (r : TokenRequest) → IsCurrent t r → served t r ≡ Ok (v, sends) → ServedHere
  serves_one r current h =
      let R : Type 0 = Result (ServerState × List Message) StepError in
      let n = conflicting_node t r in
      elim (nat_le n t.shape.nodes) as (λ b. nat_le n t.shape.nodes ≡ b → ◌≡◌ {A = R} (if b then revoked_from t r n (t.rows n) else granted_to t r (t.rows r.call.node)) (Ok (v, sends)) → ServedHere) [
        | true ↦ λ blocked h. revokes_from r n (t.rows n) refl h
        | false ↦ λ unblocked h. grants r current unblocked (t.rows r.call.node) refl h
      ] refl h

-- a step of the server sends nothing, or serves
abbrev pub Serving : Sent → (ℕ → NodeState) → ShapeFields → ℕ → ServerState → List Message → Type 0
Serving was nodes shape file v sends =
    (Serves was nodes shape file v × (sends ≡ [])) ⊎ ((begun : ServerState) × Serves was nodes shape file begun × AllTold begun × (each_served begun.active begun ≡ Ok (v, sends)))

-- the server serves, after each node has reported its token
pub serve_serves : (was : Sent) (nodes : ℕ → NodeState) (shape : ShapeFields) (file : ℕ) (t : ServerState) → Serves was nodes shape file t → (v : ServerState) (sends : List Message) → serve t ≡ Ok (v, sends) → Serving was nodes shape file v sends
serve_serves was nodes shape file t serves v sends h =
    let next = ready t in
    let R : Type 0 = Result (ServerState × List Message) StepError in
    elim (awaits t) as (λ b. awaits t ≡ b → ◌≡◌ {A = R} (if b then Ok (t, []) else each_served next.active next) (Ok (v, sends)) → Serving was nodes shape file v sends) [
      | true ↦ λ waits h.
          let P : ServerState × List Message → Type 0 = λ x. Serves was nodes shape file x.0 × (x.1 ≡ []) in
          inl (subst P (ok_is (t, []) (v, sends) h) (serves, refl))
      | false ↦ λ told h. inr (next, readies was nodes shape file t serves, all_told t told, h)
    ] refl h

-- the messages of a step: denials, and what serving sends
pub record Answered (was : Sent) (known_host : Host → Type 0) (nodes : ℕ → NodeState) (shape : ShapeFields) (file : ℕ) (v : ServerState) (sends : List Message) : Type 0 where
  pub denied : List Message
  pub fresh : List Message
  pub sent : sends ≡ denied ++ fresh
  pub denials : Only (IsDenial known_host) denied
  pub served : Serving was nodes shape file v fresh

module _ (was : Sent) (known_host : Host → Type 0) (all_known : (m : Message) → was m → known_host (host_of m)) (nodes : ℕ → NodeState) (shape : ShapeFields) (file : ℕ) (t : ServerState) (serves : Serves was nodes shape file t) (v : ServerState) (o : Outcome) where
  outcome_is : (c : ServerState) (before fresh : List Message) → ◌≡◌ {A = Result (ServerState × Outcome) StepError} (Ok (c, sending (before ++ fresh))) (Ok (v, o)) → Only (IsDenial known_host) before → Serving was nodes shape file c fresh → Answered was known_host nodes shape file v o.sends
  outcome_is c before fresh h denials served =
      let P : ServerState × Outcome → Type 0 = λ x. Answered was known_host nodes shape file x.0 x.1.sends in
      subst P (ok_is (c, sending (before ++ fresh)) (v, o) h) (record { denied = before; fresh = fresh; sent = refl; denials = denials; served = served })

  serves_changed : (x : Change) → IsServing was known_host nodes shape file x → (r : Result (ServerState × List Message) StepError) → serve x.0 ≡ r → sending_first x.1 r ≡ Ok (v, o) → Answered was known_host nodes shape file v o.sends
  serves_changed x after (Err e) is h = absurd (cc)
  serves_changed x after (Ok done) is h = outcome_is done.0 x.1 done.1 h after.1 (serve_serves was nodes shape file x.0 after.0 done.0 done.1 is)

  serves_if : (c : Option Change) → ((x : Change) → c ≡ Some x → IsServing was known_host nodes shape file x) → then_serve t (Ok c) ≡ Ok (v, o) → Answered was known_host nodes shape file v o.sends
  serves_if None after h = outcome_is t [] [] h (only_none (IsDenial known_host)) (inl (serves, refl))
  serves_if (Some x) after h = serves_changed x (after x refl) (serve x.0) refl h

  serves_unless : (r : Result (Option Change) StepError) → ((c : Option Change) → r ≡ Ok c → (x : Change) → c ≡ Some x → IsServing was known_host nodes shape file x) → then_serve t r ≡ Ok (v, o) → Answered was known_host nodes shape file v o.sends
  serves_unless (Err e) after h = absurd (cc)
  serves_unless (Ok c) after h = serves_if c (after c refl) h

  -- a message changes the server only where its incarnation is not known as dead
  pub receives : (m : Message) → was m → addressee m ≡ AServer file → (host_of m).incarnation ≤ (nodes (host_of m).node).incarnation → server_rule t (Deliver m) ≡ Ok (v, o) → Answered was known_host nodes shape file v o.sends
  receives m told to known h = serves_unless (change t m) (λ c is x made.
      let done = change_done t m c is in
      elim done.1 [
        | inl none ↦ absurd (none-some x (none ∙ made))
        | inr live ↦ changes was known_host all_known nodes shape file t serves m told to known done.0 (leb-false (host_of m).incarnation (t.dead (host_of m).node) live.0) x (live.1 ∙ made)
      ]) h
