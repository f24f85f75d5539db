-- What a token server keeps and sends follows from what it is sent.
use Rattle.std.specs.Prelude.{max, pred, IfSome, is_some, nat_le, nat_lt, ◌==◌, filter, filter_map, option_map}
use Rattle.std.specs.List.{range_with_len, cons_option}
use Rattle.std.proofs.Common.{◌≡◌, ℕ, ◌+◌, ◌-◌, ◌<◌, ◌≤◌, Bool, true, false, not, ◌&&◌, if◌then◌else◌, ◌⊎◌, inl, inr, refl, sym, ◌∙◌, ap, subst, arith, List, [], ◌∷◌, ◌++◌, All, Option, Some, None, Result, Ok, Err}
use Rattle.std.proofs.lemmas.Bool.{and_parts, both_ways, leb-true, leb-false, ltb-true, eq-eqb, not-true}
use Rattle.std.proofs.lemmas.Option.{none-some, same_Some}
use Rattle.std.proofs.lemmas.List.Elements.{All-nil, All-cons, All-head, All-tail, All-append, All-weaker}
use Rattle.intervals.specs.rule.Bytes.{Range, largest_around}
use Rattle.intervals.specs.rule.Search.{first}
use Rattle.intervals.proofs.SearchLaws.{first_is_first}
use Rattle.model.specs.declared.call.CallId.{CallId}
use Rattle.model.specs.declared.host.Host.{Host}
use Rattle.model.specs.declared.lock_info.LockInfo.{LockInfo}
use Rattle.model.specs.declared.mode.Mode.{Mode}
use Rattle.model.specs.rule.Owners.{host_of_call}
use Rattle.token_set.specs.rule.Tokens.{Token, raised, lowered}
use Rattle.messages.specs.declared.event.ServerInput.{ServerInput}
use Rattle.messages.specs.declared.event.ServerInput.TheVariants.{Resend, Learn}
use Rattle.messages.specs.rule.TokenRuns.{Wants}
use Rattle.messages.specs.declared.message.Blocking.TheVariants.{No}
use Rattle.messages.specs.declared.message.Message.{Message}
use Rattle.messages.specs.declared.message.Message.TheVariants.{Request, Grant, Revoke, Taken, Released, Conflict, Deny, Freed, Hello, Report}
use Rattle.messages.specs.declared.token_run.TokenRun.{TokenRun}
use Rattle.messages.specs.rule.Messages.{reported, addressee, host_of, is_within, greatest_number, same_blocking, sending}
use Rattle.messages.specs.declared.outcome.Outcome.{Outcome}
use Rattle.messages.specs.declared.refusal.StepError.{StepError}
use Rattle.messages.specs.declared.refusal.StepError.TheVariants.{Stranger, Spent}
use Rattle.token_server.specs.declared.token_queue.token_request.TokenRequest.{TokenRequest}
use Rattle.token_server.specs.declared.event.ServerEvent.TheVariants.{Input, Deliver}
use Rattle.token_server.specs.rule.Requests.{is_of_call}
use Rattle.token_server.specs.rule.Rows.{Row, empty_row, row_above, row_conflicts, outstanding_of, is_grant, revoked_mode, asks_token}
use Rattle.token_server.specs.rule.State.{ServerState, begin, awaits, with_row, forgotten, requests, requeued}
use Rattle.token_server.specs.rule.Serve.{is_needed, narrowed, is_taken, conflicting_node, granted_span, commanded, granted_to, revoked_from, served, with_more, and_then, each_served, ready, serve}
use Rattle.token_server.specs.rule.Resends.{outstanding, sending_first}
use Rattle.token_server.specs.rule.Server.{Change, with_a_row, request_of, enqueued, asked, acknowledged, ended, put_off, postponed, denial, taken, released, in_conflict, heard, row_of_host, freed, delivered, is_server, change, then_serve, server_rule}
use Rattle.token_server.proofs.GrantLaws.{narrowed-largest, narrowed-holds}
use Rattle.token_server.proofs.CareLaws.{find-each, find-passes, requests-parts, active-each, ready-each, requeued-each, freed-each, ended-each, postponed-each, forgotten-each, enqueued-each}
use Rattle.cluster_core.proofs.common.Choices.{if_either}
use Rattle.cluster_core.proofs.common.Refusals.{ok_is, if_ours}
use Rattle.cluster_core.proofs.steps.ServerMoves.{WhateverRequests, enqueued-stays, freed-stays, ready-stays}

row_above_kept : (i : ℕ) (o : Option Row) (r : Row) → row_above i o ≡ Some r → o ≡ Some r
row_above_kept i None r h = h
row_above_kept i (Some row) r h = elim (nat_le row.incarnation i) as (λ b. (if b then None else Some row) ≡ Some r → Some row ≡ Some r) [ true ↦ λ x. absurd (none-some r x) | false ↦ λ x. x ] h

-- a message that is not refused changes the server unless it is of a dead incarnation
pub change_done : (t : ServerState) (m : Message) (o : Option Change) → change t m ≡ Ok o → (is_within t.shape.nodes (host_of m).node ≡ true) × ((None ≡ o) ⊎ ((nat_le (host_of m).incarnation (t.dead (host_of m).node) ≡ false) × (delivered t m ≡ o)))
change_done t m o h =
    let is = if_ours (is_server t.file (addressee m)) (is_within t.shape.nodes (host_of m).node) (nat_le (host_of m).incarnation (t.dead (host_of m).node)) None (delivered t m) o Stranger h in
    (is.1, elim is.2 [ inl dead ↦ inl dead.1 | inr live ↦ inr live ])

-- the node that is to give up bytes is another one than that of the call
other_node : (s : ServerState) (r : TokenRequest) → nat_le (conflicting_node s r) s.shape.nodes ≡ true → conflicting_node s r ≡ r.call.node → ⊥
other_node s r some same =
    let test : ℕ → Bool = λ n. not (n == r.call.node) && row_conflicts (s.rows n) r.wanted.required r.mode in
    let le = leb-true (conflicting_node s r) s.shape.nodes some in
    let here = (first_is_first test 1 s.shape.nodes).here (omega arith) in
    let other = (and_parts (not (conflicting_node s r == r.call.node)) (row_conflicts (s.rows (conflicting_node s r)) r.wanted.required r.mode) here).0 in
    both_ways (conflicting_node s r == r.call.node) (not-true (conflicting_node s r == r.call.node) other) (eq-eqb (conflicting_node s r) r.call.node same)

pub mapped : (C : Message → Type 0) (f : ℕ → Option Message) (ns : List ℕ) → ((n : ℕ) (m : Message) → f n ≡ Some m → C m) → All C (filter_map f ns)
mapped C f [] each = All-nil C
mapped C f (n ∷ ns) each =
    let rest = mapped C f ns each in
    elim (f n) as (λ o. f n ≡ o → All C (cons_option o (filter_map f ns))) [ None ↦ λ h. rest | Some m ↦ λ h. All-cons C m (filter_map f ns) (each n m h) rest ] refl

-- the largest span ends no later than the required one or the one within which it is sought
around_end : (barred : ℕ → Bool) (required within : Range) → (largest_around barred required within).hi ≤ max required.hi within.hi
around_end barred required within = before (first barred (required.hi + 1) (within.hi - required.hi)) required.hi within.hi (first_is_first barred (required.hi + 1) (within.hi - required.hi)).within
  where
    before : (k r w : ℕ) → k ≤ r + 1 + (w - r) → pred k ≤ max r w
    before k r w h = omega arith

-- the granted span ends no later than the required or the desired one
granted_end : (t : ServerState) (r : TokenRequest) → (granted_span t r).hi ≤ max r.wanted.required.hi r.wanted.desired.hi
granted_end t r =
    let likes = around_end (is_needed t.active r) r.wanted.required r.wanted.desired in
    let free = around_end (is_taken t r) r.wanted.required (narrowed t.active r) in
    omega arith

-- the span holds the bytes that the request needs, if these are some, among the desired ones
abbrev pub HoldsNeeded : TokenRequest → Range → Type 0
HoldsNeeded r span = r.wanted.required.lo ≤ r.wanted.required.hi → r.wanted.desired.lo ≤ r.wanted.required.lo → r.wanted.required.hi ≤ r.wanted.desired.hi → (span.lo ≤ r.wanted.required.lo) × (r.wanted.required.hi ≤ span.hi)

-- the granted span holds them, where no other node's row conflicts with them
granted_holds : (t : ServerState) (r : TokenRequest) → nat_le (conflicting_node t r) t.shape.nodes ≡ false → HoldsNeeded r (granted_span t r)
granted_holds t r free order starts ends =
    let l = narrowed-largest t.active r order starts ends in
    let none : t.shape.nodes < conflicting_node t r = leb-false (conflicting_node t r) t.shape.nodes free in
    narrowed-holds t r t.shape.nodes (granted_span t r) none (omega arith) (record { order = order; starts = l.has_first; ends = l.has_last; value = refl })

-- H holds of the requests that a server keeps, C of its outstanding commands, and K of their numbers
pub record Comes (file : ℕ) (K : ℕ → Type 0) (H : TokenRequest → Type 0) (C : Message → Type 0) (t : ServerState) : Type 0 where
  pub file_is : t.file ≡ file
  pub held : All H (requests t)
  pub outstanding : (n : ℕ) (row : Row) (m : Message) → t.rows n ≡ Some row → row.outstanding ≡ Some m → C m
  pub numbers : (number : ℕ) → number ≤ begin t + greatest_number → K number

pub comes-weaker : (file : ℕ) (K : ℕ → Type 0) (H G : TokenRequest → Type 0) (C D : Message → Type 0) (t : ServerState) → ((r : TokenRequest) → H r → G r) → ((m : Message) → C m → D m) → Comes file K H C t → Comes file K G D t
comes-weaker file K H G C D t to told c = record {
  file_is = c.file_is;
  held = All-weaker H G to (requests t) c.held;
  outstanding = λ n row m there h. told m (c.outstanding n row m there h);
  numbers = c.numbers;
}

-- any number will do
abbrev pub AnyNumber : ℕ → Type 0
AnyNumber number = Unit {0}

-- the server makes commands of which C holds, of requests of which H does
pub record Makes (file : ℕ) (K : ℕ → Type 0) (H : TokenRequest → Type 0) (C : Message → Type 0) : Type 0 where
  pub grants : (number : ℕ) (r : TokenRequest) (span : Range) → K number → H r → span.hi ≤ max r.wanted.required.hi r.wanted.desired.hi → HoldsNeeded r span → C (Grant file number r.call r.mode span)
  pub revokes : (number : ℕ) (holder : Host) (r : TokenRequest) (desired : Range) → K number → H r → (holder.node ≡ r.call.node → ⊥) → C (Revoke file number holder r.call r.mode (record { required = r.wanted.required; desired = desired }))

-- the denial of a call whose request the server keeps and which doesn't wait is a message of which C holds
abbrev pub MayDeny : (TokenRequest → Type 0) → (Message → Type 0) → CallId → Message → Type 0
MayDeny H C call deny = (r : TokenRequest) → H r → is_of_call call r ≡ true → same_blocking r.blocking No ≡ true → C deny

-- a message gives the server requests of which H holds
abbrev pub Tells : ℕ → (TokenRequest → Type 0) → (Message → Type 0) → Message → Type 0
Tells file H C (Request f call blocking mode wanted) = H (record { call = call; blocking = blocking; mode = mode; wanted = wanted })
Tells file H C (Conflict f number holder call lock) = MayDeny H C call (Deny file call holder number lock)
Tells file H C _ = Unit {0}

module _ (file : ℕ) (K : ℕ → Type 0) (H : TokenRequest → Type 0) (C : Message → Type 0) (makes : Makes file K H C) where
  -- the facts of the server with other requests of which H holds
  abbrev Holds : ServerState → Type 0
  Holds u = All H (requests u) → Comes file K H C u

  moved-comes : (t : ServerState) → Comes file K H C t → WhateverRequests Holds t
  moved-comes t c active queue waiting held = record { file_is = c.file_is; held = held; outstanding = c.outstanding; numbers = c.numbers }

  with_row-comes : (t : ServerState) (n : ℕ) (row : Row) → ((m : Message) → row.outstanding ≡ Some m → C m) → Comes file K H C t → Comes file K H C (with_row t n (Some row))
  with_row-comes t n row told c = record {
    file_is = c.file_is;
    held = c.held;
    outstanding = λ k r m there h. elim (k == n) as (λ b. (if b then Some row else t.rows k) ≡ Some r → C m) [
      | true ↦ λ is. told m (ap (λ (x : Row). x.outstanding) (same_Some row r is) ∙ h)
      | false ↦ λ is. c.outstanding k r m is h
    ] there;
    numbers = c.numbers;
  }

  forgotten-comes : (t : ServerState) (node i : ℕ) → Comes file K H C t → Comes file K H C (forgotten t node i)
  forgotten-comes t node i c = record {
    file_is = c.file_is;
    held = forgotten-each H t node i c.held;
    outstanding = λ k r m there h. elim (k == node) as (λ b. (if b then row_above i (t.rows k) else t.rows k) ≡ Some r → C m) [
      | true ↦ λ is. c.outstanding k r m (row_above_kept i (t.rows k) r is) h
      | false ↦ λ is. c.outstanding k r m is h
    ] there;
    numbers = c.numbers;
  }

  with_a_row-comes : (t : ServerState) (call : CallId) (o : Option Row) → Comes file K H C t → Comes file K H C (with_a_row t call o)
  with_a_row-comes t call None c = with_row-comes t call.node (empty_row (begin t) call.incarnation) (λ m h. absurd (none-some m h)) c
  with_a_row-comes t call (Some row) c = c

  enqueued-comes : (t : ServerState) (r : TokenRequest) → H r → Comes file K H C t → Comes file K H C (enqueued t r)
  enqueued-comes t r held c = enqueued-stays Holds t (moved-comes t c) r (enqueued-each H t r held c.held)

  asked-comes : (t : ServerState) (r : TokenRequest) → H r → Comes file K H C t → Comes file K H C (asked t r)
  asked-comes t r held c =
      let young = forgotten t r.call.node (r.call.incarnation - 1) in
      enqueued-comes (with_a_row young r.call (young.rows r.call.node)) r held (with_a_row-comes young r.call (young.rows r.call.node) (forgotten-comes t r.call.node (r.call.incarnation - 1) c))

  acknowledged-comes : (t : ServerState) (node : ℕ) (row : Row) (token : Token) → Comes file K H C t → Comes file K H C (acknowledged t node row token)
  acknowledged-comes t node row token c = with_row-comes t node (record row { token = token; outstanding = None }) (λ m h. absurd (none-some m h)) c

  ended-comes : (t : ServerState) (call : CallId) → Comes file K H C t → Comes file K H C (ended call t)
  ended-comes t call c = moved-comes t c (filter (λ r. not (is_of_call call r)) t.active) t.queue t.waiting (ended-each H call t c.held)

  postponed-comes : (t : ServerState) (call : CallId) → Comes file K H C t → Comes file K H C (postponed call t)
  postponed-comes t call c = moved-comes t c (filter (λ r. not (is_of_call call r)) t.active) t.queue (t.waiting ++ put_off (request_of call t.active)) (postponed-each H call t c.held)

  requeued-comes : (t : ServerState) → Comes file K H C t → Comes file K H C (requeued t)
  requeued-comes t c = moved-comes t c t.active (t.queue ++ t.waiting) [] (requeued-each H t c.held)

  freed-comes : (t : ServerState) (row : Option Row) → Comes file K H C t → Comes file K H C (freed t row)
  freed-comes t row c = freed-stays Holds t (moved-comes t c) row (freed-each H t row c.held)

  -- the facts after a message, and of what is sent for it
  abbrev Changes : Option Change → Type 0
  Changes o = (c : Change) → o ≡ Some c → Comes file K H C c.0 × All C c.1

  changes_none : Changes None
  changes_none c h = absurd (none-some c h)

  changes_one : (x : Change) → Comes file K H C x.0 × All C x.1 → Changes (Some x)
  changes_one x both c h = subst (λ (y : Change). Comes file K H C y.0 × All C y.1) (same_Some x c h) both

  taken-changes : (t : ServerState) (number : ℕ) (call : CallId) (o : Option Row) → Comes file K H C t → Changes (taken t number call o)
  taken-changes t number call None c = changes_none
  taken-changes t number call (Some row) c =
      let next = acknowledged t call.node row row.token in
      elim (is_grant number row.outstanding) as (λ b. Changes (if b then Some (ended call next, []) else None)) [
        | true ↦ changes_one (ended call next, []) (ended-comes next call (acknowledged-comes t call.node row row.token c), All-nil C)
        | false ↦ changes_none
      ]

  released-changes : (t : ServerState) (number : ℕ) (holder : Host) (span : Range) (o : Option Row) → Comes file K H C t → Changes (released t number holder span o)
  released-changes t number holder span None c = changes_none
  released-changes t number holder span (Some row) c =
      let next : Mode → Change = λ mode. (acknowledged t holder.node row (lowered row.token span mode), []) in
      elim (revoked_mode number row.outstanding) as (λ o. Changes (option_map next o)) [
        | None ↦ changes_none
        | Some mode ↦ changes_one (next mode) (acknowledged-comes t holder.node row (lowered row.token span mode) c, All-nil C)
      ]

  denial-sends : (call : CallId) (deny : Message) (o : Option TokenRequest) → IfSome o H → IfSome o (λ r. is_of_call call r ≡ true) → MayDeny H C call deny → All C (denial deny o)
  denial-sends call deny None held own told = All-nil C
  denial-sends call deny (Some r) held own told =
      elim (same_blocking r.blocking No) as (λ b. same_blocking r.blocking No ≡ b → All C (if b then deny ∷ [] else [])) [
        | true ↦ λ is. All-cons C deny [] (told r held own is) (All-nil C)
        | false ↦ λ is. All-nil C
      ] refl

  conflict-changes : (t : ServerState) (number : ℕ) (holder : Host) (call : CallId) (lock : LockInfo) (o : Option Row) → MayDeny H C call (Deny file call holder number lock) → Comes file K H C t → Changes (in_conflict t number holder call lock o)
  conflict-changes t number holder call lock None told c = changes_none
  conflict-changes t number holder call lock (Some row) told c =
      let next = acknowledged t holder.node row row.token in
      let deny = Deny t.file call holder number lock in
      let here : MayDeny H C call deny = subst (λ (f : ℕ). MayDeny H C call (Deny f call holder number lock)) (sym c.file_is) told in
      let made : Mode → Change = λ mode. (postponed call next, denial deny (request_of call t.active)) in
      elim (revoked_mode number row.outstanding) as (λ o. Changes (option_map made o)) [
        | None ↦ changes_none
        | Some mode ↦ changes_one (made mode) (postponed-comes next call (acknowledged-comes t holder.node row row.token c), denial-sends call deny (request_of call t.active) (find-each H (is_of_call call) t.active (requests-parts H t c.held).active) (find-passes (is_of_call call) t.active) here)
      ]

  heard-changes : (t : ServerState) (number : ℕ) (holder : Host) (runs : List TokenRun) (o : Option Row) → Comes file K H C t → Changes (heard t number holder runs o)
  heard-changes t number holder runs None c = changes_none
  heard-changes t number holder runs (Some row) c =
      let next = acknowledged t holder.node row (reported runs) in
      elim (asks_token number row.outstanding) as (λ b. Changes (if b then Some (next, []) else None)) [
        | true ↦ changes_one (next, []) (acknowledged-comes t holder.node row (reported runs) c, All-nil C)
        | false ↦ changes_none
      ]

  delivered-changes : (t : ServerState) (m : Message) → Tells file H C m → Comes file K H C t → Changes (delivered t m)
  delivered-changes t (Request f call blocking mode wanted) told c =
      let r : TokenRequest = record { call = call; blocking = blocking; mode = mode; wanted = wanted } in
      changes_one (asked t r, []) (asked-comes t r told c, All-nil C)
  delivered-changes t (Taken f number call) told c = taken-changes t number call (row_of_host t (host_of_call call)) c
  delivered-changes t (Released f number holder call span) told c = released-changes t number holder span (row_of_host t holder) c
  delivered-changes t (Conflict f number holder call lock) told c = conflict-changes t number holder call lock (row_of_host t holder) told c
  delivered-changes t (Freed f holder) told c =
      let row = row_of_host t holder in
      changes_one (freed t row, []) (freed-comes t row c, All-nil C)
  delivered-changes t (Report f number holder runs) told c = heard-changes t number holder runs (row_of_host t holder) c
  delivered-changes t (Hello f number holder) told c = changes_none
  delivered-changes t (Grant f number call mode span) told c = changes_none
  delivered-changes t (Revoke f number holder call mode wanted) told c = changes_none
  delivered-changes t (Deny f call holder number lock) told c = changes_none

  -- the facts after serving
  abbrev Serves : Result (ServerState × List Message) StepError → Type 0
  Serves r = (done : ServerState × List Message) → r ≡ Ok done → Comes file K H C done.0 × All C done.1

  serves_one : (x : ServerState × List Message) → Comes file K H C x.0 × All C x.1 → Serves (Ok x)
  serves_one x both done h = subst (λ (y : ServerState × List Message). Comes file K H C y.0 × All C y.1) (ok_is x done h) both

  serves_none : (e : StepError) → Serves (Err e)
  serves_none e done h = absurd (cc)

  commanded-serves : (t : ServerState) (node : ℕ) (row : Row) (token : Token) (command : Message) → (row.number + 1 ≤ begin t + greatest_number → C command) → Comes file K H C t → Serves (commanded t node row token command)
  commanded-serves t node row token command told c =
      let next = record row { token = token; number = row.number + 1; outstanding = Some command } in
      let few : Bool = nat_lt row.number (begin t + greatest_number) in
      let R : Type 0 = Result (ServerState × List Message) StepError in
      if_either Serves (is_some row.outstanding) _ _ (serves_one (t, []) (c, All-nil C))
      (elim few as (λ b. few ≡ b → Serves (let x : R = if b then Ok (with_row t node (Some next), command ∷ []) else Err Spent in x)) [
        | true ↦ λ is.
            let under = ltb-true row.number (begin t + greatest_number) is in
            let fits = told (omega arith) in
            serves_one (with_row t node (Some next), command ∷ []) (with_row-comes t node next (λ m h. subst C (same_Some command m h) fits) c, All-cons C command [] fits (All-nil C))
        | false ↦ λ is. serves_none Spent
      ] refl)

  granted-serves : (t : ServerState) (r : TokenRequest) (o : Option Row) → nat_le (conflicting_node t r) t.shape.nodes ≡ false → H r → Comes file K H C t → Serves (granted_to t r o)
  granted-serves t r None free held c = serves_one (t, []) (c, All-nil C)
  granted-serves t r (Some row) free held c =
      let span = granted_span t r in
      commanded-serves t r.call.node row (raised row.token span r.mode) (Grant t.file (row.number + 1) r.call r.mode span) (λ few. subst (λ (f : ℕ). C (Grant f (row.number + 1) r.call r.mode span)) (sym c.file_is) (makes.grants (row.number + 1) r span (c.numbers (row.number + 1) few) held (granted_end t r) (granted_holds t r free))) c

  revoked-serves : (t : ServerState) (r : TokenRequest) (node : ℕ) (o : Option Row) → H r → (node ≡ r.call.node → ⊥) → Comes file K H C t → Serves (revoked_from t r node o)
  revoked-serves t r node None held other c = serves_one (t, []) (c, All-nil C)
  revoked-serves t r node (Some row) held other c =
      let holder : Host = record { node = node; incarnation = row.incarnation } in
      let wanted : Wants = record { required = r.wanted.required; desired = narrowed t.active r } in
      commanded-serves t node row row.token (Revoke t.file (row.number + 1) holder r.call r.mode wanted) (λ few. subst (λ (f : ℕ). C (Revoke f (row.number + 1) holder r.call r.mode wanted)) (sym c.file_is) (makes.revokes (row.number + 1) holder r (narrowed t.active r) (c.numbers (row.number + 1) few) held other)) c

  served-serves : (t : ServerState) (r : TokenRequest) → H r → Comes file K H C t → Serves (served t r)
  served-serves t r held c =
      let node = conflicting_node t r in
      elim (nat_le node t.shape.nodes) as (λ b. nat_le node t.shape.nodes ≡ b → Serves (if b then revoked_from t r node (t.rows node) else granted_to t r (t.rows r.call.node))) [
        | true ↦ λ h. revoked-serves t r node (t.rows node) held (other_node t r h) c
        | false ↦ λ h. granted-serves t r (t.rows r.call.node) h held c
      ] refl

  -- the facts after serving, with messages before those that it sends
  more-serves : (before : List Message) (x : Result (ServerState × List Message) StepError) → All C before → Serves x → Serves (with_more before x)
  more-serves before (Err e) told serves = serves_none e
  more-serves before (Ok done) told serves =
      let both = serves done refl in
      serves_one (done.0, before ++ done.1) (both.0, All-append C before done.1 told both.1)

  then-serves : (x : Result (ServerState × List Message) StepError) (next : ServerState → Result (ServerState × List Message) StepError) → Serves x → ((u : ServerState) → Comes file K H C u → Serves (next u)) → Serves (and_then x next)
  then-serves (Err e) next serves later = serves_none e
  then-serves (Ok done) next serves later =
      let both = serves done refl in
      more-serves done.1 (next done.0) both.1 (later done.0 both.0)

  each-serves : (rs : List TokenRequest) (t : ServerState) → All H rs → Comes file K H C t → Serves (each_served rs t)
  each-serves [] t held c = serves_one (t, []) (c, All-nil C)
  each-serves (r ∷ rest) t held c =
      then-serves (served t r) (each_served rest) (served-serves t r (All-head H r rest held) c) (λ u d. each-serves rest u (All-tail H r rest held) d)

  ready-comes : (t : ServerState) → Comes file K H C t → Comes file K H C (ready t)
  ready-comes t c = ready-stays Holds t (moved-comes t c) (ready-each H t c.held)

  serve-serves : (t : ServerState) → Comes file K H C t → Serves (serve t)
  serve-serves t c =
      let next = ready-comes t c in
      if_either Serves (awaits t) _ _ (serves_one (t, []) (c, All-nil C)) (each-serves (ready t).active (ready t) (active-each H (ready t) next.held) next)

  -- a step of the server
  abbrev pub Steps : Result (ServerState × Outcome) StepError → Type 0
  Steps r = (done : ServerState × Outcome) → r ≡ Ok done → Comes file K H C done.0 × All C done.1.sends

  steps_one : (x : ServerState × Outcome) → Comes file K H C x.0 × All C x.1.sends → Steps (Ok x)
  steps_one x both done h = subst (λ (y : ServerState × Outcome). Comes file K H C y.0 × All C y.1.sends) (ok_is x done h) both

  steps_none : (e : StepError) → Steps (Err e)
  steps_none e done h = absurd (cc)

  sending_first-steps : (first : List Message) (r : Result (ServerState × List Message) StepError) → All C first → Serves r → Steps (sending_first first r)
  sending_first-steps first (Err e) told serves = steps_none e
  sending_first-steps first (Ok done) told serves =
      let both = serves done refl in
      steps_one (done.0, sending (first ++ done.1)) (both.0, All-append C first done.1 told both.1)

  then_serve-steps : (t : ServerState) (r : Result (Option Change) StepError) → Comes file K H C t → ((o : Option Change) → r ≡ Ok o → Changes o) → Steps (then_serve t r)
  then_serve-steps t (Err e) c changes = steps_none e
  then_serve-steps t (Ok None) c changes = steps_one (t, sending []) (c, All-nil C)
  then_serve-steps t (Ok (Some x)) c changes =
      let both = changes (Some x) refl x refl in
      sending_first-steps x.1 (serve x.0) both.1 (serve-serves x.0 both.0)

  change-changes : (t : ServerState) (m : Message) → Tells file H C m → Comes file K H C t → (o : Option Change) → change t m ≡ Ok o → Changes o
  change-changes t m told c o h = elim (change_done t m o h).1 [ inl none ↦ subst Changes none changes_none | inr live ↦ subst Changes live.1 (delivered-changes t m told c) ]

  pub delivered-steps : (t : ServerState) (m : Message) → Tells file H C m → Comes file K H C t → Steps (server_rule t (Deliver m))
  delivered-steps t m told c = then_serve-steps t (change t m) c (change-changes t m told c)

  resend-steps : (t : ServerState) → Comes file K H C t → Steps (server_rule t (Input Resend))
  resend-steps t c = sending_first-steps (outstanding t) (serve (requeued t)) (mapped C (λ node. outstanding_of (t.rows node)) (range_with_len 1 t.shape.nodes) each) (serve-serves (requeued t) (requeued-comes t c))
    where
      kept : (n : ℕ) (m : Message) (o : Option Row) → t.rows n ≡ o → outstanding_of o ≡ Some m → C m
      kept n m None there h = absurd (none-some m h)
      kept n m (Some row) there h = c.outstanding n row m there h

      each : (n : ℕ) (m : Message) → outstanding_of (t.rows n) ≡ Some m → C m
      each n m h = kept n m (t.rows n) refl h

  learn-steps : (t : ServerState) (n i : ℕ) → Comes file K H C t → Steps (server_rule t (Input (Learn n i)))
  learn-steps t n i c =
      let young = requeued (forgotten t n i) in
      if_either Steps (not (is_within t.shape.nodes n)) _ _ (steps_none Stranger) (sending_first-steps [] (serve young) (All-nil C) (serve-serves young (requeued-comes (forgotten t n i) (forgotten-comes t n i c))))

  pub input-steps : (t : ServerState) (input : ServerInput) → Comes file K H C t → Steps (server_rule t (Input input))
  input-steps t Resend c = resend-steps t c
  input-steps t (Learn n i) c = learn-steps t n i c
