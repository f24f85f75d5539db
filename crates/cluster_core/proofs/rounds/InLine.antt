-- A call that has an active or a queued request keeps it, unless it is granted or meets a lock.
use Rattle.std.specs.Prelude.{◌≡◌, ◌⊎◌, ℕ, ◌-◌, ◌<◌, ◌≤◌, Bool, true, false, not, cond, ◌&&◌, ◌||◌, nat_le, List, [], ◌∷◌, ◌++◌, filter, IfSome, option_map, Option, Some, None, Result, Ok, Err}
use Rattle.std.specs.List.{list_any}
use Rattle.std.proofs.Common.{refl, sym, ap, subst, ◌∙◌, inl, inr, arith}
use Rattle.std.proofs.lemmas.Bool.{leb-true, or_left, or_right}
use Rattle.std.proofs.lemmas.List.Folds.{list_any-append}
use Rattle.messages.specs.rule.TokenRuns.{Wants}
use Rattle.messages.specs.declared.message.Blocking.{Blocking}
use Rattle.messages.specs.declared.actor.Actor.TheVariants.{Server as AServer}
use Rattle.token_server.proofs.CareLaws.{find-passes}
use Rattle.model.specs.declared.call.CallId.{CallId}
use Rattle.model.specs.declared.mode.Mode.{Mode}
use Rattle.model.specs.rule.Owners.{host_of_call}
use Rattle.messages.specs.declared.refusal.StepError.{StepError}
use Rattle.messages.specs.declared.refusal.StepError.TheVariants.{Stranger}
use Rattle.messages.specs.rule.Messages.{reported, addressee, host_of, is_within, sending}
use Rattle.messages.specs.declared.event.ServerInput.TheVariants.{Resend, Learn}
use Rattle.messages.specs.declared.message.Message.{Message}
use Rattle.messages.specs.declared.message.Message.TheVariants.{Request, Grant, Revoke, Taken, Released, Conflict, Deny, Freed, Hello, Report}
use Rattle.messages.specs.declared.outcome.Outcome.{Outcome}
use Rattle.messages.proofs.SameMessages.{call_exact, call_refl}
use Rattle.token_set.specs.rule.Tokens.{lowered}
use Rattle.token_server.specs.declared.token_queue.token_request.TokenRequest.{TokenRequest}
use Rattle.token_server.specs.declared.event.ServerEvent.TheVariants.{Input, Deliver}
use Rattle.token_server.specs.rule.Requests.{is_of_call, is_up_to}
use Rattle.token_server.specs.rule.Rows.{Row, is_grant, revoked_mode, asks_token}
use Rattle.token_server.specs.rule.State.{ServerState, awaits, forgotten, requeued}
use Rattle.token_server.specs.rule.Serve.{each_served, ready, serve}
use Rattle.token_server.specs.rule.Resends.{outstanding, sending_first}
use Rattle.token_server.specs.rule.Server.{Change, with_a_row, request_of, enqueued_with, enqueued, asked, acknowledged, ended, postponed, denial, taken, released, in_conflict, heard, row_of_host, freed, delivered, is_server, then_serve, server_rule}
use Rattle.token_server.proofs.WaitLaws.{Has, has-front, IsLost, kept-or_lost, lost-dead, admitted-has}
use Rattle.cluster_core.specs.rule.Serving.{IsInLine, IsGone, EndsRequest, KeepsWhatIsInLine}
use Rattle.cluster_core.proofs.rounds.Turns.{Left, each-left}

-- what a change leaves of the call's request
abbrev pub Stays : CallId → ServerState → Type 0
Stays call s = IsInLine call s ⊎ IsGone call s

filtered : (call : CallId) (stays : TokenRequest → Bool) (s : ServerState) → IsInLine call s → (Has call (filter stays s.active) ⊎ Has call (filter stays s.queue)) ⊎ IsLost (is_of_call call) stays
filtered call stays s (inl h) = elim (kept-or_lost (is_of_call call) stays s.active h) [ inl here ↦ inl (inl here) | inr lost ↦ inr lost ]
filtered call stays s (inr h) = elim (kept-or_lost (is_of_call call) stays s.queue h) [ inl here ↦ inl (inr here) | inr lost ↦ inr lost ]

forgotten-stays : (call : CallId) (s : ServerState) (node incarnation : ℕ) → IsInLine call s → Stays call (forgotten s node incarnation)
forgotten-stays call s node incarnation h = elim (filtered call (λ r. not (is_up_to node incarnation r)) s h) [
  | inl kept ↦ inl kept
  | inr lost ↦ inr (lost-dead lost.which.call call node incarnation s.dead lost.passes lost.goes)
]

requeued-stays : (call : CallId) (s : ServerState) → Stays call s → Stays call (requeued s)
requeued-stays call s (inl (inl h)) = inl (inl h)
requeued-stays call s (inl (inr h)) = inl (inr (has-front call s.queue s.waiting h))
requeued-stays call s (inr gone) = inr gone

enqueued_with-stays : (call : CallId) (s : ServerState) (r : TokenRequest) (own : Option TokenRequest) → Stays call s → Stays call (enqueued_with s r own)
enqueued_with-stays call s r None (inl (inl h)) = inl (inl h)
enqueued_with-stays call s r None (inl (inr h)) = inl (inr (has-front call s.queue (r ∷ []) h))
enqueued_with-stays call s r None (inr gone) = inr gone
enqueued_with-stays call s r (Some own) (inl (inl h)) = inl (inl h)
enqueued_with-stays call s r (Some own) (inl (inr h)) = inl (inr (has-front call s.queue (own ∷ []) h))
enqueued_with-stays call s r (Some own) (inr gone) = inr gone

enqueued-stays : (call : CallId) (s : ServerState) (r : TokenRequest) → Stays call s → Stays call (enqueued s r)
enqueued-stays call s r h = elim (list_any (is_of_call r.call) s.active || list_any (is_of_call r.call) s.queue) as (λ b. Stays call (cond b s (enqueued_with s r (request_of r.call s.waiting)))) [
  | true ↦ h
  | false ↦ enqueued_with-stays call s r (request_of r.call s.waiting) h
]

with_row-stays : (call : CallId) (young : ServerState) (own : CallId) (row : Option Row) → Stays call young → Stays call (with_a_row young own row)
with_row-stays call young own None h = h
with_row-stays call young own (Some row) h = h

asked-stays : (call : CallId) (s : ServerState) (r : TokenRequest) → IsInLine call s → Stays call (asked s r)
asked-stays call s r h =
    let young = forgotten s r.call.node (r.call.incarnation - 1) in
    let row = young.rows r.call.node in
    enqueued-stays call (with_a_row young r.call row) r (with_row-stays call young r.call row (forgotten-stays call s r.call.node (r.call.incarnation - 1) h))

-- a request of a call that goes with those of another is of that call
same_one : (call own : CallId) (r : TokenRequest) → is_of_call call r ≡ true → not (is_of_call own r) ≡ false → own ≡ call
same_one call own r here goes = sym (call_exact r.call own (its (is_of_call own r) goes)) ∙ call_exact r.call call here
  where
    its : (b : Bool) → not b ≡ false → b ≡ true
    its true h = refl
    its false h = absurd (cc)

-- what a change leaves, unless it ends the request
abbrev Changes : CallId → Type 0 → Option Change → Type 0
Changes call E o = IfSome o (λ changed. Stays call changed.0 ⊎ E)

delivered-stays : (call : CallId) (s : ServerState) (m : Message) → IsInLine call s → Changes call (EndsRequest s call m) (delivered s m)
delivered-stays call s (Request file own blocking mode wanted) h = inl (asked-stays call s (record { call = own; blocking = blocking; mode = mode; wanted = wanted }) h)
delivered-stays call s (Taken file number own) h = by (row_of_host s (host_of_call own)) refl
  where
    by : (row : Option Row) → row_of_host s (host_of_call own) ≡ row → Changes call (EndsRequest s call (Taken file number own)) (taken s number own row)
    by None there = tt
    by (Some row) there = elim (is_grant number row.outstanding) as (λ b. is_grant number row.outstanding ≡ b → Changes call (EndsRequest s call (Taken file number own)) (cond b (Some (ended own (acknowledged s own.node row row.token), [])) None)) [
      | true ↦ λ fits. ends fits (kept-or_lost-active h)
      | false ↦ λ other. tt
    ] refl
      where
        kept-or_lost-active : IsInLine call s → IsInLine call (ended own (acknowledged s own.node row row.token)) ⊎ IsLost (is_of_call call) (λ r. not (is_of_call own r))
        kept-or_lost-active (inl active) = elim (kept-or_lost (is_of_call call) (λ r. not (is_of_call own r)) s.active active) [ inl here ↦ inl (inl here) | inr lost ↦ inr lost ]
        kept-or_lost-active (inr queued) = inl (inr queued)

        ends : is_grant number row.outstanding ≡ true → IsInLine call (ended own (acknowledged s own.node row row.token)) ⊎ IsLost (is_of_call call) (λ r. not (is_of_call own r)) → Stays call (ended own (acknowledged s own.node row row.token)) ⊎ EndsRequest s call (Taken file number own)
        ends fits (inl kept) = inl (inl kept)
        ends fits (inr lost) = inr (same_one call own lost.which lost.passes lost.goes, row, there, fits)
delivered-stays call s (Released file number holder own span) h = by (row_of_host s holder)
  where
    by : (row : Option Row) → Changes call (EndsRequest s call (Released file number holder own span)) (released s number holder span row)
    by None = tt
    by (Some row) = elim (revoked_mode number row.outstanding) as (λ o. Changes call (EndsRequest s call (Released file number holder own span)) (option_map (λ (mode : Mode). let c : Change = (acknowledged s holder.node row (lowered row.token span mode), []) in c) o)) [ None ↦ tt | Some mode ↦ inl (inl h) ]
delivered-stays call s (Conflict file number holder own lock) h = by (row_of_host s holder) refl
  where
    by : (row : Option Row) → row_of_host s holder ≡ row → Changes call (EndsRequest s call (Conflict file number holder own lock)) (in_conflict s number holder own lock row)
    by None there = tt
    by (Some row) there =
        let next = postponed own (acknowledged s holder.node row row.token) in
        let deny = denial (Deny s.file own holder number lock) (request_of own s.active) in
        elim (revoked_mode number row.outstanding) as (λ o. revoked_mode number row.outstanding ≡ o → Changes call (EndsRequest s call (Conflict file number holder own lock)) (option_map (λ (mode : Mode). let c : Change = (next, deny) in c) o)) [
          | None ↦ λ none. tt
          | Some mode ↦ λ fits. ends mode fits h
        ] refl
      where
        ends : (mode : Mode) → revoked_mode number row.outstanding ≡ Some mode → IsInLine call s → Stays call (postponed own (acknowledged s holder.node row row.token)) ⊎ EndsRequest s call (Conflict file number holder own lock)
        ends mode fits (inr queued) = inl (inl (inr queued))
        ends mode fits (inl active) = elim (kept-or_lost (is_of_call call) (λ r. not (is_of_call own r)) s.active active) [
          | inl here ↦ inl (inl (inl here))
          | inr lost ↦ inr (same_one call own lost.which lost.passes lost.goes, active, row, mode, there, fits)
        ]
delivered-stays call s (Freed file holder) h = by (row_of_host s holder)
  where
    by : (row : Option Row) → Stays call (freed s row) ⊎ EndsRequest s call (Freed file holder)
    by None = inl (inl h)
    by (Some row) = inl (requeued-stays call s (inl h))
delivered-stays call s (Report file number holder runs) h = by (row_of_host s holder)
  where
    by : (row : Option Row) → Changes call (EndsRequest s call (Report file number holder runs)) (heard s number holder runs row)
    by None = tt
    by (Some row) = elim (asks_token number row.outstanding) as (λ b. Changes call (EndsRequest s call (Report file number holder runs)) (cond b (Some (acknowledged s holder.node row (reported runs), [])) None)) [ true ↦ inl (inl h) | false ↦ tt ]
delivered-stays call s (Grant file number own mode span) h = tt
delivered-stays call s (Revoke file number holder own mode wanted) h = tt
delivered-stays call s (Deny file own holder number lock) h = tt
delivered-stays call s (Hello file number holder) h = tt

-- admission and serving leave it
serve-stays : (call : CallId) (s t : ServerState) (out : List Message) → Stays call s → serve s ≡ Ok (t, out) → Stays call t
serve-stays call s t out h is = by (awaits s) is
  where
    left : Left (ready s) t → Stays call t
    left l = elim h [
      | inl served ↦ inl (elim (admitted-has call s.active [] s.queue (elim served [ inl active ↦ inl (inl active) | inr queued ↦ inr queued ])) [
        | inl active ↦ inl (ap (list_any (is_of_call call)) l.active ∙ active)
        | inr queued ↦ inr (ap (list_any (is_of_call call)) l.queue ∙ queued)
      ])
      | inr gone ↦ inr (subst (λ (d : ℕ → ℕ). call.incarnation ≤ d call.node) (sym l.dead) gone)
    ]

    by : (b : Bool) → cond b (Ok (s, [])) (each_served (ready s).active (ready s)) ≡ Ok (t, out) → Stays call t
    by true is =
        let pair : ◌≡◌ {A = ServerState × List Message} (s, []) (t, out) = cc in
        subst (Stays call) (ap (λ (p : ServerState × List Message). p.0) pair) h
    by false is = left (each-left (ready s).active (ready s) t out is)

pub sent-stays : (call : CallId) (s : ServerState) (commands : List Message) (new : ServerState) (out : Outcome) → Stays call s → sending_first commands (serve s) ≡ Ok (new, out) → Stays call new
sent-stays call s commands new out h is = by (serve s) refl is
  where
    by : (x : Result (ServerState × List Message) StepError) → serve s ≡ x → sending_first commands x ≡ Ok (new, out) → Stays call new
    by (Err e) was is = absurd (cc)
    by (Ok done) was is =
        let pair : ◌≡◌ {A = ServerState × Outcome} (done.0, sending (commands ++ done.1)) (new, out) = cc in
        subst (Stays call) (ap (λ (p : ServerState × Outcome). p.0) pair) (serve-stays call s done.0 done.1 h was)

pub in_line-kept : KeepsWhatIsInLine
in_line-kept s (Deliver m) new out call is h = by (not (is_server s.file (addressee m) && is_within s.shape.nodes (host_of m).node)) (nat_le (host_of m).incarnation (s.dead (host_of m).node)) is
  where
    changed : (o : Option Change) → Changes call (EndsRequest s call m) o → then_serve s (Ok o) ≡ Ok (new, out) → Stays call new ⊎ EndsRequest s call m
    changed None c is =
        let pair : ◌≡◌ {A = ServerState × Outcome} (s, sending []) (new, out) = cc in
        inl (subst (Stays call) (ap (λ (p : ServerState × Outcome). p.0) pair) (inl h))
    changed (Some x) (inl stays) is = inl (sent-stays call x.0 x.1 new out stays is)
    changed (Some x) (inr ends) is = inr ends

    by : (stranger dead : Bool) → then_serve s (cond stranger (Err Stranger) (cond dead (Ok None) (Ok (delivered s m)))) ≡ Ok (new, out) → Stays call new ⊎ EndsRequest s call m
    by true dead is = absurd (cc)
    by false true is = changed None tt is
    by false false is = changed (delivered s m) (delivered-stays call s m h) is
in_line-kept s (Input Resend) new out call is h = inl (sent-stays call (requeued s) (outstanding s) new out (requeued-stays call s (inl h)) is)
in_line-kept s (Input (Learn node i)) new out call is h = by (not (is_within s.shape.nodes node)) is
  where
    by : (stranger : Bool) → cond stranger (Err Stranger) (sending_first [] (serve (requeued (forgotten s node i)))) ≡ Ok (new, out) → (IsInLine call new ⊎ IsGone call new) ⊎ ⊥
    by true is = absurd (cc)
    by false is = inl (sent-stays call (requeued (forgotten s node i)) [] new out (requeued-stays call (forgotten s node i) (forgotten-stays call s node i h)) is)

-- the last request of a list is one of the list
has_last : (call : CallId) (rs : List TokenRequest) (r : TokenRequest) → is_of_call call r ≡ true → Has call (rs ++ r ∷ [])
has_last call rs r own = list_any-append (is_of_call call) rs (r ∷ []) ∙ or_right (list_any (is_of_call call) rs) (is_of_call call r || false) (or_left (is_of_call call r) false own)

enqueued_with-in_line : (t : ServerState) (r : TokenRequest) (o : Option TokenRequest) → request_of r.call t.waiting ≡ o → IsInLine r.call (enqueued_with t r o)
enqueued_with-in_line t r None is = inr (has_last r.call t.queue r (call_refl r.call))
enqueued_with-in_line t r (Some own) is = inr (has_last r.call t.queue own (subst (λ (o : Option TokenRequest). IfSome o (λ q. is_of_call r.call q ≡ true)) is (find-passes (is_of_call r.call) t.waiting)))

enqueued-in_line : (t : ServerState) (r : TokenRequest) → IsInLine r.call (enqueued t r)
enqueued-in_line t r = by (list_any (is_of_call r.call) t.active) (list_any (is_of_call r.call) t.queue) refl refl
  where
    by : (a q : Bool) → list_any (is_of_call r.call) t.active ≡ a → list_any (is_of_call r.call) t.queue ≡ q → IsInLine r.call (cond (a || q) t (enqueued_with t r (request_of r.call t.waiting)))
    by true q active queued = inl active
    by false true active queued = inr queued
    by false false active queued = enqueued_with-in_line t r (request_of r.call t.waiting) refl

-- a call whose request was delivered is in line, unless its incarnation is known to be dead
pub request-in_line : (s : ServerState) (file : ℕ) (call : CallId) (blocking : Blocking) (mode : Mode) (wanted : Wants) (new : ServerState) (out : Outcome) → s.dead call.node < call.incarnation → server_rule s (Deliver (Request file call blocking mode wanted)) ≡ Ok (new, out) → Stays call new
request-in_line s file call blocking mode wanted new out lives is = by (not (is_server s.file (AServer file) && is_within s.shape.nodes call.node)) (nat_le call.incarnation (s.dead call.node)) refl is
  where
    r : TokenRequest
    r = record { call = call; blocking = blocking; mode = mode; wanted = wanted }

    young : ServerState
    young = forgotten s call.node (call.incarnation - 1)

    by : (stranger dead : Bool) → nat_le call.incarnation (s.dead call.node) ≡ dead → then_serve s (cond stranger (Err Stranger) (cond dead (Ok None) (Ok (Some (asked s r, []))))) ≡ Ok (new, out) → Stays call new
    by true dead known is = absurd (cc)
    by false true known is = absurd (let old = leb-true call.incarnation (s.dead call.node) known in omega arith)
    by false false known is = sent-stays call (asked s r) [] new out (inl (enqueued-in_line (with_a_row young call (young.rows call.node)) r)) is
