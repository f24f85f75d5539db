-- A server is serving when it begins, and after each step.
use Rattle.std.specs.Prelude.{◌≡◌, ℕ, ◌-◌, Bool, true, false, not, cond, ◌&&◌, ◌||◌, nat_le, List, [], ◌++◌, IfSome, option_map, Option, Some, None, Result, Ok, Err}
use Rattle.std.specs.List.{list_any}
use Rattle.std.proofs.Common.{refl, ap, subst, ◌∙◌}
use Rattle.std.proofs.lemmas.List.Elements.{All-nil}
use Rattle.model.specs.declared.call.CallId.{CallId}
use Rattle.model.specs.declared.mode.Mode.{Mode}
use Rattle.model.specs.rule.Owners.{host_of_call}
use Rattle.messages.specs.declared.refusal.StepError.{StepError}
use Rattle.messages.specs.declared.refusal.StepError.TheVariants.{Stranger}
use Rattle.messages.specs.declared.message.Message.{Message}
use Rattle.messages.specs.declared.message.Message.TheVariants.{Request, Grant, Revoke, Taken, Released, Conflict, Deny, Freed, Hello, Report}
use Rattle.messages.specs.declared.outcome.Outcome.{Outcome}
use Rattle.messages.specs.rule.Messages.{addressee, host_of, is_within, sending}
use Rattle.token_set.specs.rule.Tokens.{lowered}
use Rattle.token_server.specs.declared.token_queue.token_request.TokenRequest.{TokenRequest}
use Rattle.token_server.specs.rule.Requests.{is_of_call, is_up_to}
use Rattle.token_server.specs.rule.Rows.{Row, is_grant, revoked_mode, asks_token}
use Rattle.token_server.specs.declared.event.ServerEvent.{ServerEvent}
use Rattle.messages.specs.declared.event.ServerInput.TheVariants.{Resend, Learn}
use Rattle.token_server.specs.declared.event.ServerEvent.TheVariants.{Input, Deliver}
use Rattle.token_server.specs.rule.State.{ServerState, forgotten, requeued, first_server, rebuilt}
use Rattle.token_server.specs.rule.Serve.{serve}
use Rattle.token_server.specs.rule.Resends.{outstanding, sending_first}
use Rattle.token_server.specs.rule.Server.{Change, with_a_row, request_of, enqueued_with, enqueued, asked, acknowledged, ended, postponed, taken, released, in_conflict, heard, row_of_host, freed, delivered, is_server, then_serve, server_rule}
use Rattle.token_server.specs.rule.Obstacles.{are_apart}
use Rattle.cluster_core.specs.rule.Serving.{IsWanted, BringsWanted, IsBusy, IsServing, EachServerIsServing}
use Rattle.token_server.proofs.AdmittingLaws.{apart-fewer}
use Rattle.token_server.proofs.CareLaws.{requeued-each, ended-each, postponed-each, forgotten-each, asked-each}
use Rattle.cluster_core.proofs.rounds.Turns.{IsInOrder, serve-serving}

abbrev Answer : Type 0
Answer = Result (ServerState × List Message) StepError

-- each change before serving leaves the requests in order
in_order : (s : ServerState) → IsServing s → IsInOrder s
in_order s is = record { wanted = is.wanted; apart = is.apart }

forgotten-order : (s : ServerState) (node incarnation : ℕ) → IsInOrder s → IsInOrder (forgotten s node incarnation)
forgotten-order s node incarnation o = record { wanted = forgotten-each IsWanted s node incarnation o.wanted; apart = apart-fewer (λ r. not (is_up_to node incarnation r)) s.active o.apart }

requeued-order : (s : ServerState) → IsInOrder s → IsInOrder (requeued s)
requeued-order s o = record { wanted = requeued-each IsWanted s o.wanted; apart = o.apart }

freed-order : (s : ServerState) (row : Option Row) → IsInOrder s → IsInOrder (freed s row)
freed-order s None o = o
freed-order s (Some row) o = requeued-order s o

ended-order : (call : CallId) (s : ServerState) → IsInOrder s → IsInOrder (ended call s)
ended-order call s o = record { wanted = ended-each IsWanted call s o.wanted; apart = apart-fewer (λ r. not (is_of_call call r)) s.active o.apart }

postponed-order : (call : CallId) (s : ServerState) → IsInOrder s → IsInOrder (postponed call s)
postponed-order call s o = record { wanted = postponed-each IsWanted call s o.wanted; apart = apart-fewer (λ r. not (is_of_call call r)) s.active o.apart }

enqueued-active : (s : ServerState) (r : TokenRequest) → (enqueued s r).active ≡ s.active
enqueued-active s r = by (list_any (is_of_call r.call) s.active || list_any (is_of_call r.call) s.queue) (request_of r.call s.waiting)
  where
    by : (b : Bool) (o : Option TokenRequest) → (cond b s (enqueued_with s r o)).active ≡ s.active
    by true o = refl
    by false None = refl
    by false (Some own) = refl

asked-order : (s : ServerState) (r : TokenRequest) → IsWanted r → IsInOrder s → IsInOrder (asked s r)
asked-order s r new o = record {
  wanted = asked-each IsWanted s r new o.wanted;
  apart = ap are_apart (enqueued-active (with_a_row young r.call (young.rows r.call.node)) r ∙ with-row (young.rows r.call.node)) ∙ (forgotten-order s r.call.node (r.call.incarnation - 1) o).apart;
}
  where
    young : ServerState
    young = forgotten s r.call.node (r.call.incarnation - 1)

    with-row : (row : Option Row) → (with_a_row young r.call row).active ≡ young.active
    with-row None = refl
    with-row (Some row) = refl

abbrev Changes : Option Change → Type 0
Changes o = IfSome o (λ changed. IsInOrder changed.0)

mapped-order : (f : Mode → Change) (mode : Option Mode) → ((m : Mode) → IsInOrder (f m).0) → Changes (option_map f mode)
mapped-order f None each = tt
mapped-order f (Some m) each = each m

if-order : (b : Bool) (changed : Change) → IsInOrder changed.0 → Changes (cond b (Some changed) None)
if-order true changed o = o
if-order false changed o = tt

delivered-order : (s : ServerState) (m : Message) → BringsWanted (Deliver m) → IsInOrder s → Changes (delivered s m)
delivered-order s (Request file call blocking mode wanted) new o = asked-order s (record { call = call; blocking = blocking; mode = mode; wanted = wanted }) new o
delivered-order s (Grant file number call mode span) new o = tt
delivered-order s (Revoke file number holder call mode wanted) new o = tt
delivered-order s (Taken file number call) new o = by (row_of_host s (host_of_call call))
  where
    by : (row : Option Row) → Changes (taken s number call row)
    by None = tt
    by (Some row) = if-order (is_grant number row.outstanding) (ended call (acknowledged s call.node row row.token), []) (ended-order call (acknowledged s call.node row row.token) (record { wanted = o.wanted; apart = o.apart }))
delivered-order s (Released file number holder call span) new o = by (row_of_host s holder)
  where
    by : (row : Option Row) → Changes (released s number holder span row)
    by None = tt
    by (Some row) = mapped-order (λ mode. (acknowledged s holder.node row (lowered row.token span mode), [])) (revoked_mode number row.outstanding) (λ mode. record { wanted = o.wanted; apart = o.apart })
delivered-order s (Conflict file number holder call lock) new o = by (row_of_host s holder)
  where
    by : (row : Option Row) → Changes (in_conflict s number holder call lock row)
    by None = tt
    by (Some row) = mapped-order _ (revoked_mode number row.outstanding) (λ mode. postponed-order call (acknowledged s holder.node row row.token) (record { wanted = o.wanted; apart = o.apart }))
delivered-order s (Deny file call holder number lock) new o = tt
delivered-order s (Freed file holder) new o = freed-order s (row_of_host s holder) o
delivered-order s (Hello file number holder) new o = tt
delivered-order s (Report file number holder runs) new o = by (row_of_host s holder)
  where
    by : (row : Option Row) → Changes (heard s number holder runs row)
    by None = tt
    by (Some row) = if-order (asks_token number row.outstanding) (acknowledged s holder.node row _, []) (record { wanted = o.wanted; apart = o.apart })

-- each step leaves a server serving
sent-serving : (s : ServerState) (commands : List Message) (new : ServerState) (out : Outcome) → IsInOrder s → sending_first commands (serve s) ≡ Ok (new, out) → IsServing new
sent-serving s commands new out o is = by (serve s) refl is
  where
    by : (x : Answer) → serve s ≡ x → sending_first commands x ≡ Ok (new, out) → IsServing new
    by (Err e) was h = absurd (cc)
    by (Ok done) was h =
        let pair : ◌≡◌ {A = ServerState × Outcome} (done.0, sending (commands ++ done.1)) (new, out) = cc in
        subst IsServing (ap (λ (p : ServerState × Outcome). p.0) pair) (serve-serving s done.0 done.1 o was)

then_serve-serving : (s : ServerState) (o : Option Change) (new : ServerState) (out : Outcome) → IsServing s → Changes o → then_serve s (Ok o) ≡ Ok (new, out) → IsServing new
then_serve-serving s None new out serving changes is =
    let pair : ◌≡◌ {A = ServerState × Outcome} (s, sending []) (new, out) = cc in
    subst IsServing (ap (λ (p : ServerState × Outcome). p.0) pair) serving
then_serve-serving s (Some changed) new out serving changes is = sent-serving changed.0 changed.1 new out changes is

sorted-serving : (s : ServerState) (m : Message) (new : ServerState) (out : Outcome) (stranger dead : Bool) → BringsWanted (Deliver m) → IsServing s → then_serve s (cond stranger (Err Stranger) (cond dead (Ok None) (Ok (delivered s m)))) ≡ Ok (new, out) → IsServing new
sorted-serving s m new out true dead brings serving is = absurd (cc)
sorted-serving s m new out false true brings serving is = then_serve-serving s None new out serving tt is
sorted-serving s m new out false false brings serving is = then_serve-serving s (delivered s m) new out serving (delivered-order s m brings (in_order s serving)) is

learned-serving : (s : ServerState) (node incarnation : ℕ) (new : ServerState) (out : Outcome) (stranger : Bool) → IsServing s → cond stranger (Err Stranger) (sending_first [] (serve (requeued (forgotten s node incarnation)))) ≡ Ok (new, out) → IsServing new
learned-serving s node incarnation new out true serving is = absurd (cc)
learned-serving s node incarnation new out false serving is = sent-serving (requeued (forgotten s node incarnation)) [] new out (requeued-order (forgotten s node incarnation) (forgotten-order s node incarnation (in_order s serving))) is

step-serving : (s : ServerState) (event : ServerEvent) (new : ServerState) (out : Outcome) → server_rule s event ≡ Ok (new, out) → BringsWanted event → IsServing s → IsServing new
step-serving s (Deliver m) new out is brings serving =
    sorted-serving s m new out (not (is_server s.file (addressee m) && is_within s.shape.nodes (host_of m).node)) (nat_le (host_of m).incarnation (s.dead (host_of m).node)) brings serving is
step-serving s (Input Resend) new out is brings serving = sent-serving (requeued s) (outstanding s) new out (requeued-order s (in_order s serving)) is
step-serving s (Input (Learn node incarnation)) new out is brings serving = learned-serving s node incarnation new out (not (is_within s.shape.nodes node)) serving is

pub each_server-serving : EachServerIsServing
each_server-serving = record {
  first = λ shape file. record { wanted = All-nil IsWanted; apart = refl; busy = λ told. All-nil (IsBusy (first_server shape file)); settled = λ told. refl };
  again = λ shape file epoch is_live incarnation. record { wanted = All-nil IsWanted; apart = refl; busy = λ told. All-nil (IsBusy (rebuilt shape file epoch is_live incarnation)); settled = λ told. refl };
  step = step-serving;
}
