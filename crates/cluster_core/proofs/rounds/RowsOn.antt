-- The row of a node goes on in each step of a token server.
use Rattle.std.specs.Prelude.{◌≡◌, ℕ, ◌+◌, ◌-◌, ◌<◌, ◌≤◌, Bool, true, false, not, cond, ◌&&◌, ◌||◌, nat_le, List, [], ◌++◌, IfSome, option_map, Option, Some, None, Result, Ok, Err}
use Rattle.std.specs.List.{list_any}
use Rattle.std.proofs.Common.{refl, sym, ap, subst, ◌∙◌, inl, inr, arith}
use Rattle.std.proofs.lemmas.Bool.{leb-true, leb-false}
use Rattle.std.proofs.lemmas.Option.{none-some}
use Rattle.model.specs.declared.mode.Mode.{Mode}
use Rattle.model.specs.rule.Owners.{host_of_call}
use Rattle.messages.proofs.Rules.{at_number}
use Rattle.messages.specs.declared.refusal.StepError.{StepError}
use Rattle.messages.specs.declared.refusal.StepError.TheVariants.{Stranger}
use Rattle.messages.specs.declared.message.Message.{Message}
use Rattle.messages.specs.declared.message.Message.TheVariants.{Request, Grant, Revoke, Taken, Released, Conflict, Deny, Freed, Hello, Report}
use Rattle.messages.specs.declared.outcome.Outcome.{Outcome}
use Rattle.messages.specs.rule.Messages.{addressee, host_of, is_within, sending, reported}
use Rattle.token_set.specs.rule.Tokens.{Token, lowered}
use Rattle.token_server.specs.declared.token_queue.token_request.TokenRequest.{TokenRequest}
use Rattle.token_server.specs.rule.Requests.{is_of_call}
use Rattle.token_server.specs.rule.Rows.{Row, empty_row, row_above, is_hello, is_grant, revoked_mode, asks_token}
use Rattle.messages.specs.declared.event.ServerInput.TheVariants.{Resend, Learn}
use Rattle.token_server.specs.declared.event.ServerEvent.TheVariants.{Input, Deliver}
use Rattle.token_server.specs.rule.State.{ServerState, begin, awaits, forgotten, requeued}
use Rattle.token_server.specs.rule.Serve.{each_served, ready, serve}
use Rattle.token_server.specs.rule.Resends.{outstanding, sending_first}
use Rattle.token_server.specs.rule.Server.{Change, with_a_row, request_of, enqueued_with, enqueued, asked, acknowledged, ended, taken, released, in_conflict, heard, row_of_host, freed, delivered, is_server, then_serve}
use Rattle.cluster_core.specs.rule.Serving.{RowGoesOn, EachRowGoesOn}
use Rattle.token_server.proofs.AskedLaws.{each_served-holds}
use Rattle.cluster_core.proofs.steps.ServerRows.{row_found}

abbrev Answer : Type 0
Answer = Result (ServerState × List Message) StepError

-- a row that stays goes on
pub stays : (o : Option Row) → RowGoesOn o o
stays None = tt
stays (Some row) = λ same. record { number = omega arith; command = λ m is. inl (is, refl) }

-- each row of a server goes on
abbrev AllGoOn : ServerState → ServerState → Type 0
AllGoOn s t = (n : ℕ) → RowGoesOn (s.rows n) (t.rows n)

-- a new command has a greater number
sends-on : (s : ServerState) (n : ℕ) (row : Row) (token : Token) (command : Message) → is_hello (Some command) ≡ false → row.outstanding ≡ None → RowGoesOn (s.rows n) (Some row) → RowGoesOn (s.rows n) (Some (record row { token = token; number = row.number + 1; outstanding = Some command }))
sends-on s n row token command plain idle on = by (s.rows n) on
  where
    by : (o : Option Row) → RowGoesOn o (Some row) → RowGoesOn o (Some (record row { token = token; number = row.number + 1; outstanding = Some command }))
    by None on = tt
    by (Some old) on = λ same. let g = on same in let up = g.number in record { number = omega arith; command = λ m is. inr (omega arith) }

serve-on : (s t u : ServerState) (out : List Message) → AllGoOn s t → serve t ≡ Ok (u, out) → AllGoOn s u
serve-on s t u out on is = by (awaits t) is
  where
    by : (b : Bool) → cond b (Ok (t, [])) (each_served (ready t).active (ready t)) ≡ Ok (u, out) → AllGoOn s u
    by true h =
        let pair : ◌≡◌ {A = ServerState × List Message} (t, []) (u, out) = cc in
        subst (AllGoOn s) (ap (λ (p : ServerState × List Message). p.0) pair) on
    by false h = each_served-holds (λ n o. RowGoesOn (s.rows n) o) (sends-on s) (ready t).active (ready t) u out on h

-- a row that is of a later incarnation than those that are dropped goes on
above-on : (j : ℕ) (o : Option Row) → RowGoesOn o (row_above j o)
above-on j None = tt
above-on j (Some row) = by (nat_le row.incarnation j)
  where
    by : (b : Bool) → RowGoesOn (Some row) (cond b None (Some row))
    by true = tt
    by false = stays (Some row)

forgotten-on : (s : ServerState) (node j : ℕ) → AllGoOn s (forgotten s node j)
forgotten-on s node j n = at_number n node (λ b. RowGoesOn (s.rows n) (cond b (row_above j (s.rows n)) (s.rows n))) (λ same. above-on j (s.rows n)) (λ other. stays (s.rows n))

-- a new row is of a later incarnation than the one that was dropped for it
new-on : (first incarnation : ℕ) → 1 ≤ incarnation → (o : Option Row) → row_above (incarnation - 1) o ≡ None → RowGoesOn o (Some (empty_row first incarnation))
new-on first incarnation least None none = tt
new-on first incarnation least (Some row) none = by (nat_le row.incarnation (incarnation - 1)) refl none
  where
    by : (b : Bool) → nat_le row.incarnation (incarnation - 1) ≡ b → cond b None (Some row) ≡ None → RowGoesOn (Some row) (Some (empty_row first incarnation))
    by true is gone = λ same. let old : row.incarnation ≤ incarnation - 1 = leb-true row.incarnation (incarnation - 1) is in absurd (omega arith)
    by false is gone = absurd (none-some row (sym gone))

asked-on : (s : ServerState) (r : TokenRequest) → 1 ≤ r.call.incarnation → AllGoOn s (asked s r)
asked-on s r least n = enqueued-on (with_a_row young r.call (young.rows r.call.node)) (with-row (young.rows r.call.node) refl)
  where
    young : ServerState
    young = forgotten s r.call.node (r.call.incarnation - 1)

    enqueued-on : (t : ServerState) → RowGoesOn (s.rows n) (t.rows n) → RowGoesOn (s.rows n) ((enqueued t r).rows n)
    enqueued-on t on = by (list_any (is_of_call r.call) t.active || list_any (is_of_call r.call) t.queue) (request_of r.call t.waiting)
      where
        by : (b : Bool) (o : Option TokenRequest) → RowGoesOn (s.rows n) ((cond b t (enqueued_with t r o)).rows n)
        by true o = on
        by false None = on
        by false (Some own) = on

    at-own : r.call.node ≡ n → young.rows r.call.node ≡ None → row_above (r.call.incarnation - 1) (s.rows n) ≡ None
    at-own same none = sym (at_number r.call.node r.call.node (λ b. cond b (row_above (r.call.incarnation - 1) (s.rows r.call.node)) (s.rows r.call.node) ≡ row_above (r.call.incarnation - 1) (s.rows n)) (λ own. ap (λ (k : ℕ). row_above (r.call.incarnation - 1) (s.rows k)) same) (λ other. absurd (other refl))) ∙ none

    with-row : (row : Option Row) → young.rows r.call.node ≡ row → RowGoesOn (s.rows n) ((with_a_row young r.call row).rows n)
    with-row None none = at_number n r.call.node (λ b. RowGoesOn (s.rows n) (cond b (Some (empty_row (begin s) r.call.incarnation)) (young.rows n))) (λ same. new-on (begin s) r.call.incarnation least (s.rows n) (at-own (sym same) none)) (λ other. forgotten-on s r.call.node (r.call.incarnation - 1) n)
    with-row (Some row) there = forgotten-on s r.call.node (r.call.incarnation - 1) n

-- an answer leaves no outstanding command
answered-on : (s : ServerState) (node : ℕ) (row : Row) (token : Token) → s.rows node ≡ Some row → AllGoOn s (acknowledged s node row token)
answered-on s node row token there n = at_number n node (λ b. RowGoesOn (s.rows n) (cond b (Some (record row { token = token; outstanding = None })) (s.rows n)))
    (λ same. subst (λ (o : Option Row). RowGoesOn o (Some (record row { token = token; outstanding = None }))) (sym (ap s.rows same ∙ there)) (λ own. record { number = omega arith; command = λ m is. absurd (none-some m is) }))
    (λ other. stays (s.rows n))

abbrev Changes : ServerState → Option Change → Type 0
Changes s o = IfSome o (λ changed. AllGoOn s changed.0)

if-on : (s : ServerState) (b : Bool) (changed : Change) → AllGoOn s changed.0 → Changes s (cond b (Some changed) None)
if-on s true changed on = on
if-on s false changed on = tt

mapped-on : (s : ServerState) (f : Mode → Change) (mode : Option Mode) → ((m : Mode) → AllGoOn s (f m).0) → Changes s (option_map f mode)
mapped-on s f None each = tt
mapped-on s f (Some m) each = each m

freed-on : (s : ServerState) (row : Option Row) → AllGoOn s (freed s row)
freed-on s None n = stays (s.rows n)
freed-on s (Some row) n = stays (s.rows n)

delivered-on : (s : ServerState) (m : Message) → 1 ≤ (host_of m).incarnation → Changes s (delivered s m)
delivered-on s (Request file call blocking mode wanted) least = asked-on s (record { call = call; blocking = blocking; mode = mode; wanted = wanted }) least
delivered-on s (Grant file number call mode span) least = tt
delivered-on s (Revoke file number holder call mode wanted) least = tt
delivered-on s (Taken file number call) least = by (row_of_host s (host_of_call call)) refl
  where
    by : (row : Option Row) → row_of_host s (host_of_call call) ≡ row → Changes s (taken s number call row)
    by None there = tt
    by (Some row) there = if-on s (is_grant number row.outstanding) (ended call (acknowledged s call.node row row.token), []) (answered-on s call.node row row.token (row_found call.incarnation (s.rows call.node) row there).0)
delivered-on s (Released file number holder call span) least = by (row_of_host s holder) refl
  where
    by : (row : Option Row) → row_of_host s holder ≡ row → Changes s (released s number holder span row)
    by None there = tt
    by (Some row) there = mapped-on s (λ mode. (acknowledged s holder.node row (lowered row.token span mode), [])) (revoked_mode number row.outstanding) (λ mode. answered-on s holder.node row (lowered row.token span mode) (row_found holder.incarnation (s.rows holder.node) row there).0)
delivered-on s (Conflict file number holder call lock) least = by (row_of_host s holder) refl
  where
    by : (row : Option Row) → row_of_host s holder ≡ row → Changes s (in_conflict s number holder call lock row)
    by None there = tt
    by (Some row) there = mapped-on s _ (revoked_mode number row.outstanding) (λ mode. answered-on s holder.node row row.token (row_found holder.incarnation (s.rows holder.node) row there).0)
delivered-on s (Deny file call holder number lock) least = tt
delivered-on s (Freed file holder) least = freed-on s (row_of_host s holder)
delivered-on s (Hello file number holder) least = tt
delivered-on s (Report file number holder runs) least = by (row_of_host s holder) refl
  where
    by : (row : Option Row) → row_of_host s holder ≡ row → Changes s (heard s number holder runs row)
    by None there = tt
    by (Some row) there = if-on s (asks_token number row.outstanding) (acknowledged s holder.node row (reported runs), []) (answered-on s holder.node row (reported runs) (row_found holder.incarnation (s.rows holder.node) row there).0)

pub sent-on : (s t : ServerState) (commands : List Message) (new : ServerState) (out : Outcome) → AllGoOn s t → sending_first commands (serve t) ≡ Ok (new, out) → AllGoOn s new
sent-on s t commands new out on is = by (serve t) refl is
  where
    by : (x : Answer) → serve t ≡ x → sending_first commands x ≡ Ok (new, out) → AllGoOn s new
    by (Err e) was h = absurd (cc)
    by (Ok done) was h =
        let pair : ◌≡◌ {A = ServerState × Outcome} (done.0, sending (commands ++ done.1)) (new, out) = cc in
        subst (AllGoOn s) (ap (λ (p : ServerState × Outcome). p.0) pair) (serve-on s t done.0 done.1 on was)

then_serve-on : (s : ServerState) (o : Option Change) (new : ServerState) (out : Outcome) → Changes s o → then_serve s (Ok o) ≡ Ok (new, out) → AllGoOn s new
then_serve-on s None new out changes is =
    let pair : ◌≡◌ {A = ServerState × Outcome} (s, sending []) (new, out) = cc in
    subst (AllGoOn s) (ap (λ (p : ServerState × Outcome). p.0) pair) (λ n. stays (s.rows n))
then_serve-on s (Some changed) new out changes is = sent-on s changed.0 changed.1 new out changes is

pub each_row-goes_on : EachRowGoesOn
each_row-goes_on s (Deliver m) new out n is = by (not (is_server s.file (addressee m) && is_within s.shape.nodes (host_of m).node)) (nat_le (host_of m).incarnation (s.dead (host_of m).node)) refl is
  where
    by : (stranger dead : Bool) → nat_le (host_of m).incarnation (s.dead (host_of m).node) ≡ dead → then_serve s (cond stranger (Err Stranger) (cond dead (Ok None) (Ok (delivered s m)))) ≡ Ok (new, out) → RowGoesOn (s.rows n) (new.rows n)
    by true dead known h = absurd (cc)
    by false true known h = then_serve-on s None new out tt h n
    by false false known h =
        let lives : s.dead (host_of m).node < (host_of m).incarnation = leb-false (host_of m).incarnation (s.dead (host_of m).node) known in
        then_serve-on s (delivered s m) new out (delivered-on s m (omega arith)) h n
each_row-goes_on s (Input Resend) new out n is = sent-on s (requeued s) (outstanding s) new out (λ k. stays (s.rows k)) is n
each_row-goes_on s (Input (Learn node incarnation)) new out n is = by (not (is_within s.shape.nodes node)) is
  where
    by : (stranger : Bool) → cond stranger (Err Stranger) (sending_first [] (serve (requeued (forgotten s node incarnation)))) ≡ Ok (new, out) → RowGoesOn (s.rows n) (new.rows n)
    by true h = absurd (cc)
    by false h = sent-on s (requeued (forgotten s node incarnation)) [] new out (forgotten-on s node incarnation) h n
