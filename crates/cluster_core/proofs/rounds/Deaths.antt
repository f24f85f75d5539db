-- What a server knows to be dead it knows for good, and a Learn tells it of an incarnation.
use Rattle.std.specs.Prelude.{◌≡◌, ℕ, ◌-◌, ◌≤◌, max, Bool, true, false, not, cond, ◌&&◌, ◌||◌, nat_le, List, [], ◌++◌, IfSome, option_map, Option, Some, None, Result, Ok, Err}
use Rattle.std.specs.List.{list_any}
use Rattle.std.proofs.Common.{refl, sym, ap, subst, ◌∙◌, arith}
use Rattle.model.specs.declared.mode.Mode.{Mode}
use Rattle.model.specs.rule.Owners.{host_of_call}
use Rattle.messages.specs.declared.refusal.StepError.{StepError}
use Rattle.messages.specs.declared.refusal.StepError.TheVariants.{Stranger}
use Rattle.messages.specs.declared.message.Message.{Message}
use Rattle.messages.specs.declared.message.Message.TheVariants.{Request, Grant, Revoke, Taken, Released, Conflict, Deny, Freed, Hello, Report}
use Rattle.messages.specs.declared.event.ServerInput.TheVariants.{Resend, Learn}
use Rattle.messages.specs.declared.outcome.Outcome.{Outcome}
use Rattle.messages.specs.rule.Messages.{addressee, host_of, is_within, sending}
use Rattle.token_server.specs.declared.token_queue.token_request.TokenRequest.{TokenRequest}
use Rattle.token_server.specs.declared.event.ServerEvent.{ServerEvent}
use Rattle.token_server.specs.declared.event.ServerEvent.TheVariants.{Input, Deliver}
use Rattle.token_server.specs.rule.Requests.{is_of_call}
use Rattle.token_server.specs.rule.Rows.{Row, is_grant, revoked_mode, asks_token}
use Rattle.token_server.specs.rule.State.{ServerState, forgotten, requeued}
use Rattle.token_server.specs.rule.Serve.{serve}
use Rattle.token_server.specs.rule.Resends.{outstanding, sending_first}
use Rattle.token_server.specs.rule.Server.{Change, with_a_row, request_of, enqueued_with, enqueued, asked, taken, released, in_conflict, heard, row_of_host, freed, delivered, is_server, then_serve, server_rule}
use Rattle.cluster_core.proofs.common.Choices.{at_number}
use Rattle.cluster_core.proofs.steps.ServerRows.{same_dead}
use Rattle.cluster_core.proofs.rounds.Turns.{serve-dead}

-- the incarnations that a server knows to be dead it knows for good, and after a Learn it knows that incarnation to be dead
pub record DeathsStay : Type 0 where
  pub stay : (s : ServerState) (event : ServerEvent) (new : ServerState) (out : Outcome) (n : ℕ) → server_rule s event ≡ Ok (new, out) → s.dead n ≤ new.dead n
  pub learnt : (s : ServerState) (n i : ℕ) (new : ServerState) (out : Outcome) → server_rule s (Input (Learn n i)) ≡ Ok (new, out) → i ≤ new.dead n

-- a server that knows each dead incarnation that the other knows
abbrev Knows : ServerState → ServerState → Type 0
Knows s t = (n : ℕ) → s.dead n ≤ t.dead n

knows-same : (s t : ServerState) → t.dead ≡ s.dead → Knows s t
knows-same s t same n = let here : t.dead n ≡ s.dead n = ap (λ (d : ℕ → ℕ). d n) same in omega arith

forgotten-knows : (s : ServerState) (node i : ℕ) → Knows s (forgotten s node i)
forgotten-knows s node i n = at_number n node (λ b. s.dead n ≤ cond b (max (s.dead n) i) (s.dead n)) (λ same. omega arith) (λ other. omega arith)

-- a Learn tells of the incarnation
forgotten-learns : (s : ServerState) (n i : ℕ) → i ≤ (forgotten s n i).dead n
forgotten-learns s n i = at_number n n (λ b. i ≤ cond b (max (s.dead n) i) (s.dead n)) (λ same. omega arith) (λ other. absurd (other refl))

enqueued-dead : (t : ServerState) (r : TokenRequest) → (enqueued t r).dead ≡ t.dead
enqueued-dead t r = by (list_any (is_of_call r.call) t.active || list_any (is_of_call r.call) t.queue) (request_of r.call t.waiting)
  where
    by : (b : Bool) (o : Option TokenRequest) → (cond b t (enqueued_with t r o)).dead ≡ t.dead
    by true o = refl
    by false None = refl
    by false (Some own) = refl

asked-knows : (s : ServerState) (r : TokenRequest) → Knows s (asked s r)
asked-knows s r n =
    let young = forgotten s r.call.node (r.call.incarnation - 1) in
    let row = young.rows r.call.node in
    let same : (asked s r).dead ≡ young.dead = enqueued-dead (with_a_row young r.call row) r ∙ same_dead young r.call row in
    let here : (asked s r).dead n ≡ young.dead n = ap (λ (d : ℕ → ℕ). d n) same in
    let known : s.dead n ≤ young.dead n = forgotten-knows s r.call.node (r.call.incarnation - 1) n in
    omega arith

abbrev Changes : ServerState → Option Change → Type 0
Changes s o = IfSome o (λ changed. Knows s changed.0)

itself : (s : ServerState) → Knows s s
itself s n = omega arith

if-knows : (s : ServerState) (b : Bool) (changed : Change) → changed.0.dead ≡ s.dead → Changes s (cond b (Some changed) None)
if-knows s true changed same = knows-same s changed.0 same
if-knows s false changed same = tt

mapped-knows : (s : ServerState) (f : Mode → Change) (mode : Option Mode) → ((m : Mode) → (f m).0.dead ≡ s.dead) → Changes s (option_map f mode)
mapped-knows s f None same = tt
mapped-knows s f (Some m) same = knows-same s (f m).0 (same m)

freed-knows : (s : ServerState) (row : Option Row) → Knows s (freed s row)
freed-knows s None = itself s
freed-knows s (Some row) = itself s

delivered-knows : (s : ServerState) (m : Message) → Changes s (delivered s m)
delivered-knows s (Request file call blocking mode wanted) = asked-knows s (record { call = call; blocking = blocking; mode = mode; wanted = wanted })
delivered-knows s (Taken file number call) = by (row_of_host s (host_of_call call))
  where
    by : (row : Option Row) → Changes s (taken s number call row)
    by None = tt
    by (Some row) = if-knows s (is_grant number row.outstanding) _ refl
delivered-knows s (Released file number holder call span) = by (row_of_host s holder)
  where
    by : (row : Option Row) → Changes s (released s number holder span row)
    by None = tt
    by (Some row) = mapped-knows s _ (revoked_mode number row.outstanding) (λ mode. refl)
delivered-knows s (Conflict file number holder call lock) = by (row_of_host s holder)
  where
    by : (row : Option Row) → Changes s (in_conflict s number holder call lock row)
    by None = tt
    by (Some row) = mapped-knows s _ (revoked_mode number row.outstanding) (λ mode. refl)
delivered-knows s (Freed file holder) = freed-knows s (row_of_host s holder)
delivered-knows s (Report file number holder runs) = by (row_of_host s holder)
  where
    by : (row : Option Row) → Changes s (heard s number holder runs row)
    by None = tt
    by (Some row) = if-knows s (asks_token number row.outstanding) _ refl
delivered-knows s (Grant file number call mode span) = tt
delivered-knows s (Revoke file number holder call mode wanted) = tt
delivered-knows s (Deny file call holder number lock) = tt
delivered-knows s (Hello file number holder) = tt

-- serving leaves what the server knows
sent-dead : (t : ServerState) (commands : List Message) (new : ServerState) (out : Outcome) → sending_first commands (serve t) ≡ Ok (new, out) → new.dead ≡ t.dead
sent-dead t commands new out is = by (serve t) refl is
  where
    by : (x : Result (ServerState × List Message) StepError) → serve t ≡ x → sending_first commands x ≡ Ok (new, out) → new.dead ≡ t.dead
    by (Err e) was h = absurd (cc)
    by (Ok done) was h =
        let pair : ◌≡◌ {A = ServerState × Outcome} (done.0, sending (commands ++ done.1)) (new, out) = cc in
        ap (λ (p : ServerState × Outcome). p.0.dead) (sym pair) ∙ serve-dead t done.0 done.1 was

sent-knows : (s t : ServerState) (commands : List Message) (new : ServerState) (out : Outcome) → Knows s t → sending_first commands (serve t) ≡ Ok (new, out) → Knows s new
sent-knows s t commands new out knows is n =
    let same : new.dead n ≡ t.dead n = ap (λ (d : ℕ → ℕ). d n) (sent-dead t commands new out is) in
    let known = knows n in
    omega arith

then_serve-knows : (s : ServerState) (o : Option Change) (new : ServerState) (out : Outcome) → Changes s o → then_serve s (Ok o) ≡ Ok (new, out) → Knows s new
then_serve-knows s None new out changes is =
    let pair : ◌≡◌ {A = ServerState × Outcome} (s, sending []) (new, out) = cc in
    subst (Knows s) (ap (λ (p : ServerState × Outcome). p.0) pair) (itself s)
then_serve-knows s (Some changed) new out changes is = sent-knows s changed.0 changed.1 new out changes is

learnt : (s : ServerState) (node i : ℕ) (new : ServerState) (out : Outcome) → cond (not (is_within s.shape.nodes node)) (Err Stranger) (sending_first [] (serve (requeued (forgotten s node i)))) ≡ Ok (new, out) → Knows s new × (i ≤ new.dead node)
learnt s node i new out is = by (not (is_within s.shape.nodes node)) is
  where
    by : (stranger : Bool) → cond stranger (Err Stranger) (sending_first [] (serve (requeued (forgotten s node i)))) ≡ Ok (new, out) → Knows s new × (i ≤ new.dead node)
    by true h = absurd (cc)
    by false h =
        let same : new.dead node ≡ (forgotten s node i).dead node = ap (λ (d : ℕ → ℕ). d node) (sent-dead (requeued (forgotten s node i)) [] new out h) in
        let told = forgotten-learns s node i in
        (sent-knows s (requeued (forgotten s node i)) [] new out (forgotten-knows s node i) h, omega arith)

pub deaths-stay : DeathsStay
deaths-stay = record { stay = stay; learnt = λ s n i new out is. (learnt s n i new out is).1 }
  where
    stay : (s : ServerState) (event : ServerEvent) (new : ServerState) (out : Outcome) (n : ℕ) → server_rule s event ≡ Ok (new, out) → s.dead n ≤ new.dead n
    stay s (Deliver m) new out n is = by (not (is_server s.file (addressee m) && is_within s.shape.nodes (host_of m).node)) (nat_le (host_of m).incarnation (s.dead (host_of m).node)) is
      where
        by : (stranger dead : Bool) → then_serve s (cond stranger (Err Stranger) (cond dead (Ok None) (Ok (delivered s m)))) ≡ Ok (new, out) → s.dead n ≤ new.dead n
        by true dead h = absurd (cc)
        by false true h = then_serve-knows s None new out tt h n
        by false false h = then_serve-knows s (delivered s m) new out (delivered-knows s m) h n
    stay s (Input Resend) new out n is = sent-knows s (requeued s) (outstanding s) new out (itself s) is n
    stay s (Input (Learn node i)) new out n is = (learnt s node i new out is).0 n
