-- A request that waits is kept.
use Rattle.std.specs.Prelude.{◌≡◌, ◌⊎◌, ℕ, ◌-◌, ◌≤◌, ◌==◌, Bool, true, false, not, cond, max, if◌then◌else◌, ◌&&◌, ◌||◌, nat_le, nat_lt, List, [], ◌∷◌, ◌++◌, filter, find, is_some, IfSome, option_map, Option, Some, None, Result, Ok, Err}
use Rattle.std.specs.List.{list_any}
use Rattle.std.proofs.Common.{refl, ap, sym, subst, ◌∙◌, inl, inr, arith, append-nil}
use Rattle.std.proofs.lemmas.Grind.{common_steps}
use Rattle.std.proofs.lemmas.List.Folds.{list_any-append}
use Rattle.model.specs.declared.call.CallId.{CallId}
use Rattle.model.specs.declared.host.Host.{Host}
use Rattle.model.specs.declared.mode.Mode.{Mode}
use Rattle.model.specs.rule.Owners.{host_of_call}
use Rattle.messages.specs.declared.refusal.StepError.{StepError}
use Rattle.messages.specs.declared.refusal.StepError.TheVariants.{Stranger}
use Rattle.messages.specs.declared.event.ServerInput.TheVariants.{Resend, Learn}
use Rattle.messages.specs.declared.message.Message.{Message}
use Rattle.messages.specs.declared.message.Message.TheVariants.{Request, Grant, Revoke, Taken, Released, Conflict, Deny, Freed, Hello, Report}
use Rattle.messages.specs.declared.token_run.TokenRun.{TokenRun}
use Rattle.messages.specs.rule.Messages.{reported, addressee, host_of, is_within, same_call, sending}
use Rattle.messages.specs.declared.outcome.Outcome.{Outcome}
use Rattle.token_set.specs.rule.Tokens.{Token, lowered}
use Rattle.token_server.specs.declared.token_queue.token_request.TokenRequest.{TokenRequest}
use Rattle.token_server.specs.declared.event.ServerEvent.TheVariants.{Input, Deliver}
use Rattle.token_server.specs.rule.Requests.{is_of_call, is_up_to}
use Rattle.token_server.specs.rule.Rows.{Row, is_grant, revoked_mode, asks_token}
use Rattle.token_server.specs.rule.State.{ServerState, awaits, forgotten, requests, requeued}
use Rattle.token_server.specs.rule.Serve.{meets_some, admitted, conflicting_node, commanded, granted_to, revoked_from, served, with_more, and_then, each_served, ready, serve}
use Rattle.token_server.specs.rule.Resends.{outstanding, sending_first}
use Rattle.token_server.specs.rule.Server.{Change, with_a_row, request_of, enqueued_with, enqueued, asked, acknowledged, ended, put_off, postponed, denial, taken, released, in_conflict, heard, row_of_host, freed, delivered, is_server, then_serve}
use Rattle.token_server.specs.code.Admissions.{KeepsWhatWaits}

-- the list has a request of the call
abbrev pub Has : CallId → List TokenRequest → Type 0
Has call rs = list_any (is_of_call call) rs ≡ true

-- the call has a request at the server, or its node's incarnation is known to be dead
abbrev IsKept : CallId → ServerState → Type 0
IsKept call s = Has call (requests s) ⊎ (call.incarnation ≤ s.dead call.node)

or-left : (b c : Bool) → b ≡ true → b || c ≡ true
or-left true c h = refl
or-left false c h = absurd (cc)

or-right : (b c : Bool) → c ≡ true → b || c ≡ true
or-right true c h = refl
or-right false c h = h

or-cases : (b c : Bool) → b || c ≡ true → (b ≡ true) ⊎ (c ≡ true)
or-cases true c h = inl refl
or-cases false c h = inr h

has-either : (call : CallId) (xs ys : List TokenRequest) → Has call (xs ++ ys) → Has call xs ⊎ Has call ys
has-either call xs ys h = or-cases (list_any (is_of_call call) xs) (list_any (is_of_call call) ys) (sym (list_any-append (is_of_call call) xs ys) ∙ h)

pub has-front : (call : CallId) (xs ys : List TokenRequest) → Has call xs → Has call (xs ++ ys)
has-front call xs ys h = list_any-append (is_of_call call) xs ys ∙ or-left (list_any (is_of_call call) xs) (list_any (is_of_call call) ys) h

has-back : (call : CallId) (xs ys : List TokenRequest) → Has call ys → Has call (xs ++ ys)
has-back call xs ys h = list_any-append (is_of_call call) xs ys ∙ or-right (list_any (is_of_call call) xs) (list_any (is_of_call call) ys) h

queued-kept : (call : CallId) (s : ServerState) → Has call s.queue → IsKept call s
queued-kept call s h = inl (has-back call s.active (s.queue ++ s.waiting) (has-front call s.queue s.waiting h))

waiting-kept : (call : CallId) (s : ServerState) → Has call s.waiting → IsKept call s
waiting-kept call s h = inl (has-back call s.active (s.queue ++ s.waiting) (has-back call s.queue s.waiting h))

-- a request passes the test and doesn't stay
pub record IsLost (test stays : TokenRequest → Bool) : Type 0 where
  pub which : TokenRequest
  pub passes : test which ≡ true
  pub goes : stays which ≡ false

pub kept-or_lost : (test stays : TokenRequest → Bool) (rs : List TokenRequest) → list_any test rs ≡ true → (list_any test (filter stays rs) ≡ true) ⊎ IsLost test stays
kept-or_lost test stays [] h = absurd (cc)
kept-or_lost test stays (r ∷ rs) h = by (test r) refl (stays r) refl (kept-or_lost test stays rs) h
  where
    kept : List TokenRequest
    kept = filter stays rs

    by : (a : Bool) → test r ≡ a → (b : Bool) → stays r ≡ b → (list_any test rs ≡ true → (list_any test kept ≡ true) ⊎ IsLost test stays) → test r || list_any test rs ≡ true → (list_any test (cond (stays r) (r ∷ kept) kept) ≡ true) ⊎ IsLost test stays
    by true t true k rest any = inl (ap (λ (b : Bool). list_any test (cond b (r ∷ kept) kept)) k ∙ ap (λ (b : Bool). b || list_any test kept) t)
    by true t false k rest any = inr (record { which = r; passes = t; goes = k })
    by false t true k rest any = elim (rest (sym (ap (λ (b : Bool). b || list_any test rs) t) ∙ any)) [
      | inl here ↦ inl (ap (λ (b : Bool). list_any test (cond b (r ∷ kept) kept)) k ∙ ap (λ (b : Bool). b || list_any test kept) t ∙ here)
      | inr lost ↦ inr lost
    ]
    by false t false k rest any = elim (rest (sym (ap (λ (b : Bool). b || list_any test rs) t) ∙ any)) [
      | inl here ↦ inl (ap (λ (b : Bool). list_any test (cond b (r ∷ kept) kept)) k ∙ here)
      | inr lost ↦ inr lost
    ]

-- a request that is found passes the test
found-passes : (test : TokenRequest → Bool) (rs : List TokenRequest) (own : TokenRequest) → find test rs ≡ Some own → test own ≡ true
found-passes test [] own h = absurd (cc)
found-passes test (r ∷ rs) own h = by (test r) refl (found-passes test rs own) h
  where
    by : (b : Bool) → test r ≡ b → (find test rs ≡ Some own → test own ≡ true) → cond (test r) (Some r) (find test rs) ≡ Some own → test own ≡ true
    by true is rest found =
        let same : Some r ≡ Some own = sym (ap (λ (b : Bool). cond b (Some r) (find test rs)) is) ∙ found in
        let here : r ≡ own = cc in
        sym (ap test here) ∙ is
    by false is rest found = rest (sym (ap (λ (b : Bool). cond b (Some r) (find test rs)) is) ∙ found)

-- two requests of one call are of the same node and incarnation
same_call-joins : (lost own asked call : CallId) → same_call lost call ≡ true → not (same_call lost asked) ≡ false → same_call own asked ≡ true → same_call own call ≡ true
same_call-joins lost own asked call a b c = grind (arith, common_steps)

-- a request that goes with dead incarnations is of one known to be dead
pub lost-dead : (lost call : CallId) (node incarnation : ℕ) (dead : ℕ → ℕ) → same_call lost call ≡ true → not ((lost.node == node) && nat_le lost.incarnation incarnation) ≡ false → call.incarnation ≤ (if call.node == node then max (dead call.node) incarnation else dead call.node)
lost-dead lost call node incarnation dead a b = grind (arith, common_steps)

forgotten-waiting : (call : CallId) (s : ServerState) (node incarnation : ℕ) → Has call s.waiting → Has call (forgotten s node incarnation).waiting ⊎ (call.incarnation ≤ (forgotten s node incarnation).dead call.node)
forgotten-waiting call s node incarnation h =
    elim (kept-or_lost (is_of_call call) (λ r. not (is_up_to node incarnation r)) s.waiting h) [
      | inl here ↦ inl here
      | inr lost ↦ inr (lost-dead lost.which.call call node incarnation s.dead lost.passes lost.goes)
    ]

-- the call keeps a request where one is queued
enqueued_with-kept : (call : CallId) (s : ServerState) (r : TokenRequest) (own : Option TokenRequest) → request_of r.call s.waiting ≡ own → Has call s.waiting → IsKept call (enqueued_with s r own)
enqueued_with-kept call s r None is h = waiting-kept call (enqueued_with s r None) h
enqueued_with-kept call s r (Some own) is h =
    elim (kept-or_lost (is_of_call call) (λ q. not (is_of_call r.call q)) s.waiting h) [
      | inl here ↦ waiting-kept call (enqueued_with s r (Some own)) here
      | inr lost ↦
          let same = same_call-joins lost.which.call own.call r.call call lost.passes lost.goes (found-passes (is_of_call r.call) s.waiting own is) in
          queued-kept call (enqueued_with s r (Some own)) (has-back call s.queue (own ∷ []) (or-left (is_of_call call own) false same))
    ]

enqueued-kept : (call : CallId) (s : ServerState) (r : TokenRequest) → Has call s.waiting → IsKept call (enqueued s r)
enqueued-kept call s r h =
    elim (list_any (is_of_call r.call) s.active || list_any (is_of_call r.call) s.queue) as (λ b. IsKept call (cond b s (enqueued_with s r (request_of r.call s.waiting)))) [
      | true ↦ waiting-kept call s h
      | false ↦ enqueued_with-kept call s r (request_of r.call s.waiting) refl h
    ]

enqueued-dead : (call : CallId) (s : ServerState) (r : TokenRequest) → call.incarnation ≤ s.dead call.node → IsKept call (enqueued s r)
enqueued-dead call s r h =
    elim (list_any (is_of_call r.call) s.active || list_any (is_of_call r.call) s.queue) as (λ b. IsKept call (cond b s (enqueued_with s r (request_of r.call s.waiting)))) [
      | true ↦ inr h
      | false ↦ elim (request_of r.call s.waiting) as (λ own. IsKept call (enqueued_with s r own)) [ None ↦ inr h | Some own ↦ inr h ]
    ]

-- the call keeps a request where a row is added and one is queued
asked_with-kept : (call : CallId) (young : ServerState) (r : TokenRequest) (row : Option Row) → Has call young.waiting ⊎ (call.incarnation ≤ young.dead call.node) → IsKept call (enqueued (with_a_row young r.call row) r)
asked_with-kept call young r None (inl h) = enqueued-kept call (with_a_row young r.call None) r h
asked_with-kept call young r None (inr h) = enqueued-dead call (with_a_row young r.call None) r h
asked_with-kept call young r (Some row) (inl h) = enqueued-kept call young r h
asked_with-kept call young r (Some row) (inr h) = enqueued-dead call young r h

asked-kept : (call : CallId) (s : ServerState) (r : TokenRequest) → Has call s.waiting → IsKept call (asked s r)
asked-kept call s r h =
    let young = forgotten s r.call.node (r.call.incarnation - 1) in
    asked_with-kept call young r (young.rows r.call.node) (forgotten-waiting call s r.call.node (r.call.incarnation - 1) h)

requeued-requests : (s : ServerState) → requests (requeued s) ≡ requests s
requeued-requests s = ap (λ (rs : List TokenRequest). s.active ++ rs) (append-nil (s.queue ++ s.waiting))

requeued-kept : (call : CallId) (s : ServerState) → IsKept call s → IsKept call (requeued s)
requeued-kept call s (inl h) = inl (ap (list_any (is_of_call call)) (requeued-requests s) ∙ h)
requeued-kept call s (inr h) = inr h

freed-kept : (call : CallId) (s : ServerState) (row : Option Row) → IsKept call s → IsKept call (freed s row)
freed-kept call s None h = h
freed-kept call s (Some row) h = requeued-kept call s h

-- a message leaves the call a request
abbrev Leaves : CallId → Option Change → Type 0
Leaves call o = IfSome o (λ changed. IsKept call changed.0)

taken-leaves : (call : CallId) (s : ServerState) (number : ℕ) (own : CallId) (row : Option Row) → Has call s.waiting → Leaves call (taken s number own row)
taken-leaves call s number own None h = tt
taken-leaves call s number own (Some row) h =
    let next = ended own (acknowledged s own.node row row.token) in
    let done : Option Change = Some (next, []) in
    elim (is_grant number row.outstanding) as (λ b. Leaves call (cond b done None)) [ true ↦ waiting-kept call next h | false ↦ tt ]

heard-leaves : (call : CallId) (s : ServerState) (number : ℕ) (holder : Host) (runs : List TokenRun) (row : Option Row) → Has call s.waiting → Leaves call (heard s number holder runs row)
heard-leaves call s number holder runs None h = tt
heard-leaves call s number holder runs (Some row) h =
    let next = acknowledged s holder.node row (reported runs) in
    let done : Option Change = Some (next, []) in
    elim (asks_token number row.outstanding) as (λ b. Leaves call (cond b done None)) [ true ↦ waiting-kept call next h | false ↦ tt ]

mapped-leaves : (call : CallId) (changed : Change) (mode : Option Mode) → IsKept call changed.0 → Leaves call (option_map (λ m. changed) mode)
mapped-leaves call changed None h = tt
mapped-leaves call changed (Some mode) h = h

delivered-leaves : (call : CallId) (s : ServerState) (m : Message) → Has call s.waiting → Leaves call (delivered s m)
delivered-leaves call s (Request file own blocking mode wanted) h = asked-kept call s (record { call = own; blocking = blocking; mode = mode; wanted = wanted }) h
delivered-leaves call s (Grant file number own mode span) h = tt
delivered-leaves call s (Revoke file number holder own mode wanted) h = tt
delivered-leaves call s (Taken file number own) h = taken-leaves call s number own (row_of_host s (host_of_call own)) h
delivered-leaves call s (Released file number holder own span) h = by (row_of_host s holder)
  where
    by : (row : Option Row) → Leaves call (released s number holder span row)
    by None = tt
    by (Some row) = elim (revoked_mode number row.outstanding) as (λ o. Leaves call (option_map (λ mode. (acknowledged s holder.node row (lowered row.token span mode), [])) o)) [
      | None ↦ tt
      | Some mode ↦ waiting-kept call (acknowledged s holder.node row (lowered row.token span mode)) h
    ]
delivered-leaves call s (Conflict file number holder own lock) h = by (row_of_host s holder)
  where
    by : (row : Option Row) → Leaves call (in_conflict s number holder own lock row)
    by None = tt
    by (Some row) =
        let next = postponed own (acknowledged s holder.node row row.token) in
        mapped-leaves call (next, denial (Deny s.file own holder number lock) (request_of own s.active)) (revoked_mode number row.outstanding) (waiting-kept call next (has-front call s.waiting (put_off (request_of own s.active)) h))
delivered-leaves call s (Deny file own holder number lock) h = tt
delivered-leaves call s (Freed file holder) h = freed-kept call s (row_of_host s holder) (waiting-kept call s h)
delivered-leaves call s (Hello file number holder) h = tt
delivered-leaves call s (Report file number holder runs) h = heard-leaves call s number holder runs (row_of_host s holder) h

-- serving leaves all requests, and the dead incarnations
abbrev Stays : ServerState → Result (ServerState × List Message) StepError → Type 0
Stays s a = (new : ServerState) (sends : List Message) → a ≡ Ok (new, sends) → (requests new ≡ requests s) × (new.dead ≡ s.dead)

stays-ok : (s t : ServerState) (sent : List Message) → requests t ≡ requests s → t.dead ≡ s.dead → Stays s (Ok (t, sent))
stays-ok s t sent same known new sends is =
    let both : (t, sent) ≡ (new, sends) = cc in
    let made : t ≡ new = ap (λ (x : ServerState × List Message). x.0) both in
    (sym (ap requests made) ∙ same, sym (ap (λ (x : ServerState). x.dead) made) ∙ known)

stays-err : (s : ServerState) (e : StepError) → Stays s (Err e)
stays-err s e new sends is = absurd (cc)

picked-stays : (s : ServerState) (b : Bool) (x y : Result (ServerState × List Message) StepError) → Stays s x → Stays s y → Stays s (cond b x y)
picked-stays s true x y here there = here
picked-stays s false x y here there = there

commanded-stays : (s : ServerState) (node : ℕ) (row : Row) (token : Token) (command : Message) → Stays s (commanded s node row token command)
commanded-stays s node row token command =
    picked-stays s (is_some row.outstanding) _ _ (stays-ok s s [] refl refl) (picked-stays s (nat_lt row.number _) _ _ (stays-ok s _ (command ∷ []) refl refl) (stays-err s _))

granted-stays : (s : ServerState) (r : TokenRequest) (row : Option Row) → Stays s (granted_to s r row)
granted-stays s r None = stays-ok s s [] refl refl
granted-stays s r (Some row) = commanded-stays s _ row _ _

revoked-stays : (s : ServerState) (r : TokenRequest) (node : ℕ) (row : Option Row) → Stays s (revoked_from s r node row)
revoked-stays s r node None = stays-ok s s [] refl refl
revoked-stays s r node (Some row) = commanded-stays s node row _ _

served-stays : (s : ServerState) (r : TokenRequest) → Stays s (served s r)
served-stays s r =
    let node = conflicting_node s r in
    picked-stays s (nat_le node s.shape.nodes) _ _ (revoked-stays s r node (s.rows node)) (granted-stays s r (s.rows r.call.node))

-- serving one request after the other leaves all requests
each-stays : (rs : List TokenRequest) (s : ServerState) → Stays s (each_served rs s)
each-stays [] s = stays-ok s s [] refl refl
each-stays (r ∷ rest) s = by (served s r) (served-stays s r) (each-stays rest)
  where
    more : (t : ServerState) (sent : List Message) (x : Result (ServerState × List Message) StepError) → requests t ≡ requests s → t.dead ≡ s.dead → Stays t x → Stays s (with_more sent x)
    more t sent (Err e) same known stays = stays-err s e
    more t sent (Ok done) same known stays =
        let last = stays done.0 done.1 refl in
        stays-ok s done.0 (sent ++ done.1) (last.0 ∙ same) (last.1 ∙ known)

    by : (x : Result (ServerState × List Message) StepError) → Stays s x → ((t : ServerState) → Stays t (each_served rest t)) → Stays s (and_then x (each_served rest))
    by (Err e) stays later = stays-err s e
    by (Ok done) stays later =
        let first = stays done.0 done.1 refl in
        more done.0 done.1 (each_served rest done.0) first.0 first.1 (later done.0)

-- admission keeps each active or queued request in one of the two lists
pub admitted-has : (call : CallId) (active staying queue : List TokenRequest) → (Has call active ⊎ Has call staying) ⊎ Has call queue → (let next = admitted active staying queue in Has call next.0 ⊎ Has call next.1)
admitted-has call active staying [] (inl here) = here
admitted-has call active staying [] (inr none) = absurd (cc)
admitted-has call active staying (r ∷ rest) has =
    let Q : List TokenRequest × List TokenRequest → Type 0 = λ next. Has call next.0 ⊎ Has call next.1 in
    elim (meets_some r active || meets_some r staying) as (λ t. Q (cond t (admitted active (staying ++ r ∷ []) rest) (admitted (active ++ r ∷ []) staying rest))) [
      | true ↦ admitted-has call active (staying ++ r ∷ []) rest (stays has)
      | false ↦ admitted-has call (active ++ r ∷ []) staying rest (goes has)
    ]
  where
    last : (xs : List TokenRequest) → is_of_call call r ≡ true → Has call (xs ++ r ∷ [])
    last xs own = has-back call xs (r ∷ []) (or-left (is_of_call call r) false own)

    stays : (Has call active ⊎ Has call staying) ⊎ Has call (r ∷ rest) → (Has call active ⊎ Has call (staying ++ r ∷ [])) ⊎ Has call rest
    stays (inl (inl h)) = inl (inl h)
    stays (inl (inr h)) = inl (inr (has-front call staying (r ∷ []) h))
    stays (inr h) = elim (or-cases (is_of_call call r) (list_any (is_of_call call) rest) h) [ inl own ↦ inl (inr (last staying own)) | inr later ↦ inr later ]

    goes : (Has call active ⊎ Has call staying) ⊎ Has call (r ∷ rest) → (Has call (active ++ r ∷ []) ⊎ Has call staying) ⊎ Has call rest
    goes (inl (inl h)) = inl (inl (has-front call active (r ∷ []) h))
    goes (inl (inr h)) = inl (inr h)
    goes (inr h) = elim (or-cases (is_of_call call r) (list_any (is_of_call call) rest) h) [ inl own ↦ inl (inl (last active own)) | inr later ↦ inr later ]

ready-has : (call : CallId) (s : ServerState) → Has call (requests s) → Has call (requests (ready s))
ready-has call s h = elim (has-either call s.active (s.queue ++ s.waiting) h) [
  | inl active ↦ moved (admitted-has call s.active [] s.queue (inl (inl active)))
  | inr rest ↦ elim (has-either call s.queue s.waiting rest) [
    | inl queued ↦ moved (admitted-has call s.active [] s.queue (inr queued))
    | inr waits ↦ has-back call next.active (next.queue ++ s.waiting) (has-back call next.queue s.waiting waits)
  ]
]
  where
    next : ServerState
    next = ready s

    moved : Has call next.active ⊎ Has call next.queue → Has call (requests next)
    moved (inl active) = has-front call next.active (next.queue ++ s.waiting) active
    moved (inr queued) = has-back call next.active (next.queue ++ s.waiting) (has-front call next.queue s.waiting queued)

ready-kept : (call : CallId) (s : ServerState) → IsKept call s → IsKept call (ready s)
ready-kept call s (inl h) = inl (ready-has call s h)
ready-kept call s (inr h) = inr h

same-kept : (call : CallId) (s new : ServerState) → requests new ≡ requests s → new.dead ≡ s.dead → IsKept call s → IsKept call new
same-kept call s new same known (inl h) = inl (ap (list_any (is_of_call call)) same ∙ h)
same-kept call s new same known (inr h) = inr (subst (λ (dead : ℕ → ℕ). call.incarnation ≤ dead call.node) (sym known) h)

sent-kept : (call : CallId) (s : ServerState) (commands : List Message) (a : Result (ServerState × List Message) StepError) (new : ServerState) (out : Outcome) → Stays s a → IsKept call s → sending_first commands a ≡ Ok (new, out) → IsKept call new
sent-kept call s commands (Err e) new out stays kept is = absurd (cc)
sent-kept call s commands (Ok done) new out stays kept is =
    let both : (done.0, sending (commands ++ done.1)) ≡ (new, out) = cc in
    let made : done.0 ≡ new = ap (λ (x : ServerState × Outcome). x.0) both in
    let same = stays done.0 done.1 refl in
    subst (IsKept call) made (same-kept call s done.0 same.0 same.1 kept)

serve-kept : (call : CallId) (s : ServerState) (commands : List Message) (new : ServerState) (out : Outcome) → IsKept call s → sending_first commands (serve s) ≡ Ok (new, out) → IsKept call new
serve-kept call s commands new out kept is = by (awaits s) is
  where
    by : (b : Bool) → sending_first commands (cond b (Ok (s, [])) (each_served (ready s).active (ready s))) ≡ Ok (new, out) → IsKept call new
    by true is = sent-kept call s commands (Ok (s, [])) new out (stays-ok s s [] refl refl) kept is
    by false is = sent-kept call (ready s) commands (each_served (ready s).active (ready s)) new out (each-stays (ready s).active (ready s)) (ready-kept call s kept) is

then_serve-kept : (call : CallId) (s : ServerState) (o : Option Change) (new : ServerState) (out : Outcome) → IsKept call s → Leaves call o → then_serve s (Ok o) ≡ Ok (new, out) → IsKept call new
then_serve-kept call s None new out kept leaves is =
    let both : (s, sending []) ≡ (new, out) = cc in
    let made : s ≡ new = ap (λ (x : ServerState × Outcome). x.0) both in
    subst (IsKept call) made kept
then_serve-kept call s (Some changed) new out kept leaves is = serve-kept call changed.0 changed.1 new out leaves is

-- the call keeps its request at a message for the server or another, of a dead incarnation or not
sorted-kept : (call : CallId) (s : ServerState) (m : Message) (new : ServerState) (out : Outcome) (stranger dead : Bool) → Has call s.waiting → then_serve s (cond stranger (Err Stranger) (cond dead (Ok None) (Ok (delivered s m)))) ≡ Ok (new, out) → IsKept call new
sorted-kept call s m new out true dead h is = absurd (cc)
sorted-kept call s m new out false true h is = then_serve-kept call s None new out (waiting-kept call s h) tt is
sorted-kept call s m new out false false h is = then_serve-kept call s (delivered s m) new out (waiting-kept call s h) (delivered-leaves call s m h) is

learned-kept : (call : CallId) (s : ServerState) (node incarnation : ℕ) (new : ServerState) (out : Outcome) (stranger : Bool) → Has call s.waiting → cond stranger (Err Stranger) (sending_first [] (serve (requeued (forgotten s node incarnation)))) ≡ Ok (new, out) → IsKept call new
learned-kept call s node incarnation new out true h is = absurd (cc)
learned-kept call s node incarnation new out false h is =
    let young = forgotten s node incarnation in
    serve-kept call (requeued young) [] new out (requeued-kept call young (elim (forgotten-waiting call s node incarnation h) [
      | inl here ↦ waiting-kept call young here
      | inr dead ↦ inr dead
    ])) is

pub what_waits-kept : KeepsWhatWaits
what_waits-kept s (Deliver m) new out call is h =
    sorted-kept call s m new out (not (is_server s.file (addressee m) && is_within s.shape.nodes (host_of m).node)) (nat_le (host_of m).incarnation (s.dead (host_of m).node)) h is
what_waits-kept s (Input Resend) new out call is h = serve-kept call (requeued s) (outstanding s) new out (requeued-kept call s (waiting-kept call s h)) is
what_waits-kept s (Input (Learn node incarnation)) new out call is h = learned-kept call s node incarnation new out (not (is_within s.shape.nodes node)) h is
