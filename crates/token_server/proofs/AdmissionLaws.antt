-- A request that needs no byte of another one is served at once.
use Rattle.std.specs.Prelude.{◌≡◌, ℕ, ◌+◌, ◌-◌, ◌<◌, ◌≤◌, ◌==◌, Bool, true, false, not, cond, ◌||◌, ◌&&◌, nat_le, nat_lt, List, [], ◌∷◌, ◌++◌, filter, find, is_some, Option, Some, None, Result, Ok, Err}
use Rattle.std.specs.List.{list_any}
use Rattle.std.proofs.Common.{refl, sym, ap, subst, ◌∙◌}
use Rattle.std.proofs.lemmas.Bool.{both_ways, lt-leb}
use Rattle.std.proofs.lemmas.List.Folds.{list_any-append}
use Rattle.messages.specs.declared.refusal.StepError.{StepError}
use Rattle.messages.specs.declared.refusal.StepError.TheVariants.{Stranger, Spent}
use Rattle.messages.specs.declared.message.Message.{Message}
use Rattle.messages.specs.declared.message.Message.TheVariants.{Request}
use Rattle.messages.specs.declared.outcome.Outcome.{Outcome}
use Rattle.messages.specs.rule.Messages.{greatest_number, addressee, host_of, is_within, sending}
use Rattle.model.specs.declared.call.CallId.{CallId}
use Rattle.token_set.specs.rule.Tokens.{Token}
use Rattle.token_set.proofs.TokenLaws.{some_passes-none, none_passes-from}
use Rattle.token_server.specs.declared.token_queue.token_request.TokenRequest.{TokenRequest}
use Rattle.token_server.specs.rule.Requests.{is_of_call, is_up_to, meets}
use Rattle.token_server.specs.rule.Rows.{Row, empty_row, is_awaited, row_above}
use Rattle.token_server.specs.rule.State.{ServerState, begin, awaits, forgotten}
use Rattle.token_server.specs.rule.Serve.{meets_some, admitted, conflicting_node, commanded, granted_to, revoked_from, served, with_more, and_then, each_served, ready, serve}
use Rattle.token_server.specs.rule.Resends.{sending_first}
use Rattle.token_server.specs.rule.Server.{with_a_row, request_of, enqueued_with, enqueued, asked, is_server, delivered, then_serve}
use Rattle.token_server.specs.code.Admissions.{MeetsNone, ServesWhatMeetsNone}
use Rattle.token_server.proofs.AdmittingLaws.{Lists, admitted-append, neither}

abbrev Answer : Type 0
Answer = Result (ServerState × List Message) StepError

none-of : (a b : Bool) → a ≡ false → b ≡ false → (a || b) ≡ false
none-of a b x y = ap (λ (t : Bool). t || b) x ∙ y

-- a test that passes none of a list passes none of a part of it
any-filter : (p q : TokenRequest → Bool) (xs : List TokenRequest) → list_any p xs ≡ false → list_any p (filter q xs) ≡ false
any-filter p q [] none = refl
any-filter p q (x ∷ xs) none = by (q x) (any-filter p q xs (neither (p x) (list_any p xs) none).1)
  where
    by : (b : Bool) → list_any p (filter q xs) ≡ false → list_any p (cond b (x ∷ filter q xs) (filter q xs)) ≡ false
    by true rest = none-of (p x) (list_any p (filter q xs)) (neither (p x) (list_any p xs) none).0 rest
    by false rest = rest

find-none : (p : TokenRequest → Bool) (xs : List TokenRequest) → list_any p xs ≡ false → find p xs ≡ None
find-none p [] none = refl
find-none p (x ∷ xs) none =
    let parts = neither (p x) (list_any p xs) none in
    ap (λ (b : Bool). cond b (Some x) (find p xs)) parts.0 ∙ find-none p xs parts.1

-- a request that needs no byte of an active or queued one needs none of those that are admitted, nor of those that stay
admitted-apart : (r : TokenRequest) (active staying queue : List TokenRequest) → meets_some r active ≡ false → meets_some r staying ≡ false → meets_some r queue ≡ false → (let next = admitted active staying queue in (meets_some r next.0 || meets_some r next.1) ≡ false)
admitted-apart r active staying [] a s q = none-of (meets_some r active) (meets_some r staying) a s
admitted-apart r active staying (x ∷ rest) a s q =
    by (meets_some x active || meets_some x staying) (admitted-apart r active (staying ++ x ∷ []) rest a (pushed staying s) parts.1) (admitted-apart r (active ++ x ∷ []) staying rest (pushed active a) s parts.1)
  where
    parts : (meets r.wanted.required x.wanted.required ≡ false) × (meets_some r rest ≡ false)
    parts = neither (meets r.wanted.required x.wanted.required) (meets_some r rest) q

    pushed : (xs : List TokenRequest) → meets_some r xs ≡ false → meets_some r (xs ++ x ∷ []) ≡ false
    pushed xs none =
        list_any-append (λ y. meets r.wanted.required y.wanted.required) xs (x ∷ [])
        ∙ none-of (meets_some r xs) (meets r.wanted.required x.wanted.required || false) none (none-of (meets r.wanted.required x.wanted.required) false parts.0 refl)

    Apart : Lists → Type 0
    Apart next = (meets_some r next.0 || meets_some r next.1) ≡ false

    by : (b : Bool) → Apart (admitted active (staying ++ x ∷ []) rest) → Apart (admitted (active ++ x ∷ []) staying rest) → Apart (cond b (admitted active (staying ++ x ∷ []) rest) (admitted (active ++ x ∷ []) staying rest))
    by true stays goes = stays
    by false stays goes = goes

-- a request at the end of the queue that needs no byte of another is admitted as the last active one
admitted-last : (r : TokenRequest) (active queue : List TokenRequest) → meets_some r active ≡ false → meets_some r queue ≡ false → (admitted active [] (queue ++ r ∷ [])).0 ≡ (admitted active [] queue).0 ++ r ∷ []
admitted-last r active queue a q =
    let next : Lists = admitted active [] queue in
    ap (λ (xs : Lists). xs.0) (admitted-append active [] queue (r ∷ []))
    ∙ ap (λ (b : Bool). (let both : Lists = cond b (next.0, next.1 ++ r ∷ []) (next.0 ++ r ∷ [], next.1) in both).0) (admitted-apart r active [] queue a refl q)

-- serving leaves the list of active requests
commanded-active : (s t : ServerState) (node : ℕ) (row : Row) (token : Token) (command : Message) (out : List Message) → commanded s node row token command ≡ Ok (t, out) → t.active ≡ s.active
commanded-active s t node row token command out is = by (is_some row.outstanding) (nat_lt row.number (begin s + greatest_number)) _ _ refl refl is
  where
    by : (busy few : Bool) (new : ServerState) (sent : List Message) → new.active ≡ s.active → new ≡ new → ◌≡◌ {A = Answer} (cond busy (Ok (s, [])) (cond few (Ok (new, sent)) (Err Spent))) (Ok (t, out)) → t.active ≡ s.active
    by true few new sent kept same h =
        let pair : ◌≡◌ {A = ServerState × List Message} (s, []) (t, out) = cc in
        sym (ap (λ (p : ServerState × List Message). p.0.active) pair)
    by false true new sent kept same h =
        let pair : ◌≡◌ {A = ServerState × List Message} (new, sent) (t, out) = cc in
        sym (ap (λ (p : ServerState × List Message). p.0.active) pair) ∙ kept
    by false false new sent kept same h = absurd (cc)

silent-active : (s t : ServerState) (out : List Message) → ◌≡◌ {A = Answer} (Ok (s, [])) (Ok (t, out)) → t.active ≡ s.active
silent-active s t out h =
    let pair : ◌≡◌ {A = ServerState × List Message} (s, []) (t, out) = cc in
    sym (ap (λ (p : ServerState × List Message). p.0.active) pair)

served-active : (s t : ServerState) (r : TokenRequest) (out : List Message) → served s r ≡ Ok (t, out) → t.active ≡ s.active
served-active s t r out is = by (nat_le node s.shape.nodes) is
  where
    node : ℕ
    node = conflicting_node s r

    granted : (o : Option Row) → granted_to s r o ≡ Ok (t, out) → t.active ≡ s.active
    granted None h = silent-active s t out h
    granted (Some row) h = commanded-active s t r.call.node row _ _ out h

    revoked : (o : Option Row) → revoked_from s r node o ≡ Ok (t, out) → t.active ≡ s.active
    revoked None h = silent-active s t out h
    revoked (Some row) h = commanded-active s t node row row.token _ out h

    by : (b : Bool) → cond b (revoked_from s r node (s.rows node)) (granted_to s r (s.rows r.call.node)) ≡ Ok (t, out) → t.active ≡ s.active
    by true h = revoked (s.rows node) h
    by false h = granted (s.rows r.call.node) h

each_served-active : (rs : List TokenRequest) (s t : ServerState) (out : List Message) → each_served rs s ≡ Ok (t, out) → t.active ≡ s.active
each_served-active [] s t out h = silent-active s t out h
each_served-active (r ∷ rest) s t out h = by (served s r) refl (λ u v sent. each_served-active rest u v sent) h
  where
    Keeps : Type 0
    Keeps = (u v : ServerState) (sent : List Message) → each_served rest u ≡ Ok (v, sent) → v.active ≡ u.active

    more : (u : ServerState) (before : List Message) (x : Answer) → Keeps → x ≡ each_served rest u → with_more before x ≡ Ok (t, out) → t.active ≡ u.active
    more u before (Err e) keeps is h = absurd (cc)
    more u before (Ok done) keeps is h =
        let pair : ◌≡◌ {A = ServerState × List Message} (done.0, before ++ done.1) (t, out) = cc in
        sym (ap (λ (p : ServerState × List Message). p.0.active) pair) ∙ keeps u done.0 done.1 (sym is)

    by : (x : Answer) → served s r ≡ x → Keeps → and_then x (each_served rest) ≡ Ok (t, out) → t.active ≡ s.active
    by (Err e) is keeps h = absurd (cc)
    by (Ok done) is keeps h = more done.0 done.1 (each_served rest done.0) keeps refl h ∙ served-active s done.0 r done.1 is

-- a server whose nodes all reported their tokens awaits none after a request came
abbrev HaveTold : ServerState → Type 0
HaveTold s = (n : ℕ) → 1 ≤ n → n < 1 + s.shape.nodes → is_awaited (s.rows n) ≡ false

pub above-told : (incarnation : ℕ) (row : Option Row) → is_awaited row ≡ false → is_awaited (row_above incarnation row) ≡ false
above-told incarnation None told = refl
above-told incarnation (Some row) told = elim (nat_le row.incarnation incarnation) as (λ b. is_awaited (cond b None (Some row)) ≡ false) [ true ↦ refl | false ↦ told ]

forgotten-told : (s : ServerState) (node incarnation : ℕ) → HaveTold s → HaveTold (forgotten s node incarnation)
forgotten-told s node incarnation told n above within =
    elim (n == node) as (λ b. is_awaited (cond b (row_above incarnation (s.rows n)) (s.rows n)) ≡ false) [
      | true ↦ above-told incarnation (s.rows n) (told n above within)
      | false ↦ told n above within
    ]

with_a_row-told : (s : ServerState) (call : CallId) (row : Option Row) → HaveTold s → HaveTold (with_a_row s call row)
with_a_row-told s call None told n above within =
    elim (n == call.node) as (λ b. is_awaited (cond b (Some (empty_row (begin s) call.incarnation)) (s.rows n)) ≡ false) [
      | true ↦ refl
      | false ↦ told n above within
    ]
with_a_row-told s call (Some row) told n above within = told n above within

enqueued-told : (s : ServerState) (r : TokenRequest) → HaveTold s → HaveTold (enqueued s r)
enqueued-told s r told =
    elim (list_any (is_of_call r.call) s.active || list_any (is_of_call r.call) s.queue) as (λ b. HaveTold (cond b s (enqueued_with s r (request_of r.call s.waiting)))) [
      | true ↦ told
      | false ↦ elim (request_of r.call s.waiting) as (λ own. HaveTold (enqueued_with s r own)) [ None ↦ told | Some own ↦ told ]
    ]

asked-told : (s : ServerState) (r : TokenRequest) → awaits s ≡ false → awaits (asked s r) ≡ false
asked-told s r none =
    let young = forgotten s r.call.node (r.call.incarnation - 1) in
    let first = forgotten-told s r.call.node (r.call.incarnation - 1) (λ n above within. some_passes-none (λ k. is_awaited (s.rows k)) 1 s.shape.nodes n none above within) in
    let second = with_a_row-told young r.call (young.rows r.call.node) first in
    none_passes-from (λ n. is_awaited ((asked s r).rows n)) 1 (asked s r).shape.nodes (enqueued-told (with_a_row young r.call (young.rows r.call.node)) r second)

-- the queue after the request came
asked-lists : (s : ServerState) (r : TokenRequest) → MeetsNone s r → (let young = forgotten s r.call.node (r.call.incarnation - 1) in ((asked s r).active ≡ young.active) × ((asked s r).queue ≡ young.queue ++ r ∷ []))
asked-lists s r is = by (young.rows r.call.node)
  where
    young : ServerState
    young = forgotten s r.call.node (r.call.incarnation - 1)

    stays : TokenRequest → Bool
    stays q = not (is_up_to r.call.node (r.call.incarnation - 1) q)

    own : TokenRequest → Bool
    own = is_of_call r.call

    parts : (list_any own s.active ≡ false) × (list_any own (s.queue ++ s.waiting) ≡ false)
    parts = neither (list_any own s.active) (list_any own (s.queue ++ s.waiting)) (sym (list_any-append own s.active (s.queue ++ s.waiting)) ∙ is.new)

    others : (list_any own s.queue ≡ false) × (list_any own s.waiting ≡ false)
    others = neither (list_any own s.queue) (list_any own s.waiting) (sym (list_any-append own s.queue s.waiting) ∙ parts.1)

    none : (list_any own young.active || list_any own young.queue) ≡ false
    none = none-of (list_any own young.active) (list_any own young.queue) (any-filter own stays s.active parts.0) (any-filter own stays s.queue others.0)

    found : request_of r.call young.waiting ≡ None
    found = find-none own young.waiting (any-filter own stays s.waiting others.1)

    Comes : ServerState → Type 0
    Comes t = (t.active ≡ young.active) × (t.queue ≡ young.queue ++ r ∷ [])

    put : (t : ServerState) → t.active ≡ young.active → t.queue ≡ young.queue → t.waiting ≡ young.waiting → Comes (enqueued t r)
    put t a q w =
        let first : (list_any own t.active || list_any own t.queue) ≡ false = (λ i. list_any own (a i) || list_any own (q i)) ∙ none in
        let last : request_of r.call t.waiting ≡ None = ap (request_of r.call) w ∙ found in
        subst Comes (sym (ap (λ (b : Bool). cond b t (enqueued_with t r (request_of r.call t.waiting))) first ∙ ap (enqueued_with t r) last)) (a, ap (λ (xs : List TokenRequest). xs ++ r ∷ []) q)

    by : (o : Option Row) → Comes (enqueued (with_a_row young r.call o) r)
    by None = put (with_a_row young r.call None) refl refl refl
    by (Some row) = put young refl refl refl

pub what_meets_none-served : ServesWhatMeetsNone
what_meets_none-served s file r new out done is = by (is_server s.file (addressee m) && is_within s.shape.nodes (host_of m).node) (nat_le (host_of m).incarnation (s.dead (host_of m).node)) refl done
  where
    m : Message
    m = Request file r.call r.blocking r.mode r.wanted

    stays : TokenRequest → Bool
    stays q = not (is_up_to r.call.node (r.call.incarnation - 1) q)

    lists : ((asked s r).active ≡ filter stays s.active) × ((asked s r).queue ≡ filter stays s.queue ++ r ∷ [])
    lists = asked-lists s r is

    last : (ready (asked s r)).active ≡ (admitted (filter stays s.active) [] (filter stays s.queue)).0 ++ r ∷ []
    last =
        (λ i. (admitted (lists.0 i) [] (lists.1 i)).0)
        ∙ admitted-last r (filter stays s.active) (filter stays s.queue) (any-filter (λ q. meets r.wanted.required q.wanted.required) stays s.active is.apart) (any-filter (λ q. meets r.wanted.required q.wanted.required) stays s.queue is.clear)

    waits_for_none : serve (asked s r) ≡ each_served (ready (asked s r)).active (ready (asked s r))
    waits_for_none = ap (λ (b : Bool). let x : Answer = cond b (Ok (asked s r, [])) (each_served (ready (asked s r)).active (ready (asked s r))) in x) (asked-told s r is.told)

    serves : (x : Answer) → serve (asked s r) ≡ x → sending_first [] x ≡ Ok (new, out) → (before : List TokenRequest) × (new.active ≡ before ++ r ∷ [])
    serves (Err e) was h = absurd (cc)
    serves (Ok ends) was h =
        let pair : ◌≡◌ {A = ServerState × Outcome} (ends.0, sending ([] ++ ends.1)) (new, out) = cc in
        ((admitted (filter stays s.active) [] (filter stays s.queue)).0, sym (ap (λ (p : ServerState × Outcome). p.0.active) pair) ∙ each_served-active (ready (asked s r)).active (ready (asked s r)) ends.0 ends.1 (sym waits_for_none ∙ was) ∙ last)

    by : (ours dead : Bool) → nat_le (host_of m).incarnation (s.dead (host_of m).node) ≡ dead → then_serve s (cond (not ours) (Err Stranger) (cond dead (Ok None) (Ok (delivered s m)))) ≡ Ok (new, out) → (before : List TokenRequest) × (new.active ≡ before ++ r ∷ [])
    by false dead known h = absurd (cc)
    by true true known h = absurd (both_ways (nat_le r.call.incarnation (s.dead r.call.node)) (lt-leb r.call.incarnation (s.dead r.call.node) is.living) known)
    by true false known h = serves (serve (asked s r)) refl h
