-- A sketch makes of a server what the rule says.
use Rattle.std.specs.Prelude.{◌≡◌, Bool, true, false, cond, ◌||◌, List, [], ◌∷◌, filter, find, Some, is_some, refl, ℕ, ◌-◌, ◌≤◌, not, if◌then◌else◌, ◌&&◌, ◌==◌, nat_le, Option, None, ◌+◌, nat_lt, Result, Ok, Err}
use Rattle.std.specs.List.{list_any}
use Rattle.std.proofs.Common.{ap, ◌∙◌, sym, inl, inr, arith}
use Rattle.std.proofs.lemmas.Bool.{both_ways}
use Rattle.std.proofs.lemmas.Grind.{common_steps}
use Rattle.std.proofs.lemmas.Bool.Decides.{eqb_tells}
use Rattle.model.specs.declared.call.CallId.{CallId}
use Rattle.model.specs.rule.Limits.{HostFields}
use Rattle.model.specs.rule.Owners.{host_of_call}
use Rattle.messages.specs.rule.Messages.{same_call, greatest_number, addressee, host_of, is_within}
use Rattle.token_server.specs.declared.token_queue.token_request.TokenRequest.{TokenRequest}
use Rattle.token_server.specs.declared.known_nodes.known_change.KnownChange.TheVariants.{Asked}
use Rattle.token_server.specs.declared.sketch.Moved.{Moved}
use Rattle.token_server.specs.declared.sketch.Moved.TheVariants.{Nothing}
use Rattle.token_server.specs.declared.known_nodes.known_change.Changed.{Changed}
use Rattle.token_server.specs.rule.Requests.{is_of_call, is_up_to}
use Rattle.token_server.specs.rule.Actives.{requests_of}
use Rattle.token_server.specs.rule.Rows.{Row, row_above}
use Rattle.token_server.specs.rule.State.{ServerState, forgotten, begin, requeued, awaits}
use Rattle.token_server.specs.code.Rows.{with_change, row_or_empty, rows_after}
use Rattle.token_server.specs.rule.Parts.{ServerParts, server_state}
use Rattle.token_server.specs.rule.Server.{with_a_row, request_of, enqueued_with, enqueued, asked, Change, is_server, delivered, then_serve, learn_rule, server_rule}
use Rattle.token_server.specs.code.Edits.{moved_with, moved_for, sketched}
use Rattle.messages.specs.declared.refusal.StepError.{StepError}
use Rattle.messages.specs.declared.refusal.StepError.TheVariants.{Stranger, Spent}
use Rattle.messages.specs.declared.message.Message.{Message}
use Rattle.token_set.specs.rule.Tokens.{Token}
use Rattle.token_server.specs.declared.event.ServerEvent.TheVariants.{Deliver}
use Rattle.token_server.specs.rule.Serve.{conflicting_node, commanded, granted_to, revoked_from, served, with_more, and_then, each_served, ready, serve}
use Rattle.token_server.specs.rule.Resends.{sending_first, outstanding, resend_rule}

-- a search finds an element exactly if one passes the test
pub find-any : {X : Type 0} (test : X → Bool) (xs : List X) → is_some (find test xs) ≡ list_any test xs
find-any test [] = refl
find-any test (x ∷ xs) = by (test x) (find-any test xs)
  where
    by : (b : Bool) → is_some (find test xs) ≡ list_any test xs → is_some (cond b (Some x) (find test xs)) ≡ (b || list_any test xs)
    by true rest = refl
    by false rest = rest

-- a search finds the same element after a filter that keeps all that pass
pub find-filter : {X : Type 0} (test keep : X → Bool) (xs : List X) → ((x : X) → test x ≡ true → keep x ≡ true) → find test (filter keep xs) ≡ find test xs
find-filter test keep [] keeps = refl
find-filter test keep (x ∷ xs) keeps = by (test x) (keep x) refl refl (find-filter test keep xs keeps)
  where
    by : (t k : Bool) → test x ≡ t → keep x ≡ k → find test (filter keep xs) ≡ find test xs → find test (cond k (x ∷ filter keep xs) (filter keep xs)) ≡ cond t (Some x) (find test xs)
    by true true is kept rest = ap (λ (b : Bool). cond b (Some x) (find test (filter keep xs))) is
    by true false is kept rest = absurd (both_ways _ kept (keeps x is))
    by false true is kept rest = ap (λ (b : Bool). cond b (Some x) (find test (filter keep xs))) is ∙ rest
    by false false is kept rest = rest

-- a row for a node that has none
pub row_added : (node begin incarnation : ℕ) (rows : ℕ → Option Row) (row : Option Row) → rows node ≡ row → (λ n. if n == node then row_or_empty begin incarnation row else rows n) ≡ with_change node (row_or_empty begin incarnation) rows
row_added node begin incarnation rows row is = λ i n. at n i
  where
    at : (n : ℕ) → (if n == node then row_or_empty begin incarnation row else rows n) ≡ with_change node (row_or_empty begin incarnation) rows n
    at n = elim (eqb_tells n node) [
      | inl here ↦
          let same : row_or_empty begin incarnation row ≡ row_or_empty begin incarnation (rows n) = ap (row_or_empty begin incarnation) (sym is ∙ ap rows (sym here.1)) in
          ap (λ (b : Bool). cond b (row_or_empty begin incarnation row) (rows n)) here.0 ∙ same ∙ sym (ap (λ (b : Bool). cond b (row_or_empty begin incarnation (rows n)) (rows n)) here.0)
      | inr apart ↦
          ap (λ (b : Bool). cond b (row_or_empty begin incarnation row) (rows n)) apart.0 ∙ sym (ap (λ (b : Bool). cond b (row_or_empty begin incarnation (rows n)) (rows n)) apart.0)
    ]

-- a node that has a row keeps it
pub row_there : (node : ℕ) (rows : ℕ → Option Row) (row : Option Row) → rows node ≡ row → (λ n. if n == node then row else rows n) ≡ rows
row_there node rows row is = λ i n. at n i
  where
    at : (n : ℕ) → (if n == node then row else rows n) ≡ rows n
    at n = elim (eqb_tells n node) [
      | inl here ↦ ap (λ (b : Bool). cond b row (rows n)) here.0 ∙ sym is ∙ ap rows (sym here.1)
      | inr apart ↦ ap (λ (b : Bool). cond b row (rows n)) apart.0
    ]

-- two changes of one node, one after the other
pub change_twice : (node : ℕ) (f g : Option Row → Option Row) (rows : ℕ → Option Row) → with_change node f (with_change node g rows) ≡ with_change node (λ row. f (g row)) rows
change_twice node f g rows = λ i n. each (n == node) (rows n) i
  where
    each : (b : Bool) (row : Option Row) → cond b (f (cond b (g row) row)) (cond b (g row) row) ≡ cond b (f (g row)) row
    each true row = refl
    each false row = refl

with_a_row-is : (s : ServerState) (call : CallId) (row : Option Row) → s.rows call.node ≡ row → with_a_row s call row ≡ record s { rows = with_change call.node (row_or_empty (begin s) call.incarnation) s.rows }
with_a_row-is s call None is = λ i. record s { rows = row_added call.node (begin s) call.incarnation s.rows None is i }
with_a_row-is s call (Some row) is = λ i. record s { rows = (sym (row_there call.node s.rows (Some row) is) ∙ row_added call.node (begin s) call.incarnation s.rows (Some row) is) i }

-- a request of the call is not of an incarnation before it
of_call-young : (own asked : CallId) → 1 ≤ asked.incarnation → same_call own asked ≡ true → not ((own.node == asked.node) && nat_le own.incarnation (asked.incarnation - 1)) ≡ true
of_call-young own asked counted same = grind (arith, common_steps)

asked-sketched : (p : ServerParts) (r : TokenRequest) → 1 ≤ r.call.incarnation → sketched p (record { changed = Some (record { node = r.call.node; change = Asked (host_of_call r.call) (begin (server_state p)) }); moved = moved_for r (requests_of p.active.held) p.queue.requests p.waiting.requests; ended = None }) ≡ asked (server_state p) r
asked-sketched p r counted = moves ∙ same_test ∙ ap (λ (s : ServerState). enqueued s r) (sym rowed)
  where
    node : ℕ
    node = r.call.node

    old : ℕ
    old = r.call.incarnation - 1

    keeps : TokenRequest → Bool
    keeps x = not (is_up_to node old x)

    young : ServerState
    young = forgotten (server_state p) node old

    changed : Option Changed
    changed = Some (record { node = node; change = Asked (host_of_call r.call) (begin (server_state p)) })

    base : ServerState
    base = record young { rows = rows_after changed (server_state p).rows }

    made : Moved → ServerState
    made m = sketched p (record { changed = changed; moved = m; ended = None })

    rowed : with_a_row young r.call (young.rows node) ≡ base
    rowed = with_a_row-is young r.call (young.rows node) refl ∙ (λ i. record young { rows = change_twice node (row_or_empty (begin (server_state p)) r.call.incarnation) (row_above old) (server_state p).rows i })

    kept : (requests : List TokenRequest) → find (is_of_call r.call) (filter keeps requests) ≡ find (is_of_call r.call) requests
    kept requests = find-filter (is_of_call r.call) keeps requests (λ x is. of_call-young x.call r.call counted is)

    test : Bool
    test = is_some (request_of r.call (requests_of p.active.held)) || is_some (request_of r.call p.queue.requests)

    one : (o : Option TokenRequest) → made (moved_with r o) ≡ enqueued_with base r o
    one None = refl
    one (Some own) = refl

    by : (b : Bool) (o : Option TokenRequest) → made (cond b Nothing (moved_with r o)) ≡ cond b base (enqueued_with base r o)
    by true o = refl
    by false o = one o

    moves : made (moved_for r (requests_of p.active.held) p.queue.requests p.waiting.requests) ≡ cond test base (enqueued_with base r (request_of r.call p.waiting.requests))
    moves = by test (request_of r.call p.waiting.requests)

    tests : (requests : List TokenRequest) → is_some (request_of r.call requests) ≡ list_any (is_of_call r.call) (filter keeps requests)
    tests requests = ap is_some (sym (kept requests)) ∙ find-any (is_of_call r.call) (filter keeps requests)

    same_test : cond test base (enqueued_with base r (request_of r.call p.waiting.requests)) ≡ enqueued base r
    same_test = λ i. cond (tests (requests_of p.active.held) i || tests p.queue.requests i) base (enqueued_with base r (sym (kept p.waiting.requests) i))

-- the sketch of a request makes what the rule says
pub asked-from : (p : ServerParts) (r : TokenRequest) (node : ℕ) (host : HostFields) (after : ℕ) (moved : Moved) → 1 ≤ r.call.incarnation → node ≡ r.call.node → host ≡ host_of_call r.call → after ≡ begin (server_state p) → moved ≡ moved_for r (requests_of p.active.held) p.queue.requests p.waiting.requests → sketched p (record { changed = Some (record { node = node; change = Asked host after }); moved = moved; ended = None }) ≡ asked (server_state p) r
asked-from p r node host after moved counted at by begins is =
    (λ i. sketched p (record { changed = Some (record { node = at i; change = Asked (by i) (begins i) }); moved = is i; ended = None }))
    ∙ asked-sketched p r counted

abbrev Answer : Type 0
Answer = Result (ServerState × List Message) StepError

commanded-spent : (s : ServerState) (node : ℕ) (row : Row) (token : Token) (command : Message) (e : StepError) → commanded s node row token command ≡ Err e → e ≡ Spent
commanded-spent s node row token command e = by (is_some row.outstanding) (nat_lt row.number (begin s + greatest_number)) _ _
  where
    by : (busy few : Bool) (a b : ServerState × List Message) → ◌≡◌ {A = Answer} (cond busy (Ok a) (cond few (Ok b) (Err Spent))) (Err e) → e ≡ Spent
    by true few a b h = absurd (cc)
    by false true a b h = absurd (cc)
    by false false a b h = let same : Spent ≡ e = cc in sym same

served-spent : (s : ServerState) (r : TokenRequest) (e : StepError) → served s r ≡ Err e → e ≡ Spent
served-spent s r e = by (nat_le node s.shape.nodes)
  where
    node : ℕ
    node = conflicting_node s r

    granted : (row : Option Row) → granted_to s r row ≡ Err e → e ≡ Spent
    granted None h = absurd (cc)
    granted (Some row) h = commanded-spent s r.call.node row _ _ e h

    revoked : (row : Option Row) → revoked_from s r node row ≡ Err e → e ≡ Spent
    revoked None h = absurd (cc)
    revoked (Some row) h = commanded-spent s node row row.token _ e h

    by : (b : Bool) → cond b (revoked_from s r node (s.rows node)) (granted_to s r (s.rows r.call.node)) ≡ Err e → e ≡ Spent
    by true h = revoked (s.rows node) h
    by false h = granted (s.rows r.call.node) h

with_more-spent : (before : List Message) (x : Answer) (e : StepError) → with_more before x ≡ Err e → x ≡ Err e
with_more-spent before (Err f) e h = h
with_more-spent before (Ok done) e h = absurd (cc)

each_served-spent : (rs : List TokenRequest) (s : ServerState) (e : StepError) → each_served rs s ≡ Err e → e ≡ Spent
each_served-spent [] s e h = absurd (cc)
each_served-spent (r ∷ rest) s e h = by (served s r) (served-spent s r e) (λ t. each_served-spent rest t e) h
  where
    by : (x : Answer) → (x ≡ Err e → e ≡ Spent) → ((t : ServerState) → each_served rest t ≡ Err e → e ≡ Spent) → and_then x (each_served rest) ≡ Err e → e ≡ Spent
    by (Err f) first others h = first h
    by (Ok done) first others h = others done.0 (with_more-spent done.1 (each_served rest done.0) e h)

-- serving is refused for want of a number alone
pub serve_first-spent : (first : List Message) (s : ServerState) (e : StepError) → sending_first first (serve s) ≡ Err e → e ≡ Spent
serve_first-spent first s e h = serves (awaits s) (by (serve s) h)
  where
    serves : (b : Bool) → ◌≡◌ {A = Answer} (cond b (Ok (s, [])) (each_served (ready s).active (ready s))) (Err e) → e ≡ Spent
    serves true h = absurd (cc)
    serves false h = each_served-spent (ready s).active (ready s) e h

    by : (x : Answer) → sending_first first x ≡ Err e → x ≡ Err e
    by (Err f) h = let same : f ≡ e = cc in ap (λ (g : StepError). let a : Answer = Err g in a) same
    by (Ok done) h = absurd (cc)

pub resend-spent : (s : ServerState) (e : StepError) → resend_rule s ≡ Err e → e ≡ Spent
resend-spent s e h = serve_first-spent (outstanding s) (requeued s) e h

-- the news of a dead incarnation of a node of the cluster is refused for want of a number alone
pub learn-spent : (s : ServerState) (node incarnation : ℕ) (e : StepError) → is_within s.shape.nodes node ≡ true → learn_rule s node incarnation ≡ Err e → e ≡ Spent
learn-spent s node incarnation e within h = by (is_within s.shape.nodes node) within h
  where
    by : (b : Bool) → b ≡ true → cond (not b) (Err Stranger) (sending_first [] (serve (requeued (forgotten s node incarnation)))) ≡ Err e → e ≡ Spent
    by true within h = serve_first-spent [] (requeued (forgotten s node incarnation)) e h
    by false within h = absurd (cc)

pub deliver-spent : (s : ServerState) (m : Message) (e : StepError) → (is_server s.file (addressee m) && is_within s.shape.nodes (host_of m).node) ≡ true → server_rule s (Deliver m) ≡ Err e → e ≡ Spent
deliver-spent s m e ours h = by (is_server s.file (addressee m) && is_within s.shape.nodes (host_of m).node) (nat_le (host_of m).incarnation (s.dead (host_of m).node)) ours h
  where
    goes : (o : Option Change) → then_serve s (Ok o) ≡ Err e → e ≡ Spent
    goes None h = absurd (cc)
    goes (Some c) h = serve_first-spent c.1 c.0 e h

    by : (b dead : Bool) → b ≡ true → then_serve s (cond (not b) (Err Stranger) (cond dead (Ok None) (Ok (delivered s m)))) ≡ Err e → e ≡ Spent
    by true true ours h = goes None h
    by true false ours h = goes (delivered s m) h
    by false dead ours h = absurd (cc)
