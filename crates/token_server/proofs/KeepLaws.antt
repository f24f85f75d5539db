-- The rows that block the other requests, after one is served.
use Rattle.std.specs.Prelude.{◌≡◌, ℕ, ◌+◌, ◌≤◌, Bool, true, false, not, cond, ◌&&◌, ◌||◌, ◌==◌, nat_le, nat_lt, List, [], ◌∷◌, ◌++◌, All, is_some, Option, Some, None, Result, Ok, Err}
use Rattle.std.specs.List.{list_any}
use Rattle.std.proofs.Common.{refl, sym, ap, subst, ◌∙◌, inl, inr, append_assoc}
use Rattle.std.proofs.lemmas.Bool.{and_parts, not-true}
use Rattle.std.proofs.lemmas.Bool.Decides.{eqb_tells}
use Rattle.std.proofs.lemmas.List.Folds.{list_any-append}
use Rattle.std.proofs.lemmas.List.Elements.{All-nil, All-cons, All-head, All-tail, All-append}
use Rattle.intervals.specs.rule.Bytes.{is_in}
use Rattle.messages.specs.declared.refusal.StepError.{StepError}
use Rattle.messages.specs.declared.refusal.StepError.TheVariants.{Spent}
use Rattle.messages.specs.declared.message.Message.{Message}
use Rattle.messages.specs.rule.Messages.{greatest_number}
use Rattle.token_set.specs.rule.Tokens.{Token}
use Rattle.token_server.specs.declared.token_queue.token_request.TokenRequest.{TokenRequest}
use Rattle.token_server.specs.rule.Rows.{Row, row_conflicts}
use Rattle.token_server.specs.rule.State.{ServerState, with_row, begin}
use Rattle.token_server.specs.rule.Requests.{meets}
use Rattle.token_server.specs.rule.Serve.{meets_some, conflicting_node, commanded, granted_to, revoked_from, served}
use Rattle.token_server.specs.rule.Obstacles.{are_apart}
use Rattle.token_server.proofs.GrantLaws.{conflicts_at}
use Rattle.token_server.proofs.AdmittingLaws.{both-meet, meets-flip, neither}
use Rattle.token_server.proofs.CareLaws.{All-left, All-right}
use Rattle.token_server.proofs.ObstacleLaws.{granted-spares, served-leaves}

-- no other active request needs a byte that this one needs
none-each : (r : TokenRequest) (qs : List TokenRequest) → meets_some r qs ≡ false → All (λ q. meets r.wanted.required q.wanted.required ≡ false) qs
none-each r [] none = All-nil (λ q. meets r.wanted.required q.wanted.required ≡ false)
none-each r (q ∷ qs) none =
    let parts = neither (meets r.wanted.required q.wanted.required) (meets_some r qs) none in
    All-cons (λ q. meets r.wanted.required q.wanted.required ≡ false) q qs parts.0 (none-each r qs parts.1)

pub apart-behind : (xs ys : List TokenRequest) (r : TokenRequest) → are_apart (xs ++ r ∷ ys) ≡ true → All (λ q. meets r.wanted.required q.wanted.required ≡ false) ys
apart-behind [] ys r apart = none-each r ys (not-true (meets_some r ys) (and_parts (not (meets_some r ys)) (are_apart ys) apart).0)
apart-behind (x ∷ xs) ys r apart = apart-behind xs ys r (and_parts (not (meets_some x (xs ++ r ∷ ys))) (are_apart (xs ++ r ∷ ys)) apart).1

pub apart-before : (xs ys : List TokenRequest) (r : TokenRequest) → are_apart (xs ++ r ∷ ys) ≡ true → All (λ q. meets r.wanted.required q.wanted.required ≡ false) xs
apart-before [] ys r apart = All-nil (λ q. meets r.wanted.required q.wanted.required ≡ false)
apart-before (x ∷ xs) ys r apart =
    let parts = and_parts (not (meets_some x (xs ++ r ∷ ys))) (are_apart (xs ++ r ∷ ys)) apart in
    let none = sym (both-meet x xs (r ∷ ys)) ∙ not-true (meets_some x (xs ++ r ∷ ys)) parts.0 in
    let one = neither (meets x.wanted.required r.wanted.required) (meets_some x ys) (neither (meets_some x xs) (meets_some x (r ∷ ys)) none).1 in
    All-cons (λ q. meets r.wanted.required q.wanted.required ≡ false) x xs (meets-flip r.wanted.required x.wanted.required ∙ one.0) (apart-before xs ys r parts.1)

-- a byte that one request needs is needed by one of all
abbrev pub IsAmongNeeds : List TokenRequest → TokenRequest → Type 0
IsAmongNeeds all q = (b : ℕ) → is_in q.wanted.required b ≡ true → list_any (λ x. is_in x.wanted.required b) all ≡ true

or-second : (a b : Bool) → b ≡ true → (a || b) ≡ true
or-second true b h = refl
or-second false b h = h

or-first : (a b : Bool) → a ≡ true → (a || b) ≡ true
or-first true b h = refl
or-first false b h = absurd (cc)

among-some : (before qs : List TokenRequest) → All (IsAmongNeeds (before ++ qs)) qs
among-some before [] = All-nil (IsAmongNeeds (before ++ []))
among-some before (q ∷ qs) =
    All-cons (IsAmongNeeds (before ++ q ∷ qs)) q qs
    (λ b here. list_any-append (λ x. is_in x.wanted.required b) before (q ∷ qs) ∙ or-second (list_any (λ x. is_in x.wanted.required b) before) (is_in q.wanted.required b || list_any (λ x. is_in x.wanted.required b) qs) (or-first (is_in q.wanted.required b) (list_any (λ x. is_in x.wanted.required b) qs) here))
    (subst (λ (all : List TokenRequest). All (IsAmongNeeds all) qs) (append_assoc before (q ∷ []) qs) (among-some (before ++ q ∷ []) qs))

pub among-all : (all : List TokenRequest) → All (IsAmongNeeds all) all
among-all all = among-some [] all

-- a request is blocked by the same row before and after
abbrev pub StandSame : ServerState → ServerState → TokenRequest → Type 0
StandSame s t q = (n : ℕ) → conflicts_at t q n ≡ conflicts_at s q n

abbrev Answer : Type 0
Answer = Result (ServerState × List Message) StepError

-- serving that sends nothing leaves the row that blocks the request
silent-same : (s t : ServerState) (q : TokenRequest) (out : List Message) → ◌≡◌ {A = Answer} (Ok (s, [])) (Ok (t, out)) → StandSame s t q
silent-same s t q out h =
    let pair : ◌≡◌ {A = ServerState × List Message} (s, []) (t, out) = cc in
    λ n. sym (ap (λ (p : ServerState × List Message). conflicts_at p.0 q n) pair)

commanded-same : (s t : ServerState) (q : TokenRequest) (node : ℕ) (row : Row) (token : Token) (command : Message) (out : List Message) → ((n : ℕ) → n ≡ node → (not (n == q.call.node) && row_conflicts (Some (record row { token = token; number = row.number + 1; outstanding = Some command })) q.wanted.required q.mode) ≡ conflicts_at s q n) → commanded s node row token command ≡ Ok (t, out) → StandSame s t q
commanded-same s t q node row token command out here is = by (is_some row.outstanding) (nat_lt row.number (begin s + greatest_number)) is
  where
    new : ServerState
    new = with_row s node (Some (record row { token = token; number = row.number + 1; outstanding = Some command }))

    at : (n : ℕ) → conflicts_at new q n ≡ conflicts_at s q n
    at n = elim (eqb_tells n node) [
      | inl own ↦ ap (λ (b : Bool). not (n == q.call.node) && row_conflicts (cond b (Some (record row { token = token; number = row.number + 1; outstanding = Some command })) (s.rows n)) q.wanted.required q.mode) own.0 ∙ here n own.1
      | inr other ↦ ap (λ (b : Bool). not (n == q.call.node) && row_conflicts (cond b (Some (record row { token = token; number = row.number + 1; outstanding = Some command })) (s.rows n)) q.wanted.required q.mode) other.0
    ]

    by : (busy few : Bool) → ◌≡◌ {A = Answer} (cond busy (Ok (s, [])) (cond few (Ok (new, command ∷ [])) (Err Spent))) (Ok (t, out)) → StandSame s t q
    by true few h = silent-same s t q out h
    by false true h =
        let pair : ◌≡◌ {A = ServerState × List Message} (new, command ∷ []) (t, out) = cc in
        λ n. sym (ap (λ (p : ServerState × List Message). conflicts_at p.0 q n) pair) ∙ at n
    by false false h = absurd (cc)

own_out : (q : TokenRequest) (n : ℕ) (x y : Bool) → n ≡ q.call.node → (not (n == q.call.node) && x) ≡ (not (n == q.call.node) && y)
own_out q n x y is = (λ i. not (eq i) && x) ∙ sym (λ i. not (eq i) && y)
  where
    eq : n == q.call.node ≡ true
    eq = elim (eqb_tells n q.call.node) [ inl same ↦ same.0 | inr other ↦ absurd (other.1 is) ]

pub served-own : (s t : ServerState) (q : TokenRequest) (out : List Message) → served s q ≡ Ok (t, out) → StandSame s t q
served-own s t q out is = by (nat_le node s.shape.nodes) is
  where
    node : ℕ
    node = conflicting_node s q

    granted : (o : Option Row) → granted_to s q o ≡ Ok (t, out) → StandSame s t q
    granted None h = silent-same s t q out h
    granted (Some row) h = commanded-same s t q q.call.node row _ _ out (λ n own. own_out q n _ _ own) h

    revoked : (o : Option Row) → s.rows node ≡ o → revoked_from s q node o ≡ Ok (t, out) → StandSame s t q
    revoked None there h = silent-same s t q out h
    revoked (Some row) there h = commanded-same s t q node row row.token _ out (λ n own. ap (λ (o : Option Row). not (n == q.call.node) && row_conflicts o q.wanted.required q.mode) (sym (ap s.rows own ∙ there))) h

    by : (b : Bool) → cond b (revoked_from s q node (s.rows node)) (granted_to s q (s.rows q.call.node)) ≡ Ok (t, out) → StandSame s t q
    by true h = revoked (s.rows node) refl h
    by false h = granted (s.rows q.call.node) h

-- serving a request leaves the row that blocks another, which needs no byte that it needs
served-other : (s t : ServerState) (r q : TokenRequest) (out : List Message) → r.wanted.required.lo ≤ r.wanted.required.hi → r.wanted.desired.lo ≤ r.wanted.required.lo → r.wanted.required.hi ≤ r.wanted.desired.hi → IsAmongNeeds s.active q → meets r.wanted.required q.wanted.required ≡ false → served s r ≡ Ok (t, out) → StandSame s t q
served-other s t r q out order starts ends among apart is =
    let leaves = served-leaves s t r out q.wanted.required q.mode (λ b within here. granted-spares s r q order starts ends among apart b within here) is in
    λ n. ap (λ (b : Bool). not (n == q.call.node) && b) (leaves.rows n)

-- serving a request leaves the row that blocks each active one
pub served-same : (s t : ServerState) (r : TokenRequest) (out : List Message) (xs ys : List TokenRequest) → s.active ≡ xs ++ r ∷ ys → are_apart s.active ≡ true → r.wanted.required.lo ≤ r.wanted.required.hi → r.wanted.desired.lo ≤ r.wanted.required.lo → r.wanted.required.hi ≤ r.wanted.desired.hi → served s r ≡ Ok (t, out) → All (StandSame s t) (xs ++ r ∷ ys)
served-same s t r out xs ys split apart order starts ends is =
    All-append (StandSame s t) xs (r ∷ ys) (each xs before (apart-before xs ys r both)) (All-cons (StandSame s t) r ys (served-own s t r out is) (each ys behind (apart-behind xs ys r both)))
  where
    both : are_apart (xs ++ r ∷ ys) ≡ true
    both = ap are_apart (sym split) ∙ apart

    needs : All (IsAmongNeeds s.active) (xs ++ r ∷ ys)
    needs = subst (λ (all : List TokenRequest). All (IsAmongNeeds s.active) all) split (among-all s.active)

    before : All (IsAmongNeeds s.active) xs
    before = All-left (IsAmongNeeds s.active) xs (r ∷ ys) needs

    behind : All (IsAmongNeeds s.active) ys
    behind = All-tail (IsAmongNeeds s.active) r ys (All-right (IsAmongNeeds s.active) xs (r ∷ ys) needs)

    each : (qs : List TokenRequest) → All (IsAmongNeeds s.active) qs → All (λ q. meets r.wanted.required q.wanted.required ≡ false) qs → All (StandSame s t) qs
    each [] a b = All-nil (StandSame s t)
    each (q ∷ qs) a b =
        All-cons (StandSame s t) q qs
        (served-other s t r q out order starts ends (All-head (IsAmongNeeds s.active) q qs a) (All-head (λ q. meets r.wanted.required q.wanted.required ≡ false) q qs b) is)
        (each qs (All-tail (IsAmongNeeds s.active) q qs a) (All-tail (λ q. meets r.wanted.required q.wanted.required ≡ false) q qs b))
