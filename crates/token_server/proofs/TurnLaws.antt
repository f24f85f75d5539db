-- The turns of the active requests, in order.
use Rattle.std.specs.Prelude.{◌≡◌, ℕ, zero, suc, ◌+◌, ◌<◌, ◌≤◌, Bool, true, false, not, cond, ◌&&◌, ◌==◌, nat_le, nat_lt, List, [], ◌∷◌, ◌++◌, filter, length, slice_get, slice_index_or, All, is_some, Option, Some, None, Result, Ok, Err}
use Rattle.std.specs.Option.{option_map, option_to_list, option_copied}
use Rattle.std.proofs.Common.{Bor, refl, sym, ap, subst, ◌∙◌, inl, inr, arith, take, drop, get_or, append-nil, append_assoc}
use Rattle.std.proofs.lemmas.Bool.{both_ways, and_parts, leb-true, le-leb, lt-leb, cases_lt}
use Rattle.std.proofs.lemmas.Bool.Decides.{eqb_tells}
use Rattle.std.proofs.lemmas.List.{map-append, take_more, take_all, take-append-drop}
use Rattle.std.proofs.lemmas.List.Elements.{All-nil, All-cons, All-head, All-tail, All-push, filter-append}
use Rattle.std.proofs.lemmas.Option.{none-some, same_Some, slice_get_within, slice_get-get_or, slice_get_cases, get_or_from_slice_get}
use Rattle.intervals.specs.rule.Bytes.{Range}
use Rattle.intervals.proofs.SearchLaws.{first_is_first}
use Rattle.model.specs.declared.call.CallId.{CallId}
use Rattle.messages.specs.declared.refusal.StepError.{StepError}
use Rattle.messages.specs.declared.refusal.StepError.TheVariants.{Spent}
use Rattle.messages.specs.declared.message.Message.{Message}
use Rattle.messages.specs.rule.Messages.{greatest_number}
use Rattle.token_set.specs.rule.Tokens.{Token}
use Rattle.token_server.specs.declared.token_queue.active_request.ActiveRequest.{ActiveRequest}
use Rattle.token_server.specs.declared.token_queue.token_request.TokenRequest.{TokenRequest}
use Rattle.token_server.specs.rule.Requests.{is_of_call, is_up_to}
use Rattle.token_server.specs.rule.Actives.{requests_of, waiting_for}
use Rattle.token_server.proofs.ActiveLaws.{waiting_for-at, waiting_for-length}
use Rattle.token_server.specs.declared.change.ServerEdit.{ServerEdit}
use Rattle.token_server.specs.declared.sent_command.SentCommand.{SentCommand}
use Rattle.token_server.specs.declared.known_nodes.server_command.Order.{Order}
use Rattle.token_server.specs.declared.known_nodes.server_command.Order.TheVariants.{Grant, Revoke}
use Rattle.token_server.specs.code.Orders.{message_of}
use Rattle.token_server.specs.rule.Rows.{Commands, Row, row_conflicts}
use Rattle.token_server.specs.rule.State.{ServerState, with_row, begin}
use Rattle.token_server.specs.code.Rows.{next_number, told_commands}
use Rattle.token_server.specs.code.Edits.{commands_of, without, still_active, told_to, row_told, with_told, commands_told, cut, is_up_to_any, is_of_any, keeps, held_still, held_without, held_after, kept, kept_of, IsTurn, AreServed}
use Rattle.token_server.specs.rule.Serve.{narrowed, granted_span, conflicting_node, commanded, granted_to, revoked_from, served, each_served}
use Rattle.token_server.specs.rule.Obstacles.{obstacle, are_apart, is_idle}
use Rattle.token_server.proofs.GrantLaws.{conflicts_at, HasByte, IsLeft, left-more}
use Rattle.token_server.proofs.ObstacleLaws.{obstacle-same, served-silent}
use Rattle.token_server.proofs.KeepLaws.{StandSame, served-same}
use Rattle.token_server.proofs.CareLaws.{All-right}
use Rattle.token_server.proofs.ToldLaws.{silent, told-next, nodes-next, served-spent, list-at, grant-gone, grant-busy, grant-spent, grant-sent, revoke-gone, revoke-busy, revoke-spent, revoke-sent}

-- the requests stay the same where they wait for other rows
pub waiting_for-requests : (ats : List ℕ) (held : List ActiveRequest) → requests_of (waiting_for ats held) ≡ requests_of held
waiting_for-requests [] held = refl
waiting_for-requests (at ∷ ats) [] = refl
waiting_for-requests (at ∷ ats) (h ∷ held) = ap (λ (rs : List TokenRequest). h.request ∷ rs) (waiting_for-requests ats held)

pub filter-requests : (keep : TokenRequest → Bool) (held : List ActiveRequest) → requests_of (filter (λ h. keep h.request) held) ≡ filter keep (requests_of held)
filter-requests keep [] = refl
filter-requests keep (h ∷ held) = by (keep h.request) (filter-requests keep held)
  where
    by : (b : Bool) → requests_of (filter (λ x. keep x.request) held) ≡ filter keep (requests_of held) → requests_of (cond b (h ∷ filter (λ x. keep x.request) held) (filter (λ x. keep x.request) held)) ≡ cond b (h.request ∷ filter keep (requests_of held)) (filter keep (requests_of held))
    by true rest = ap (λ (rs : List TokenRequest). h.request ∷ rs) rest
    by false rest = rest

pub without-requests : (dropped : Option (ℕ × ℕ)) (held : List ActiveRequest) → requests_of (held_without dropped held) ≡ without dropped (requests_of held)
without-requests None held = refl
without-requests (Some d) held = filter-requests (λ r. not (is_up_to d.0 d.1 r)) held

pub still-requests : (ended : Option CallId) (held : List ActiveRequest) → requests_of (held_still ended held) ≡ still_active ended (requests_of held)
still-requests None held = refl
still-requests (Some call) held = filter-requests (λ r. not (is_of_call call r)) held

-- the active requests after a change: those that stay active, then those admitted
pub held_after-requests : (l : ServerEdit) (held : List ActiveRequest) → requests_of (held_after l held) ≡ still_active l.gone.ended (without l.gone.dropped (requests_of held)) ++ requests_of l.fresh.items
held_after-requests l held =
    map-append (λ (h : ActiveRequest). h.request) (held_still l.gone.ended (held_without l.gone.dropped (waiting_for l.ats.items held))) l.fresh.items
    ∙ ap (λ (rs : List TokenRequest). rs ++ requests_of l.fresh.items)
    (still-requests l.gone.ended (held_without l.gone.dropped (waiting_for l.ats.items held))
    ∙ ap (still_active l.gone.ended) (without-requests l.gone.dropped (waiting_for l.ats.items held) ∙ ap (without l.gone.dropped) (waiting_for-requests l.ats.items held)))

filter-all : (held : List ActiveRequest) → held ≡ filter (λ h. true) held
filter-all [] = refl
filter-all (h ∷ held) = ap (λ (hs : List ActiveRequest). h ∷ hs) (filter-all held)

filter-twice : (p q : ActiveRequest → Bool) (held : List ActiveRequest) → filter p (filter q held) ≡ filter (λ h. q h && p h) held
filter-twice p q [] = refl
filter-twice p q (h ∷ held) = by (q h) (p h) refl (filter-twice p q held)
  where
    both : ActiveRequest → Bool
    both x = q x && p x

    by : (b c : Bool) → p h ≡ c → filter p (filter q held) ≡ filter both held → filter p (cond b (h ∷ filter q held) (filter q held)) ≡ cond (b && c) (h ∷ filter both held) (filter both held)
    by true c is rest = ap (λ (x : Bool). cond x (h ∷ filter p (filter q held)) (filter p (filter q held))) is ∙ ap (λ (hs : List ActiveRequest). cond c (h ∷ hs) hs) rest
    by false c is rest = rest

without-filter : (dropped : Option (ℕ × ℕ)) (held : List ActiveRequest) → held_without dropped held ≡ filter (λ h. not (is_up_to_any dropped h.request)) held
without-filter None held = filter-all held
without-filter (Some d) held = refl

still-filter : (ended : Option CallId) (held : List ActiveRequest) → held_still ended held ≡ filter (λ h. not (is_of_any ended h.request)) held
still-filter None held = filter-all held
still-filter (Some call) held = refl

pub kept-is : (l : ServerEdit) (held : List ActiveRequest) → held_still l.gone.ended (held_without l.gone.dropped held) ≡ kept l held
kept-is l held =
    still-filter l.gone.ended (held_without l.gone.dropped held)
    ∙ ap (λ (hs : List ActiveRequest). filter (λ h. not (is_of_any l.gone.ended h.request)) hs) (without-filter l.gone.dropped held)
    ∙ filter-twice (λ h. not (is_of_any l.gone.ended h.request)) (λ h. not (is_up_to_any l.gone.dropped h.request)) held

pub held_after-kept : (l : ServerEdit) (held : List ActiveRequest) → held_after l held ≡ kept_of l held ++ l.fresh.items
held_after-kept l held = ap (λ (hs : List ActiveRequest). hs ++ l.fresh.items) (kept-is l (waiting_for l.ats.items held))

pub kept-requests : (l : ServerEdit) (held : List ActiveRequest) → requests_of (kept l held) ≡ still_active l.gone.ended (without l.gone.dropped (requests_of held))
kept-requests l held =
    ap requests_of (sym (kept-is l held))
    ∙ still-requests l.gone.ended (held_without l.gone.dropped held)
    ∙ ap (still_active l.gone.ended) (without-requests l.gone.dropped held)

-- one more request stays active
pub kept-more : (l : ServerEdit) (xs next : List ActiveRequest) (h : ActiveRequest) → next ≡ xs ++ h ∷ [] → keeps l.gone.dropped l.gone.ended h.request ≡ true → kept l next ≡ kept l xs ++ h ∷ []
kept-more l xs next h is on =
    ap (kept l) is
    ∙ filter-append (λ x. keeps l.gone.dropped l.gone.ended x.request) xs (h ∷ [])
    ∙ ap (λ (b : Bool). kept l xs ++ cond b (h ∷ []) []) on

pub kept-less : (l : ServerEdit) (xs next : List ActiveRequest) (h : ActiveRequest) → next ≡ xs ++ h ∷ [] → keeps l.gone.dropped l.gone.ended h.request ≡ false → kept l next ≡ kept l xs
kept-less l xs next h is off =
    ap (kept l) is
    ∙ filter-append (λ x. keeps l.gone.dropped l.gone.ended x.request) xs (h ∷ [])
    ∙ ap (λ (b : Bool). kept l xs ++ cond b (h ∷ []) []) off
    ∙ append-nil (kept l xs)

-- the request at a place, with the row that it waits for after the change
abbrev pub waiting_at : List ℕ → ℕ → ActiveRequest → ActiveRequest
waiting_at ats i h = record { request = h.request; at = slice_index_or ats i h.at }

pub waits-at : (ats : List ℕ) (held : List ActiveRequest) (i : ℕ) (h : ActiveRequest) → slice_get held i ≡ Some h → slice_get (waiting_for ats held) i ≡ Some (waiting_at ats i h)
waits-at [] held i h there = there
waits-at (a ∷ ats) [] i h there = absurd (none-some h there)
waits-at (a ∷ ats) (x ∷ held) zero h there =
    let same : x ≡ h = same_Some x h there in
    ap (λ (y : ActiveRequest). let o : Option ActiveRequest = Some (record { request = y.request; at = a }) in o) same
waits-at (a ∷ ats) (x ∷ held) (suc i) h there = waits-at ats held i h there

pub take-next : {X : Type 0} (xs : List X) (i : ℕ) (x : X) → slice_get xs i ≡ Some x → take (i + 1) xs ≡ take i xs ++ x ∷ []
take-next xs i x there = take_more xs i x (slice_get_within xs i x there) ∙ ap (λ y. take i xs ++ y ∷ []) (get_or_from_slice_get xs i x x there)

-- the requests that stay active, around one of them
pub kept-around : (l : ServerEdit) (ws : List ActiveRequest) (i : ℕ) (w : ActiveRequest) → slice_get ws i ≡ Some w → keeps l.gone.dropped l.gone.ended w.request ≡ true → kept l ws ++ l.fresh.items ≡ kept l (take i ws) ++ w ∷ (kept l (drop (i + 1) ws) ++ l.fresh.items)
kept-around l ws i w there on =
    ap (λ (hs : List ActiveRequest). kept l hs ++ l.fresh.items) (list-at ws i w (take-next ws i w there))
    ∙ ap (λ (hs : List ActiveRequest). hs ++ l.fresh.items)
    (filter-append (λ x. keeps l.gone.dropped l.gone.ended x.request) (take i ws) (w ∷ drop (i + 1) ws)
    ∙ ap (λ (b : Bool). kept l (take i ws) ++ cond b (w ∷ kept l (drop (i + 1) ws)) (kept l (drop (i + 1) ws))) on)
    ∙ append_assoc (kept l (take i ws)) (w ∷ kept l (drop (i + 1) ws)) l.fresh.items

abbrev Answer : Type 0
Answer = Result (ServerState × List Message) StepError

-- the node that blocks a request is another one than its own
pub opposing-other : (s : ServerState) (r : TokenRequest) → conflicting_node s r ≤ s.shape.nodes → (1 ≤ conflicting_node s r) × (conflicting_node s r == r.call.node ≡ false)
opposing-other s r within =
    let f = first_is_first (conflicts_at s r) 1 s.shape.nodes in
    let parts = and_parts (not (conflicting_node s r == r.call.node)) (row_conflicts (s.rows (conflicting_node s r)) r.wanted.required r.mode) (f.here (omega arith)) in
    (f.least, by (conflicting_node s r == r.call.node) parts.0)
  where
    by : (b : Bool) → not b ≡ true → b ≡ false
    by true h = absurd (cc)
    by false h = refl

above : (k n : ℕ) → nat_le k n ≡ false → n < k
above k n h = elim (cases_lt n k) [ inl less ↦ less | inr more ↦ absurd (both_ways (nat_le k n) h (le-leb k n more)) ]

-- a request that waits for its own node's row is blocked by none, and is granted
pub own-unopposed : (s : ServerState) (r : TokenRequest) (at : ℕ) → obstacle s r ≡ at → (at == r.call.node) ≡ true → s.shape.nodes < conflicting_node s r
own-unopposed s r at is own = by (nat_le (conflicting_node s r) s.shape.nodes) refl
  where
    by : (b : Bool) → nat_le (conflicting_node s r) s.shape.nodes ≡ b → s.shape.nodes < conflicting_node s r
    by true h =
        let other = opposing-other s r (leb-true (conflicting_node s r) s.shape.nodes h) in
        let same : conflicting_node s r ≡ at = sym (ap (λ (b : Bool). cond b (conflicting_node s r) r.call.node) h) ∙ is in
        absurd (both_ways (conflicting_node s r == r.call.node) other.1 (ap (λ (k : ℕ). k == r.call.node) same ∙ own))
    by false h = above (conflicting_node s r) s.shape.nodes h

own-granted : (s : ServerState) (r : TokenRequest) (at : ℕ) → obstacle s r ≡ at → (at == r.call.node) ≡ true → served s r ≡ granted_to s r (s.rows r.call.node)
own-granted s r at is own =
    let node = conflicting_node s r in
    ap (λ (b : Bool). cond b (revoked_from s r node (s.rows node)) (granted_to s r (s.rows r.call.node))) (lt-leb node s.shape.nodes (own-unopposed s r at is own))

-- a request that waits for another node's row is blocked by it, and that node's token is revoked
other-opposes : (s : ServerState) (r : TokenRequest) (at : ℕ) → obstacle s r ≡ at → (at == r.call.node) ≡ false → (nat_le (conflicting_node s r) s.shape.nodes ≡ true) × (conflicting_node s r ≡ at)
other-opposes s r at is other = by (nat_le (conflicting_node s r) s.shape.nodes) refl
  where
    here : (k : ℕ) → k == k ≡ true
    here k = elim (eqb_tells k k) [ inl same ↦ same.0 | inr apart ↦ absurd (apart.1 refl) ]

    by : (b : Bool) → nat_le (conflicting_node s r) s.shape.nodes ≡ b → (nat_le (conflicting_node s r) s.shape.nodes ≡ true) × (conflicting_node s r ≡ at)
    by true h = (h, sym (ap (λ (b : Bool). cond b (conflicting_node s r) r.call.node) h) ∙ is)
    by false h =
        let same : r.call.node ≡ at = sym (ap (λ (b : Bool). cond b (conflicting_node s r) r.call.node) h) ∙ is in
        absurd (both_ways (at == r.call.node) other (ap (λ (k : ℕ). at == k) same ∙ here at))

pub other-within : (s : ServerState) (r : TokenRequest) (at : ℕ) → obstacle s r ≡ at → (at == r.call.node) ≡ false → (1 ≤ at) × (at ≤ s.shape.nodes)
other-within s r at is other =
    let o = other-opposes s r at is other in
    let within = leb-true (conflicting_node s r) s.shape.nodes o.0 in
    (subst (λ (k : ℕ). 1 ≤ k) o.1 (opposing-other s r within).0, subst (λ (k : ℕ). k ≤ s.shape.nodes) o.1 within)

other-revoked : (s : ServerState) (r : TokenRequest) (at : ℕ) → obstacle s r ≡ at → (at == r.call.node) ≡ false → served s r ≡ revoked_from s r at (s.rows at)
other-revoked s r at is other =
    let o = other-opposes s r at is other in
    let node = conflicting_node s r in
    ap (λ (b : Bool). cond b (revoked_from s r node (s.rows node)) (granted_to s r (s.rows r.call.node))) o.0
    ∙ ap (λ (k : ℕ). revoked_from s r k (s.rows k)) o.1

-- the turn of a request, by what can be sent to the node: nothing, no number left, a command
module _ (ts : List SentCommand) (s : ServerState) (r : TokenRequest) (at : ℕ) (is : obstacle (with_told ts s) r ≡ at) where
  abbrev before : ServerState
  before = with_told ts s

  commands_at : (c : Option Commands) → (at ≡ r.call.node) → c ≡ option_map commands_of (before.rows at) → c ≡ option_map commands_of (before.rows r.call.node)
  commands_at c own known = known ∙ ap (λ (k : ℕ). option_map commands_of (before.rows k)) own

  pub turn-gone : None ≡ option_map commands_of (before.rows at) → served before r ≡ Ok (with_told (ts ++ []) s, [])
  turn-gone none = elim (eqb_tells at r.call.node) [
    | inl own ↦ own-granted before r at is own.0 ∙ grant-gone ts s r (commands_at None own.1 none)
    | inr other ↦ other-revoked before r at is other.0 ∙ revoke-gone ts s r at none
  ]

  pub turn-busy : (c : Commands) → Some c ≡ option_map commands_of (before.rows at) → next_number (begin s) c ≡ Ok None → served before r ≡ Ok (with_told (ts ++ []) s, [])
  turn-busy c known next = elim (eqb_tells at r.call.node) [
    | inl own ↦ own-granted before r at is own.0 ∙ grant-busy ts s r c (commands_at (Some c) own.1 known) next
    | inr other ↦ other-revoked before r at is other.0 ∙ revoke-busy ts s r at c known next
  ]

  pub turn-refused : (c : Commands) (e : StepError) → Some c ≡ option_map commands_of (before.rows at) → next_number (begin s) c ≡ Err e → served before r ≡ Err e
  turn-refused c e known next = elim (eqb_tells at r.call.node) [
    | inl own ↦ own-granted before r at is own.0 ∙ grant-spent ts s r c e (commands_at (Some c) own.1 known) next
    | inr other ↦ other-revoked before r at is other.0 ∙ revoke-spent ts s r at c e known next
  ]

  pub turn-sent : (c : Commands) (k : ℕ) (o : Order) (t : SentCommand) → Some c ≡ option_map commands_of (before.rows at) → next_number (begin s) c ≡ Ok (Some k) → t.node ≡ at → t.command ≡ message_of s.file o → t.commands ≡ told_commands t.command c → ((at == r.call.node) ≡ true → o ≡ Grant k r.call r.mode (granted_span before r)) → ((at == r.call.node) ≡ false → o ≡ Revoke k (record { node = at; incarnation = c.incarnation }) r.call r.mode (record { required = r.wanted.required; desired = narrowed s.active r })) → served before r ≡ Ok (with_told (ts ++ t ∷ []) s, t.command ∷ [])
  turn-sent c k o t known next to command commands own_order other_order = elim (eqb_tells at r.call.node) [
    | inl own ↦ own-granted before r at is own.0 ∙ grant-sent ts s r c k t (commands_at (Some c) own.1 known) next (to ∙ own.1) (command ∙ ap (message_of s.file) (own_order own.0)) commands
    | inr other ↦ other-revoked before r at is other.0 ∙ revoke-sent ts s r at c k t known next to (command ∙ ap (message_of s.file) (other_order other.0)) commands
  ]

-- after a request is served no command may go to the node whose row it waits for
silent-busy : (s t : ServerState) (node : ℕ) (out : List Message) → is_idle (s.rows node) ≡ false → ◌≡◌ {A = Answer} (Ok (s, [])) (Ok (t, out)) → is_idle (t.rows node) ≡ false
silent-busy s t node out busy is =
    let pair : ◌≡◌ {A = ServerState × List Message} (s, []) (t, out) = cc in
    subst (λ (x : ServerState). is_idle (x.rows node) ≡ false) (ap (λ (p : ServerState × List Message). p.0) pair) busy

commanded-busy : (s t : ServerState) (node : ℕ) (row : Row) (token : Token) (command : Message) (out : List Message) → s.rows node ≡ Some row → commanded s node row token command ≡ Ok (t, out) → is_idle (t.rows node) ≡ false
commanded-busy s t node row token command out there is = by (is_some row.outstanding) (nat_lt row.number (begin s + greatest_number)) refl is
  where
    made : Row
    made = record row { token = token; number = row.number + 1; outstanding = Some command }

    new : ServerState
    new = with_row s node (Some made)

    here : node == node ≡ true
    here = elim (eqb_tells node node) [ inl same ↦ same.0 | inr apart ↦ absurd (apart.1 refl) ]

    by : (busy few : Bool) → is_some row.outstanding ≡ busy → ◌≡◌ {A = Answer} (cond busy (Ok (s, [])) (cond few (Ok (new, command ∷ [])) (Err Spent))) (Ok (t, out)) → is_idle (t.rows node) ≡ false
    by true few b h = silent-busy s t node out (ap is_idle there ∙ ap not b) h
    by false true b h =
        let pair : ◌≡◌ {A = ServerState × List Message} (new, command ∷ []) (t, out) = cc in
        subst (λ (x : ServerState). is_idle (x.rows node) ≡ false) (ap (λ (p : ServerState × List Message). p.0) pair) (ap (λ (e : Bool). is_idle (cond e (Some made) (s.rows node))) here)
    by false false b h = absurd (cc)

pub served-busy : (s t : ServerState) (r : TokenRequest) (at : ℕ) (out : List Message) → obstacle s r ≡ at → served s r ≡ Ok (t, out) → is_idle (t.rows at) ≡ false
served-busy s t r at out where_is is = subst (λ (k : ℕ). is_idle (t.rows k) ≡ false) where_is (by (nat_le node s.shape.nodes) is)
  where
    node : ℕ
    node = conflicting_node s r

    granted : (o : Option Row) → s.rows r.call.node ≡ o → granted_to s r o ≡ Ok (t, out) → is_idle (t.rows r.call.node) ≡ false
    granted None there h = silent-busy s t r.call.node out (ap is_idle there) h
    granted (Some row) there h = commanded-busy s t r.call.node row _ _ out there h

    revoked : (o : Option Row) → s.rows node ≡ o → revoked_from s r node o ≡ Ok (t, out) → is_idle (t.rows node) ≡ false
    revoked None there h = silent-busy s t node out (ap is_idle there) h
    revoked (Some row) there h = commanded-busy s t node row row.token _ out there h

    by : (b : Bool) → cond b (revoked_from s r node (s.rows node)) (granted_to s r (s.rows r.call.node)) ≡ Ok (t, out) → is_idle (t.rows (cond b node r.call.node)) ≡ false
    by true h = revoked (s.rows node) refl h
    by false h = granted (s.rows r.call.node) refl h

-- a node to which no command may go is one after a command to it or to others
quiet-row : (o : Option SentCommand) (row : Option Row) → is_idle row ≡ false → is_idle (row_told o row) ≡ false
quiet-row None row quiet = quiet
quiet-row (Some t) None quiet = refl
quiet-row (Some t) (Some row) quiet = refl

pub quiet-told : (ts : List SentCommand) (s : ServerState) (n : ℕ) → is_idle (s.rows n) ≡ false → is_idle ((with_told ts s).rows n) ≡ false
quiet-told ts s n quiet = quiet-row (told_to ts n) (s.rows n) quiet

quiet-some : (t : SentCommand) (row : Option Row) → is_idle (row_told (Some t) row) ≡ false
quiet-some t None = refl
quiet-some t (Some row) = refl

pub quiet-more : (ts more : List SentCommand) (s : ServerState) (n : ℕ) → is_idle ((with_told ts s).rows n) ≡ false → is_idle ((with_told (ts ++ more) s).rows n) ≡ false
quiet-more [] more s n quiet = quiet-told more s n quiet
quiet-more (t ∷ ts) more s n quiet = by (t.node == n) quiet (quiet-more ts more s n)
  where
    by : (b : Bool) → is_idle (row_told (cond b (Some t) (told_to ts n)) (s.rows n)) ≡ false → (is_idle ((with_told ts s).rows n) ≡ false → is_idle ((with_told (ts ++ more) s).rows n) ≡ false) → is_idle (row_told (cond b (Some t) (told_to (ts ++ more) n)) (s.rows n)) ≡ false
    by true quiet rest = quiet-some t (s.rows n)
    by false quiet rest = rest quiet

-- a command is found where it is lent
pub copied-some : (o : Option (Bor SentCommand)) → is_some (option_copied o) ≡ is_some o
copied-some None = refl
copied-some (Some t) = refl

-- a node to which a command was sent has one outstanding
pub told-quiet : (ts : List SentCommand) (s : ServerState) (n : ℕ) → is_some (told_to ts n) ≡ true → is_idle ((with_told ts s).rows n) ≡ false
told-quiet ts s n some = by (told_to ts n) some
  where
    by : (o : Option SentCommand) → is_some o ≡ true → is_idle (row_told o (s.rows n)) ≡ false
    by None some = absurd (cc)
    by (Some t) some = quiet-some t (s.rows n)

-- before the first turn
pub served-start : (s : ServerState) (all : List ActiveRequest) → All (λ h. obstacle s h.request ≡ h.at) all → AreServed s all [] []
served-start s all waits = record {
  comes = refl;
  nodes = All-nil (λ (t : SentCommand). 1 ≤ t.node);
  waits = waits;
  quiet = All-nil (λ (h : ActiveRequest). is_idle (s.rows h.at) ≡ false);
}

waits-same : (s t : ServerState) (held : List ActiveRequest) → t.shape.nodes ≡ s.shape.nodes → All (StandSame s t) (requests_of held) → All (λ h. obstacle s h.request ≡ h.at) held → All (λ h. obstacle t h.request ≡ h.at) held
waits-same s t [] nodes same waits = All-nil (λ (h : ActiveRequest). obstacle t h.request ≡ h.at)
waits-same s t (h ∷ held) nodes same waits =
    All-cons (λ (x : ActiveRequest). obstacle t x.request ≡ x.at) h held
    (obstacle-same s t h.request nodes (All-head (StandSame s t) h.request (requests_of held) same) ∙ All-head (λ (x : ActiveRequest). obstacle s x.request ≡ x.at) h held waits)
    (waits-same s t held nodes (All-tail (StandSame s t) h.request (requests_of held) same) (All-tail (λ (x : ActiveRequest). obstacle s x.request ≡ x.at) h held waits))

requests-around : (done rest : List ActiveRequest) (h : ActiveRequest) → requests_of (done ++ h ∷ rest) ≡ requests_of done ++ h.request ∷ requests_of rest
requests-around done rest h = map-append (λ (x : ActiveRequest). x.request) done (h ∷ rest)

-- the row that a request waits for before its turn
pub waits-here : (s : ServerState) (all done rest : List ActiveRequest) (h : ActiveRequest) (told : List SentCommand) → all ≡ done ++ h ∷ rest → AreServed s all done told → obstacle (with_told told s) h.request ≡ h.at
waits-here s all done rest h told is a =
    let P : ActiveRequest → Type 0 = λ x. obstacle (with_told told s) x.request ≡ x.at in
    All-head P h rest (All-right P done (h ∷ rest) (subst (All P) is a.waits))

-- one more request has its turn
pub turn-next : (s : ServerState) (all done rest : List ActiveRequest) (h : ActiveRequest) (before after : List SentCommand) → all ≡ done ++ h ∷ rest → s.active ≡ requests_of all → are_apart s.active ≡ true → AreServed s all done before → IsTurn s h before after → AreServed s all (done ++ h ∷ []) after
turn-next s all done rest h before after is active apart a t =
    subst (λ (ts : List SentCommand). AreServed s all (done ++ h ∷ []) ts) (sym t.made) (record {
      comes = told-next s (requests_of done) (requests_of (done ++ h ∷ [])) before new h.request t.next a.comes (requests-around done [] h) t.comes refl;
      nodes = nodes-next before new t.next a.nodes t.node refl;
      waits = waits-same (with_told before s) (with_told new s) all refl (subst (All (StandSame (with_told before s) (with_told new s))) (sym split) same) a.waits;
      quiet = All-push (λ (x : ActiveRequest). is_idle ((with_told new s).rows x.at) ≡ false) done h (λ k d within. quiet-more before (option_to_list t.next) s _ (a.quiet k d within)) (served-busy (with_told before s) (with_told new s) h.request h.at (commands_told (option_to_list t.next)) (waits-here s all done rest h before is a) t.comes);
    })
  where
    new : List SentCommand
    new = before ++ option_to_list t.next

    split : requests_of all ≡ requests_of done ++ h.request ∷ requests_of rest
    split = ap requests_of is ∙ requests-around done rest h

    same : All (StandSame (with_told before s) (with_told new s)) (requests_of done ++ h.request ∷ requests_of rest)
    same = served-same (with_told before s) (with_told new s) h.request (commands_told (option_to_list t.next)) (requests_of done) (requests_of rest) (active ∙ split) apart t.order t.starts t.ends t.comes

-- one more request is passed over, as no command may go to the node whose row it waits for
pub turn-silent : (s : ServerState) (all done rest : List ActiveRequest) (h : ActiveRequest) (told : List SentCommand) → all ≡ done ++ h ∷ rest → AreServed s all done told → is_idle ((with_told told s).rows h.at) ≡ false → AreServed s all (done ++ h ∷ []) told
turn-silent s all done rest h told is a here = record {
  comes = told-next s (requests_of done) (requests_of (done ++ h ∷ [])) told told h.request None a.comes (requests-around done [] h) (nothing ∙ silent told s) (sym (append-nil told));
  nodes = a.nodes;
  waits = a.waits;
  quiet = All-push (λ (x : ActiveRequest). is_idle ((with_told told s).rows x.at) ≡ false) done h a.quiet here;
}
  where
    nothing : served (with_told told s) h.request ≡ Ok (with_told told s, [])
    nothing = served-silent (with_told told s) h.request (ap (λ (k : ℕ). is_idle ((with_told told s).rows k)) (waits-here s all done rest h told is a) ∙ here)

-- the turn of one request is refused
pub turn-spent : (s : ServerState) (all done rest : List ActiveRequest) (h : ActiveRequest) (told : List SentCommand) (e : StepError) → all ≡ done ++ h ∷ rest → s.active ≡ requests_of all → AreServed s all done told → served (with_told told s) h.request ≡ Err e → each_served s.active s ≡ Err e
turn-spent s all done rest h told e is active a refused =
    ap (λ (rs : List TokenRequest). each_served rs s) (active ∙ ap requests_of is ∙ requests-around done rest h)
    ∙ served-spent s (requests_of done) told h.request a.comes (requests_of rest) e refused

pub read-place : (xs held : List ActiveRequest) (i : ℕ) (item : ActiveRequest) → xs ≡ held → i < length xs → item ≡ get_or xs i item → slice_get held i ≡ Some item
read-place xs held i item same within is = ap (λ (ys : List ActiveRequest). slice_get ys i) (sym same) ∙ slice_get-get_or xs i item within ∙ ap (λ (h : ActiveRequest). Some h) (sym is)

-- the request at a place, and the row that it waits for
pub waits-place : (l : ServerEdit) (xs held : List ActiveRequest) (i : ℕ) (item : ActiveRequest) (ats : List ℕ) (at : ℕ) → xs ≡ held → ats ≡ l.ats.items → i < length xs → item ≡ get_or xs i item → at ≡ slice_index_or ats i item.at → slice_get (waiting_for l.ats.items held) i ≡ Some (record { request = item.request; at = at })
waits-place l xs held i item ats at same same_ats within is at_is =
    waits-at l.ats.items held i item (read-place xs held i item same within is)
    ∙ ap (λ (k : ℕ). let o : Option ActiveRequest = Some (record { request = item.request; at = k }) in o) (sym (at_is ∙ ap (λ (ys : List ℕ). slice_index_or ys i item.at) same_ats))

-- no command may go to the node of a row that the request waited for before, where that row is not touched
pub quiet-place : (s t : ServerState) (touched : Option ℕ) (held : List ActiveRequest) (i : ℕ) (item : ActiveRequest) (at : ℕ) → All (λ h. is_idle (s.rows h.at) ≡ false) held → slice_get held i ≡ Some item → at ≡ item.at → (touched ≡ Some at → ⊥) → ((n : ℕ) → (touched ≡ Some n → ⊥) → t.rows n ≡ s.rows n) → is_idle (t.rows at) ≡ false
quiet-place s t touched held i item at quiet there same apart untouched =
    ap is_idle (untouched at apart)
    ∙ ap (λ (k : ℕ). is_idle (s.rows k)) same
    ∙ subst (λ (h : ActiveRequest). is_idle (s.rows h.at) ≡ false) (get_or_from_slice_get held i item item there) (quiet i item (slice_get_within held i item there))

module _ (l : ServerEdit) (held : List ActiveRequest) (s : ServerState) (told : List SentCommand) (i : ℕ) (w : ActiveRequest) where
  abbrev all : List ActiveRequest
  all = held_after l held

  abbrev waiting : List ActiveRequest
  waiting = waiting_for l.ats.items held

  -- a request that was active before
  module _ (there : slice_get waiting i ≡ Some w) where
    kept-next : take (i + 1) waiting ≡ take i waiting ++ w ∷ []
    kept-next = take-next waiting i w there

    pub kept-split : keeps l.gone.dropped l.gone.ended w.request ≡ true → all ≡ kept l (take i waiting) ++ w ∷ (kept l (drop (i + 1) waiting) ++ l.fresh.items)
    kept-split on = held_after-kept l held ∙ kept-around l waiting i w there on

    pub kept-turn : (after : List SentCommand) → keeps l.gone.dropped l.gone.ended w.request ≡ true → s.active ≡ requests_of all → are_apart s.active ≡ true → AreServed s all (kept l (take i waiting)) told → IsTurn s w told after → AreServed s all (kept l (take (i + 1) waiting)) after
    kept-turn after on active apart a t =
        subst (λ (hs : List ActiveRequest). AreServed s all hs after) (sym (kept-more l (take i waiting) (take (i + 1) waiting) w kept-next on))
        (turn-next s all (kept l (take i waiting)) (kept l (drop (i + 1) waiting) ++ l.fresh.items) w told after (kept-split on) active apart a t)

    pub kept-left : keeps l.gone.dropped l.gone.ended w.request ≡ false → AreServed s all (kept l (take i waiting)) told → AreServed s all (kept l (take (i + 1) waiting)) told
    kept-left off a = subst (λ (hs : List ActiveRequest). AreServed s all hs told) (sym (kept-less l (take i waiting) (take (i + 1) waiting) w kept-next off)) a

    pub kept-silent : is_idle ((with_told told s).rows w.at) ≡ false → AreServed s all (kept l (take i waiting)) told → AreServed s all (kept l (take (i + 1) waiting)) told
    kept-silent quiet a = by (keeps l.gone.dropped l.gone.ended w.request) refl
      where
        by : (b : Bool) → keeps l.gone.dropped l.gone.ended w.request ≡ b → AreServed s all (kept l (take (i + 1) waiting)) told
        by false off = kept-left off a
        by true on =
            subst (λ (hs : List ActiveRequest). AreServed s all hs told) (sym (kept-more l (take i waiting) (take (i + 1) waiting) w kept-next on))
            (turn-silent s all (kept l (take i waiting)) (kept l (drop (i + 1) waiting) ++ l.fresh.items) w told (kept-split on) a quiet)

  -- a request that is admitted
  module _ (there : slice_get l.fresh.items i ≡ Some w) where
    pub fresh-split : all ≡ (kept_of l held ++ take i l.fresh.items) ++ w ∷ drop (i + 1) l.fresh.items
    fresh-split =
        held_after-kept l held
        ∙ ap (λ (hs : List ActiveRequest). kept_of l held ++ hs) (list-at l.fresh.items i w (take-next l.fresh.items i w there))
        ∙ sym (append_assoc (kept_of l held) (take i l.fresh.items) (w ∷ drop (i + 1) l.fresh.items))

    pub fresh-turn : (after : List SentCommand) → s.active ≡ requests_of all → are_apart s.active ≡ true → AreServed s all (kept_of l held ++ take i l.fresh.items) told → IsTurn s w told after → AreServed s all (kept_of l held ++ take (i + 1) l.fresh.items) after
    fresh-turn after active apart a t =
        subst (λ (hs : List ActiveRequest). AreServed s all hs after)
        (append_assoc (kept_of l held) (take i l.fresh.items) (w ∷ []) ∙ ap (λ (hs : List ActiveRequest). kept_of l held ++ hs) (sym (take-next l.fresh.items i w there)))
        (turn-next s all (kept_of l held ++ take i l.fresh.items) (drop (i + 1) l.fresh.items) w told after fresh-split active apart a t)

-- all active requests had their turn
pub served-whole : (l : ServerEdit) (held : List ActiveRequest) (i : ℕ) → length l.fresh.items ≤ i → kept_of l held ++ take i l.fresh.items ≡ held_after l held
served-whole l held i past = ap (λ (hs : List ActiveRequest). kept_of l held ++ hs) (take_all i l.fresh.items past) ∙ sym (held_after-kept l held)

-- the requests from a place on are passed over: no command may go to the nodes whose rows they wait for
pub kept-rest : (l : ServerEdit) (held : List ActiveRequest) (s : ServerState) (told : List SentCommand) (d i : ℕ) → length held ≤ i + d → ((j : ℕ) (w : ActiveRequest) → i ≤ j → slice_get (waiting_for l.ats.items held) j ≡ Some w → is_idle ((with_told told s).rows w.at) ≡ false) → AreServed s (held_after l held) (kept l (take i (waiting_for l.ats.items held))) told → AreServed s (held_after l held) (kept_of l held) told
kept-rest l held s told zero i past quiet a =
    subst (λ (hs : List ActiveRequest). AreServed s (held_after l held) (kept l hs) told) (take_all i (waiting_for l.ats.items held) (omega (arith, past, waiting_for-length l.ats.items held))) a
kept-rest l held s told (suc d) i past quiet a = elim (slice_get_cases (waiting_for l.ats.items held) i).1 [
  | inl f ↦
      kept-rest l held s told d (i + 1) (omega (arith, past)) (λ j w above. quiet j w (omega (arith, above))) (kept-silent l held s told i f.0 f.2 (quiet i f.0 (omega arith) f.2) a)
  | inr p ↦ subst (λ (hs : List ActiveRequest). AreServed s (held_after l held) (kept l hs) told) (take_all i (waiting_for l.ats.items held) p.0) a
]

-- past the first requests each waits for the row that it waited for
pub index-past : (ats : List ℕ) (i d : ℕ) → length ats ≤ i → slice_index_or ats i d ≡ d
index-past [] i d past = refl
index-past (a ∷ ats) zero d past = absurd (omega arith)
index-past (a ∷ ats) (suc i) d past = index-past ats i d (omega (arith, past))

-- where requests wait for the same rows as before, no command may go to the nodes of those rows, but for the touched one
module _ (s t : ServerState) (l : ServerEdit) (held : List ActiveRequest) (told : List SentCommand) (touched : Option ℕ) (i : ℕ) (quiet : All (λ h. is_idle (s.rows h.at) ≡ false) held) (untouched : (n : ℕ) → (touched ≡ Some n → ⊥) → t.rows n ≡ s.rows n) (past : length l.ats.items ≤ i) where
  rest-apart : (j : ℕ) (w : ActiveRequest) → i ≤ j → slice_get (waiting_for l.ats.items held) j ≡ Some w → (touched ≡ Some w.at → ⊥) → is_idle ((with_told told t).rows w.at) ≡ false
  rest-apart j w above there apart =
      let here : slice_get held j ≡ Some w = sym (waiting_for-at l.ats.items held j (omega (arith, past, above))) ∙ there in
      quiet-told told t w.at (quiet-place s t touched held j w w.at quiet here refl apart untouched)

  -- no row is touched
  pub rest-untouched : touched ≡ None → (j : ℕ) (w : ActiveRequest) → i ≤ j → slice_get (waiting_for l.ats.items held) j ≡ Some w → is_idle ((with_told told t).rows w.at) ≡ false
  rest-untouched none j w above there = rest-apart j w above there (λ h. none-some w.at (sym none ∙ h))

  -- the node of the touched row was sent a command
  pub rest-told : (at : ℕ) → touched ≡ Some at → is_some (told_to told at) ≡ true → (j : ℕ) (w : ActiveRequest) → i ≤ j → slice_get (waiting_for l.ats.items held) j ≡ Some w → is_idle ((with_told told t).rows w.at) ≡ false
  rest-told at is some j w above there = elim (eqb_tells w.at at) [
    | inl same ↦ subst (λ (k : ℕ). is_idle ((with_told told t).rows k) ≡ false) (sym same.1) (told-quiet told t at some)
    | inr other ↦ rest-apart j w above there (λ h. other.1 (same_Some w.at at (sym h ∙ is)))
  ]

-- the largest span that a request keeps beside one active request more
pub left-next : (l : ServerEdit) (xs next : List ActiveRequest) (h : ActiveRequest) (r : TokenRequest) (span new : Range) → next ≡ xs ++ h ∷ [] → HasByte h.request → (keeps l.gone.dropped l.gone.ended h.request ≡ true → new ≡ cut r.wanted.required span h.request.wanted.required) → (keeps l.gone.dropped l.gone.ended h.request ≡ false → new ≡ span) → IsLeft (requests_of (kept l xs)) r span → IsLeft (requests_of (kept l next)) r new
left-next l xs next h r span new is full on off left = by (keeps l.gone.dropped l.gone.ended h.request) refl
  where
    by : (b : Bool) → keeps l.gone.dropped l.gone.ended h.request ≡ b → IsLeft (requests_of (kept l next)) r new
    by true k =
        let more : requests_of (kept l next) ≡ requests_of (kept l xs) ++ h.request ∷ [] =
        ap requests_of (kept-more l xs next h is k) ∙ map-append (λ (x : ActiveRequest). x.request) (kept l xs) (h ∷ []) in
        subst (λ (rs : List TokenRequest). IsLeft rs r new) (sym more)
        (subst (λ (s : Range). IsLeft (requests_of (kept l xs) ++ h.request ∷ []) r s) (sym (on k)) (left-more (requests_of (kept l xs)) h.request r span full left))
    by false k =
        subst (λ (hs : List ActiveRequest). IsLeft (requests_of hs) r new) (sym (kept-less l xs next h is k))
        (subst (λ (s : Range). IsLeft (requests_of (kept l xs)) r s) (sym (off k)) left)

-- the requests that stay active: the first of them, and the others
pub kept-parts : (l : ServerEdit) (held : List ActiveRequest) (i : ℕ) → still_active l.gone.ended (without l.gone.dropped (requests_of held)) ≡ requests_of (kept l (take i held)) ++ requests_of (kept l (drop i held))
kept-parts l held i =
    sym (kept-requests l held)
    ∙ ap (λ (hs : List ActiveRequest). requests_of (kept l hs)) (sym (take-append-drop i held))
    ∙ ap requests_of (filter-append (λ (h : ActiveRequest). keeps l.gone.dropped l.gone.ended h.request) (take i held) (drop i held))
    ∙ map-append (λ (h : ActiveRequest). h.request) (kept l (take i held)) (kept l (drop i held))
