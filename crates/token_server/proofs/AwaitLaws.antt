-- The nodes whose rows the active requests of a server wait for.
use Rattle.std.specs.Prelude.{◌≡◌, ℕ, zero, suc, ◌+◌, ◌<◌, ◌≤◌, Bool, true, false, cond, ◌&&◌, ◌||◌, ◌==◌, List, [], ◌∷◌, ◌++◌, length, slice_get, All, Option, Some}
use Rattle.std.proofs.Common.{refl, sym, ap, subst, ◌∙◌, take, drop, arith}
use Rattle.std.proofs.lemmas.Bool.{both_ways, lt-leb}
use Rattle.std.proofs.lemmas.List.{map-append, length-take, length-take-le, drop_all, drop-append-le}
use Rattle.std.proofs.lemmas.Option.{slice_get_within}
use Rattle.std.proofs.lemmas.List.Elements.{All-nil, All-cons, All-head, All-tail, All-push}
use Rattle.intervals.specs.rule.Bytes.{Range}
use Rattle.token_server.specs.declared.token_queue.token_request.TokenRequest.{TokenRequest}
use Rattle.token_server.specs.declared.token_queue.active_request.ActiveRequest.{ActiveRequest}
use Rattle.token_server.specs.rule.Requests.{meets}
use Rattle.token_server.specs.rule.Actives.{requests_of, waiting_for}
use Rattle.token_server.specs.declared.known_nodes.row_edit.RowEdit.{RowEdit}
use Rattle.token_server.specs.declared.known_nodes.known_change.Changed.{Changed}
use Rattle.token_server.specs.rule.Rows.{Row, row_conflicts}
use Rattle.token_server.specs.rule.State.{ServerState}
use Rattle.token_server.specs.rule.Serve.{conflicting_node}
use Rattle.token_server.specs.code.Rows.{may_bar, rows_after, rows_overlaid}
use Rattle.token_server.specs.code.Admissions.{frees, may_turn}
use Rattle.token_server.specs.rule.Obstacles.{obstacle, are_apart}
use Rattle.token_server.specs.rule.RowParts.{rows_of}
use Rattle.token_server.specs.rule.Parts.{ServerParts, server_state}
use Rattle.token_server.specs.code.Edits.{reached}
use Rattle.token_server.proofs.ObstacleLaws.{obstacle-changed}
use Rattle.token_server.proofs.GrantLaws.{unopposed-none}
use Rattle.token_server.proofs.AdmittingLaws.{meets-flip, meets-within}
use Rattle.token_server.proofs.KeepLaws.{apart-behind}
use Rattle.token_server.proofs.ToldLaws.{list-at}
use Rattle.token_server.proofs.TurnLaws.{take-next}

-- a request that no row blocks waits for the row of its own node
pub unopposed-own : (s : ServerState) (r : TokenRequest) → ((node : ℕ) → row_conflicts (s.rows node) r.wanted.required r.mode ≡ false) → r.call.node ≡ obstacle s r
unopposed-own s r free =
    sym (ap (λ (b : Bool). cond b (conflicting_node s r) r.call.node) (lt-leb (conflicting_node s r) s.shape.nodes (unopposed-none s r free)))

-- each request waits for the row of the node at its index
abbrev pub Await : (TokenRequest → ℕ → Type 0) → List ActiveRequest → List ℕ → Type 0
Await P [] [] = Unit {0}
Await P (h ∷ held) (a ∷ ats) = P h.request a × Await P held ats
Await P _ _ = ⊥

pub await-more : (P : TokenRequest → ℕ → Type 0) (held : List ActiveRequest) (ats : List ℕ) (h : ActiveRequest) (a : ℕ) → Await P held ats → P h.request a → Await P (held ++ h ∷ []) (ats ++ a ∷ [])
await-more P [] [] h a all one = (one, tt)
await-more P (x ∷ held) (y ∷ ats) h a all one = (all.0, await-more P held ats h a all.1 one)
await-more P [] (y ∷ ats) h a all one = absurd all
await-more P (x ∷ held) [] h a all one = absurd all

-- the first requests wait for the nodes at their indexes, and the rest for those that they waited for
pub await-first : (P : TokenRequest → ℕ → Type 0) (n : ℕ) (held : List ActiveRequest) (ats : List ℕ) → Await P (take n held) ats → All (λ h. P h.request h.at) (drop n held) → All (λ h. P h.request h.at) (waiting_for ats held)
await-first P zero held [] all rest = rest
await-first P zero held (a ∷ ats) all rest = absurd all
await-first P (suc n) [] [] all rest = All-nil (λ h. P h.request h.at)
await-first P (suc n) [] (a ∷ ats) all rest = absurd all
await-first P (suc n) (h ∷ held) [] all rest = absurd all
await-first P (suc n) (h ∷ held) (a ∷ ats) all rest = All-cons (λ h. P h.request h.at) (record { request = h.request; at = a }) (waiting_for ats held) all.0 (await-first P n held ats all.1 rest)

-- one request more that is not freed, behind those from a place on that are not
pub rest-more : (P : ActiveRequest → Type 0) (held : List ActiveRequest) (many i : ℕ) (h : ActiveRequest) → many ≤ i → slice_get held i ≡ Some h → P h → All P (drop many (take i held)) → All P (drop many (take (i + 1) held))
rest-more P held many i h few there one all =
    let within : i < length held = slice_get_within held i h there in
    let len : length (take i held) ≡ i = length-take-le i held (omega (arith, within)) in
    subst (All P) (sym (ap (λ (hs : List ActiveRequest). drop many hs) (take-next held i h there) ∙ drop-append-le many (take i held) (h ∷ []) (omega (arith, few, len)))) (All-push P (drop many (take i held)) h all one)

-- behind the last request so far none is freed
pub rest-none : (P : ActiveRequest → Type 0) (held : List ActiveRequest) (i : ℕ) → All P (drop i (take i held))
rest-none P held i =
    let len : length (take i held) ≤ i = omega (arith, length-take i held) in
    subst (All P) (sym (drop_all i (take i held) len)) (All-nil P)

-- a span without a byte of another one has a part without one too
pub apart-part : (t u s : Range) → t.lo ≤ u.lo → u.hi ≤ t.hi → meets t s ≡ false → meets u s ≡ false
apart-part t u s starts ends apart = by (meets u s) refl
  where
    by : (b : Bool) → meets u s ≡ b → meets u s ≡ false
    by true here = absurd (both_ways (meets t s) apart (meets-flip t s ∙ meets-within s t u starts ends (meets-flip s u ∙ here)))
    by false here = here

-- behind a request that needs all bytes given up, no request is freed: no two active ones need a byte in common
pub rest-apart : (c : Changed) (row : Option Row) (held : List ActiveRequest) (i : ℕ) (h : ActiveRequest) → slice_get held i ≡ Some h → are_apart (requests_of held) ≡ true → ((s : Range) → meets h.request.wanted.required s ≡ false → frees c.change row s ≡ false) → All (λ k. may_turn c row k ≡ false) (drop (i + 1) held)
rest-apart c row held i h there apart kept =
    each (drop (i + 1) held) (apart-behind (requests_of (take i held)) (requests_of (drop (i + 1) held)) h.request (subst (λ (rs : List TokenRequest). are_apart rs ≡ true) parts apart))
  where
    parts : requests_of held ≡ requests_of (take i held) ++ h.request ∷ requests_of (drop (i + 1) held)
    parts = ap requests_of (list-at held i h (take-next held i h there)) ∙ map-append (λ (k : ActiveRequest). k.request) (take i held) (h ∷ drop (i + 1) held)

    never : (b : Bool) → (b && false) ≡ false
    never true = refl
    never false = refl

    Turns : ActiveRequest → Type 0
    Turns k = may_turn c row k ≡ false

    Clear : TokenRequest → Type 0
    Clear q = meets h.request.wanted.required q.wanted.required ≡ false

    each : (ks : List ActiveRequest) → All Clear (requests_of ks) → All Turns ks
    each [] all = All-nil Turns
    each (k ∷ ks) all =
        All-cons Turns k ks
        (ap (λ (b : Bool). (may_bar c.change || (k.at == c.node)) && b) (kept k.request.wanted.required (All-head Clear k.request (requests_of ks) all)) ∙ never (may_bar c.change || (k.at == c.node)))
        (each ks (All-tail Clear k.request (requests_of ks) all))

-- a request that can't turn to another row waits as before
pub unfreed-waits : (p : ServerParts) (edit : Option RowEdit) (c : Changed) (h : ActiveRequest) → rows_overlaid p.known_nodes edit ≡ rows_after (Some c) (rows_of p.known_nodes) → obstacle (server_state p) h.request ≡ h.at → may_turn c (rows_of p.known_nodes c.node) h ≡ false → obstacle (reached p edit) h.request ≡ h.at
unfreed-waits p edit c h rows waits kept = obstacle-changed (server_state p) (reached p edit) h c refl rows waits kept

pub unfreed-all : (p : ServerParts) (edit : Option RowEdit) (c : Changed) (held : List ActiveRequest) → rows_overlaid p.known_nodes edit ≡ rows_after (Some c) (rows_of p.known_nodes) → All (λ h. obstacle (server_state p) h.request ≡ h.at) held → All (λ h. may_turn c (rows_of p.known_nodes c.node) h ≡ false) held → All (λ h. obstacle (reached p edit) h.request ≡ h.at) held
unfreed-all p edit c [] rows waits kept = All-nil (λ h. obstacle (reached p edit) h.request ≡ h.at)
unfreed-all p edit c (h ∷ held) rows waits kept =
    All-cons (λ h. obstacle (reached p edit) h.request ≡ h.at) h held
    (unfreed-waits p edit c h rows (All-head (λ h. obstacle (server_state p) h.request ≡ h.at) h held waits) (All-head (λ h. may_turn c (rows_of p.known_nodes c.node) h ≡ false) h held kept))
    (unfreed-all p edit c held rows (All-tail (λ h. obstacle (server_state p) h.request ≡ h.at) h held waits) (All-tail (λ h. may_turn c (rows_of p.known_nodes c.node) h ≡ false) h held kept))
