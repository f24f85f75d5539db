-- A server that is serving and has no outstanding command has no active request.
use Rattle.std.specs.Prelude.{◌≡◌, ℕ, ◌≤◌, Bool, true, false, not, cond, ◌==◌, nat_le, List, [], ◌∷◌, All, is_some, Option, Some, None}
use Rattle.std.proofs.Common.{refl, ap, arith}
use Rattle.std.proofs.lemmas.Bool.{both_ways, and_parts, leb-true}
use Rattle.std.proofs.lemmas.List.Elements.{All-head}
use Rattle.intervals.specs.rule.Bytes.{Range}
use Rattle.intervals.proofs.SearchLaws.{first_is_first}
use Rattle.token_set.proofs.TokenLaws.{none_passes-from}
use Rattle.model.specs.declared.mode.Mode.{Mode}
use Rattle.model.specs.rule.Limits.{IsNumber}
use Rattle.messages.specs.declared.message.Message.{Message}
use Rattle.token_server.specs.declared.token_queue.token_request.TokenRequest.{TokenRequest}
use Rattle.token_server.specs.rule.Rows.{Row, row_conflicts, outstanding_of, is_hello, is_awaited}
use Rattle.token_server.specs.rule.State.{ServerState, awaits}
use Rattle.token_server.specs.rule.Serve.{conflicting_node}
use Rattle.token_server.specs.rule.Obstacles.{obstacle, is_idle, all_stay}
use Rattle.cluster_core.specs.rule.Serving.{IsBusy, HasRow, IsAtRest, RestsWithoutRequests}
use Rattle.token_server.proofs.GrantLaws.{conflicts_at}

-- a row with no outstanding command is idle
idle-row : (o : Option Row) → is_some o ≡ true → outstanding_of o ≡ None → is_idle o ≡ true
idle-row None some none = absurd (cc)
idle-row (Some row) some none = ap (λ (m : Option Message). not (is_some m)) none

-- a row that conflicts is one
conflicting-some : (o : Option Row) (s : Range) (mode : Mode) → row_conflicts o s mode ≡ true → is_some o ≡ true
conflicting-some None s mode h = absurd (cc)
conflicting-some (Some row) s mode h = refl

-- the node for which a request waits has a row
obstacle-there : (s : ServerState) (r : TokenRequest) → HasRow s r → IsNumber s.shape.nodes (obstacle s r) × (is_some (s.rows (obstacle s r)) ≡ true)
obstacle-there s r has = by (nat_le node s.shape.nodes) refl
  where
    node : ℕ
    node = conflicting_node s r

    There : ℕ → Type 0
    There n = IsNumber s.shape.nodes n × (is_some (s.rows n) ≡ true)

    other : node ≤ s.shape.nodes → There node
    other within =
        let f = first_is_first (conflicts_at s r) 1 s.shape.nodes in
        let here = f.here (omega arith) in
        ((f.least, within), conflicting-some (s.rows node) r.wanted.required r.mode (and_parts (not (node == r.call.node)) (row_conflicts (s.rows node) r.wanted.required r.mode) here).1)

    own : There r.call.node
    own =
        let p = and_parts (nat_le 1 r.call.node) (nat_le r.call.node s.shape.nodes) has.within in
        ((leb-true 1 r.call.node p.0, leb-true r.call.node s.shape.nodes p.1), has.row)

    by : (b : Bool) → nat_le node s.shape.nodes ≡ b → There (cond b node r.call.node)
    by true is = other (leb-true node s.shape.nodes is)
    by false is = own

-- a server at rest awaits no node
rest-told : (s : ServerState) → IsAtRest s → awaits s ≡ false
rest-told s rest = none_passes-from (λ n. is_awaited (s.rows n)) 1 s.shape.nodes (λ n above below. told (s.rows n) (rest n (above, omega arith)))
  where
    told : (o : Option Row) → outstanding_of o ≡ None → is_awaited o ≡ false
    told None none = refl
    told (Some row) none = ap (λ (m : Option Message). is_hello m) none

pub rests-without-requests : RestsWithoutRequests
rests-without-requests s serving rows rest = by s.active s.queue refl (serving.busy told) rows (serving.settled told)
  where
    told : awaits s ≡ false
    told = rest-told s rest

    never : (r : TokenRequest) → IsBusy s r → HasRow s r → ⊥
    never r busy has =
        let there = obstacle-there s r has in
        both_ways (is_idle (s.rows (obstacle s r))) busy (idle-row (s.rows (obstacle s r)) there.1 (rest (obstacle s r) there.0))

    by : (active queue : List TokenRequest) → s.active ≡ s.active → All (IsBusy s) active → All (HasRow s) active → all_stay active [] queue ≡ true → (active ≡ []) × (queue ≡ [])
    by [] [] same busy rows settled = (refl, refl)
    by [] (q ∷ queue) same busy rows settled = absurd (cc)
    by (r ∷ active) queue same busy rows settled = absurd (never r (All-head (IsBusy s) r active busy) (All-head (HasRow s) r active rows))
