-- What a message changes at a token server before it serves: its requests cost no more, but for one that comes and those that are queued again.
use Rattle.std.specs.Prelude.{◌==◌, ◌&&◌, nat_le, not, if◌then◌else◌}
use Rattle.std.proofs.Common.{◌≡◌, ℕ, ◌+◌, ◌<◌, ◌≤◌, Bool, true, false, refl, sym, ◌∙◌, ap, subst, arith, List, All, Option, Some, None}
use Rattle.std.proofs.lemmas.Bool.{eq-eqb, leb-false, lt-leb, not-true}
use Rattle.std.proofs.lemmas.List.Elements.{All-weaker}
use Rattle.intervals.specs.rule.Bytes.{Range}
use Rattle.intervals.specs.rule.Search.{first}
use Rattle.model.specs.declared.mode.Mode.{Mode}
use Rattle.token_set.specs.rule.Tokens.{Token, conflicts}
use Rattle.token_set.proofs.TokenLaws.{some_passes-first, some_passes-from}
use Rattle.messages.specs.rule.Shapes.{ShapeFields}
use Rattle.token_server.specs.declared.token_queue.token_request.TokenRequest.{TokenRequest}
use Rattle.token_server.specs.rule.Requests.{is_up_to}
use Rattle.token_server.specs.rule.Rows.{Row, row_above, outstanding_of, row_conflicts, is_hello, is_awaited}
use Rattle.token_server.specs.rule.State.{ServerState, awaits, forgotten}
use Rattle.token_server.specs.rule.Server.{acknowledged}
use Rattle.cluster_core.proofs.common.Choices.{at_number}
use Rattle.cluster_core.proofs.steps.ServerRows.{IsCurrent}
use Rattle.progress.proofs.Costs.{revokes_for, grants_for, cost_of, most_of, costs, for_each, cost, one_row, passing_cost, passing_each, no_dearer, other_requests}
use Rattle.progress.proofs.Sums.{IsAmong}

-- rows are of the incarnations after those that are known to be dead, and so are requests
pub record IsAged (s : ServerState) : Type 0 where
  pub rows : (n : ℕ) (row : Row) → s.rows n ≡ Some row → row.incarnation ≡ s.dead n + 1
  pub requests : All (IsCurrent s) s.active

-- a server awaits no more tokens, if no more rows are awaited
pub still_awaits : (s t : ServerState) → t.shape ≡ s.shape → ((n : ℕ) → is_awaited (t.rows n) ≡ true → is_awaited (s.rows n) ≡ true) → awaits t ≡ true → awaits s ≡ true
still_awaits s t shape still now =
    let found = some_passes-first (λ n. is_awaited (t.rows n)) 1 t.shape.nodes now in
    let n = first (λ m. is_awaited (t.rows m)) 1 t.shape.nodes in
    some_passes-from (λ m. is_awaited (s.rows m)) 1 s.shape.nodes n found.above (subst (λ (x : ShapeFields). n < 1 + x.nodes) shape found.below) (still n found.here)

-- the incarnations that are forgotten leave no more than they found
above_awaited : (i : ℕ) (o : Option Row) → is_awaited (row_above i o) ≡ true → is_awaited o ≡ true
above_awaited i None h = h
above_awaited i (Some row) h = by (nat_le row.incarnation i) h
  where
    by : (b : Bool) → is_awaited (if b then None else Some row) ≡ true → is_hello row.outstanding ≡ true
    by true h = absurd (cc)
    by false h = h

above_conflicts : (i : ℕ) (o : Option Row) (span : Range) (mode : Mode) → row_conflicts (row_above i o) span mode ≡ true → (row_conflicts o span mode ≡ true) × (outstanding_of (row_above i o) ≡ outstanding_of o)
above_conflicts i None span mode h = (h, refl)
above_conflicts i (Some row) span mode h = by (nat_le row.incarnation i) h
  where
    by : (b : Bool) → row_conflicts (if b then None else Some row) span mode ≡ true → (conflicts row.token span mode ≡ true) × (outstanding_of (if b then None else Some row) ≡ row.outstanding)
    by true h = absurd (cc)
    by false h = (h, refl)

above_kept : (i : ℕ) (o : Option Row) → ((row : Row) → o ≡ Some row → i < row.incarnation) → outstanding_of (row_above i o) ≡ outstanding_of o
above_kept i None young = refl
above_kept i (Some row) young = ap (λ (b : Bool). outstanding_of (if b then None else Some row)) (lt-leb row.incarnation i (young row refl))

module _ (k : ℕ) (s : ServerState) where
  pub forgotten_costs : (n i : ℕ) → IsAmong k n → IsAged s → cost k (forgotten s n i) ≤ cost k s
  forgotten_costs n i within aged =
      no_dearer k s t still (passing_each (most_of k) stays s.active) (passing_each (most_of k) stays s.queue)
      (λ told. passing_cost k s t stays s.active (All-weaker (IsCurrent s) (λ (r : TokenRequest). stays r ≡ true → cost_of k t r ≤ cost_of k s r) each s.active aged.requests))
    where
      t : ServerState
      t = forgotten s n i

      stays : TokenRequest → Bool
      stays r = not (is_up_to n i r)

      here : t.rows n ≡ row_above i (s.rows n)
      here = λ j. if eq-eqb n n refl j then row_above i (s.rows n) else s.rows n

      still : awaits t ≡ true → awaits s ≡ true
      still = still_awaits s t refl (λ m. at_number m n (λ b. is_awaited (if b then row_above i (s.rows m) else s.rows m) ≡ true → is_awaited (s.rows m) ≡ true) (λ same. above_awaited i (s.rows m)) (λ other h. h))

      each : (r : TokenRequest) → IsCurrent s r → stays r ≡ true → cost_of k t r ≤ cost_of k s r
      each r current keeps =
          one_row k n s t r within refl
          (λ m other. at_number m n (λ b. (if b then row_above i (s.rows m) else s.rows m) ≡ s.rows m) (λ same. absurd (other same)) (λ apart. refl))
          (λ h. (above_conflicts i (s.rows n) r.wanted.required r.mode (ap (λ (o : Option Row). row_conflicts o r.wanted.required r.mode) (sym here) ∙ h)).0)
          (λ h was. ap outstanding_of here ∙ (above_conflicts i (s.rows n) r.wanted.required r.mode (ap (λ (o : Option Row). row_conflicts o r.wanted.required r.mode) (sym here) ∙ h)).1)
          (λ own was. ap outstanding_of here ∙ above_kept i (s.rows n) (λ row there. young own row there))
        where
          young : n ≡ r.call.node → (row : Row) → s.rows n ≡ Some row → i < row.incarnation
          young own row there =
              let past : is_up_to n i r ≡ false = not-true (is_up_to n i r) keeps in
              let at : (r.call.node == n) ≡ true = eq-eqb r.call.node n (sym own) in
              let late : nat_le r.call.incarnation i ≡ false = ap (λ (b : Bool). b && nat_le r.call.incarnation i) (sym at) ∙ past in
              let above : i < r.call.incarnation = leb-false r.call.incarnation i late in
              let age = aged.rows n row there in
              let of : r.call.incarnation ≡ s.dead n + 1 = current.of ∙ ap (λ (m : ℕ). s.dead m + 1) (sym own) in
              omega arith

  -- the row of a node changes, and other requests may be served and put off
  module _ (n : ℕ) (within : IsAmong k n) (row : Row) (there : s.rows n ≡ Some row) (token : Token) where
    abbrev next : ServerState
    next = acknowledged s n row token

    put : next.rows n ≡ Some (record row { token = token; outstanding = None })
    put = λ j. if eq-eqb n n refl j then Some (record row { token = token; outstanding = None }) else s.rows n

    pub answered_costs : (active waiting : List TokenRequest) → for_each (most_of k) active ≤ for_each (most_of k) s.active → (awaits s ≡ false → costs k next active ≤ costs k s s.active) → cost k (record next { active = active; waiting = waiting }) ≤ cost k s
    answered_costs active waiting fewer told =
        no_dearer k s (record next { active = active; waiting = waiting })
        (still_awaits s (record next { active = active; waiting = waiting }) refl (λ m. at_number m n (λ b. is_awaited (if b then Some (record row { token = token; outstanding = None }) else s.rows m) ≡ true → is_awaited (s.rows m) ≡ true) (λ same h. absurd (cc)) (λ other h. h)))
        fewer (omega arith)
        (λ heard. let same = other_requests k next active s.queue waiting active in let less = told heard in omega arith)

    pub answered_one : (r : TokenRequest) → (conflicts token r.wanted.required r.mode ≡ true → conflicts row.token r.wanted.required r.mode ≡ true) → (conflicts token r.wanted.required r.mode ≡ true → revokes_for r row.outstanding ≡ true → ⊥) → (grants_for r row.outstanding ≡ true → ⊥) → cost_of k next r ≤ cost_of k s r
    answered_one r fewer revoking granting =
        let was : outstanding_of (s.rows n) ≡ row.outstanding = ap outstanding_of there in
        let is : row_conflicts (next.rows n) r.wanted.required r.mode ≡ conflicts token r.wanted.required r.mode = ap (λ (o : Option Row). row_conflicts o r.wanted.required r.mode) put in
        one_row k n s next r within refl
        (λ m other. at_number m n (λ b. (if b then Some (record row { token = token; outstanding = None }) else s.rows m) ≡ s.rows m) (λ same. absurd (other same)) (λ apart. refl))
        (λ h. ap (λ (o : Option Row). row_conflicts o r.wanted.required r.mode) there ∙ fewer (sym is ∙ h))
        (λ h for. absurd (revoking (sym is ∙ h) (ap (revokes_for r) (sym was) ∙ for)))
        (λ own for. absurd (granting (ap (grants_for r) (sym was) ∙ for)))
