-- What the requests of a token server may still cost: as many commands at most are sent for them as long as none is queued again.
use Rattle.std.specs.Prelude.{◌==◌, ◌&&◌, ◌||◌, not, nat_le, if◌then◌else◌, filter}
use Rattle.std.proofs.Common.{◌≡◌, ℕ, ◌+◌, ◌*◌, ◌≤◌, Bool, true, false, refl, sym, ◌∙◌, ap, subst, arith, List, [], ◌∷◌, ◌++◌, All, Option, Some}
use Rattle.std.proofs.lemmas.Bool.{both_ways, and_parts, leb-true}
use Rattle.std.proofs.lemmas.List.Elements.{All-head, All-tail}
use Rattle.intervals.specs.rule.Search.{first}
use Rattle.intervals.proofs.SearchLaws.{first_is_first}
use Rattle.model.specs.rule.Owners.{same_mode}
use Rattle.token_set.proofs.TokenLaws.{first-same}
use Rattle.messages.specs.rule.Shapes.{ShapeFields}
use Rattle.messages.specs.rule.Messages.{same_range}
use Rattle.messages.specs.declared.message.Message.{Message}
use Rattle.messages.specs.declared.message.Message.TheVariants.{Grant, Revoke}
use Rattle.token_server.specs.declared.token_queue.token_request.TokenRequest.{TokenRequest}
use Rattle.token_server.specs.rule.Requests.{is_of_call}
use Rattle.token_server.specs.rule.Rows.{Row, outstanding_of, row_conflicts}
use Rattle.token_server.specs.rule.State.{ServerState, awaits}
use Rattle.token_server.specs.rule.Serve.{conflicting_node, meets_some, admitted}
use Rattle.token_server.proofs.GrantLaws.{conflicts_at}
use Rattle.cluster_core.proofs.common.Choices.{at_number}
use Rattle.progress.proofs.Sums.{sum_to, sum_same, sum_less, one_if, one_if_less, few_pass, IsAmong}

-- the command is a Revoke for the request: of the bytes that it needs, for its mode
abbrev pub revokes_for : TokenRequest → Option Message → Bool
revokes_for r (Some (Revoke file number holder call mode wanted)) = is_of_call call r && (same_mode mode r.mode && same_range wanted.required r.wanted.required)
revokes_for r _ = false

-- the command is a Grant of the request
abbrev pub grants_for : TokenRequest → Option Message → Bool
grants_for r (Some (Grant file number call mode span)) = is_of_call call r
grants_for r _ = false

-- a command for the request is outstanding to the node whose row is in its way, or, where none is, to its own node
abbrev pub is_served : ServerState → TokenRequest → Bool
is_served s r =
    if nat_le (conflicting_node s r) s.shape.nodes
    then revokes_for r (outstanding_of (s.rows (conflicting_node s r)))
    else grants_for r (outstanding_of (s.rows r.call.node))

-- the number of other nodes whose rows are in the way of the request, among nodes 1 to k
abbrev pub in_way_of : ℕ → ServerState → TokenRequest → ℕ
in_way_of k s r = sum_to (λ n. one_if (conflicts_at s r n)) k

-- two for each such node and for the grant, less the command that is outstanding
abbrev pub cost_of : ℕ → ServerState → TokenRequest → ℕ
cost_of k s r = 2 * in_way_of k s r + (if is_served s r then 1 else 2)

-- the most that a request can cost
abbrev pub most_of : ℕ → ℕ
most_of k = 2 * (k + 1)

-- the sum of what active requests cost
abbrev pub costs : ℕ → ServerState → List TokenRequest → ℕ
costs k s [] = 0
costs k s (r ∷ rs) = cost_of k s r + costs k s rs

-- so much for each request
abbrev pub for_each : ℕ → List TokenRequest → ℕ
for_each u [] = 0
for_each u (r ∷ rs) = u + for_each u rs

-- the active requests cost the most before each node has reported its token; each queued one costs the most
abbrev pub cost : ℕ → ServerState → ℕ
cost k s = (if awaits s then for_each (most_of k) s.active else costs k s s.active) + for_each (most_of k) s.queue

served_part : (b : Bool) → (if b then 1 else 2) ≤ 2
served_part true = omega arith
served_part false = omega arith

served_least : (b : Bool) → 1 ≤ (if b then 1 else 2)
served_least true = omega arith
served_least false = omega arith

pub cost_most : (k : ℕ) (s : ServerState) (r : TokenRequest) → cost_of k s r ≤ most_of k
cost_most k s r =
    let few = few_pass (conflicts_at s r) k in
    let part = served_part (is_served s r) in
    omega arith

pub costs_most : (k : ℕ) (s : ServerState) (rs : List TokenRequest) → costs k s rs ≤ for_each (most_of k) rs
costs_most k s [] = omega arith
costs_most k s (r ∷ rs) = let one = cost_most k s r in let rest = costs_most k s rs in omega arith

pub costs_both : (k : ℕ) (s : ServerState) (xs ys : List TokenRequest) → costs k s (xs ++ ys) ≡ costs k s xs + costs k s ys
costs_both k s [] ys = omega arith
costs_both k s (x ∷ xs) ys = let rest = costs_both k s xs ys in omega arith

pub each_both : (u : ℕ) (xs ys : List TokenRequest) → for_each u (xs ++ ys) ≡ for_each u xs + for_each u ys
each_both u [] ys = omega arith
each_both u (x ∷ xs) ys = let rest = each_both u xs ys in omega arith

-- fewer rows are in the way
pub fewer_in_way : (k n : ℕ) (s t : ServerState) (r : TokenRequest) → IsAmong k n → ((m : ℕ) → conflicts_at t r m ≡ true → conflicts_at s r m ≡ true) → conflicts_at s r n ≡ true → conflicts_at t r n ≡ false → cost_of k t r ≤ cost_of k s r
fewer_in_way k n s t r within fewer was gone =
    let one : one_if (conflicts_at t r n) + 1 ≤ one_if (conflicts_at s r n) = subst (λ (b : Bool). one_if b + 1 ≤ one_if (conflicts_at s r n)) (sym gone) (subst (λ (b : Bool). one_if false + 1 ≤ one_if b) (sym was) (omega arith)) in
    let less = sum_less (λ m. one_if (conflicts_at s r m)) (λ m. one_if (conflicts_at t r m)) k n 1 within (λ m. one_if_less (conflicts_at s r m) (conflicts_at t r m) (fewer m)) one in
    let most = served_part (is_served t r) in
    let least = served_least (is_served s r) in
    omega arith

-- the same rows are in the way, and a command that is outstanding for the request still is
module _ (k : ℕ) (s t : ServerState) (r : TokenRequest) (shape : t.shape ≡ s.shape) (same : (n : ℕ) → conflicts_at t r n ≡ conflicts_at s r n) where
  same_node : conflicting_node t r ≡ conflicting_node s r
  same_node =
      ap (λ (x : ShapeFields). first (conflicts_at t r) 1 x.nodes) shape
      ∙ first-same (conflicts_at t r) (conflicts_at s r) 1 s.shape.nodes (λ n above below. same n)

  -- what a served request is served by
  pub served_as : is_served t r ≡ (if nat_le (conflicting_node s r) s.shape.nodes then revokes_for r (outstanding_of (t.rows (conflicting_node s r))) else grants_for r (outstanding_of (t.rows r.call.node)))
  served_as = λ i. if nat_le (same_node i) (shape i).nodes then revokes_for r (outstanding_of (t.rows (same_node i))) else grants_for r (outstanding_of (t.rows r.call.node))

  -- the node whose row is in the way is one that conflicts
  way_conflicts : nat_le (conflicting_node s r) s.shape.nodes ≡ true → conflicts_at s r (conflicting_node s r) ≡ true
  way_conflicts few = let le = leb-true (conflicting_node s r) s.shape.nodes few in (first_is_first (conflicts_at s r) 1 s.shape.nodes).here (omega arith)

  pub stays_served : ((n : ℕ) → conflicts_at s r n ≡ true → revokes_for r (outstanding_of (s.rows n)) ≡ true → outstanding_of (t.rows n) ≡ outstanding_of (s.rows n)) → (grants_for r (outstanding_of (s.rows r.call.node)) ≡ true → outstanding_of (t.rows r.call.node) ≡ outstanding_of (s.rows r.call.node)) → is_served s r ≡ true → is_served t r ≡ true
  stays_served revoking granting was = served_as ∙ by (nat_le (conflicting_node s r) s.shape.nodes) refl was
    where
      node : ℕ
      node = conflicting_node s r

      by : (b : Bool) → nat_le (conflicting_node s r) s.shape.nodes ≡ b → (if b then revokes_for r (outstanding_of (s.rows node)) else grants_for r (outstanding_of (s.rows r.call.node))) ≡ true → (if b then revokes_for r (outstanding_of (t.rows node)) else grants_for r (outstanding_of (t.rows r.call.node))) ≡ true
      by true few h = ap (revokes_for r) (revoking node (way_conflicts few) h) ∙ h
      by false free h = ap (grants_for r) (granting h) ∙ h

  pub same_in_way : (is_served s r ≡ true → is_served t r ≡ true) → cost_of k t r ≤ cost_of k s r
  same_in_way stays =
      let less = sum_same (λ m. one_if (conflicts_at s r m)) (λ m. one_if (conflicts_at t r m)) k (λ m. one_if_less (conflicts_at s r m) (conflicts_at t r m) (λ h. sym (same m) ∙ h)) in
      let part = served_falls (is_served s r) (is_served t r) stays in
      omega arith
    where
      served_falls : (a b : Bool) → (a ≡ true → b ≡ true) → (if b then 1 else 2) ≤ (if a then 1 else 2)
      served_falls true true h = omega arith
      served_falls false true h = omega arith
      served_falls false false h = omega arith
      served_falls true false h = absurd (let no : false ≡ true = h refl in cc)

-- one row changes: no more is in the way by it, and a command for the request stays outstanding, unless the row is in its way no longer
pub one_row : (k n : ℕ) (s t : ServerState) (r : TokenRequest) → IsAmong k n → t.shape ≡ s.shape → ((m : ℕ) → (m ≡ n → ⊥) → t.rows m ≡ s.rows m) → (row_conflicts (t.rows n) r.wanted.required r.mode ≡ true → row_conflicts (s.rows n) r.wanted.required r.mode ≡ true) → (row_conflicts (t.rows n) r.wanted.required r.mode ≡ true → revokes_for r (outstanding_of (s.rows n)) ≡ true → outstanding_of (t.rows n) ≡ outstanding_of (s.rows n)) → (n ≡ r.call.node → grants_for r (outstanding_of (s.rows n)) ≡ true → outstanding_of (t.rows n) ≡ outstanding_of (s.rows n)) → cost_of k t r ≤ cost_of k s r
one_row k n s t r within shape others fewer revoking granting = by (conflicts_at s r n) (conflicts_at t r n) refl refl
  where
    fewer_at : (m : ℕ) → conflicts_at t r m ≡ true → conflicts_at s r m ≡ true
    fewer_at m = at_number m n (λ b. conflicts_at t r m ≡ true → conflicts_at s r m ≡ true)
        (λ is. subst (λ (j : ℕ). conflicts_at t r j ≡ true → conflicts_at s r j ≡ true) (sym is) (here (not (n == r.call.node)) fewer))
        (λ other h. ap (λ (o : Option Row). not (m == r.call.node) && row_conflicts o r.wanted.required r.mode) (sym (others m other)) ∙ h)
      where
        here : {x y : Bool} (a : Bool) → (y ≡ true → x ≡ true) → (a && y) ≡ true → (a && x) ≡ true
        here true f h = f h
        here false f h = h

    as_before : conflicts_at t r n ≡ conflicts_at s r n → (m : ℕ) → conflicts_at t r m ≡ conflicts_at s r m
    as_before is m = at_number m n (λ b. conflicts_at t r m ≡ conflicts_at s r m)
        (λ same. subst (λ (j : ℕ). conflicts_at t r j ≡ conflicts_at s r j) (sym same) is)
        (λ other. ap (λ (o : Option Row). not (m == r.call.node) && row_conflicts o r.wanted.required r.mode) (others m other))

    stays : conflicts_at t r n ≡ conflicts_at s r n → is_served s r ≡ true → is_served t r ≡ true
    stays is = stays_served k s t r shape (as_before is)
        (λ m was. at_number m n (λ b. revokes_for r (outstanding_of (s.rows m)) ≡ true → outstanding_of (t.rows m) ≡ outstanding_of (s.rows m))
        (λ same. let now : conflicts_at t r n ≡ true = is ∙ subst (λ (j : ℕ). conflicts_at s r j ≡ true) same was in
        subst (λ (j : ℕ). revokes_for r (outstanding_of (s.rows j)) ≡ true → outstanding_of (t.rows j) ≡ outstanding_of (s.rows j)) (sym same) (revoking (and_parts (not (n == r.call.node)) (row_conflicts (t.rows n) r.wanted.required r.mode) now).1))
        (λ other h. ap outstanding_of (others m other)))
        (at_number r.call.node n (λ b. grants_for r (outstanding_of (s.rows r.call.node)) ≡ true → outstanding_of (t.rows r.call.node) ≡ outstanding_of (s.rows r.call.node))
        (λ same. subst (λ (j : ℕ). grants_for r (outstanding_of (s.rows j)) ≡ true → outstanding_of (t.rows j) ≡ outstanding_of (s.rows j)) (sym same) (granting (sym same)))
        (λ other h. ap outstanding_of (others r.call.node other)))

    by : (a b : Bool) → conflicts_at s r n ≡ a → conflicts_at t r n ≡ b → cost_of k t r ≤ cost_of k s r
    by true false was now = fewer_in_way k n s t r within fewer_at was now
    by false true was now = absurd (both_ways (conflicts_at s r n) was (fewer_at n now))
    by true true was now = same_in_way k s t r shape (as_before (now ∙ sym was)) (stays (now ∙ sym was))
    by false false was now = same_in_way k s t r shape (as_before (now ∙ sym was)) (stays (now ∙ sym was))

-- the requests that pass cost no more, if each of them costs no more
pub passing_cost : (k : ℕ) (s t : ServerState) (p : TokenRequest → Bool) (rs : List TokenRequest) → All (λ (r : TokenRequest). p r ≡ true → cost_of k t r ≤ cost_of k s r) rs → costs k t (filter p rs) ≤ costs k s rs
passing_cost k s t p [] each = omega arith
passing_cost k s t p (r ∷ rs) each = by (p r) refl (passing_cost k s t p rs (All-tail (λ (x : TokenRequest). p x ≡ true → cost_of k t x ≤ cost_of k s x) r rs each))
  where
    by : (b : Bool) → p r ≡ b → costs k t (filter p rs) ≤ costs k s rs → costs k t (if b then r ∷ filter p rs else filter p rs) ≤ costs k s (r ∷ rs)
    by true is rest = let one = All-head (λ (x : TokenRequest). p x ≡ true → cost_of k t x ≤ cost_of k s x) r rs each is in omega arith
    by false is rest = omega arith

pub passing_each : (u : ℕ) (p : TokenRequest → Bool) (rs : List TokenRequest) → for_each u (filter p rs) ≤ for_each u rs
passing_each u p [] = omega arith
passing_each u p (r ∷ rs) = by (p r) (passing_each u p rs)
  where
    by : (b : Bool) → for_each u (filter p rs) ≤ for_each u rs → for_each u (if b then r ∷ filter p rs else filter p rs) ≤ for_each u (r ∷ rs)
    by true rest = omega arith
    by false rest = omega arith

-- a server costs no more, where it has fewer active and fewer queued requests, and the active ones cost no more once it has heard all tokens
pub no_dearer : (k : ℕ) (s t : ServerState) → (awaits t ≡ true → awaits s ≡ true) → for_each (most_of k) t.active ≤ for_each (most_of k) s.active → for_each (most_of k) t.queue ≤ for_each (most_of k) s.queue → (awaits s ≡ false → costs k t t.active ≤ costs k s s.active) → cost k t ≤ cost k s
no_dearer k s t still active queue told = by (awaits s) (awaits t) refl refl
  where
    by : (a b : Bool) → awaits s ≡ a → awaits t ≡ b → (if b then for_each (most_of k) t.active else costs k t t.active) + for_each (most_of k) t.queue ≤ (if a then for_each (most_of k) s.active else costs k s s.active) + for_each (most_of k) s.queue
    by true true was now = omega arith
    by true false was now = let most = costs_most k t t.active in omega arith
    by false true was now = absurd (both_ways (awaits s) was (still now))
    by false false was now = let less = told was in omega arith

-- requests cost the same at a server that differs in its requests alone
pub other_requests : (k : ℕ) (s : ServerState) (active queue waiting rs : List TokenRequest) → costs k (record s { active = active; queue = queue; waiting = waiting }) rs ≡ costs k s rs
other_requests k s active queue waiting [] = refl
other_requests k s active queue waiting (r ∷ rs) = ap (λ (c : ℕ). cost_of k s r + c) (other_requests k s active queue waiting rs)

-- a request that is admitted costs no more than before
pub admitted_cost : (k : ℕ) (s : ServerState) (active staying queue : List TokenRequest) → costs k s (admitted active staying queue).0 + for_each (most_of k) (admitted active staying queue).1 ≤ costs k s active + (for_each (most_of k) staying + for_each (most_of k) queue)
admitted_cost k s active staying [] = omega arith
admitted_cost k s active staying (r ∷ rest) = by (meets_some r active || meets_some r staying) (admitted_cost k s active (staying ++ r ∷ []) rest) (admitted_cost k s (active ++ r ∷ []) staying rest)
  where
    Few : List TokenRequest × List TokenRequest → Type 0
    Few next = costs k s next.0 + for_each (most_of k) next.1 ≤ costs k s active + (for_each (most_of k) staying + for_each (most_of k) (r ∷ rest))

    by : (b : Bool) → costs k s (admitted active (staying ++ r ∷ []) rest).0 + for_each (most_of k) (admitted active (staying ++ r ∷ []) rest).1 ≤ costs k s active + (for_each (most_of k) (staying ++ r ∷ []) + for_each (most_of k) rest) → costs k s (admitted (active ++ r ∷ []) staying rest).0 + for_each (most_of k) (admitted (active ++ r ∷ []) staying rest).1 ≤ costs k s (active ++ r ∷ []) + (for_each (most_of k) staying + for_each (most_of k) rest) → Few (if b then admitted active (staying ++ r ∷ []) rest else admitted (active ++ r ∷ []) staying rest)
    by true stays goes = let parts = each_both (most_of k) staying (r ∷ []) in omega arith
    by false stays goes = let parts = costs_both k s active (r ∷ []) in let one = cost_most k s r in omega arith

-- as many requests are there after some are admitted
pub admitted_each : (u : ℕ) (active staying queue : List TokenRequest) → for_each u (admitted active staying queue).0 + for_each u (admitted active staying queue).1 ≡ for_each u active + (for_each u staying + for_each u queue)
admitted_each u active staying [] = omega arith
admitted_each u active staying (r ∷ rest) = by (meets_some r active || meets_some r staying) (admitted_each u active (staying ++ r ∷ []) rest) (admitted_each u (active ++ r ∷ []) staying rest)
  where
    Same : List TokenRequest × List TokenRequest → Type 0
    Same next = for_each u next.0 + for_each u next.1 ≡ for_each u active + (for_each u staying + for_each u (r ∷ rest))

    by : (b : Bool) → for_each u (admitted active (staying ++ r ∷ []) rest).0 + for_each u (admitted active (staying ++ r ∷ []) rest).1 ≡ for_each u active + (for_each u (staying ++ r ∷ []) + for_each u rest) → for_each u (admitted (active ++ r ∷ []) staying rest).0 + for_each u (admitted (active ++ r ∷ []) staying rest).1 ≡ for_each u (active ++ r ∷ []) + (for_each u staying + for_each u rest) → Same (if b then admitted active (staying ++ r ∷ []) rest else admitted (active ++ r ∷ []) staying rest)
    by true stays goes = let parts = each_both u staying (r ∷ []) in omega arith
    by false stays goes = let parts = each_both u active (r ∷ []) in omega arith
