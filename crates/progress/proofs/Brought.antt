-- What a message brings a token server: a Request one request, a Freed those that are queued again, an answer none.
use Rattle.std.specs.Prelude.{◌||◌, not, if◌then◌else◌, filter, find}
use Rattle.std.specs.List.{list_any}
use Rattle.std.proofs.Common.{◌≡◌, ℕ, ◌+◌, ◌≤◌, Bool, true, false, refl, sym, ◌∙◌, ap, arith, List, [], ◌∷◌, ◌++◌, Option, Some, None}
use Rattle.std.proofs.lemmas.Bool.{both_ways, eq-eqb}
use Rattle.model.specs.declared.call.CallId.{CallId}
use Rattle.model.specs.declared.mode.Mode.{Mode}
use Rattle.model.specs.rule.Owners.{host_of_call}
use Rattle.token_set.specs.rule.Tokens.{no_token, conflicts, lowered}
use Rattle.token_set.proofs.TokenLaws.{conflicts-none}
use Rattle.messages.specs.rule.Messages.{same_blocking}
use Rattle.messages.specs.declared.message.Blocking.TheVariants.{Yes}
use Rattle.messages.specs.declared.message.Message.{Message}
use Rattle.messages.specs.declared.message.Message.TheVariants.{Request, Grant, Revoke, Taken, Released, Conflict, Freed, Hello}
use Rattle.token_server.specs.declared.token_queue.token_request.TokenRequest.{TokenRequest}
use Rattle.token_server.specs.rule.Requests.{is_of_call, is_up_to}
use Rattle.token_server.specs.rule.Rows.{Row, empty_row, outstanding_of, row_conflicts, is_hello, is_awaited, is_grant, revoked_mode, asks_token}
use Rattle.token_server.specs.rule.State.{ServerState, begin, awaits, forgotten, requests, requeued}
use Rattle.token_server.specs.rule.Server.{Change, with_a_row, request_of, enqueued_with, enqueued, put_off, row_of_host}
use Rattle.cluster_core.proofs.common.Choices.{if_either, at_number}
use Rattle.progress.proofs.Changing.{IsAged, still_awaits, forgotten_costs}
use Rattle.progress.proofs.Costs.{revokes_for, grants_for, cost_of, most_of, costs, for_each, cost, each_both, one_row, passing_each, no_dearer, other_requests}
use Rattle.progress.proofs.Sums.{IsAmong}

-- what is known of an answer to the outstanding command of a row: it names the command's call, and a span that is released has the bytes that the Revoke required
abbrev pub Fits : ServerState → Message → Type 0
Fits s (Taken file number call) = (row : Row) → row_of_host s (host_of_call call) ≡ Some row → is_grant number row.outstanding ≡ true → (r : TokenRequest) → grants_for r row.outstanding ≡ true → is_of_call call r ≡ true
Fits s (Conflict file number holder call lock) = (row : Row) (mode : Mode) → row_of_host s holder ≡ Some row → revoked_mode number row.outstanding ≡ Some mode → (r : TokenRequest) → revokes_for r row.outstanding ≡ true → is_of_call call r ≡ true
Fits s (Released file number holder call span) = (row : Row) (mode : Mode) → row_of_host s holder ≡ Some row → revoked_mode number row.outstanding ≡ Some mode → (r : TokenRequest) → revokes_for r row.outstanding ≡ true → conflicts (lowered row.token span mode) r.wanted.required r.mode ≡ false
Fits s _ = Unit {0}

-- what a message may bring the requests of a server to
abbrev pub brings : ℕ → ServerState → Message → ℕ
brings k s (Request file call blocking mode wanted) = most_of k
brings k s (Freed file holder) = for_each (most_of k) s.waiting
brings k s _ = 0

-- as many requests come by a message
abbrev pub comes_by : ℕ → Message → ℕ
comes_by u (Request file call blocking mode wanted) = u
comes_by u _ = 0

-- a change costs no more than the message brings
pub record Brings (k : ℕ) (s : ServerState) (m : Message) (c : Change) : Type 0 where
  pub costs_are : cost k c.0 ≤ cost k s + brings k s m
  pub requests_are : (u : ℕ) → for_each u (requests c.0) ≤ for_each u (requests s) + comes_by u m
  pub shape_is : c.0.shape ≡ s.shape

pub grant_alone : (number : ℕ) (r : TokenRequest) (o : Option Message) → is_grant number o ≡ true → revokes_for r o ≡ false
grant_alone number r None is = absurd (cc)
grant_alone number r (Some (Grant file k call mode span)) is = refl
grant_alone number r (Some m) is = absurd (cc)

pub revoke_alone : (number : ℕ) (mode : Mode) (r : TokenRequest) (o : Option Message) → revoked_mode number o ≡ Some mode → grants_for r o ≡ false
revoke_alone number mode r None is = absurd (cc)
revoke_alone number mode r (Some (Revoke file k holder call m wanted)) is = refl
revoke_alone number mode r (Some m) is = absurd (cc)

pub asks_hello : (number : ℕ) (o : Option Message) → asks_token number o ≡ true → is_hello o ≡ true
asks_hello number None is = absurd (cc)
asks_hello number (Some (Hello file k holder)) is = refl
asks_hello number (Some m) is = absurd (cc)

pub all_pass_cost : (k : ℕ) (s t : ServerState) (rs : List TokenRequest) → ((r : TokenRequest) → cost_of k t r ≤ cost_of k s r) → costs k t rs ≤ costs k s rs
all_pass_cost k s t [] each = omega arith
all_pass_cost k s t (r ∷ rs) each = let one = each r in let rest = all_pass_cost k s t rs each in omega arith

-- of a call's active request, which is put off or not, no more are left
pub put_off_each : (u : ℕ) (call : CallId) (rs : List TokenRequest) → for_each u (filter (λ r. not (is_of_call call r)) rs) + for_each u (put_off (request_of call rs)) ≤ for_each u rs
put_off_each u call [] = omega arith
put_off_each u call (r ∷ rs) = by (is_of_call call r) (put_off_each u call rs) (passing_each u (λ x. not (is_of_call call x)) rs)
  where
    one : (b : Bool) → for_each u (if b then r ∷ [] else []) ≤ u
    one true = omega arith
    one false = omega arith

    by : (b : Bool) → for_each u (filter (λ x. not (is_of_call call x)) rs) + for_each u (put_off (request_of call rs)) ≤ for_each u rs → for_each u (filter (λ x. not (is_of_call call x)) rs) ≤ for_each u rs → for_each u (if not b then r ∷ filter (λ x. not (is_of_call call x)) rs else filter (λ x. not (is_of_call call x)) rs) + for_each u (put_off (if b then Some r else find (is_of_call call) rs)) ≤ for_each u (r ∷ rs)
    by true rest fewer = let most = one (same_blocking r.blocking Yes) in omega arith
    by false rest fewer = omega arith

pub forgotten_each : (u : ℕ) (s : ServerState) (n i : ℕ) → for_each u (requests (forgotten s n i)) ≤ for_each u (requests s)
forgotten_each u s n i =
    let stays : TokenRequest → Bool = λ r. not (is_up_to n i r) in
    let a = passing_each u stays s.active in
    let q = passing_each u stays s.queue in
    let w = passing_each u stays s.waiting in
    let old = each_both u s.active (s.queue ++ s.waiting) in
    let older = each_both u s.queue s.waiting in
    let new = each_both u (filter stays s.active) (filter stays s.queue ++ filter stays s.waiting) in
    let newer = each_both u (filter stays s.queue) (filter stays s.waiting) in
    omega arith

-- those that wait are queued again
pub requeued_costs : (k : ℕ) (s : ServerState) → cost k (requeued s) ≤ cost k s + for_each (most_of k) s.waiting
requeued_costs k s =
    let same = other_requests k s s.active (s.queue ++ s.waiting) [] s.active in
    let both = each_both (most_of k) s.queue s.waiting in
    by (awaits s) same both
  where
    by : (b : Bool) → costs k (requeued s) s.active ≡ costs k s s.active → for_each (most_of k) (s.queue ++ s.waiting) ≡ for_each (most_of k) s.queue + for_each (most_of k) s.waiting → (if b then for_each (most_of k) s.active else costs k (requeued s) s.active) + for_each (most_of k) (s.queue ++ s.waiting) ≤ ((if b then for_each (most_of k) s.active else costs k s s.active) + for_each (most_of k) s.queue) + for_each (most_of k) s.waiting
    by true same both = omega arith
    by false same both = omega arith

pub requeued_each : (u : ℕ) (s : ServerState) → for_each u (requests (requeued s)) ≤ for_each u (requests s)
requeued_each u s =
    let old = each_both u s.active (s.queue ++ s.waiting) in
    let new = each_both u s.active ((s.queue ++ s.waiting) ++ []) in
    let newer = each_both u (s.queue ++ s.waiting) [] in
    omega arith

-- a Learn
pub learned_costs : (k : ℕ) (s : ServerState) (n i : ℕ) → IsAmong k n → IsAged s → cost k (requeued (forgotten s n i)) ≤ cost k s + for_each (most_of k) s.waiting
learned_costs k s n i within aged =
    let first = forgotten_costs k s n i within aged in
    let later = requeued_costs k (forgotten s n i) in
    let fewer = passing_each (most_of k) (λ r. not (is_up_to n i r)) s.waiting in
    omega arith

pub learned_each : (u : ℕ) (s : ServerState) (n i : ℕ) → for_each u (requests (requeued (forgotten s n i))) ≤ for_each u (requests s)
learned_each u s n i = let first = forgotten_each u s n i in let later = requeued_each u (forgotten s n i) in omega arith

-- a Request
module _ (k : ℕ) (s : ServerState) (r : TokenRequest) where
  pub enqueued_costs : cost k (enqueued s r) ≤ cost k s + most_of k
  enqueued_costs = if_either (λ (t : ServerState). cost k t ≤ cost k s + most_of k) (list_any (is_of_call r.call) s.active || list_any (is_of_call r.call) s.queue) s (enqueued_with s r (request_of r.call s.waiting)) (omega arith) (with_one (request_of r.call s.waiting))
    where
      more : (own : TokenRequest) (waiting : List TokenRequest) → cost k (record s { queue = s.queue ++ own ∷ []; waiting = waiting }) ≤ cost k s + most_of k
      more own waiting = by (awaits s) (other_requests k s s.active (s.queue ++ own ∷ []) waiting s.active) (each_both (most_of k) s.queue (own ∷ []))
        where
          by : (b : Bool) → costs k (record s { queue = s.queue ++ own ∷ []; waiting = waiting }) s.active ≡ costs k s s.active → for_each (most_of k) (s.queue ++ own ∷ []) ≡ for_each (most_of k) s.queue + for_each (most_of k) (own ∷ []) → (if b then for_each (most_of k) s.active else costs k (record s { queue = s.queue ++ own ∷ []; waiting = waiting }) s.active) + for_each (most_of k) (s.queue ++ own ∷ []) ≤ ((if b then for_each (most_of k) s.active else costs k s s.active) + for_each (most_of k) s.queue) + most_of k
          by true same both = omega arith
          by false same both = omega arith

      with_one : (o : Option TokenRequest) → cost k (enqueued_with s r o) ≤ cost k s + most_of k
      with_one None = more r s.waiting
      with_one (Some own) = more own (filter (λ q. not (is_of_call r.call q)) s.waiting)

  pub enqueued_each : (u : ℕ) → for_each u (requests (enqueued s r)) ≤ for_each u (requests s) + u
  enqueued_each u = if_either (λ (t : ServerState). for_each u (requests t) ≤ for_each u (requests s) + u) (list_any (is_of_call r.call) s.active || list_any (is_of_call r.call) s.queue) s (enqueued_with s r (request_of r.call s.waiting)) (omega arith) (with_one (request_of r.call s.waiting))
    where
      more : (own : TokenRequest) (waiting : List TokenRequest) → for_each u waiting ≤ for_each u s.waiting → for_each u (s.active ++ ((s.queue ++ own ∷ []) ++ waiting)) ≤ for_each u (requests s) + u
      more own waiting fewer =
          let old = each_both u s.active (s.queue ++ s.waiting) in
          let older = each_both u s.queue s.waiting in
          let new = each_both u s.active ((s.queue ++ own ∷ []) ++ waiting) in
          let newer = each_both u (s.queue ++ own ∷ []) waiting in
          let newest = each_both u s.queue (own ∷ []) in
          omega arith

      with_one : (o : Option TokenRequest) → for_each u (requests (enqueued_with s r o)) ≤ for_each u (requests s) + u
      with_one None = more r s.waiting (omega arith)
      with_one (Some own) = more own (filter (λ q. not (is_of_call r.call q)) s.waiting) (passing_each u (λ q. not (is_of_call r.call q)) s.waiting)

  pub enqueued_shape : (enqueued s r).shape ≡ s.shape
  enqueued_shape = if_either (λ (t : ServerState). t.shape ≡ s.shape) (list_any (is_of_call r.call) s.active || list_any (is_of_call r.call) s.queue) s (enqueued_with s r (request_of r.call s.waiting)) refl (with_one (request_of r.call s.waiting))
    where
      with_one : (o : Option TokenRequest) → (enqueued_with s r o).shape ≡ s.shape
      with_one None = refl
      with_one (Some own) = refl

-- a node without a row gets an empty one, which is in no way
pub with_a_row_costs : (k : ℕ) (s : ServerState) (call : CallId) → IsAmong k call.node → (o : Option Row) → s.rows call.node ≡ o → cost k (with_a_row s call o) ≤ cost k s
with_a_row_costs k s call within (Some row) there = omega arith
with_a_row_costs k s call within None there =
    no_dearer k s t
    (still_awaits s t refl (λ m. at_number m n (λ b. is_awaited (if b then Some (empty_row (begin s) call.incarnation) else s.rows m) ≡ true → is_awaited (s.rows m) ≡ true) (λ same h. absurd (cc)) (λ other h. h)))
    (omega arith) (omega arith)
    (λ told. all_pass_cost k s t s.active each)
  where
    n : ℕ
    n = call.node

    t : ServerState
    t = with_a_row s call None

    put : t.rows n ≡ Some (empty_row (begin s) call.incarnation)
    put = λ j. if eq-eqb n n refl j then Some (empty_row (begin s) call.incarnation) else s.rows n

    each : (r : TokenRequest) → cost_of k t r ≤ cost_of k s r
    each r =
        let free : row_conflicts (t.rows n) r.wanted.required r.mode ≡ false = ap (λ (o : Option Row). row_conflicts o r.wanted.required r.mode) put ∙ conflicts-none no_token r.wanted.required r.mode (λ b above below h. absurd (cc)) in
        one_row k n s t r within refl
        (λ m other. at_number m n (λ b. (if b then Some (empty_row (begin s) call.incarnation) else s.rows m) ≡ s.rows m) (λ same. absurd (other same)) (λ apart. refl))
        (λ h. absurd (both_ways (row_conflicts (t.rows n) r.wanted.required r.mode) free h))
        (λ h was. absurd (both_ways (row_conflicts (t.rows n) r.wanted.required r.mode) free h))
        (λ own was. absurd (let no : false ≡ true = ap (λ (o : Option Row). grants_for r (outstanding_of o)) (sym there) ∙ was in cc))
