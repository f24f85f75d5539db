-- Serving: each command that a token server sends is paid for by the request for which it is sent.
use Rattle.std.specs.Prelude.{◌==◌, ◌&&◌, nat_le, nat_lt, if◌then◌else◌, is_some, length}
use Rattle.std.proofs.Common.{◌≡◌, ℕ, ◌+◌, ◌*◌, ◌≤◌, Bool, true, false, refl, sym, ◌∙◌, ap, subst, arith, List, [], ◌∷◌, ◌++◌, append_assoc, length-append, All, Option, Some, None, Result, Ok, Err}
use Rattle.std.proofs.lemmas.Bool.{and_from, and_parts, both_ways, eq-eqb, leb-true}
use Rattle.std.proofs.lemmas.Option.{none-some}
use Rattle.std.proofs.lemmas.List.Elements.{All-nil, All-cons, All-head, All-tail, All-append}
use Rattle.intervals.specs.rule.Bytes.{Range, is_in}
use Rattle.model.specs.declared.mode.Mode.{Mode}
use Rattle.model.specs.declared.mode.Mode.TheVariants.{Read, Write}
use Rattle.model.specs.declared.host.Host.{Host}
use Rattle.model.specs.rule.Owners.{same_mode}
use Rattle.token_set.specs.rule.Tokens.{Token, raised}
use Rattle.messages.proofs.SameMessages.{call_refl}
use Rattle.messages.specs.rule.Messages.{greatest_number, same_call, same_range}
use Rattle.messages.specs.declared.refusal.StepError.{StepError}
use Rattle.messages.specs.declared.refusal.StepError.TheVariants.{Spent}
use Rattle.messages.specs.declared.message.Message.{Message}
use Rattle.messages.specs.declared.message.Message.TheVariants.{Grant, Revoke}
use Rattle.messages.specs.rule.TokenRuns.{Wants}
use Rattle.token_server.specs.declared.token_queue.token_request.TokenRequest.{TokenRequest}
use Rattle.token_server.specs.rule.Rows.{Row, outstanding_of}
use Rattle.token_server.specs.rule.State.{ServerState, begin, awaits, with_row, requests}
use Rattle.token_server.specs.rule.Serve.{narrowed, granted_span, conflicting_node, commanded, granted_to, revoked_from, served, with_more, and_then, each_served, ready, serve}
use Rattle.token_server.specs.rule.Obstacles.{are_apart}
use Rattle.token_server.proofs.AskedLaws.{served-holds, served-awaits}
use Rattle.token_server.proofs.CareLaws.{All-left, All-right, active-each}
use Rattle.token_server.proofs.GrantLaws.{conflicts_at, narrowed-largest}
use Rattle.token_server.proofs.KeepLaws.{StandSame, served-same}
use Rattle.token_server.proofs.ObstacleLaws.{served-leaves}
use Rattle.cluster_core.specs.rule.Serving.{IsWanted, IsServing}
use Rattle.cluster_core.proofs.rounds.Turns.{nowhere, Left, each-left}
use Rattle.progress.proofs.Sums.{sum_same, one_if, one_if_less}
use Rattle.progress.proofs.Costs.{revokes_for, grants_for, is_served, in_way_of, cost_of, most_of, costs, for_each, cost, costs_both, each_both, served_as, stays_served, same_in_way, other_requests, admitted_cost, admitted_each}

abbrev Answer : Type 0
Answer = Result (ServerState × List Message) StepError

-- a Grant, or a Revoke whose desired bytes begin no later than those that it requires
abbrev pub StartsRight : Message → Type 0
StartsRight (Grant file number call mode span) = Unit {0}
StartsRight (Revoke file number holder call mode wanted) = wanted.desired.lo ≤ wanted.required.lo
StartsRight _ = ⊥

mode_refl : (m : Mode) → same_mode m m ≡ true
mode_refl Read = refl
mode_refl Write = refl

range_refl : (s : Range) → same_range s s ≡ true
range_refl s = and_from (s.lo == s.lo) (s.hi == s.hi) (eq-eqb s.lo s.lo refl) (eq-eqb s.hi s.hi refl)

-- a command of which a test holds that holds of none else is one
some_command : (f : Option Message → Bool) → f None ≡ false → (o : Option Message) → f o ≡ true → (m : Message) × (o ≡ Some m)
some_command f none None h = absurd (both_ways (f None) none h)
some_command f none (Some m) h = (m, refl)

-- an outstanding command stays outstanding while a request is served
served_keeps : (s t : ServerState) (r : TokenRequest) (out : List Message) → served s r ≡ Ok (t, out) → (n : ℕ) (m : Message) → outstanding_of (s.rows n) ≡ Some m → outstanding_of (t.rows n) ≡ Some m
served_keeps s t r out is =
    served-holds (λ n o. (m : Message) → outstanding_of (s.rows n) ≡ Some m → outstanding_of o ≡ Some m)
    (λ n row token command plain idle was m h. absurd (none-some m (sym idle ∙ was m h))) s t r out (λ n m h. h) is

served_left : (s t : ServerState) (r : TokenRequest) (out : List Message) → served s r ≡ Ok (t, out) → Left s t
served_left s t r out is = served-leaves s t r out nowhere Read (λ b within here. none_in b here) is
  where
    none_in : (b : ℕ) → is_in nowhere b ≡ true → ⊥
    none_in b here =
        let p = and_parts (nat_le 1 b) (nat_le b 0) here in
        let above : 1 ≤ b = leb-true 1 b p.0 in
        let below : b ≤ 0 = leb-true b 0 p.1 in
        absurd (omega arith)

-- another request costs no more after one was served
other_pays : (k : ℕ) (s t : ServerState) (r q : TokenRequest) (out : List Message) → StandSame s t q → served s r ≡ Ok (t, out) → cost_of k t q ≤ cost_of k s q
other_pays k s t r q out same is =
    let shape = (served_left s t r out is).shape in
    let keeps = served_keeps s t r out is in
    same_in_way k s t q shape same (stays_served k s t q shape same
    (λ n was here. let m = some_command (revokes_for q) refl (outstanding_of (s.rows n)) here in keeps n m.0 m.1 ∙ sym m.1)
    (λ here. let m = some_command (grants_for q) refl (outstanding_of (s.rows q.call.node)) here in keeps q.call.node m.0 m.1 ∙ sym m.1))

module _ (k : ℕ) (s : ServerState) (r : TokenRequest) (own : IsWanted r) (t : ServerState) (out : List Message) (same : StandSame s t r) (shape : t.shape ≡ s.shape) where
  abbrev Pays : Type 0
  Pays = (cost_of k t r + length out ≤ cost_of k s r) × All StartsRight out

  abbrev node : ℕ
  node = conflicting_node s r

  silent_pays : ◌≡◌ {A = Answer} (Ok (s, [])) (Ok (t, out)) → Pays
  silent_pays h =
      let pair : ◌≡◌ {A = ServerState × List Message} (s, []) (t, out) = cc in
      subst (λ (p : ServerState × List Message). (cost_of k p.0 r + length p.1 ≤ cost_of k s r) × All StartsRight p.1) pair (omega arith, All-nil StartsRight)

  -- the command is outstanding for the request then, and was not before
  sent_pays : is_served s r ≡ false → is_served t r ≡ true → cost_of k t r + 1 ≤ cost_of k s r
  sent_pays before after =
      let less : in_way_of k t r ≤ in_way_of k s r = sum_same (λ m. one_if (conflicts_at s r m)) (λ m. one_if (conflicts_at t r m)) k (λ m. one_if_less (conflicts_at s r m) (conflicts_at t r m) (λ h. sym (same m) ∙ h)) in
      let now : cost_of k t r ≡ 2 * in_way_of k t r + 1 = ap (λ (b : Bool). 2 * in_way_of k t r + (if b then 1 else 2)) after in
      let was : cost_of k s r ≡ 2 * in_way_of k s r + 2 = ap (λ (b : Bool). 2 * in_way_of k s r + (if b then 1 else 2)) before in
      omega arith

  commanded_pays : (n : ℕ) (row : Row) (token : Token) (command : Message) → s.rows n ≡ Some row → StartsRight command → (row.outstanding ≡ None → is_served s r ≡ false) → (t.rows n ≡ Some (record row { token = token; number = row.number + 1; outstanding = Some command }) → is_served t r ≡ true) → commanded s n row token command ≡ Ok (t, out) → Pays
  commanded_pays n row token command there right before after is = by row.outstanding (nat_lt row.number (begin s + greatest_number)) refl is
    where
      made : Row
      made = record row { token = token; number = row.number + 1; outstanding = Some command }

      by : (o : Option Message) (few : Bool) → row.outstanding ≡ o → ◌≡◌ {A = Answer} (if is_some o then Ok (s, []) else (if few then Ok (with_row s n (Some made), command ∷ []) else Err Spent)) (Ok (t, out)) → Pays
      by (Some m) few waits h = silent_pays h
      by None true idle h =
          let pair : ◌≡◌ {A = ServerState × List Message} (with_row s n (Some made), command ∷ []) (t, out) = cc in
          let put : (with_row s n (Some made)).rows n ≡ Some made = λ i. if eq-eqb n n refl i then Some made else s.rows n in
          let now : t.rows n ≡ Some made = subst (λ (p : ServerState × List Message). p.0.rows n ≡ Some made) pair put in
          let less = sent_pays (before idle) (after now) in
          (subst (λ (ms : List Message). cost_of k t r + length ms ≤ cost_of k s r) (ap (λ (p : ServerState × List Message). p.1) pair) less, subst (All StartsRight) (ap (λ (p : ServerState × List Message). p.1) pair) (All-cons StartsRight command [] right (All-nil StartsRight)))
      by None false idle h = absurd (cc)

  granted_pays : nat_le node s.shape.nodes ≡ false → (o : Option Row) → s.rows r.call.node ≡ o → granted_to s r o ≡ Ok (t, out) → Pays
  granted_pays free None there h = silent_pays h
  granted_pays free (Some row) there h =
      commanded_pays r.call.node row (raised row.token (granted_span s r) r.mode) (Grant s.file (row.number + 1) r.call r.mode (granted_span s r)) there tt
      (λ idle i. if free i then revokes_for r (outstanding_of (s.rows node)) else grants_for r ((ap outstanding_of there ∙ idle) i))
      (λ now. served_as k s t r shape same ∙ ((λ i. if free i then revokes_for r (outstanding_of (t.rows node)) else grants_for r (outstanding_of (now i))) ∙ call_refl r.call)) h

  starts_right : (narrowed s.active r).lo ≤ r.wanted.required.lo
  starts_right = (narrowed-largest s.active r own.ordered own.starts own.ends).has_first

  revoked_pays : nat_le node s.shape.nodes ≡ true → (o : Option Row) → s.rows node ≡ o → revoked_from s r node o ≡ Ok (t, out) → Pays
  revoked_pays few None there h = silent_pays h
  revoked_pays few (Some row) there h =
      let holder : Host = record { node = node; incarnation = row.incarnation } in
      let wanted : Wants = record { required = r.wanted.required; desired = narrowed s.active r } in
      commanded_pays node row row.token (Revoke s.file (row.number + 1) holder r.call r.mode wanted) there starts_right
      (λ idle i. if few i then revokes_for r ((ap outstanding_of there ∙ idle) i) else grants_for r (outstanding_of (s.rows r.call.node)))
      (λ now. served_as k s t r shape same ∙ ((λ i. if few i then revokes_for r (outstanding_of (now i)) else grants_for r (outstanding_of (t.rows r.call.node)))
      ∙ and_from (same_call r.call r.call) (same_mode r.mode r.mode && same_range r.wanted.required r.wanted.required) (call_refl r.call) (and_from (same_mode r.mode r.mode) (same_range r.wanted.required r.wanted.required) (mode_refl r.mode) (range_refl r.wanted.required)))) h

  own_pays : served s r ≡ Ok (t, out) → Pays
  own_pays is = by (nat_le node s.shape.nodes) refl is
    where
      by : (b : Bool) → nat_le node s.shape.nodes ≡ b → (if b then revoked_from s r node (s.rows node) else granted_to s r (s.rows r.call.node)) ≡ Ok (t, out) → Pays
      by true few h = revoked_pays few (s.rows node) refl h
      by false free h = granted_pays free (s.rows r.call.node) refl h

others_pay : (k : ℕ) (s t : ServerState) (r : TokenRequest) (out : List Message) (qs : List TokenRequest) → All (StandSame s t) qs → served s r ≡ Ok (t, out) → costs k t qs ≤ costs k s qs
others_pay k s t r out [] same is = omega arith
others_pay k s t r out (q ∷ qs) same is =
    let one = other_pays k s t r q out (All-head (StandSame s t) q qs same) is in
    let rest = others_pay k s t r out qs (All-tail (StandSame s t) q qs same) is in
    omega arith

-- each message is paid for by the requests
pub record Paid (k : ℕ) (all : List TokenRequest) (s t : ServerState) (out : List Message) : Type 0 where
  pub paid : costs k t all + length out ≤ costs k s all
  pub right : All StartsRight out

paid_none : (k : ℕ) (all : List TokenRequest) (s t : ServerState) (out : List Message) → ◌≡◌ {A = Answer} (Ok (s, [])) (Ok (t, out)) → Paid k all s t out
paid_none k all s t out h =
    let pair : ◌≡◌ {A = ServerState × List Message} (s, []) (t, out) = cc in
    subst (λ (p : ServerState × List Message). Paid k all s p.0 p.1) pair (record { paid = omega arith; right = All-nil StartsRight })

each_pays : (k : ℕ) (done todo : List TokenRequest) (s t : ServerState) (out : List Message) → s.active ≡ done ++ todo → are_apart s.active ≡ true → All IsWanted todo → each_served todo s ≡ Ok (t, out) → Paid k (done ++ todo) s t out
each_pays k done [] s t out split apart wanted is = paid_none k (done ++ []) s t out is
each_pays k done (r ∷ rest) s t out split apart wanted is = by (served s r) refl (λ u v sent. each_pays k (done ++ r ∷ []) rest u v sent) is
  where
    own : IsWanted r
    own = All-head IsWanted r rest wanted

    around : (done ++ r ∷ []) ++ rest ≡ done ++ r ∷ rest
    around = append_assoc done (r ∷ []) rest

    Goes : Type 0
    Goes = (u v : ServerState) (sent : List Message) → u.active ≡ (done ++ r ∷ []) ++ rest → are_apart u.active ≡ true → All IsWanted rest → each_served rest u ≡ Ok (v, sent) → Paid k ((done ++ r ∷ []) ++ rest) u v sent

    first_pays : (u : ServerState) (first : List Message) → served s r ≡ Ok (u, first) → Paid k (done ++ r ∷ rest) s u first
    first_pays u first was =
        let left = served_left s u r first was in
        let same = served-same s u r first done rest split apart own.ordered own.starts own.ends was in
        let before = All-left (StandSame s u) done (r ∷ rest) same in
        let behind = All-right (StandSame s u) done (r ∷ rest) same in
        let one = own_pays k s r own u first (All-head (StandSame s u) r rest behind) left.shape was in
        let fewer = others_pay k s u r first done before was in
        let more = others_pay k s u r first rest (All-tail (StandSame s u) r rest behind) was in
        let old = costs_both k s done (r ∷ rest) in
        let new = costs_both k u done (r ∷ rest) in
        let less = one.0 in
        record { paid = omega arith; right = one.1 }

    more : (u : ServerState) (first : List Message) (x : Answer) → served s r ≡ Ok (u, first) → Goes → each_served rest u ≡ x → with_more first x ≡ Ok (t, out) → Paid k (done ++ r ∷ rest) s t out
    more u first (Err e) was goes served_rest h = absurd (cc)
    more u first (Ok end) was goes served_rest h =
        let pair : ◌≡◌ {A = ServerState × List Message} (end.0, first ++ end.1) (t, out) = cc in
        let left = served_left s u r first was in
        let one = first_pays u first was in
        let later = goes u end.0 end.1 (left.active ∙ split ∙ sym around) (ap are_apart left.active ∙ apart) (All-tail IsWanted r rest wanted) served_rest in
        let others : Paid k (done ++ r ∷ rest) u end.0 end.1 = subst (λ (all : List TokenRequest). Paid k all u end.0 end.1) around later in
        let long = length-append first end.1 in
        let a = one.paid in
        let b = others.paid in
        subst (λ (p : ServerState × List Message). Paid k (done ++ r ∷ rest) s p.0 p.1) pair (record { paid = omega arith; right = All-append StartsRight first end.1 one.right others.right })

    by : (x : Answer) → served s r ≡ x → Goes → and_then x (each_served rest) ≡ Ok (t, out) → Paid k (done ++ r ∷ rest) s t out
    by (Err e) was goes h = absurd (cc)
    by (Ok one) was goes h = more one.0 one.1 (each_served rest one.0) was goes refl h

-- serving is paid for, and leaves as many requests
pub record ServingPaid (k : ℕ) (s t : ServerState) (out : List Message) : Type 0 where
  pub paid : cost k t + length out ≤ cost k s
  pub right : All StartsRight out
  pub requests_are : (u : ℕ) → for_each u (requests t) ≤ for_each u (requests s)

pub serve_pays : (k : ℕ) (s t : ServerState) (out : List Message) → IsServing t → serve s ≡ Ok (t, out) → ServingPaid k s t out
serve_pays k s t out serving is = by (awaits s) refl is
  where
    next : ServerState
    next = ready s

    by : (b : Bool) → awaits s ≡ b → (if b then Ok (s, []) else each_served next.active next) ≡ Ok (t, out) → ServingPaid k s t out
    by true waits h =
        let pair : ◌≡◌ {A = ServerState × List Message} (s, []) (t, out) = cc in
        subst (λ (p : ServerState × List Message). ServingPaid k s p.0 p.1) pair (record { paid = omega arith; right = All-nil StartsRight; requests_are = λ u. omega arith })
    by false told h =
        let left = each-left next.active next t out h in
        let wanted : All IsWanted next.active = subst (All IsWanted) left.active (active-each IsWanted t serving.wanted) in
        let apart : are_apart next.active ≡ true = ap are_apart (sym left.active) ∙ serving.apart in
        let pays = each_pays k [] next.active next t out refl apart wanted h in
        let told_then : awaits t ≡ false = served-awaits next.active next t out left.shape h ∙ told in
        let less = pays.paid in
        let same : costs k next next.active ≡ costs k s next.active = other_requests k s next.active next.queue s.waiting next.active in
        let few = admitted_cost k s s.active [] s.queue in
        let was : cost k s ≡ costs k s s.active + for_each (most_of k) s.queue = ap (λ (b : Bool). (if b then for_each (most_of k) s.active else costs k s s.active) + for_each (most_of k) s.queue) told in
        let now : cost k t ≡ costs k t next.active + for_each (most_of k) next.queue = λ i. (if told_then i then for_each (most_of k) t.active else costs k t (left.active i)) + for_each (most_of k) (left.queue i) in
        record {
          paid = omega arith;
          right = pays.right;
          requests_are = λ u.
              let all = admitted_each u s.active [] s.queue in
              let old = each_both u s.active (s.queue ++ s.waiting) in
              let older = each_both u s.queue s.waiting in
              let new = each_both u next.active (next.queue ++ s.waiting) in
              let newer = each_both u next.queue s.waiting in
              let same_now : for_each u (requests t) ≡ for_each u (next.active ++ (next.queue ++ s.waiting)) = λ i. for_each u (left.active i ++ (left.queue i ++ left.waiting i)) in
              omega arith;
        }
