-- A server that has asked nodes for their tokens, and what an event and serving leave of that.
use Rattle.std.specs.Prelude.{◌≡◌, ℕ, ◌+◌, ◌-◌, ◌≤◌, Bool, true, false, cond, ◌==◌, nat_le, nat_lt, List, [], ◌∷◌, ◌++◌, is_some, IfSome, Option, Some, None, Result, Ok, Err}
use Rattle.std.proofs.Common.{refl, sym, ap, subst, ◌∙◌, inl, inr, arith}
use Rattle.std.proofs.lemmas.Bool.Decides.{eqb_tells}
use Rattle.intervals.specs.rule.Search.{first, some_passes}
use Rattle.token_set.specs.rule.Tokens.{Token}
use Rattle.token_set.proofs.TokenLaws.{some_passes-none, none_passes-from, first-same}
use Rattle.messages.specs.declared.refusal.StepError.{StepError}
use Rattle.messages.specs.declared.refusal.StepError.TheVariants.{Spent}
use Rattle.messages.specs.declared.message.Message.{Message}
use Rattle.messages.specs.rule.Shapes.{before_epoch}
use Rattle.messages.specs.rule.Messages.{greatest_number}
use Rattle.token_server.specs.declared.token_queue.token_request.TokenRequest.{TokenRequest}
use Rattle.token_server.specs.declared.known_nodes.known_change.KnownChange.{KnownChange}
use Rattle.token_server.specs.declared.known_nodes.known_change.KnownChange.TheVariants.{Forgotten, Asked, Answered, Relieved, Reported}
use Rattle.token_server.specs.declared.known_nodes.known_change.Changed.{Changed}
use Rattle.token_server.specs.rule.Rows.{Row, is_hello, is_awaited, row_above}
use Rattle.token_server.specs.rule.State.{ServerState, awaits, begin, with_row}
use Rattle.token_server.specs.rule.Serve.{conflicting_node, commanded, granted_to, revoked_from, served, with_more, and_then, each_served}
use Rattle.token_server.specs.code.Edits.{AreOfEpoch}
use Rattle.token_server.specs.code.Rows.{row_or_empty, row_after, rows_after}
use Rattle.token_server.proofs.AdmissionLaws.{above-told}

empty-told : (begin incarnation : ℕ) (row : Option Row) → is_awaited row ≡ false → is_awaited (row_or_empty begin incarnation row) ≡ false
empty-told begin incarnation None told = refl
empty-told begin incarnation (Some row) told = told

-- no change sends a node a Hello
change-told : (c : KnownChange) (row : Option Row) → is_awaited row ≡ false → is_awaited (row_after c row) ≡ false
change-told (Forgotten incarnation) row told = above-told incarnation row told
change-told (Asked host begin) row told = empty-told begin host.incarnation (row_above (host.incarnation - 1) row) (above-told (host.incarnation - 1) row told)
change-told Answered None told = refl
change-told Answered (Some row) told = refl
change-told (Relieved span mode) None told = refl
change-told (Relieved span mode) (Some row) told = refl
change-told (Reported runs) None told = refl
change-told (Reported runs) (Some row) told = refl

rows-told : (changed : Option Changed) (rows : ℕ → Option Row) (n : ℕ) → is_awaited (rows n) ≡ false → is_awaited (rows_after changed rows n) ≡ false
rows-told None rows n told = told
rows-told (Some c) rows n told =
    elim (n == c.node) as (λ b. is_awaited (cond b (row_after c.change (rows n)) (rows n)) ≡ false) [ true ↦ change-told c.change (rows n) told | false ↦ told ]

-- a server that awaits no report awaits none after an event
pub none-after : (changed : Option Changed) (rows : ℕ → Option Row) (nodes : ℕ) → some_passes (λ n. is_awaited (rows n)) 1 nodes ≡ false → some_passes (λ n. is_awaited (rows_after changed rows n)) 1 nodes ≡ false
none-after changed rows nodes none =
    none_passes-from (λ n. is_awaited (rows_after changed rows n)) 1 nodes (λ n above below. rows-told changed rows n (some_passes-none (λ k. is_awaited (rows k)) 1 nodes n none above below))

abbrev Answer : Type 0
Answer = Result (ServerState × List Message) StepError

-- a property of each row that holds on after the next command, where that is no Hello
module _ (P : ℕ → Option Row → Type 0) (keeps : (n : ℕ) (row : Row) (token : Token) (command : Message) → is_hello (Some command) ≡ false → row.outstanding ≡ None → P n (Some row) → P n (Some (record row { token = token; number = row.number + 1; outstanding = Some command }))) where
  abbrev Holds : ServerState → Type 0
  Holds s = (n : ℕ) → P n (s.rows n)

  silent-holds : (s t : ServerState) (out : List Message) → Holds s → ◌≡◌ {A = Answer} (Ok (s, [])) (Ok (t, out)) → Holds t
  silent-holds s t out all h =
      let pair : ◌≡◌ {A = ServerState × List Message} (s, []) (t, out) = cc in
      subst (λ (p : ServerState × List Message). Holds p.0) pair all

  commanded-holds : (s t : ServerState) (node : ℕ) (row : Row) (token : Token) (command : Message) (out : List Message) → is_hello (Some command) ≡ false → s.rows node ≡ Some row → Holds s → commanded s node row token command ≡ Ok (t, out) → Holds t
  commanded-holds s t node row token command out plain there all is = by row.outstanding (nat_lt row.number (begin s + greatest_number)) refl is
    where
      made : Row
      made = record row { token = token; number = row.number + 1; outstanding = Some command }

      at : row.outstanding ≡ None → Holds (with_row s node (Some made))
      at idle n = elim (eqb_tells n node) [
        | inl own ↦ subst (λ (b : Bool). P n (cond b (Some made) (s.rows n))) (sym own.0) (keeps n row token command plain idle (subst (P n) (ap s.rows own.1 ∙ there) (all n)))
        | inr other ↦ subst (λ (b : Bool). P n (cond b (Some made) (s.rows n))) (sym other.0) (all n)
      ]

      by : (o : Option Message) (few : Bool) → row.outstanding ≡ o → ◌≡◌ {A = Answer} (cond (is_some o) (Ok (s, [])) (cond few (Ok (with_row s node (Some made), command ∷ [])) (Err Spent))) (Ok (t, out)) → Holds t
      by (Some m) few waits h = silent-holds s t out all h
      by None true waits h =
          let pair : ◌≡◌ {A = ServerState × List Message} (with_row s node (Some made), command ∷ []) (t, out) = cc in
          subst (λ (p : ServerState × List Message). Holds p.0) pair (at waits)
      by None false waits h = absurd (cc)

  pub served-holds : (s t : ServerState) (r : TokenRequest) (out : List Message) → Holds s → served s r ≡ Ok (t, out) → Holds t
  served-holds s t r out all is = by (nat_le node s.shape.nodes) is
    where
      node : ℕ
      node = conflicting_node s r

      granted : (o : Option Row) → s.rows r.call.node ≡ o → granted_to s r o ≡ Ok (t, out) → Holds t
      granted None there h = silent-holds s t out all h
      granted (Some row) there h = commanded-holds s t r.call.node row _ _ out refl there all h

      revoked : (o : Option Row) → s.rows node ≡ o → revoked_from s r node o ≡ Ok (t, out) → Holds t
      revoked None there h = silent-holds s t out all h
      revoked (Some row) there h = commanded-holds s t node row row.token _ out refl there all h

      by : (b : Bool) → cond b (revoked_from s r node (s.rows node)) (granted_to s r (s.rows r.call.node)) ≡ Ok (t, out) → Holds t
      by true h = revoked (s.rows node) refl h
      by false h = granted (s.rows r.call.node) refl h

  -- the property holds after requests were served
  pub each_served-holds : (rs : List TokenRequest) (s t : ServerState) (out : List Message) → Holds s → each_served rs s ≡ Ok (t, out) → Holds t
  each_served-holds [] s t out all h = silent-holds s t out all h
  each_served-holds (r ∷ rest) s t out all h = by (served s r) refl (λ u v sent. each_served-holds rest u v sent) h
    where
      Goes : Type 0
      Goes = (u v : ServerState) (sent : List Message) → Holds u → each_served rest u ≡ Ok (v, sent) → Holds v

      more : (u : ServerState) (before : List Message) (x : Answer) → Goes → Holds u → each_served rest u ≡ x → with_more before x ≡ Ok (t, out) → Holds t
      more u before (Err e) goes held is h = absurd (cc)
      more u before (Ok done) goes held is h =
          let pair : ◌≡◌ {A = ServerState × List Message} (done.0, before ++ done.1) (t, out) = cc in
          subst (λ (p : ServerState × List Message). Holds p.0) pair (goes u done.0 done.1 held is)

      by : (x : Answer) → served s r ≡ x → Goes → and_then x (each_served rest) ≡ Ok (t, out) → Holds t
      by (Err e) is goes h = absurd (cc)
      by (Ok done) is goes h = more done.0 done.1 (each_served rest done.0) goes (served-holds s done.0 r done.1 all is) refl h

-- serving sends no Hello, and takes no report
pub served-awaits : (rs : List TokenRequest) (s t : ServerState) (out : List Message) → t.shape ≡ s.shape → each_served rs s ≡ Ok (t, out) → awaits t ≡ awaits s
served-awaits rs s t out shape is =
    let P : ℕ → Option Row → Type 0 = λ n o. is_awaited o ≡ is_awaited (s.rows n) in
    let same : (n : ℕ) → is_awaited (t.rows n) ≡ is_awaited (s.rows n) = each_served-holds P keeps rs s t out (λ n. refl) is in
    (λ i. let nodes : ℕ = (shape i).nodes in nat_lt (first (λ n. is_awaited (t.rows n)) 1 nodes) (1 + nodes))
    ∙ ap (λ (k : ℕ). nat_lt k (1 + s.shape.nodes)) (first-same (λ n. is_awaited (t.rows n)) (λ n. is_awaited (s.rows n)) 1 s.shape.nodes (λ n above below. same n))
  where
    keeps : (n : ℕ) (row : Row) (token : Token) (command : Message) → is_hello (Some command) ≡ false → row.outstanding ≡ None → is_hello row.outstanding ≡ is_awaited (s.rows n) → is_hello (Some command) ≡ is_awaited (s.rows n)
    keeps n row token command plain idle was = plain ∙ sym (ap is_hello idle) ∙ was

-- serving leaves each number at or above the epoch's base
pub served-counted : (rs : List TokenRequest) (s t : ServerState) (out : List Message) → t.epoch ≡ s.epoch → AreOfEpoch s → each_served rs s ≡ Ok (t, out) → AreOfEpoch t
served-counted rs s t out epoch counted is n =
    let all : (k : ℕ) → IfSome (t.rows k) (λ row. begin s ≤ row.number) = each_served-holds (λ k o. IfSome o (λ row. begin s ≤ row.number)) (λ k row token command plain idle was. omega arith) rs s t out counted is in
    subst (λ (e : ℕ). IfSome (t.rows n) (λ row. before_epoch e ≤ row.number)) (sym epoch) (all n)
