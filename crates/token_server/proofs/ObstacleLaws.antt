-- The nodes whose rows block requests, and what keeps it so.
use Rattle.std.specs.Prelude.{◌≡◌, ℕ, zero, suc, pred, ◌+◌, ◌-◌, ◌<◌, ◌≤◌, Bool, true, false, not, cond, nat_le, nat_lt, List, [], ◌∷◌, is_some, Option, Some, None, Result, Ok, Err, ◌&&◌, ◌||◌, ◌==◌, MatchOption}
use Rattle.std.specs.List.{list_any}
use Rattle.std.proofs.Common.{refl, sym, ap, subst, ◌∙◌, inl, inr, arith}
use Rattle.std.proofs.lemmas.Bool.Decides.{eqb_tells}
use Rattle.std.proofs.lemmas.Bool.{both_ways, and_parts, and_from, le-leb, leb-true, false_from_ne_true, not_from_false}
use Rattle.intervals.specs.rule.Search.{first}
use Rattle.intervals.specs.rule.Bytes.{Range, is_in, size, largest_around, NoneIn}
use Rattle.intervals.proofs.SearchLaws.{first_is_first}
use Rattle.model.specs.declared.mode.Mode.{Mode}
use Rattle.token_set.specs.rule.Tokens.{Token, raised, conflicts, level_conflicts, no_token, raised_level, lowered_level, lowered}
use Rattle.token_set.proofs.TokenLaws.{first-is, first-same, some_passes-first, some_passes-from, conflicts-from, largest_around-same, largest_around-or}
use Rattle.messages.specs.declared.refusal.StepError.{StepError}
use Rattle.messages.specs.declared.message.Message.{Message}
use Rattle.token_server.specs.declared.token_queue.token_request.TokenRequest.{TokenRequest}
use Rattle.token_server.specs.rule.Rows.{Row, row_conflicts, row_above, row_conflicts_at}
use Rattle.token_server.specs.rule.State.{ServerState, with_row, begin}
use Rattle.messages.specs.declared.refusal.StepError.TheVariants.{Spent}
use Rattle.messages.specs.rule.Messages.{greatest_number}
use Rattle.token_server.specs.rule.Requests.{meets}
use Rattle.token_server.specs.rule.Serve.{narrowed, is_taken, granted_span, conflicting_node, commanded, granted_to, revoked_from, served}
use Rattle.token_server.specs.rule.Obstacles.{obstacle, is_idle}
use Rattle.token_server.proofs.GrantLaws.{conflicts_at, narrowed-largest, cut-apart}
use Rattle.model.specs.declared.mode.Mode.TheVariants.{Read, Write}
use Rattle.model.specs.declared.level.Level.{Level}
use Rattle.model.specs.declared.level.Level.TheVariants.{Shared, Exclusive}
use Rattle.token_server.specs.declared.known_nodes.known_change.KnownChange.{KnownChange}
use Rattle.token_server.specs.declared.known_nodes.known_change.KnownChange.TheVariants.{Forgotten, Asked, Answered, Relieved, Reported}
use Rattle.token_server.specs.declared.known_nodes.known_change.Changed.{Changed}
use Rattle.token_server.specs.declared.token_queue.active_request.ActiveRequest.{ActiveRequest}
use Rattle.token_server.specs.code.Rows.{with_change, row_or_empty, row_after, may_bar, promised, barred_by, bars}
use Rattle.token_server.specs.code.Admissions.{is_dropped, frees, may_turn}
use Rattle.messages.specs.declared.message.Message.TheVariants.{Grant}
use Rattle.token_server.specs.declared.sent_command.SentCommand.{SentCommand}
use Rattle.token_server.specs.code.Edits.{row_told, cut}
use Rattle.token_server.proofs.KnownNodeLaws.{row_free}

-- the first number that passes is the first of fewer that pass, if it is one of them
pub first-kept : (p q : ℕ → Bool) (lo n : ℕ) → ((j : ℕ) → q j ≡ true → p j ≡ true) → (first p lo n < lo + n → q (first p lo n) ≡ true) → first q lo n ≡ first p lo n
first-kept p q lo n fewer here =
    let f = first_is_first p lo n in
    first-is q lo n (first p lo n) (record {
      least = f.least;
      within = f.within;
      none_before = λ j above below. false_from_ne_true (q j) (λ yes. both_ways (p j) (f.none_before j above below) (fewer j yes));
      here = here;
    })

-- the node that blocks a request stays it where no further row conflicts, and its row still does if it did
pub obstacle-kept : (s t : ServerState) (r : TokenRequest) → t.shape.nodes ≡ s.shape.nodes → ((n : ℕ) → conflicts_at t r n ≡ true → conflicts_at s r n ≡ true) → (conflicting_node s r ≤ s.shape.nodes → conflicts_at t r (conflicting_node s r) ≡ true) → obstacle t r ≡ obstacle s r
obstacle-kept s t r nodes fewer here =
    let same : conflicting_node t r ≡ conflicting_node s r =
    ap (λ (n : ℕ). first (conflicts_at t r) 1 n) nodes ∙ first-kept (conflicts_at s r) (conflicts_at t r) 1 s.shape.nodes fewer (λ below. here (within below)) in
    λ i. cond (nat_le (same i) (nodes i)) (same i) r.call.node
  where
    within : first (conflicts_at s r) 1 s.shape.nodes < 1 + s.shape.nodes → first (conflicts_at s r) 1 s.shape.nodes ≤ s.shape.nodes
    within h = omega arith

-- the node that blocks a request stays it where the same rows conflict
pub obstacle-same : (s t : ServerState) (r : TokenRequest) → t.shape.nodes ≡ s.shape.nodes → ((n : ℕ) → conflicts_at t r n ≡ conflicts_at s r n) → obstacle t r ≡ obstacle s r
obstacle-same s t r nodes same =
    let both : conflicting_node t r ≡ conflicting_node s r =
    ap (λ (n : ℕ). first (conflicts_at t r) 1 n) nodes ∙ first-same (conflicts_at t r) (conflicts_at s r) 1 s.shape.nodes (λ k above below. same k) in
    λ i. cond (nat_le (both i) (nodes i)) (both i) r.call.node

pub meets-from : (s t : Range) (b : ℕ) → is_in s b ≡ true → is_in t b ≡ true → meets s t ≡ true
meets-from s t b in_s in_t =
    let ps = and_parts (nat_le s.lo b) (nat_le b s.hi) in_s in
    let pt = and_parts (nat_le t.lo b) (nat_le b t.hi) in_t in
    let lo : s.lo ≤ b = leb-true s.lo b ps.0 in
    let hi : b ≤ s.hi = leb-true b s.hi ps.1 in
    let lo2 : t.lo ≤ b = leb-true t.lo b pt.0 in
    let hi2 : b ≤ t.hi = leb-true b t.hi pt.1 in
    and_from (nat_le s.lo t.hi) (nat_le t.lo s.hi) (le-leb s.lo t.hi (omega arith)) (le-leb t.lo s.hi (omega arith))

-- the narrowed desired span has no byte that another active request needs
pub narrowed-spares : (active : List TokenRequest) (r q : TokenRequest) → r.wanted.required.lo ≤ r.wanted.required.hi → r.wanted.desired.lo ≤ r.wanted.required.lo → r.wanted.required.hi ≤ r.wanted.desired.hi → ((b : ℕ) → is_in q.wanted.required b ≡ true → list_any (λ x. is_in x.wanted.required b) active ≡ true) → meets r.wanted.required q.wanted.required ≡ false → (b : ℕ) → (narrowed active r).lo ≤ b → b ≤ (narrowed active r).hi → is_in q.wanted.required b ≡ true → ⊥
narrowed-spares active r q order starts ends among apart b above below here =
    let l = narrowed-largest active r order starts ends in
    let outside : is_in r.wanted.required b ≡ false = false_from_ne_true (is_in r.wanted.required b) (λ own. both_ways (meets r.wanted.required q.wanted.required) apart (meets-from r.wanted.required q.wanted.required b own here)) in
    l.free b above below (and_from (not (is_in r.wanted.required b)) (list_any (λ x. is_in x.wanted.required b) active) (not_from_false (is_in r.wanted.required b) outside) (among b here))

-- a token that is raised elsewhere conflicts as before
pub raised-elsewhere : (t : Token) (span s : Range) (by mode : Mode) → ((b : ℕ) → is_in span b ≡ true → is_in s b ≡ true → ⊥) → conflicts (raised t span by) s mode ≡ conflicts t s mode
raised-elsewhere t span s by mode apart =
    let same = first-same (λ b. level_conflicts (raised t span by b) mode) (λ b. level_conflicts (t b) mode) s.lo (size s) (λ b above below. ap (λ l. level_conflicts l mode) (at b (is_in span b) refl above below)) in
    ap (λ (k : ℕ). nat_lt k (s.lo + size s)) same
  where
    at : (b : ℕ) (i : Bool) → is_in span b ≡ i → s.lo ≤ b → b < s.lo + size s → raised t span by b ≡ t b
    at b false is above below = ap (λ (i : Bool). cond i (Rattle.token_set.specs.rule.Tokens.raised_level (t b) by) (t b)) is
    at b true is above below =
        absurd (apart b is (and_from (nat_le s.lo b) (nat_le b s.hi) (le-leb s.lo b above) (le-leb b s.hi (omega arith))))

-- the largest span lies within the span that it is sought in
around-starts : (barred : ℕ → Bool) (required within : Range) → within.lo ≤ (largest_around barred required within).lo
around-starts barred required within = (first_is_first _ within.lo (required.lo - within.lo)).least

around-ends : (barred : ℕ → Bool) (required within : Range) → required.hi ≤ within.hi → (largest_around barred required within).hi ≤ within.hi
around-ends barred required within ends =
    let f = first_is_first barred (required.hi + 1) (within.hi - required.hi) in
    below (first barred (required.hi + 1) (within.hi - required.hi)) (omega (arith, f.within))
  where
    below : (k : ℕ) → k ≤ within.hi + 1 → pred k ≤ within.hi
    below zero h = omega arith
    below (suc k) h = omega arith

-- the span that a request is granted has no byte that another active one needs
pub granted-spares : (s : ServerState) (r q : TokenRequest) → r.wanted.required.lo ≤ r.wanted.required.hi → r.wanted.desired.lo ≤ r.wanted.required.lo → r.wanted.required.hi ≤ r.wanted.desired.hi → ((b : ℕ) → is_in q.wanted.required b ≡ true → list_any (λ x. is_in x.wanted.required b) s.active ≡ true) → meets r.wanted.required q.wanted.required ≡ false → (b : ℕ) → is_in (granted_span s r) b ≡ true → is_in q.wanted.required b ≡ true → ⊥
granted-spares s r q order starts ends among apart b within here =
    let n = narrowed s.active r in
    let l = narrowed-largest s.active r order starts ends in
    let p = and_parts (nat_le (granted_span s r).lo b) (nat_le b (granted_span s r).hi) within in
    let lo : (granted_span s r).lo ≤ b = leb-true (granted_span s r).lo b p.0 in
    let hi : b ≤ (granted_span s r).hi = leb-true b (granted_span s r).hi p.1 in
    let from : n.lo ≤ (granted_span s r).lo = around-starts (is_taken s r) r.wanted.required n in
    let to : (granted_span s r).hi ≤ n.hi = around-ends (is_taken s r) r.wanted.required n l.has_last in
    narrowed-spares s.active r q order starts ends among apart b (omega arith) (omega arith) here

abbrev Answer : Type 0
Answer = Result (ServerState × List Message) StepError

-- the parts of a server that serving leaves
pub record Leaves (F : Option Row → Bool) (s t : ServerState) : Type 0 where
  pub shape : t.shape ≡ s.shape
  pub file : t.file ≡ s.file
  pub epoch : t.epoch ≡ s.epoch
  pub dead : t.dead ≡ s.dead
  pub queue : t.queue ≡ s.queue
  pub active : t.active ≡ s.active
  pub waiting : t.waiting ≡ s.waiting
  pub rows : (n : ℕ) → F (t.rows n) ≡ F (s.rows n)

leaves-itself : (F : Option Row → Bool) (s : ServerState) → Leaves F s s
leaves-itself F s = record { shape = refl; file = refl; epoch = refl; dead = refl; queue = refl; active = refl; waiting = refl; rows = λ n. refl }

leaves-all : (F : Option Row → Bool) (s t : ServerState) (out : List Message) → ◌≡◌ {A = Answer} (Ok (s, [])) (Ok (t, out)) → Leaves F s t
leaves-all F s t out is =
    let pair : ◌≡◌ {A = ServerState × List Message} (s, []) (t, out) = cc in
    subst (Leaves F s) (ap (λ (p : ServerState × List Message). p.0) pair) (leaves-itself F s)

commanded-leaves : (F : Option Row → Bool) (s t : ServerState) (node : ℕ) (row : Row) (token : Token) (command : Message) (out : List Message) → s.rows node ≡ Some row → F (Some (record row { token = token; number = row.number + 1; outstanding = Some command })) ≡ F (Some row) → commanded s node row token command ≡ Ok (t, out) → Leaves F s t
commanded-leaves F s t node row token command out there same is = by (is_some row.outstanding) (nat_lt row.number (begin s + greatest_number)) is
  where
    new : ServerState
    new = with_row s node (Some (record row { token = token; number = row.number + 1; outstanding = Some command }))

    at : (n : ℕ) → F (new.rows n) ≡ F (s.rows n)
    at n = elim (eqb_tells n node) [
      | inl own ↦ ap (λ (b : Bool). F (cond b (Some (record row { token = token; number = row.number + 1; outstanding = Some command })) (s.rows n))) own.0 ∙ same ∙ sym (ap F (ap s.rows own.1 ∙ there))
      | inr other ↦ ap (λ (b : Bool). F (cond b (Some (record row { token = token; number = row.number + 1; outstanding = Some command })) (s.rows n))) other.0
    ]

    by : (busy few : Bool) → ◌≡◌ {A = Answer} (cond busy (Ok (s, [])) (cond few (Ok (new, command ∷ [])) (Err Spent))) (Ok (t, out)) → Leaves F s t
    by true few h = leaves-all F s t out h
    by false true h =
        let pair : ◌≡◌ {A = ServerState × List Message} (new, command ∷ []) (t, out) = cc in
        subst (Leaves F s) (ap (λ (p : ServerState × List Message). p.0) pair) (record { shape = refl; file = refl; epoch = refl; dead = refl; queue = refl; active = refl; waiting = refl; rows = at })
    by false false h = absurd (cc)

-- serving one request leaves the rows that another one meets
pub served-leaves : (s t : ServerState) (r : TokenRequest) (out : List Message) (span : Range) (mode : Mode) → ((b : ℕ) → is_in (granted_span s r) b ≡ true → is_in span b ≡ true → ⊥) → served s r ≡ Ok (t, out) → Leaves (λ o. row_conflicts o span mode) s t
served-leaves s t r out span mode apart is = by (nat_le node s.shape.nodes) is
  where
    node : ℕ
    node = conflicting_node s r

    F : Option Row → Bool
    F o = row_conflicts o span mode

    granted : (o : Option Row) → s.rows r.call.node ≡ o → granted_to s r o ≡ Ok (t, out) → Leaves F s t
    granted None there h = leaves-all F s t out h
    granted (Some row) there h = commanded-leaves F s t r.call.node row _ _ out there (raised-elsewhere row.token (granted_span s r) span r.mode mode apart) h

    revoked : (o : Option Row) → s.rows node ≡ o → revoked_from s r node o ≡ Ok (t, out) → Leaves F s t
    revoked None there h = leaves-all F s t out h
    revoked (Some row) there h = commanded-leaves F s t node row row.token _ out there refl h

    by : (b : Bool) → cond b (revoked_from s r node (s.rows node)) (granted_to s r (s.rows r.call.node)) ≡ Ok (t, out) → Leaves F s t
    by true h = revoked (s.rows node) refl h
    by false h = granted (s.rows r.call.node) refl h

commanded-silent : (s : ServerState) (node : ℕ) (row : Row) (token : Token) (command : Message) → is_idle (Some row) ≡ false → commanded s node row token command ≡ Ok (s, [])
commanded-silent s node row token command busy = by (is_some row.outstanding) busy
  where
    by : (b : Bool) → not b ≡ false → ◌≡◌ {A = Answer} (cond b (Ok (s, [])) (cond (nat_lt row.number (begin s + greatest_number)) (Ok (with_row s node (Some (record row { token = token; number = row.number + 1; outstanding = Some command })), command ∷ [])) (Err Spent))) (Ok (s, []))
    by true busy = refl
    by false busy = absurd (cc)

-- nothing is sent for a request while the node that it waits for has an outstanding command
pub served-silent : (s : ServerState) (r : TokenRequest) → is_idle (s.rows (obstacle s r)) ≡ false → served s r ≡ Ok (s, [])
served-silent s r busy = by (nat_le node s.shape.nodes) busy
  where
    node : ℕ
    node = conflicting_node s r

    granted : (o : Option Row) → is_idle o ≡ false → granted_to s r o ≡ Ok (s, [])
    granted None busy = refl
    granted (Some row) busy = commanded-silent s r.call.node row _ _ busy

    revoked : (o : Option Row) → is_idle o ≡ false → revoked_from s r node o ≡ Ok (s, [])
    revoked None busy = refl
    revoked (Some row) busy = commanded-silent s node row row.token _ busy

    by : (b : Bool) → is_idle (s.rows (cond b node r.call.node)) ≡ false → ◌≡◌ {A = Answer} (cond b (revoked_from s r node (s.rows node)) (granted_to s r (s.rows r.call.node))) (Ok (s, []))
    by true busy = revoked (s.rows node) busy
    by false busy = granted (s.rows r.call.node) busy

level-fewer : (x : Option Level) (by mode : Mode) → level_conflicts (lowered_level x by) mode ≡ true → level_conflicts x mode ≡ true
level-fewer x Write mode h = absurd (cc)
level-fewer None Read mode h = h
level-fewer (Some Shared) Read mode h = h
level-fewer (Some Exclusive) Read mode h = refl

-- a token that is lowered conflicts no more than before
lowered-fewer : (t : Token) (span s : Range) (by mode : Mode) → conflicts (lowered t span by) s mode ≡ true → conflicts t s mode ≡ true
lowered-fewer t span s by mode some =
    let one = some_passes-first (λ b. level_conflicts (lowered t span by b) mode) s.lo (size s) some in
    some_passes-from (λ b. level_conflicts (t b) mode) s.lo (size s) _ one.above one.below (at _ (is_in span _) one.here)
  where
    at : (b : ℕ) (i : Bool) → level_conflicts (cond i (lowered_level (t b) by) (t b)) mode ≡ true → level_conflicts (t b) mode ≡ true
    at b true h = level-fewer (t b) by mode h
    at b false h = h

-- a token that is lowered elsewhere conflicts as before
lowered-elsewhere : (t : Token) (span s : Range) (by mode : Mode) → meets span s ≡ false → conflicts (lowered t span by) s mode ≡ conflicts t s mode
lowered-elsewhere t span s by mode apart =
    let same = first-same (λ b. level_conflicts (lowered t span by b) mode) (λ b. level_conflicts (t b) mode) s.lo (size s) (λ b above below. ap (λ l. level_conflicts l mode) (at b (is_in span b) refl above below)) in
    ap (λ (k : ℕ). nat_lt k (s.lo + size s)) same
  where
    at : (b : ℕ) (i : Bool) → is_in span b ≡ i → s.lo ≤ b → b < s.lo + size s → lowered t span by b ≡ t b
    at b false is above below = ap (λ (i : Bool). cond i (lowered_level (t b) by) (t b)) is
    at b true is above below =
        absurd (both_ways (meets span s) apart (meets-from span s b is (and_from (nat_le s.lo b) (nat_le b s.hi) (le-leb s.lo b above) (le-leb b s.hi (omega arith)))))

none-empty : (s : Range) (mode : Mode) → conflicts no_token s mode ≡ false
none-empty s mode = false_from_ne_true (conflicts no_token s mode) (λ some.
    let one = some_passes-first (λ b. level_conflicts (no_token b) mode) s.lo (size s) some in
    both_ways false refl one.here)

-- a row after a change conflicts no more than before
above-fewer : (i : ℕ) (o : Option Row) (s : Range) (mode : Mode) → row_conflicts (row_above i o) s mode ≡ true → row_conflicts o s mode ≡ true
above-fewer i None s mode h = h
above-fewer i (Some row) s mode h = by (nat_le row.incarnation i) h
  where
    by : (b : Bool) → row_conflicts (cond b None (Some row)) s mode ≡ true → conflicts row.token s mode ≡ true
    by true h = absurd (cc)
    by false h = h

or_empty-same : (begin i : ℕ) (o : Option Row) (s : Range) (mode : Mode) → row_conflicts (row_or_empty begin i o) s mode ≡ row_conflicts o s mode
or_empty-same begin i None s mode = none-empty s mode
or_empty-same begin i (Some row) s mode = refl

pub row_after-fewer : (c : KnownChange) (o : Option Row) (s : Range) (mode : Mode) → may_bar c ≡ false → row_conflicts (row_after c o) s mode ≡ true → row_conflicts o s mode ≡ true
row_after-fewer (Forgotten i) o s mode less h = above-fewer i o s mode h
row_after-fewer (Asked host begin) o s mode less h = above-fewer (host.incarnation - 1) o s mode (sym (or_empty-same begin host.incarnation (row_above (host.incarnation - 1) o) s mode) ∙ h)
row_after-fewer Answered None s mode less h = h
row_after-fewer Answered (Some row) s mode less h = h
row_after-fewer (Relieved span by) None s mode less h = h
row_after-fewer (Relieved span by) (Some row) s mode less h = lowered-fewer row.token span s by mode h
row_after-fewer (Reported runs) o s mode less h = absurd (cc)

above-same : (i : ℕ) (o : Option Row) → is_dropped i o ≡ false → row_above i o ≡ o
above-same i None kept = refl
above-same i (Some row) kept = ap (λ (b : Bool). let o : Option Row = cond b None (Some row) in o) kept

-- a row after a change that frees nothing conflicts as before
pub row_after-same : (c : KnownChange) (o : Option Row) (s : Range) (mode : Mode) → frees c o s ≡ false → row_conflicts (row_after c o) s mode ≡ row_conflicts o s mode
row_after-same (Forgotten i) o s mode kept = ap (λ (x : Option Row). row_conflicts x s mode) (above-same i o kept)
row_after-same (Asked host begin) o s mode kept =
    or_empty-same begin host.incarnation (row_above (host.incarnation - 1) o) s mode ∙ ap (λ (x : Option Row). row_conflicts x s mode) (above-same (host.incarnation - 1) o kept)
row_after-same Answered None s mode kept = refl
row_after-same Answered (Some row) s mode kept = refl
row_after-same (Relieved span by) None s mode kept = refl
row_after-same (Relieved span by) (Some row) s mode kept = lowered-elsewhere row.token span s by mode kept
row_after-same (Reported runs) o s mode kept = absurd (cc)

-- the node that blocks a request, after a change that blocks none: another node stays it, and the changed one too where nothing is freed
obstacle-less : (s t : ServerState) (r : TokenRequest) (node : ℕ) (c : KnownChange) → may_bar c ≡ false → t.shape.nodes ≡ s.shape.nodes → t.rows ≡ with_change node (row_after c) s.rows → (obstacle s r == node && frees c (s.rows node) r.wanted.required) ≡ false → obstacle t r ≡ obstacle s r
obstacle-less s t r node c less nodes rows kept = obstacle-kept s t r nodes fewer here
  where
    own : ℕ → Option Row → Bool
    own n o = not (n == r.call.node) && row_conflicts o r.wanted.required r.mode

    at : (n : ℕ) → t.rows n ≡ cond (n == node) (row_after c (s.rows n)) (s.rows n)
    at n = ap (λ (f : ℕ → Option Row). f n) rows

    fewer_own : (b : Bool) (n : ℕ) → (not b && row_conflicts (cond (n == node) (row_after c (s.rows n)) (s.rows n)) r.wanted.required r.mode) ≡ true → (not b && row_conflicts (s.rows n) r.wanted.required r.mode) ≡ true
    fewer_own true n h = absurd (cc)
    fewer_own false n h = go (n == node) h
      where
        go : (e : Bool) → row_conflicts (cond e (row_after c (s.rows n)) (s.rows n)) r.wanted.required r.mode ≡ true → row_conflicts (s.rows n) r.wanted.required r.mode ≡ true
        go true h = row_after-fewer c (s.rows n) r.wanted.required r.mode less h
        go false h = h

    fewer : (n : ℕ) → conflicts_at t r n ≡ true → conflicts_at s r n ≡ true
    fewer n h = fewer_own (n == r.call.node) n (sym (ap (own n) (at n)) ∙ h)

    here : conflicting_node s r ≤ s.shape.nodes → conflicts_at t r (conflicting_node s r) ≡ true
    here within = ap (own m) (at m) ∙ elim (eqb_tells m node) [
      | inl same ↦
          let hit : (m == node && frees c (s.rows node) r.wanted.required) ≡ false = ap (λ (n : ℕ). n == node && frees c (s.rows node) r.wanted.required) (sym there) ∙ kept in
          let none : frees c (s.rows m) r.wanted.required ≡ false =
          ap (λ (n : ℕ). frees c (s.rows n) r.wanted.required) same.1
          ∙ sym (ap (λ (b : Bool). b && frees c (s.rows node) r.wanted.required) same.0)
          ∙ hit in
          ap (λ (b : Bool). own m (cond b (row_after c (s.rows m)) (s.rows m))) same.0
          ∙ ap (λ (b : Bool). not (m == r.call.node) && b) (row_after-same c (s.rows m) r.wanted.required r.mode none)
          ∙ stands
      | inr other ↦ ap (λ (b : Bool). own m (cond b (row_after c (s.rows m)) (s.rows m))) other.0 ∙ stands
    ]
      where
        m : ℕ
        m = conflicting_node s r

        there : obstacle s r ≡ m
        there = ap (λ (b : Bool). cond b m r.call.node) (le-leb m s.shape.nodes within)

        stands : conflicts_at s r m ≡ true
        stands = (first_is_first (conflicts_at s r) 1 s.shape.nodes).here (omega arith)

-- a request that can't turn to another row waits as before
pub obstacle-changed : (s t : ServerState) (h : ActiveRequest) (c : Changed) → t.shape.nodes ≡ s.shape.nodes → t.rows ≡ with_change c.node (row_after c.change) s.rows → obstacle s h.request ≡ h.at → may_turn c (s.rows c.node) h ≡ false → obstacle t h.request ≡ h.at
obstacle-changed s t h c nodes rows waits kept = by c.change refl ∙ waits
  where
    at : may_bar c.change ≡ false → (obstacle s h.request == c.node && frees c.change (s.rows c.node) h.request.wanted.required) ≡ false
    at less =
        (λ i. (waits i == c.node) && frees c.change (s.rows c.node) h.request.wanted.required)
        ∙ sym (ap (λ (b : Bool). (b || (h.at == c.node)) && frees c.change (s.rows c.node) h.request.wanted.required) less)
        ∙ kept

    still : may_bar c.change ≡ false → obstacle t h.request ≡ obstacle s h.request
    still less = obstacle-less s t h.request c.node c.change less nodes rows (at less)

    by : (change : KnownChange) → c.change ≡ change → obstacle t h.request ≡ obstacle s h.request
    by (Forgotten i) is = still (ap may_bar is)
    by (Asked host begin) is = still (ap may_bar is)
    by Answered is = still (ap may_bar is)
    by (Relieved span mode) is = still (ap may_bar is)
    by (Reported runs) is = absurd (both_ways (may_turn c (s.rows c.node) h) kept (ap (λ (x : KnownChange). (may_bar x || (h.at == c.node)) && frees x (s.rows c.node) h.request.wanted.required) is))

or_none : (b : Bool) → b ≡ (b || false)
or_none true = refl
or_none false = refl

-- the byte is one of the span, if there is one
abbrev pub in_span : Option Range → ℕ → Bool
in_span None b = false
in_span (Some s) b = is_in s b

-- after a command is noted, a byte conflicts if it did, or if the command grants it in a mode that conflicts
level_kept : (level : Option Level) (granted mode : Mode) (b : ℕ) (span : Range) → is_in span b ≡ true → level_conflicts (raised_level level granted) mode ≡ (level_conflicts level mode || in_span (barred_by granted mode span) b)
level_kept None Write mode b span h = sym h
level_kept (Some Shared) Write Read b span h = sym h
level_kept (Some Shared) Write Write b span h = refl
level_kept (Some Exclusive) Write mode b span h = refl
level_kept None Read Read b span h = refl
level_kept None Read Write b span h = sym h
level_kept (Some Shared) Read Read b span h = refl
level_kept (Some Shared) Read Write b span h = refl
level_kept (Some Exclusive) Read mode b span h = refl

out_of_span : (granted mode : Mode) (b : ℕ) (span : Range) → is_in span b ≡ false → in_span (barred_by granted mode span) b ≡ false
out_of_span Write mode b span h = h
out_of_span Read Write b span h = h
out_of_span Read Read b span h = refl

pub promised_conflicts : (command : Message) (t : Token) (mode : Mode) (b : ℕ) → level_conflicts (promised command t b) mode ≡ (level_conflicts (t b) mode || in_span (bars command mode) b)
promised_conflicts (Grant file number call granted span) t mode b = by (is_in span b) refl
  where
    by : (i : Bool) → is_in span b ≡ i → level_conflicts (cond (is_in span b) (raised_level (t b) granted) (t b)) mode ≡ (level_conflicts (t b) mode || in_span (barred_by granted mode span) b)
    by true is = ap (λ (x : Bool). level_conflicts (cond x (raised_level (t b) granted) (t b)) mode) is ∙ level_kept (t b) granted mode b span is
    by false is =
        ap (λ (x : Bool). level_conflicts (cond x (raised_level (t b) granted) (t b)) mode) is
        ∙ or_none (level_conflicts (t b) mode)
        ∙ ap (λ (x : Bool). level_conflicts (t b) mode || x) (sym (out_of_span granted mode b span is))
promised_conflicts command t mode b = or_none (level_conflicts (t b) mode)

-- a token that conflicts at a byte conflicts there after the command
or_true : (b c : Bool) → b ≡ true → (b || c) ≡ true
or_true true c h = refl
or_true false c h = absurd (cc)

or_other : (b c : Bool) → c ≡ true → (b || c) ≡ true
or_other true c h = refl
or_other false c h = h

pub told-conflicts : (t : SentCommand) (row : Row) (span : Range) (mode : Mode) → conflicts row.token span mode ≡ true → row_conflicts (row_told (Some t) (Some row)) span mode ≡ true
told-conflicts t row span mode h =
    let some = some_passes_at row.token span mode h in
    conflicts-from (promised t.command row.token) span mode some.0 some.1 some.2 (promised_conflicts t.command row.token mode some.0 ∙ or_true (level_conflicts (row.token some.0) mode) (in_span (bars t.command mode) some.0) some.3)
  where
    some_passes_at : (x : Token) (s : Range) (m : Mode) → conflicts x s m ≡ true → (b : ℕ) × (s.lo ≤ b) × (b ≤ s.hi) × (level_conflicts (x b) m ≡ true)
    some_passes_at x s m some =
        let f = some_passes-first (λ b. level_conflicts (x b) m) s.lo _ some in
        let above = f.above in
        let below = f.below in
        (_, f.above, omega arith, f.here)

-- the largest span beside the row of a node after a command to it
pub around-told : (t : SentCommand) (row : Row) (required within free granted : Range) (mode : Mode) → required.lo ≤ required.hi → within.lo ≤ required.lo → required.hi ≤ within.hi → free.lo ≤ required.lo → required.hi ≤ free.hi → granted.lo ≤ granted.hi → row_conflicts (row_told (Some t) (Some row)) required mode ≡ false → free ≡ largest_around (λ b. row_conflicts_at (Some row) b mode) required within → bars t.command mode ≡ Some granted → cut required free granted ≡ largest_around (λ b. row_conflicts_at (row_told (Some t) (Some row)) b mode) required within
around-told t row required within free granted mode order starts ends free_lo free_hi full clear is bar =
    let none : NoneIn (λ b. row_conflicts_at (row_told (Some t) (Some row)) b mode ≡ true) required = row_free (row_told (Some t) (Some row)) required mode clear in
    let at : (b : ℕ) → row_conflicts_at (row_told (Some t) (Some row)) b mode ≡ (level_conflicts (row.token b) mode || is_in granted b) = λ b. promised_conflicts t.command row.token mode b ∙ ap (λ (o : Option Range). level_conflicts (row.token b) mode || in_span o b) bar in
    let apart : NoneIn (λ b. is_in granted b ≡ true) required = λ b above below h. none b above below (at b ∙ or_other (level_conflicts (row.token b) mode) (is_in granted b) h) in
    let old : NoneIn (λ b. level_conflicts (row.token b) mode ≡ true) required = λ b above below h. none b above below (at b ∙ or_true (level_conflicts (row.token b) mode) (is_in granted b) h) in
    cut-apart required free granted order free_lo free_hi full apart
    ∙ ap (λ (s : Range). largest_around (is_in granted) required s) is
    ∙ sym (largest_around-or (λ b. level_conflicts (row.token b) mode) (is_in granted) required within order starts ends old apart)
    ∙ sym (largest_around-same (λ b. row_conflicts_at (row_told (Some t) (Some row)) b mode) (λ b. level_conflicts (row.token b) mode || is_in granted b) required within at)

pub around-other : (t : SentCommand) (row : Row) (required within free : Range) (mode : Mode) → free ≡ largest_around (λ b. row_conflicts_at (Some row) b mode) required within → bars t.command mode ≡ None → free ≡ largest_around (λ b. row_conflicts_at (row_told (Some t) (Some row)) b mode) required within
around-other t row required within free mode is bar =
    is ∙ largest_around-same (λ b. row_conflicts_at (Some row) b mode) (λ b. row_conflicts_at (row_told (Some t) (Some row)) b mode) required within
    (λ b. or_none (level_conflicts (row.token b) mode) ∙ ap (λ (o : Option Range). level_conflicts (row.token b) mode || in_span o b) (sym bar) ∙ sym (promised_conflicts t.command row.token mode b))

-- a row that conflicts with nothing after a command to its node conflicts with nothing before it
pub told-free : (t : SentCommand) (row : Row) (span : Range) (mode : Mode) → row_conflicts (row_told (Some t) (Some row)) span mode ≡ false → row_conflicts (Some row) span mode ≡ false
told-free t row span mode clear = false_from_ne_true (conflicts row.token span mode) (λ old. both_ways (row_conflicts (row_told (Some t) (Some row)) span mode) clear (told-conflicts t row span mode old))

-- a node without a row has none after a command
pub told-nothing : (o : Option SentCommand) (row : Option Row) → row ≡ None → row_told o row ≡ None
told-nothing None row is = is
told-nothing (Some t) row is = ap (row_told (Some t)) is

-- a row that conflicts with nothing after a command or none conflicts with nothing before it
pub told-clear : (o : Option SentCommand) (row : Row) (span : Range) (mode : Mode) → row_conflicts (row_told o (Some row)) span mode ≡ false → row_conflicts (Some row) span mode ≡ false
told-clear None row span mode clear = clear
told-clear (Some t) row span mode clear = told-free t row span mode clear

-- the largest span beside a row after a command is the one before it, cut by what the command grants
pub around-cut : (t : SentCommand) (row : Row) (required within free result : Range) (mode : Mode) → required.lo ≤ required.hi → within.lo ≤ required.lo → required.hi ≤ within.hi → free.lo ≤ required.lo → required.hi ≤ free.hi → row_conflicts (row_told (Some t) (Some row)) required mode ≡ false → free ≡ largest_around (λ b. row_conflicts_at (Some row) b mode) required within → MatchOption (bars t.command mode) (result ≡ free) (λ granted. (result ≡ cut required free granted) × (granted.lo ≤ granted.hi)) → result ≡ largest_around (λ b. row_conflicts_at (row_told (Some t) (Some row)) b mode) required within
around-cut t row required within free result mode order starts ends free_lo free_hi clear is made = by (bars t.command mode) refl made
  where
    by : (o : Option Range) → bars t.command mode ≡ o → MatchOption o (result ≡ free) (λ granted. (result ≡ cut required free granted) × (granted.lo ≤ granted.hi)) → result ≡ largest_around (λ b. row_conflicts_at (row_told (Some t) (Some row)) b mode) required within
    by None bar same = same ∙ around-other t row required within free mode is bar
    by (Some granted) bar same = same.0 ∙ around-told t row required within free granted mode order starts ends free_lo free_hi same.1 clear is bar
