-- The span that a request is granted.
use Rattle.std.specs.Prelude.{◌≡◌, ℕ, ◌+◌, ◌<◌, ◌≤◌, Bool, true, false, not, ◌&&◌, ◌==◌, nat_le, List, Option, None, ◌-◌, ◌⊎◌, ◌||◌, cond, max, min, nat_lt, [], ◌∷◌, ◌++◌, All, is_some, Some, Result, Ok, Err}
use Rattle.std.proofs.Common.{sym, ap, ◌∙◌, arith, refl, subst, inl, inr, append-nil, append_assoc}
use Rattle.std.specs.List.{list_any}
use Rattle.std.proofs.lemmas.Bool.{both_ways, not-true, and_parts, and_from, le-leb, leb-true, cases_lt, eqb-true, lt-leb, lt-ltb}
use Rattle.intervals.specs.rule.Search.{first, some_passes}
use Rattle.intervals.specs.rule.Bytes.{Range, is_in, NoneIn, IsLargest, largest_around}
use Rattle.intervals.proofs.SearchLaws.{first_is_first}
use Rattle.intervals.proofs.SpanSearch.{largest_is_largest}
use Rattle.token_set.proofs.TokenLaws.{first-is, some_passes-first, largest_around-free, largest_around-zero, largest_around-more, largest_around-skip, largest_around-same, largest_around-is, largest_around-or}
use Rattle.model.specs.declared.mode.Mode.{Mode}
use Rattle.token_server.specs.declared.token_queue.token_request.TokenRequest.{TokenRequest}
use Rattle.token_server.specs.rule.Rows.{Row, row_conflicts, row_conflicts_at}
use Rattle.token_server.specs.rule.State.{ServerState, begin, with_row}
use Rattle.token_server.specs.rule.Serve.{is_needed, narrowed, granted_span, conflicting_node, commanded, granted_to, revoked_from, served, with_more, and_then, each_served, ready, serve}
use Rattle.token_server.proofs.KnownNodeLaws.{row_free}
use Rattle.std.proofs.Math.Nat.{min-eq_left, min-eq_right, min-le_left, min-le_right, le-min}
use Rattle.std.proofs.lemmas.Bool.Decides.{nat_tests, eqb_tells}
use Rattle.std.proofs.lemmas.List.Folds.{list_any-append}
use Rattle.std.proofs.lemmas.List.Elements.{All-nil, All-head, All-tail, All-push}
use Rattle.token_server.specs.rule.Requests.{meets}
use Rattle.token_server.specs.code.Edits.{cut, cut_all}
use Rattle.messages.specs.declared.refusal.StepError.{StepError}
use Rattle.messages.specs.declared.refusal.StepError.TheVariants.{Spent}
use Rattle.messages.specs.declared.message.Message.{Message}
use Rattle.messages.specs.declared.message.Message.TheVariants.{Grant}
use Rattle.messages.specs.rule.Messages.{greatest_number}
use Rattle.token_set.specs.rule.Tokens.{Token, raised}
use Rattle.token_server.specs.code.Admissions.{IsUnhindered, GrantsWhatIsFree}

-- the row of another node conflicts with the bytes that the request needs
abbrev pub conflicts_at : ServerState → TokenRequest → ℕ → Bool
conflicts_at s r n = not (n == r.call.node) && row_conflicts (s.rows n) r.wanted.required r.mode

-- the row of another node conflicts with the request at the byte
abbrev pub conflicts_at_byte : ServerState → TokenRequest → ℕ → ℕ → Bool
conflicts_at_byte s r n b = not (n == r.call.node) && row_conflicts_at (s.rows n) b r.mode

-- the span that the rows of nodes 1 to k leave, and its bounds
pub record IsNarrowed (s : ServerState) (r : TokenRequest) (k : ℕ) (span : Range) : Type 0 where
  pub order : r.wanted.required.lo ≤ r.wanted.required.hi
  pub starts : (narrowed s.active r).lo ≤ r.wanted.required.lo
  pub ends : r.wanted.required.hi ≤ (narrowed s.active r).hi
  pub value : span ≡ largest_around (λ b. some_passes (λ n. conflicts_at_byte s r n b) 1 k) r.wanted.required (narrowed s.active r)

-- no required byte of a request counts as needed by others
pub none_needed : (active : List TokenRequest) (r : TokenRequest) → NoneIn (λ b. is_needed active r b ≡ true) r.wanted.required
none_needed active r b above below here =
    both_ways (is_in r.wanted.required b) (not-true (is_in r.wanted.required b) (and_parts (not (is_in r.wanted.required b)) (list_any (λ q. is_in q.wanted.required b) active) here).0)
    (and_from (nat_le r.wanted.required.lo b) (nat_le b r.wanted.required.hi) (le-leb r.wanted.required.lo b above) (le-leb b r.wanted.required.hi below))

-- the narrowed desired span contains the required one
pub narrowed-largest : (active : List TokenRequest) (r : TokenRequest) → r.wanted.required.lo ≤ r.wanted.required.hi → r.wanted.desired.lo ≤ r.wanted.required.lo → r.wanted.required.hi ≤ r.wanted.desired.hi → IsLargest (λ b. is_needed active r b ≡ true) r.wanted.required r.wanted.desired (narrowed active r)
narrowed-largest active r order starts ends = largest_is_largest (is_needed active r) r.wanted.required r.wanted.desired order starts ends (none_needed active r)

-- the first of the numbers from 1 that passes
pub first-next : (passes : ℕ → Bool) (nodes place : ℕ) → place < nodes → ((n : ℕ) → 1 ≤ n → n ≤ place → passes n ≡ false) → passes (place + 1) ≡ true → first passes 1 nodes ≡ place + 1
first-next passes nodes place below before here = first-is passes 1 nodes (place + 1) (record {
  least = omega arith;
  within = omega arith;
  none_before = λ j above under. before j above (omega arith);
  here = λ within. here;
})

-- none of the numbers from 1 on passes
pub first-none : (passes : ℕ → Bool) (nodes place : ℕ) → nodes ≤ place → ((n : ℕ) → 1 ≤ n → n ≤ place → passes n ≡ false) → nodes < first passes 1 nodes
first-none passes nodes place end before =
    let f : first passes 1 nodes ≡ 1 + nodes = first-is passes 1 nodes (1 + nodes) (record {
      least = omega arith;
      within = omega arith;
      none_before = λ j above under. before j above (omega arith);
      here = λ within. absurd (omega arith);
    }) in
    omega arith

-- a node without a row takes no byte away
pub free_around-none : (row : Option Row) (required within : Range) (mode : Mode) → required.lo ≤ required.hi → within.lo ≤ required.lo → required.hi ≤ within.hi → row ≡ None → within ≡ largest_around (λ b. row_conflicts_at row b mode) required within
free_around-none row required within mode order starts ends none =
    sym (largest_around-free (λ b. row_conflicts_at row b mode) required within order starts ends (λ b above below here. both_ways _ (ap (λ row. row_conflicts_at row b mode) none) here))

-- where no row conflicts with what the request needs, no node is found
pub unopposed-none : (s : ServerState) (r : TokenRequest) → ((node : ℕ) → row_conflicts (s.rows node) r.wanted.required r.mode ≡ false) → s.shape.nodes < conflicting_node s r
unopposed-none s r free = first-none (conflicts_at s r) s.shape.nodes s.shape.nodes (omega arith) (λ n above below. other (not (n == r.call.node)) (free n))
  where
    other : (t : Bool) {conflict : Bool} → conflict ≡ false → (t && conflict) ≡ false
    other true e = e
    other false e = refl

-- no row of another node conflicts, where no node is found whose row does
no_conflict : (s : ServerState) (r : TokenRequest) → s.shape.nodes < conflicting_node s r → (n : ℕ) → 1 ≤ n → n ≤ s.shape.nodes → conflicts_at s r n ≡ false
no_conflict s r none n above within = (first_is_first (conflicts_at s r) 1 s.shape.nodes).none_before n above (omega arith)

-- a row that does not conflict with the required span conflicts at none of its bytes
none_at_byte : (s : ServerState) (r : TokenRequest) (n : ℕ) → conflicts_at s r n ≡ false → NoneIn (λ b. conflicts_at_byte s r n b ≡ true) r.wanted.required
none_at_byte s r n free b above below here =
    elim (not (n == r.call.node)) as (λ t. (t && row_conflicts (s.rows n) r.wanted.required r.mode) ≡ false → (t && row_conflicts_at (s.rows n) b r.mode) ≡ true → ⊥)
    [ true ↦ λ free here. row_free (s.rows n) r.wanted.required r.mode free b above below here | false ↦ λ free here. both_ways _ free here ]
    free here

pub narrowed-begin : (s : ServerState) (r : TokenRequest) → r.wanted.required.lo ≤ r.wanted.required.hi → (narrowed s.active r).lo ≤ r.wanted.required.lo → r.wanted.required.hi ≤ (narrowed s.active r).hi → IsNarrowed s r 0 (narrowed s.active r)
narrowed-begin s r order starts ends = record {
  order = order;
  starts = starts;
  ends = ends;
  value = sym (largest_around-zero (conflicts_at_byte s r) 1 r.wanted.required (narrowed s.active r) order starts ends);
}

-- the span that rows leave contains the required one
pub narrowed-holds : (s : ServerState) (r : TokenRequest) (k : ℕ) (span : Range) → s.shape.nodes < conflicting_node s r → k ≤ s.shape.nodes → IsNarrowed s r k span → (span.lo ≤ r.wanted.required.lo) × (r.wanted.required.hi ≤ span.hi)
narrowed-holds s r k span none within n =
    let free : NoneIn (λ b. some_passes (λ n. conflicts_at_byte s r n b) 1 k ≡ true) r.wanted.required = λ b above below some.
    let one = some_passes-first (λ n. conflicts_at_byte s r n b) 1 k some in
    none_at_byte s r _ (no_conflict s r none _ one.above (omega (arith, one.below))) b above below one.here in
    let l = largest_is_largest _ r.wanted.required (narrowed s.active r) n.order n.starts n.ends free in
    rw n.value (l.has_first, l.has_last)

-- the row of one more node
pub narrowed-more : (s : ServerState) (r : TokenRequest) (k : ℕ) (span next : Range) → s.shape.nodes < conflicting_node s r → k < s.shape.nodes → IsNarrowed s r k span → (k + 1 == r.call.node) ≡ false → next ≡ largest_around (λ b. row_conflicts_at (s.rows (k + 1)) b r.mode) r.wanted.required span → IsNarrowed s r (k + 1) next
narrowed-more s r k span next none within n other made = record {
  order = n.order;
  starts = n.starts;
  ends = n.ends;
  value =
      made
      ∙ largest_around-same (λ b. row_conflicts_at (s.rows (k + 1)) b r.mode) (conflicts_at_byte s r (1 + k)) r.wanted.required span same
      ∙ ap (λ span. largest_around (conflicts_at_byte s r (1 + k)) r.wanted.required span) n.value
      ∙ sym (largest_around-more (conflicts_at_byte s r) 1 r.wanted.required (narrowed s.active r) n.order n.starts n.ends k (λ j above below. none_at_byte s r j (no_conflict s r none j above (omega arith))));
}
  where
    next_is : k + 1 ≡ 1 + k
    next_is = omega arith

    same : (b : ℕ) → row_conflicts_at (s.rows (k + 1)) b r.mode ≡ conflicts_at_byte s r (1 + k) b
    same b = ap (λ t. not t && row_conflicts_at (s.rows (k + 1)) b r.mode) (sym other) ∙ ap (λ n. conflicts_at_byte s r n b) next_is

-- the row of the request's own node takes no byte away
pub narrowed-skip : (s : ServerState) (r : TokenRequest) (k : ℕ) (span : Range) → IsNarrowed s r k span → (k + 1 == r.call.node) ≡ true → IsNarrowed s r (k + 1) span
narrowed-skip s r k span n own = record {
  order = n.order;
  starts = n.starts;
  ends = n.ends;
  value = n.value ∙ sym (largest_around-skip (conflicts_at_byte s r) 1 r.wanted.required (narrowed s.active r) n.order n.starts n.ends k none);
}
  where
    next_is : k + 1 ≡ 1 + k
    next_is = omega arith

    none : (b : ℕ) → conflicts_at_byte s r (1 + k) b ≡ false
    none b = ap (λ n. conflicts_at_byte s r n b) (sym next_is) ∙ ap (λ t. not t && row_conflicts_at (s.rows (k + 1)) b r.mode) own

-- the row of one more node does not conflict with the required bytes
pub narrowed-free : (s : ServerState) (r : TokenRequest) (k : ℕ) → s.shape.nodes < conflicting_node s r → k < s.shape.nodes → (k + 1 == r.call.node) ≡ false → row_conflicts (s.rows (k + 1)) r.wanted.required r.mode ≡ false
narrowed-free s r k none within other =
    ap (λ t. not t && row_conflicts (s.rows (k + 1)) r.wanted.required r.mode) (sym other) ∙ no_conflict s r none (k + 1) (omega arith) (omega arith)

-- after the rows of all nodes the span is the granted one
pub narrowed-end : (s : ServerState) (r : TokenRequest) (k : ℕ) (span : Range) → IsNarrowed s r k span → k ≡ s.shape.nodes → span ≡ granted_span s r
narrowed-end s r k span n end = n.value ∙ ap (λ k. largest_around (λ b. some_passes (λ n. conflicts_at_byte s r n b) 1 k) r.wanted.required (narrowed s.active r)) end

-- where the narrowed desired span is down to the required one, that is the granted span
pub granted-exact : (s : ServerState) (r : TokenRequest) → s.shape.nodes < conflicting_node s r → r.wanted.required.lo ≤ r.wanted.required.hi → (narrowed s.active r).lo ≡ r.wanted.required.lo → (narrowed s.active r).hi ≡ r.wanted.required.hi → narrowed s.active r ≡ granted_span s r
granted-exact s r none order starts ends =
    sym (largest_around-free (λ b. some_passes (λ n. conflicts_at_byte s r n b) 1 s.shape.nodes) r.wanted.required (narrowed s.active r) order (omega arith) (omega arith) free)
  where
    free : NoneIn (λ b. some_passes (λ n. conflicts_at_byte s r n b) 1 s.shape.nodes ≡ true) (narrowed s.active r)
    free b above below some =
        let one = some_passes-first (λ n. conflicts_at_byte s r n b) 1 s.shape.nodes some in
        none_at_byte s r _ (no_conflict s r none _ one.above (omega (arith, one.below))) b (omega arith) (omega arith) one.here

-- the byte is one of the other span alone
abbrev pub only_in : Range → Range → ℕ → Bool
only_in required other b = not (is_in required b) && is_in other b

outside : (required other : Range) (b : ℕ) → only_in required other b ≡ true → ((b < required.lo) ⊎ (required.hi < b)) × (other.lo ≤ b) × (b ≤ other.hi)
outside required other b h =
    let parts = and_parts (not (is_in required b)) (is_in other b) h in
    let ends = and_parts (nat_le other.lo b) (nat_le b other.hi) parts.1 in (
      elim (cases_lt b required.lo) [
        | inl below ↦ inl below
        | inr above ↦ elim (cases_lt required.hi b) [
          | inl past ↦ inr past
          | inr within ↦ absurd (both_ways (is_in required b) (not-true (is_in required b) parts.0) (and_from (nat_le required.lo b) (nat_le b required.hi) (le-leb required.lo b above) (le-leb b required.hi within)))
        ]
      ],
      leb-true other.lo b ends.0,
      leb-true b other.hi ends.1,
    )

from_outside : (required other : Range) (b : ℕ) → (b < required.lo) ⊎ (required.hi < b) → other.lo ≤ b → b ≤ other.hi → only_in required other b ≡ true
from_outside required other b out above below =
    and_from (not (is_in required b)) (is_in other b) (is_out out) (and_from (nat_le other.lo b) (nat_le b other.hi) (le-leb other.lo b above) (le-leb b other.hi below))
  where
    not_lo : (lo : ℕ) → b < lo → not (nat_le lo b && nat_le b required.hi) ≡ true
    not_lo lo h = grind (arith, nat_tests, h)

    not_hi : (hi : ℕ) → hi < b → not (nat_le required.lo b && nat_le b hi) ≡ true
    not_hi hi h = grind (arith, nat_tests, h)

    is_out : (b < required.lo) ⊎ (required.hi < b) → not (is_in required b) ≡ true
    is_out (inl h) = not_lo required.lo h
    is_out (inr h) = not_hi required.hi h

-- the bounds of the cut span
record IsCut (required within other s : Range) : Type 0 where
  lo_cut : other.lo < required.lo → s.lo ≡ max within.lo (min (other.hi + 1) required.lo)
  lo_same : required.lo ≤ other.lo → s.lo ≡ within.lo
  hi_cut : required.hi < other.hi → s.hi ≡ min within.hi (max (other.lo - 1) required.hi)
  hi_same : other.hi ≤ required.hi → s.hi ≡ within.hi

chosen : {A : Type 0} (a b : ℕ) (x y : A) → ((a < b) → cond (nat_lt a b) x y ≡ x) × ((b ≤ a) → cond (nat_lt a b) x y ≡ y)
chosen a b x y = (λ h. ap (λ (t : Bool). cond t x y) (less h), λ h. ap (λ (t : Bool). cond t x y) (more h))
  where
    less : a < b → nat_lt a b ≡ true
    less h = grind (arith, nat_tests, h)

    more : b ≤ a → nat_lt a b ≡ false
    more h = grind (arith, nat_tests, h)

cut-cases : (required within other : Range) → IsCut required within other (cut required within other)
cut-cases required within other =
    let lo = chosen other.lo required.lo (max within.lo (min (other.hi + 1) required.lo)) within.lo in
    let hi = chosen required.hi other.hi (min within.hi (max (other.lo - 1) required.hi)) within.hi in
    record { lo_cut = lo.0; lo_same = lo.1; hi_cut = hi.0; hi_same = hi.1 }

-- the less of two numbers is the first or the second, and so is the greater
mins : (a b : ℕ) → ((a ≤ b) × (min a b ≡ a)) ⊎ ((b ≤ a) × (min a b ≡ b))
mins a b = elim (cases_lt a b) [
  | inl less ↦ let le : a ≤ b = omega arith in inl (le, min-eq_left le)
  | inr more ↦ inr (more, min-eq_right more)
]

-- the cut span is the largest with its bounds
cut-largest : (required within other s : Range) → required.lo ≤ required.hi → within.lo ≤ required.lo → required.hi ≤ within.hi → other.lo ≤ other.hi → IsCut required within other s → IsLargest (λ b. only_in required other b ≡ true) required within s
cut-largest required within other s order starts ends full c = record {
  has_first = bounds_lo.1;
  has_last = bounds_hi.0;
  starts_within = bounds_lo.0;
  ends_within = bounds_hi.1;
  free = λ b above below h.
      let there = outside required other b h in
      let from : other.lo ≤ b = there.1 in
      let to : b ≤ other.hi = there.2 in
      elim there.0 [
        | inl under ↦ not_below b under from to above
        | inr past ↦ not_above b past from to below
      ];
  full_below = λ b next above. elim (cases_lt other.lo required.lo) [
    | inl under ↦
        let is = c.lo_cut under in
        elim (mins (other.hi + 1) required.lo) [
          | inl m ↦ let least = m.1 in let few = m.0 in from_outside required other b (inl (omega arith)) (omega arith) (omega arith)
          | inr m ↦ let least = m.1 in let few = m.0 in from_outside required other b (inl (omega arith)) (omega arith) (omega arith)
        ]
    | inr past ↦ let is = c.lo_same past in absurd (omega arith)
  ];
  full_above = λ below. elim (cases_lt required.hi other.hi) [
    | inl past ↦
        let is = c.hi_cut past in
        elim (mins within.hi (max (other.lo - 1) required.hi)) [
          | inl m ↦ let least = m.1 in absurd (omega arith)
          | inr m ↦ let least = m.1 in from_outside required other (s.hi + 1) (inr (omega arith)) (omega arith) (omega arith)
        ]
    | inr under ↦ let is = c.hi_same under in absurd (omega arith)
  ];
}
  where
    not_below : (b : ℕ) → b < required.lo → other.lo ≤ b → b ≤ other.hi → s.lo ≤ b → ⊥
    not_below b under from to above =
        let is = c.lo_cut (omega arith) in
        elim (mins (other.hi + 1) required.lo) [
          | inl m ↦ let least = m.1 in omega arith
          | inr m ↦ let least = m.1 in let few = m.0 in omega arith
        ]

    not_above : (b : ℕ) → required.hi < b → other.lo ≤ b → b ≤ other.hi → b ≤ s.hi → ⊥
    not_above b past from to below =
        let is = c.hi_cut (omega arith) in
        elim (mins within.hi (max (other.lo - 1) required.hi)) [
          | inl m ↦ let least = m.1 in let few = m.0 in omega arith
          | inr m ↦ let least = m.1 in omega arith
        ]

    bounds_lo : (within.lo ≤ s.lo) × (s.lo ≤ required.lo)
    bounds_lo = elim (cases_lt other.lo required.lo) [
      | inl under ↦
          let is = c.lo_cut under in
          let less = min-le_right (other.hi + 1) required.lo in
          (omega arith, omega arith)
      | inr past ↦ let is = c.lo_same past in (omega arith, omega arith)
    ]

    bounds_hi : (required.hi ≤ s.hi) × (s.hi ≤ within.hi)
    bounds_hi = elim (cases_lt required.hi other.hi) [
      | inl past ↦
          let is = c.hi_cut past in
          let less = min-le_left within.hi (max (other.lo - 1) required.hi) in
          let least : required.hi ≤ min within.hi (max (other.lo - 1) required.hi) = le-min ends (omega arith) in
          (omega arith, omega arith)
      | inr under ↦ let is = c.hi_same under in (omega arith, omega arith)
    ]

pub cut-is : (required within other : Range) → required.lo ≤ required.hi → within.lo ≤ required.lo → required.hi ≤ within.hi → other.lo ≤ other.hi → cut required within other ≡ largest_around (only_in required other) required within
cut-is required within other order starts ends full =
    largest_around-is (only_in required other) required within (cut required within other) order (cut-largest required within other (cut required within other) order starts ends full (cut-cases required within other))

none_only : (required other : Range) → NoneIn (λ b. only_in required other b ≡ true) required
none_only required other b above below h = elim (outside required other b h).0 [ inl under ↦ omega arith | inr past ↦ omega arith ]

-- the cut by a span that has no byte of the required one
pub cut-apart : (required within other : Range) → required.lo ≤ required.hi → within.lo ≤ required.lo → required.hi ≤ within.hi → other.lo ≤ other.hi → NoneIn (λ b. is_in other b ≡ true) required → cut required within other ≡ largest_around (is_in other) required within
cut-apart required within other order starts ends full apart =
    cut-is required within other order starts ends full ∙ largest_around-same (only_in required other) (is_in other) required within (λ b. by b (is_in required b) (is_in other b) refl refl)
  where
    by : (b : ℕ) (x y : Bool) → is_in required b ≡ x → is_in other b ≡ y → (not x && y) ≡ y
    by b false y i j = refl
    by b true false i j = refl
    by b true true i j =
        let ends = and_parts (nat_le required.lo b) (nat_le b required.hi) i in
        absurd (apart b (leb-true required.lo b ends.0) (leb-true b required.hi ends.1) j)

-- the largest span that a request keeps beside these active ones, and its bounds
pub record IsLeft (active : List TokenRequest) (r : TokenRequest) (span : Range) : Type 0 where
  pub order : r.wanted.required.lo ≤ r.wanted.required.hi
  pub starts : r.wanted.desired.lo ≤ r.wanted.required.lo
  pub ends : r.wanted.required.hi ≤ r.wanted.desired.hi
  pub value : span ≡ narrowed active r

pub left-bounds : (active : List TokenRequest) (r : TokenRequest) (span : Range) → IsLeft active r span → (span.lo ≤ r.wanted.required.lo) × (r.wanted.required.hi ≤ span.hi)
left-bounds active r span l =
    let largest = largest_is_largest (is_needed active r) r.wanted.required r.wanted.desired l.order l.starts l.ends (none_needed active r) in
    rw l.value (largest.has_first, largest.has_last)

pub left-start : (r : TokenRequest) → r.wanted.required.lo ≤ r.wanted.required.hi → r.wanted.desired.lo ≤ r.wanted.required.lo → r.wanted.required.hi ≤ r.wanted.desired.hi → IsLeft [] r r.wanted.desired
left-start r order starts ends = record {
  order = order;
  starts = starts;
  ends = ends;
  value = sym (largest_around-free (is_needed [] r) r.wanted.required r.wanted.desired order starts ends (λ b above below h. none b h));
}
  where
    none : (b : ℕ) → is_needed [] r b ≡ true → ⊥
    none b h = both_ways false refl (and_parts (not (is_in r.wanted.required b)) false h).1

-- one active request more cuts the span
pub left-more : (active : List TokenRequest) (q r : TokenRequest) (span : Range) → q.wanted.required.lo ≤ q.wanted.required.hi → IsLeft active r span → IsLeft (active ++ q ∷ []) r (cut r.wanted.required span q.wanted.required)
left-more active q r span full l = record { order = l.order; starts = l.starts; ends = l.ends; value = is }
  where
    required : Range
    required = r.wanted.required

    same : (b : ℕ) → is_needed (active ++ q ∷ []) r b ≡ (is_needed active r b || only_in required q.wanted.required b)
    same b = ap (λ (t : Bool). not (is_in required b) && t) (list_any-append (λ (x : TokenRequest). is_in x.wanted.required b) active (q ∷ [])) ∙ by (is_in required b) (list_any (λ (x : TokenRequest). is_in x.wanted.required b) active) (is_in q.wanted.required b)
      where
        by : (x y z : Bool) → (not x && (y || (z || false))) ≡ ((not x && y) || (not x && z))
        by true y z = refl
        by false true z = refl
        by false false true = refl
        by false false false = refl

    is : cut required span q.wanted.required ≡ narrowed (active ++ q ∷ []) r
    is =
        let bounds = left-bounds active r span l in
        cut-is required span q.wanted.required l.order bounds.0 bounds.1 full
        ∙ ap (λ (s : Range). largest_around (only_in required q.wanted.required) required s) l.value
        ∙ sym (largest_around-or (is_needed active r) (only_in required q.wanted.required) required r.wanted.desired l.order l.starts l.ends (none_needed active r) (none_only required q.wanted.required))
        ∙ sym (largest_around-same (is_needed (active ++ q ∷ []) r) (λ b. is_needed active r b || only_in required q.wanted.required b) required r.wanted.desired same)

-- a request that desires just what it requires keeps that
pub left-exact : (active : List TokenRequest) (r : TokenRequest) → r.wanted.required.lo ≤ r.wanted.required.hi → r.wanted.desired.lo ≡ r.wanted.required.lo → r.wanted.desired.hi ≡ r.wanted.required.hi → r.wanted.desired ≡ narrowed active r
left-exact active r order starts ends =
    sym (largest_around-free (is_needed active r) r.wanted.required r.wanted.desired order (omega arith) (omega arith) (λ b above below. none_needed active r b (omega arith) (omega arith)))

-- where the span is down to the required bytes, no further request takes a byte away
pub left-least : (active more : List TokenRequest) (r : TokenRequest) (span : Range) → IsLeft active r span → span ≡ r.wanted.required → span ≡ narrowed (active ++ more) r
left-least active more r span l exact =
    exact ∙ largest_around-is (is_needed (active ++ more) r) r.wanted.required r.wanted.desired r.wanted.required l.order (record {
      has_first = omega arith;
      has_last = omega arith;
      starts_within = l.starts;
      ends_within = l.ends;
      free = none_needed (active ++ more) r;
      full_below = λ b next above. needed b (least.full_below b next above);
      full_above = λ below. needed (r.wanted.required.hi + 1) (least.full_above below);
    })
  where
    least : IsLargest (λ b. is_needed active r b ≡ true) r.wanted.required r.wanted.desired r.wanted.required
    least =
        subst (λ (s : Range). IsLargest (λ b. is_needed active r b ≡ true) r.wanted.required r.wanted.desired s) (sym l.value ∙ exact)
        (largest_is_largest (is_needed active r) r.wanted.required r.wanted.desired l.order l.starts l.ends (none_needed active r))

    needed : (b : ℕ) → is_needed active r b ≡ true → is_needed (active ++ more) r b ≡ true
    needed b here =
        let parts = and_parts (not (is_in r.wanted.required b)) (list_any (λ (q : TokenRequest). is_in q.wanted.required b) active) here in
        and_from (not (is_in r.wanted.required b)) (list_any (λ (q : TokenRequest). is_in q.wanted.required b) (active ++ more)) parts.0
        (list_any-append (λ (q : TokenRequest). is_in q.wanted.required b) active more ∙ ap (λ (t : Bool). t || list_any (λ (q : TokenRequest). is_in q.wanted.required b) more) parts.1)

-- the request needs a byte
abbrev pub HasByte : TokenRequest → Type 0
HasByte r = r.wanted.required.lo ≤ r.wanted.required.hi

-- the cut span contains the required one, whatever the other span is
pub cut-keeps : (required within other : Range) → within.lo ≤ required.lo → required.hi ≤ within.hi → ((cut required within other).lo ≤ required.lo) × (required.hi ≤ (cut required within other).hi)
cut-keeps required within other starts ends = (lo, hi)
  where
    c : IsCut required within other (cut required within other)
    c = cut-cases required within other

    lo : (cut required within other).lo ≤ required.lo
    lo = elim (cases_lt other.lo required.lo) [
      | inl under ↦
          let is = c.lo_cut under in
          let less = min-le_right (other.hi + 1) required.lo in
          omega (arith, is, less)
      | inr past ↦ let is = c.lo_same past in omega (arith, is)
    ]

    hi : required.hi ≤ (cut required within other).hi
    hi = elim (cases_lt required.hi other.hi) [
      | inl past ↦
          let is = c.hi_cut past in
          let least : required.hi ≤ min within.hi (max (other.lo - 1) required.hi) = le-min ends (omega arith) in
          omega (arith, is, least)
      | inr under ↦ let is = c.hi_same under in omega (arith, is)
    ]

-- a cut by a span without a common byte changes nothing
pub cut-clear : (required within other : Range) → required.lo ≤ required.hi → within.lo ≤ required.lo → required.hi ≤ within.hi → other.lo ≤ other.hi → meets within other ≡ false → cut required within other ≡ within
cut-clear required within other order starts ends full apart = λ i. record { lo = lo i; hi = hi i }
  where
    c : IsCut required within other (cut required within other)
    c = cut-cases required within other

    sides : (other.hi < within.lo) ⊎ (within.hi < other.lo)
    sides = elim (cases_lt other.hi within.lo) [
      | inl below ↦ inl below
      | inr from ↦ elim (cases_lt within.hi other.lo) [
        | inl past ↦ inr past
        | inr to ↦ absurd (both_ways (meets within other) apart (and_from (nat_le within.lo other.hi) (nat_le other.lo within.hi) (le-leb within.lo other.hi from) (le-leb other.lo within.hi to)))
      ]
    ]

    lo : (cut required within other).lo ≡ within.lo
    lo = elim (cases_lt other.lo required.lo) [
      | inl under ↦
          let is = c.lo_cut under in
          elim sides [
            | inl below ↦ elim (mins (other.hi + 1) required.lo) [
              | inl m ↦ let least = m.1 in omega arith
              | inr m ↦ let least = m.1 in let few = m.0 in omega arith
            ]
            | inr past ↦ absurd (omega arith)
          ]
      | inr past ↦ c.lo_same past
    ]

    hi : (cut required within other).hi ≡ within.hi
    hi = elim (cases_lt required.hi other.hi) [
      | inl past ↦
          let is = c.hi_cut past in
          elim sides [
            | inl below ↦ absurd (omega arith)
            | inr beyond ↦ elim (mins within.hi (max (other.lo - 1) required.hi)) [
              | inl m ↦ let least = m.1 in omega arith
              | inr m ↦ let least = m.1 in let few = m.0 in omega arith
            ]
          ]
      | inr under ↦ c.hi_same under
    ]

-- the largest span that is left by these requests
pub record AreCut (required within : Range) (xs : List TokenRequest) (span : Range) : Type 0 where
  pub value : span ≡ cut_all required within xs
  pub starts : span.lo ≤ required.lo
  pub ends : required.hi ≤ span.hi
  pub full : All HasByte xs

pub cut-start : (required within : Range) → within.lo ≤ required.lo → required.hi ≤ within.hi → AreCut required within [] within
cut-start required within starts ends = record { value = refl; starts = starts; ends = ends; full = All-nil HasByte }

cut_all-push : (required : Range) (xs : List TokenRequest) (within : Range) (q : TokenRequest) → cut_all required within (xs ++ q ∷ []) ≡ cut required (cut_all required within xs) q.wanted.required
cut_all-push required [] within q = refl
cut_all-push required (x ∷ xs) within q = cut_all-push required xs (cut required within x.wanted.required) q

pub cut-more : (required within : Range) (xs : List TokenRequest) (span : Range) (q : TokenRequest) → HasByte q → AreCut required within xs span → AreCut required within (xs ++ q ∷ []) (cut required span q.wanted.required)
cut-more required within xs span q full c =
    let bounds = cut-keeps required span q.wanted.required c.starts c.ends in
    record {
      value = ap (λ (s : Range). cut required s q.wanted.required) c.value ∙ sym (cut_all-push required xs within q);
      starts = bounds.0;
      ends = bounds.1;
      full = All-push HasByte xs q c.full full;
    }

-- the largest span that is left by all active requests
pub left-all : (active xs : List TokenRequest) (r : TokenRequest) (span : Range) → All HasByte xs → IsLeft active r span → IsLeft (active ++ xs) r (cut_all r.wanted.required span xs)
left-all active [] r span full l = subst (λ (all : List TokenRequest). IsLeft all r span) (sym (append-nil active)) l
left-all active (q ∷ xs) r span full l =
    subst (λ (all : List TokenRequest). IsLeft all r (cut_all r.wanted.required (cut r.wanted.required span q.wanted.required) xs)) (append_assoc active (q ∷ []) xs)
    (left-all (active ++ q ∷ []) xs r (cut r.wanted.required span q.wanted.required) (All-tail HasByte q xs full) (left-more active q r span (All-head HasByte q xs full) l))

-- spans with equal first and last bytes are equal
pub one_span : (r s : Range) (same : Bool) → same ≡ (r.lo == s.lo && r.hi == s.hi) → same ≡ true → r ≡ s
one_span r s same is true_is =
    let ends = and_parts (r.lo == s.lo) (r.hi == s.hi) (sym is ∙ true_is) in
    λ i. record { lo = eqb-true r.lo s.lo ends.0 i; hi = eqb-true r.hi s.hi ends.1 i }

-- where no row conflicts, no node blocks the request
unhindered-none : (s : ServerState) (r : TokenRequest) (row : Row) → IsUnhindered s r row → s.shape.nodes < conflicting_node s r
unhindered-none s r row free = first-none (conflicts_at s r) s.shape.nodes s.shape.nodes (omega arith) none
  where
    none : (n : ℕ) → 1 ≤ n → n ≤ s.shape.nodes → conflicts_at s r n ≡ false
    none n above within = elim (eqb_tells n r.call.node) [
      | inl own ↦ ap (λ b. not b && row_conflicts (s.rows n) r.wanted.required r.mode) own.0
      | inr other ↦ ap (λ b. not b && row_conflicts (s.rows n) r.wanted.required r.mode) other.0 ∙ free.unopposed n (above, within) other.1
    ]

-- a request that no node blocks is granted
served-granted : (s : ServerState) (r : TokenRequest) → s.shape.nodes < conflicting_node s r → served s r ≡ granted_to s r (s.rows r.call.node)
served-granted s r none =
    let node = conflicting_node s r in
    ap (λ (b : Bool). cond b (revoked_from s r node (s.rows node)) (granted_to s r (s.rows r.call.node))) (lt-leb node s.shape.nodes none)

-- the row after one more command
abbrev with_command : Row → Token → Message → Row
with_command row token command = record row { token = token; number = row.number + 1; outstanding = Some command }

-- a command is sent where none is outstanding and a number is left
commanded-idle : (s : ServerState) (node : ℕ) (row : Row) (token : Token) (command : Message) → row.outstanding ≡ None → row.number < begin s + greatest_number → commanded s node row token command ≡ Ok (with_row s node (Some (with_command row token command)), command ∷ [])
commanded-idle s node row token command idle room =
    let Served : Type 0 = Result (ServerState × List Message) StepError in
    let sent : Served = Ok (with_row s node (Some (with_command row token command)), command ∷ []) in
    let busy : Served = Ok (s, []) in
    let spent : Served = Err Spent in
    ap (λ (o : Option Message). cond (is_some o) busy (cond (nat_lt row.number (begin s + greatest_number)) sent spent)) idle
    ∙ ap (λ (b : Bool). cond b sent spent) (lt-ltb row.number (begin s + greatest_number) room)

-- the answer to a request that nothing blocks is a grant
record Grants (s : ServerState) (r : TokenRequest) (row : Row) (answer : Result (ServerState × List Message) StepError) : Type 0 where
  new : ServerState
  span : Range
  starts : span.lo ≤ r.wanted.required.lo
  ends : r.wanted.required.hi ≤ span.hi
  serves : answer ≡ Ok (new, Grant s.file (row.number + 1) r.call r.mode span ∷ [])

served-free : (s : ServerState) (r : TokenRequest) (row : Row) → s.rows r.call.node ≡ Some row → r.wanted.required.lo ≤ r.wanted.required.hi → r.wanted.desired.lo ≤ r.wanted.required.lo → r.wanted.required.hi ≤ r.wanted.desired.hi → IsUnhindered s r row → Grants s r row (served s r)
served-free s r row there ordered starts ends free =
    let none = unhindered-none s r row free in
    let span = granted_span s r in
    let command = Grant s.file (row.number + 1) r.call r.mode span in
    let token = raised row.token span r.mode in
    let l = narrowed-largest s.active r ordered starts ends in
    let holds = narrowed-holds s r s.shape.nodes span none (omega arith) (record { order = ordered; starts = l.has_first; ends = l.has_last; value = refl }) in
    record {
      new = with_row s r.call.node (Some (with_command row token command));
      span = span;
      starts = holds.0;
      ends = holds.1;
      serves = served-granted s r none ∙ ap (granted_to s r) there ∙ commanded-idle s r.call.node row token command free.idle free.room;
    }

-- messages before messages before a result are both before it
joined : (xs ys : List Message) (x : Result (ServerState × List Message) StepError) → with_more xs (with_more ys x) ≡ with_more (xs ++ ys) x
joined xs ys (Err e) = refl
joined xs ys (Ok done) = ap (λ (ms : List Message). let p : Result (ServerState × List Message) StepError = Ok (done.0, ms) in p) (sym (append_assoc xs ys done.1))

-- serving some requests and then others is serving all
pub each_served-append : (xs ys : List TokenRequest) (s : ServerState) → each_served (xs ++ ys) s ≡ and_then (each_served xs s) (each_served ys)
each_served-append [] ys s = sym (none_more (each_served ys s))
  where
    none_more : (x : Result (ServerState × List Message) StepError) → with_more [] x ≡ x
    none_more (Err e) = refl
    none_more (Ok done) = refl
each_served-append (r ∷ xs) ys s = by (served s r) (each_served-append xs ys)
  where
    again : (before : List Message) (x : Result (ServerState × List Message) StepError) → with_more before (and_then x (each_served ys)) ≡ and_then (with_more before x) (each_served ys)
    again before (Err e) = refl
    again before (Ok done) = joined before done.1 (each_served ys done.0)

    by : (x : Result (ServerState × List Message) StepError) → ((t : ServerState) → each_served (xs ++ ys) t ≡ and_then (each_served xs t) (each_served ys)) → and_then x (each_served (xs ++ ys)) ≡ and_then (and_then x (each_served xs)) (each_served ys)
    by (Err e) rest = refl
    by (Ok done) rest = ap (with_more done.1) (rest done.0) ∙ again done.1 (each_served xs done.0)

pub what_is_free-granted : GrantsWhatIsFree
what_is_free-granted s r row is free =
    let d = served-free is.now r row is.row_is is.ordered is.starts is.ends free in
    let grant = Grant is.now.file (row.number + 1) r.call r.mode d.span in
    let Served : Type 0 = Result (ServerState × List Message) StepError in
    let whole : serve s ≡ and_then (each_served is.before (ready s)) (each_served (r ∷ is.after)) =
    ap (λ (b : Bool). let x : Served = cond b (Ok (s, [])) (each_served (ready s).active (ready s)) in x) is.told
    ∙ ap (λ (rs : List TokenRequest). each_served rs (ready s)) is.among ∙ each_served-append is.before (r ∷ is.after) (ready s) in
    let turn : and_then (each_served is.before (ready s)) (each_served (r ∷ is.after)) ≡ with_more is.sent (and_then (served is.now r) (each_served is.after)) =
    ap (λ (x : Served). and_then x (each_served (r ∷ is.after))) is.turn in
    let granted : with_more is.sent (and_then (served is.now r) (each_served is.after)) ≡ with_more is.sent (with_more (grant ∷ []) (each_served is.after d.new)) =
    ap (λ (x : Served). with_more is.sent (and_then x (each_served is.after))) d.serves in
    record {
      new = d.new;
      span = d.span;
      starts = d.starts;
      ends = d.ends;
      serves = whole ∙ turn ∙ granted ∙ joined is.sent (grant ∷ []) (each_served is.after d.new);
    }
