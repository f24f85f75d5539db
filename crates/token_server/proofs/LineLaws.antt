-- Requests in a line.
use Rattle.std.specs.Prelude.{◌≡◌, ℕ, ◌+◌, ◌<◌, ◌≤◌, Bool, true, false, cond, not, ◌&&◌, ◌==◌, nat_le, List, [], ◌∷◌, ◌++◌, length, map, filter, find, take, drop, slice_get, Option, Some, None, is_some, refl}
use Rattle.std.proofs.Common.{ap, sym, subst, ◌∙◌, arith, ⊎_elim}
use Rattle.std.proofs.lemmas.Bool.{cases_lt, both_ways}
use Rattle.std.proofs.lemmas.List.{get_or_append_left, get_or_push, length_push, length-map, drop-append-le, drop-map, take-append-drop, append-nil, append_cancel_right, take-map}
use Rattle.std.proofs.lemmas.List.Elements.{filter-append}
use Rattle.std.proofs.lemmas.Option.{none-some, same_Some}
use Rattle.model.specs.declared.call.CallId.{CallId}
use Rattle.messages.specs.rule.Messages.{same_call}
use Rattle.token_server.specs.declared.token_queue.token_request.TokenRequest.{TokenRequest}
use Rattle.token_server.specs.rule.Requests.{LineParts, is_of_call, is_up_to, requests_in, AreOfDistinctCalls}
use Rattle.token_server.specs.code.Admissions.{SlotParts, request_at, unless, IsFront}
use Rattle.token_server.proofs.CallLaws.{same_call-true, same_call-refl, same_call-symm}
use Rattle.token_server.proofs.PlaceLaws.{requests_in-append, requests_in-unless}
use Rattle.token_server.proofs.WalkLaws.{requests_in-more}

-- the front stays the front where a request comes last
pub IsFront-push : (slots : List (Option TokenRequest)) (front : ℕ) (r : TokenRequest) → IsFront slots front → IsFront (slots ++ Some r ∷ []) front
IsFront-push slots front r is = record {
  within = omega (arith, is.within, length_push slots (Some r));
  rest = ap requests_in (drop-append-le front slots (Some r ∷ []) is.within) ∙ requests_in-append (drop front slots) (Some r ∷ []) ∙ ap (λ rs. rs ++ r ∷ []) is.rest ∙ sym (requests_in-append slots (Some r ∷ []));
  holds = λ low. ⊎_elim
      (λ in_old. ap is_some (get_or_append_left slots (Some r ∷ []) None front in_old) ∙ is.holds in_old)
      (λ past. let e : length slots ≡ front = omega (arith, past, is.within) in ap is_some (get_or_push slots (Some r) None front e))
      (cases_lt front (length slots));
}

-- no request is before the front after some requests went
pub rest-unless : (drops : TokenRequest → Bool) (slots : List (Option TokenRequest)) (front : ℕ) → requests_in (drop front slots) ≡ requests_in slots
    → requests_in (drop front (map (unless drops) slots)) ≡ requests_in (map (unless drops) slots)
rest-unless drops slots front rest =
    ap requests_in (drop-map (unless drops) front slots) ∙ requests_in-unless drops (drop front slots) ∙ ap (filter (λ r. not (drops r))) rest ∙ sym (requests_in-unless drops slots)

-- where no request is of the call, all stay
pub filter-none : (call : CallId) (rs : List TokenRequest) → find (is_of_call call) rs ≡ None → filter (λ r. not (is_of_call call r)) rs ≡ rs
filter-none call [] none = refl
filter-none call (r ∷ rs) none = by (is_of_call call r) refl (filter-none call rs)
  where
    by : (b : Bool) → is_of_call call r ≡ b → (find (is_of_call call) rs ≡ None → filter (λ q. not (is_of_call call q)) rs ≡ rs) → filter (λ q. not (is_of_call call q)) (r ∷ rs) ≡ r ∷ rs
    by true is rest = absurd (none-some r (sym none ∙ ap (λ (b : Bool). cond b (Some r) (find (is_of_call call) rs)) is))
    by false is rest =
        let later : find (is_of_call call) rs ≡ None = sym (ap (λ (b : Bool). cond b (Some r) (find (is_of_call call) rs)) is) ∙ none in
        ap (λ (b : Bool). cond (not b) (r ∷ filter (λ q. not (is_of_call call q)) rs) (filter (λ q. not (is_of_call call q)) rs)) is ∙ ap (λ qs. r ∷ qs) (rest later)

-- dropping the request of the first one's call leaves the requests behind the first
pub filter-first : (rs : List TokenRequest) (r : TokenRequest) → slice_get rs 0 ≡ Some r → AreOfDistinctCalls rs → filter (λ q. not (is_of_call r.call q)) rs ≡ drop 1 rs
filter-first [] r at distinct = absurd (none-some r at)
filter-first (q ∷ rs) r at distinct = subst (λ (p : TokenRequest). filter (λ x. not (is_of_call p.call x)) (q ∷ rs) ≡ rs) (same_Some q r at)
    (ap (λ (b : Bool). cond (not b) (q ∷ filter (λ x. not (is_of_call q.call x)) rs) (filter (λ x. not (is_of_call q.call x)) rs)) (same_call-refl q.call) ∙ filter-none q.call rs distinct.0)

-- a request that passes the test is found, wherever it stands
find-later : (test : TokenRequest → Bool) (rs : List TokenRequest) (r : TokenRequest) (more : List TokenRequest) → test r ≡ true → find test (rs ++ r ∷ more) ≡ None → ⊥
find-later test [] r more passes none = none-some r (sym none ∙ ap (λ (b : Bool). cond b (Some r) (find test more)) passes)
find-later test (q ∷ rs) r more passes none = by (test q) refl (find-later test rs r more passes)
  where
    by : (b : Bool) → test q ≡ b → (find test (rs ++ r ∷ more) ≡ None → ⊥) → ⊥
    by true is later = none-some q (sym none ∙ ap (λ (b : Bool). cond b (Some q) (find test (rs ++ r ∷ more))) is)
    by false is later = later (sym (ap (λ (b : Bool). cond b (Some q) (find test (rs ++ r ∷ more))) is) ∙ none)

-- where requests are of distinct calls, none is of the call of a later one
pub distinct-before : (rs : List TokenRequest) (r : TokenRequest) (more : List TokenRequest) → AreOfDistinctCalls (rs ++ r ∷ more) → find (is_of_call r.call) rs ≡ None
distinct-before [] r more distinct = refl
distinct-before (q ∷ rs) r more distinct = by (same_call q.call r.call) refl (distinct-before rs r more distinct.1)
  where
    by : (b : Bool) → same_call q.call r.call ≡ b → find (is_of_call r.call) rs ≡ None → find (is_of_call r.call) (q ∷ rs) ≡ None
    by true is rest = absurd (find-later (is_of_call q.call) rs r more (same_call-symm r.call q.call ∙ is) distinct.0)
    by false is rest = ap (λ (b : Bool). cond b (Some q) (find (is_of_call r.call) rs)) is ∙ rest

-- a line is its first request and then the others
pub first-rest : (rs : List TokenRequest) (r : TokenRequest) → slice_get rs 0 ≡ Some r → rs ≡ r ∷ drop 1 rs
first-rest [] r at = absurd (none-some r at)
first-rest (q ∷ rs) r at = ap (λ (p : TokenRequest). p ∷ rs) (same_Some q r at)

module _ (keep : TokenRequest → Bool) where
  -- where what passes one filter passes another, the other makes no difference
  pub filter-after : (first : TokenRequest → Bool) → ((r : TokenRequest) → keep r ≡ true → first r ≡ true) → (rs : List TokenRequest) → filter keep (filter first rs) ≡ filter keep rs
  filter-after first weaker [] = refl
  filter-after first weaker (r ∷ rs) = by (keep r) (first r) refl refl (filter-after first weaker rs)
    where
      by : (k f : Bool) → keep r ≡ k → first r ≡ f → filter keep (filter first rs) ≡ filter keep rs
          → filter keep (cond f (r ∷ filter first rs) (filter first rs)) ≡ cond k (r ∷ filter keep rs) (filter keep rs)
      by true true is kept rest = λ i. cond (is i) (r ∷ rest i) (rest i)
      by true false is kept rest = absurd (both_ways (first r) kept (weaker r is))
      by false true is kept rest = λ i. cond (is i) (r ∷ rest i) (rest i)
      by false false is kept rest = rest

  -- where all pass, all pass that are left after another filter
  pub filter-kept : (first : TokenRequest → Bool) (rs : List TokenRequest) → filter keep rs ≡ rs → filter keep (filter first rs) ≡ filter first rs
  filter-kept first rs all = sym (swapped rs) ∙ ap (filter first) all
    where
      swapped : (qs : List TokenRequest) → filter first (filter keep qs) ≡ filter keep (filter first qs)
      swapped [] = refl
      swapped (q ∷ qs) = by (keep q) (first q) refl refl (swapped qs)
        where
          by : (k f : Bool) → keep q ≡ k → first q ≡ f → filter first (filter keep qs) ≡ filter keep (filter first qs)
              → filter first (cond k (q ∷ filter keep qs) (filter keep qs)) ≡ filter keep (cond f (q ∷ filter first qs) (filter first qs))
          by true true k f rest = (λ i. cond (f i) (q ∷ rest i) (rest i)) ∙ sym (ap (λ (b : Bool). cond b (q ∷ filter keep (filter first qs)) (filter keep (filter first qs))) k)
          by true false k f rest = ap (λ (b : Bool). cond b (q ∷ filter first (filter keep qs)) (filter first (filter keep qs))) f ∙ rest
          by false true k f rest = rest ∙ sym (ap (λ (b : Bool). cond b (q ∷ filter keep (filter first qs)) (filter keep (filter first qs))) k)
          by false false k f rest = rest

-- a request of the call is of its node and incarnation
pub not-of_call : (node incarnation : ℕ) (q r : TokenRequest) → is_up_to node incarnation q ≡ true → not (is_up_to node incarnation r) ≡ true → not (is_of_call q.call r) ≡ true
not-of_call node incarnation q r gone stays = by (same_call r.call q.call) refl
  where
    by : (b : Bool) → same_call r.call q.call ≡ b → not b ≡ true
    by true is = absurd (both_ways (not (is_up_to node incarnation r)) (ap (λ (c : CallId). not ((c.node == node) && nat_le c.incarnation incarnation)) (same_call-true r.call q.call is) ∙ ap not gone) stays)
    by false is = refl

-- where no request is lost by a drop up to the front, the slots before the front hold none
pub none-before : (slots : List (Option TokenRequest)) (front : ℕ) → requests_in (drop front slots) ≡ requests_in slots → requests_in (take front slots) ≡ []
none-before slots front rest = append_cancel_right (requests_in (take front slots)) [] (requests_in (drop front slots))
    (sym (requests_in-append (take front slots) (drop front slots)) ∙ ap requests_in (take-append-drop front slots) ∙ sym rest)

-- a walk over empty slots from the old front ends at the new one
pub IsFront-from : (slots : List (Option TokenRequest)) (from front : ℕ) → requests_in (drop from slots) ≡ requests_in slots → front ≤ length slots → requests_in (drop front slots) ≡ requests_in (drop from slots)
    → (front < length slots → is_some (request_at slots front) ≡ true) → IsFront slots front
IsFront-from slots from front old within rest holds = record { within = within; rest = rest ∙ old; holds = holds }

-- in a line, the slots before a place have been walked over: of the node no request up to the incarnation is left in them
pub record IsForgotten (node incarnation : ℕ) (old : LineParts) (count : ℕ) (now : SlotParts) (front place : ℕ) : Type 0 where
  pub slot_count : length now.slots ≡ count
  pub room : now.room ≡ old.room
  pub within : front ≤ count
  pub rest : requests_in (drop front now.slots) ≡ requests_in now.slots
  pub kept : filter (λ r. not (is_up_to node incarnation r)) (requests_in now.slots) ≡ filter (λ r. not (is_up_to node incarnation r)) old.requests
  pub gone : filter (λ r. not (is_up_to node incarnation r)) (requests_in (take place now.slots)) ≡ requests_in (take place now.slots)

module _ (node incarnation : ℕ) where
  -- the request is of another node, or of a newer incarnation
  abbrev pub stays : TokenRequest → Bool
  stays r = not (is_up_to node incarnation r)

  -- dropping one request that goes, by its call, leaves the requests that stay
  pub stays-kept : (slots : List (Option TokenRequest)) (r : TokenRequest) → is_up_to node incarnation r ≡ true
      → filter stays (requests_in (map (unless (is_of_call r.call)) slots)) ≡ filter stays (requests_in slots)
  stays-kept slots r goes =
      ap (filter stays) (requests_in-unless (is_of_call r.call) slots)
      ∙ filter-after stays (λ q. not (is_of_call r.call q)) (λ q kept. not-of_call node incarnation r q goes kept) (requests_in slots)

  -- once a request that goes is dropped, no slot up to its place holds one that goes
  pub gone-taken : (slots : List (Option TokenRequest)) (place : ℕ) (r : TokenRequest) → place < length slots → request_at slots place ≡ Some r
      → filter stays (requests_in (take place slots)) ≡ requests_in (take place slots)
      → filter stays (requests_in (take (place + 1) (map (unless (is_of_call r.call)) slots))) ≡ requests_in (take (place + 1) (map (unless (is_of_call r.call)) slots))
  gone-taken slots place r low at gone = subst (λ (rs : List TokenRequest). filter stays rs ≡ rs) (sym left) (filter-kept stays (λ q. not (is_of_call r.call q)) (requests_in (take place slots)) gone)
    where
      left : requests_in (take (place + 1) (map (unless (is_of_call r.call)) slots)) ≡ filter (λ q. not (is_of_call r.call q)) (requests_in (take place slots))
      left =
          ap requests_in (take-map (unless (is_of_call r.call)) (place + 1) slots)
          ∙ requests_in-unless (is_of_call r.call) (take (place + 1) slots)
          ∙ ap (filter (λ q. not (is_of_call r.call q))) (requests_in-more slots place low ∙ ap (λ (slot : Option TokenRequest). requests_in (take place slots) ++ requests_in (slot ∷ [])) at)
          ∙ filter-append (λ q. not (is_of_call r.call q)) (requests_in (take place slots)) (r ∷ [])
          ∙ ap (λ (b : Bool). filter (λ q. not (is_of_call r.call q)) (requests_in (take place slots)) ++ cond (not b) (r ∷ []) []) (same_call-refl r.call)
          ∙ append-nil (filter (λ q. not (is_of_call r.call q)) (requests_in (take place slots)))

  -- a slot that is empty or whose request stays adds none that goes
  pub gone-kept : (slots : List (Option TokenRequest)) (place : ℕ) → place < length slots → filter stays (requests_in (request_at slots place ∷ [])) ≡ requests_in (request_at slots place ∷ [])
      → filter stays (requests_in (take place slots)) ≡ requests_in (take place slots) → filter stays (requests_in (take (place + 1) slots)) ≡ requests_in (take (place + 1) slots)
  gone-kept slots place low here gone =
      ap (filter stays) (requests_in-more slots place low) ∙ filter-append stays (requests_in (take place slots)) (requests_in (request_at slots place ∷ []))
      ∙ (λ i. gone i ++ here i) ∙ sym (requests_in-more slots place low)

  -- before the walk, no slot before the front holds a request that goes
  pub IsForgotten-start : (old : LineParts) (now : SlotParts) (front : ℕ) → IsFront now.slots front → ◌≡◌ {A = LineParts} (record { requests = requests_in now.slots; room = now.room }) old
      → IsForgotten node incarnation old (length now.slots) now front front
  IsForgotten-start old now front is view = record {
    slot_count = refl;
    room = ap (λ (p : LineParts). p.room) view;
    within = is.within;
    rest = is.rest;
    kept = ap (λ (p : LineParts). filter stays p.requests) view;
    gone = subst (λ (rs : List TokenRequest). filter stays rs ≡ rs) (sym (none-before now.slots front is.rest)) refl;
  }

  module _ (old : LineParts) (count : ℕ) (now : SlotParts) (front place : ℕ) (low : place < count) (so_far : IsForgotten node incarnation old count now front place) where
    -- the invariant of the walk holds after a request that goes is dropped
    pub IsForgotten-taken : (r : TokenRequest) (next : SlotParts) → request_at now.slots place ≡ Some r → is_up_to node incarnation r ≡ true → next.slots ≡ map (unless (is_of_call r.call)) now.slots → next.room ≡ now.room
        → IsForgotten node incarnation old count next front (place + 1)
    IsForgotten-taken r next at goes slots room = record {
      slot_count = ap length slots ∙ length-map now.slots (unless (is_of_call r.call)) ∙ so_far.slot_count;
      room = room ∙ so_far.room;
      within = so_far.within;
      rest = subst (λ (s : List (Option TokenRequest)). requests_in (drop front s) ≡ requests_in s) (sym slots) (rest-unless (is_of_call r.call) now.slots front so_far.rest);
      kept = ap (λ s. filter stays (requests_in s)) slots ∙ stays-kept now.slots r goes ∙ so_far.kept;
      gone = subst (λ (s : List (Option TokenRequest)). filter stays (requests_in (take (place + 1) s)) ≡ requests_in (take (place + 1) s)) (sym slots)
          (gone-taken now.slots place r (omega (arith, so_far.slot_count)) at so_far.gone);
    }

    -- the invariant of the walk holds past a request that stays
    pub IsForgotten-stays : (r : TokenRequest) → request_at now.slots place ≡ Some r → is_up_to node incarnation r ≡ false → IsForgotten node incarnation old count now front (place + 1)
    IsForgotten-stays r at new = record {
      slot_count = so_far.slot_count;
      room = so_far.room;
      within = so_far.within;
      rest = so_far.rest;
      kept = so_far.kept;
      gone = gone-kept now.slots place (omega (arith, so_far.slot_count))
          (subst (λ (slot : Option TokenRequest). filter stays (requests_in (slot ∷ [])) ≡ requests_in (slot ∷ [])) (sym at) (ap (λ (b : Bool). cond (not b) (r ∷ []) []) new)) so_far.gone;
    }

    -- the invariant of the walk holds past an empty slot
    pub IsForgotten-none : request_at now.slots place ≡ None → IsForgotten node incarnation old count now front (place + 1)
    IsForgotten-none at = record {
      slot_count = so_far.slot_count;
      room = so_far.room;
      within = so_far.within;
      rest = so_far.rest;
      kept = so_far.kept;
      gone = gone-kept now.slots place (omega (arith, so_far.slot_count))
          (subst (λ (slot : Option TokenRequest). filter stays (requests_in (slot ∷ [])) ≡ requests_in (slot ∷ [])) (sym at) refl) so_far.gone;
    }
