-- The admission of requests from the queue of a token server, slot by slot.
use Rattle.std.specs.Prelude.{◌≡◌, ℕ, ◌+◌, ◌<◌, ◌≤◌, Bool, true, false, cond, not, ◌&&◌, ◌||◌, List, [], ◌∷◌, ◌++◌, length, filter, Option, Some, None}
use Rattle.std.specs.List.{list_any}
use Rattle.std.proofs.Common.{refl, sym, ap, subst, ◌∙◌, take, drop, arith, append-nil, append_assoc}
use Rattle.std.proofs.lemmas.Bool.{and_parts}
use Rattle.std.proofs.lemmas.List.{take_more, drop_more, take-append-drop}
use Rattle.std.proofs.lemmas.List.Elements.{filter-append}
use Rattle.model.specs.declared.call.CallId.{CallId}
use Rattle.token_server.specs.declared.token_queue.active_request.ActiveRequest.{ActiveRequest}
use Rattle.token_server.specs.declared.token_queue.token_request.TokenRequest.{TokenRequest}
use Rattle.token_server.specs.rule.Requests.{is_of_call, meets, requests_in}
use Rattle.token_server.specs.code.Admissions.{request_at, IsAdmitted}
use Rattle.token_server.specs.rule.Actives.{requests_of}
use Rattle.token_server.proofs.CallLaws.{same_call-refl}
use Rattle.token_server.proofs.PlaceLaws.{requests_in-append}
use Rattle.token_server.proofs.WalkLaws.{requests_in-around, requests_in-more}
use Rattle.token_server.specs.declared.gone.Gone.{Gone}
use Rattle.token_server.specs.declared.sketch.Moved.{Moved}
use Rattle.token_server.specs.declared.sketch.Moved.TheVariants.{Nothing, New, Again, Waiting, PutOff}
use Rattle.token_server.specs.rule.Serve.{meets_some}
use Rattle.token_server.specs.rule.Obstacles.{all_stay}
use Rattle.token_server.specs.code.Edits.{AreDistinct, without, still_active, queue_moved, is_up_to_any, is_of_any, keeps, served_on, left_in, NeedsAllOf, HasEnded}
use Rattle.token_server.proofs.AdmittingLaws.{Stay, calls, calls-append, both-meet, meets-flip, or-end, admitted-stays, admitted-goes, distinct-before, stay-same, stay-at, stay-behind, stay-covered, admitted-rest, meets-within, ended-meets}

and-end : (b : Bool) → (b && true) ≡ b
and-end true = refl
and-end false = refl

and-none : (b : Bool) → (b && false) ≡ false
and-none true = refl
and-none false = refl

or-second : (a b : Bool) → b ≡ true → (a || b) ≡ true
or-second true b h = refl
or-second false b h = h

pub own-call : (r : TokenRequest) → is_of_call r.call r ≡ true
own-call r = same_call-refl r.call

-- dropping requests keeps those that are not of the dropped incarnations
without-is : (dropped : Option (ℕ × ℕ)) (rs : List TokenRequest) → without dropped rs ≡ filter (λ r. not (is_up_to_any dropped r)) rs
without-is None [] = refl
without-is None (r ∷ rs) = ap (λ (xs : List TokenRequest). r ∷ xs) (without-is None rs)
without-is (Some d) rs = refl

-- ending a request keeps those that are not of its call
still-is : (ended : Option CallId) (rs : List TokenRequest) → still_active ended rs ≡ filter (λ r. not (is_of_any ended r)) rs
still-is None [] = refl
still-is None (r ∷ rs) = ap (λ (xs : List TokenRequest). r ∷ xs) (still-is None rs)
still-is (Some call) rs = refl

filter-both : (p q : TokenRequest → Bool) (rs : List TokenRequest) → filter q (filter p rs) ≡ filter (λ r. p r && q r) rs
filter-both p q [] = refl
filter-both p q (r ∷ rs) = by (p r) (filter-both p q rs)
  where
    both : List TokenRequest
    both = filter (λ x. p x && q x) rs

    by : (b : Bool) → filter q (filter p rs) ≡ both → filter q (cond b (r ∷ filter p rs) (filter p rs)) ≡ cond (b && q r) (r ∷ both) both
    by true rest = ap (λ (xs : List TokenRequest). cond (q r) (r ∷ xs) xs) rest
    by false rest = rest

pub served-kept : (dropped : Option (ℕ × ℕ)) (ended : Option CallId) (rs : List TokenRequest) → still_active ended (without dropped rs) ≡ filter (keeps dropped ended) rs
served-kept dropped ended rs =
    ap (still_active ended) (without-is dropped rs)
    ∙ still-is ended (filter (λ r. not (is_up_to_any dropped r)) rs)
    ∙ filter-both (λ r. not (is_up_to_any dropped r)) (λ r. not (is_of_any ended r)) rs

any-kept : (test p : TokenRequest → Bool) (held : List ActiveRequest) → list_any (λ h. test h.request && p h.request) held ≡ list_any test (filter p (requests_of held))
any-kept test p [] = refl
any-kept test p (h ∷ held) = by (p h.request) (any-kept test p held)
  where
    rest : List TokenRequest
    rest = filter p (requests_of held)

    by : (b : Bool) → list_any (λ x. test x.request && p x.request) held ≡ list_any test rest → ((test h.request && b) || list_any (λ x. test x.request && p x.request) held) ≡ list_any test (cond b (h.request ∷ rest) rest)
    by true more = λ i. and-end (test h.request) i || more i
    by false more = ap (λ (t : Bool). t || list_any (λ x. test x.request && p x.request) held) (and-none (test h.request)) ∙ more

-- the test of an entry against the active requests that stay active
pub meets-served : (g : Gone) (held : List ActiveRequest) (r : TokenRequest) → list_any (λ h. meets r.wanted.required h.request.wanted.required && keeps g.dropped g.ended h.request) held ≡ meets_some r (served_on g held)
meets-served g held r =
    any-kept (λ q. meets r.wanted.required q.wanted.required) (keeps g.dropped g.ended) held ∙ sym (ap (meets_some r) (served-kept g.dropped g.ended (requests_of held)))

pub without-nil : (dropped : Option (ℕ × ℕ)) → without dropped [] ≡ []
without-nil None = refl
without-nil (Some d) = refl

without-append : (dropped : Option (ℕ × ℕ)) (xs ys : List TokenRequest) → without dropped (xs ++ ys) ≡ without dropped xs ++ without dropped ys
without-append None xs ys = refl
without-append (Some d) xs ys = filter-append (λ r. not (is_up_to_any (Some d) r)) xs ys

pub left-append : (g : Gone) (slots more : List (Option TokenRequest)) → left_in g (slots ++ more) ≡ left_in g slots ++ left_in g more
left-append g slots more = ap (without g.dropped) (requests_in-append slots more) ∙ without-append g.dropped (requests_in slots) (requests_in more)

-- the test of a request against those in slots that are not dropped
pub meets-left : (g : Gone) (slots : List (Option TokenRequest)) (r : TokenRequest) → list_any (λ slot. meets_some r (left_in g (slot ∷ []))) slots ≡ meets_some r (left_in g slots)
meets-left g [] r = sym (ap (meets_some r) (without-nil g.dropped))
meets-left g (slot ∷ slots) r =
    ap (λ (b : Bool). meets_some r (left_in g (slot ∷ [])) || b) (meets-left g slots r)
    ∙ sym (both-meet r (left_in g (slot ∷ [])) (left_in g slots))
    ∙ sym (ap (meets_some r) (left-append g (slot ∷ []) slots))

-- a request that is dropped leaves an empty list
pub without-dropped : (dropped : Option (ℕ × ℕ)) (r : TokenRequest) → is_up_to_any dropped r ≡ true → without dropped (r ∷ []) ≡ []
without-dropped None r is = absurd (cc)
without-dropped (Some d) r is = ap (λ (b : Bool). cond (not b) (r ∷ []) []) is

pub without-other : (dropped : Option (ℕ × ℕ)) (r : TokenRequest) → is_up_to_any dropped r ≡ false → without dropped (r ∷ []) ≡ r ∷ []
without-other None r is = refl
without-other (Some d) r is = ap (λ (b : Bool). cond (not b) (r ∷ []) []) is

-- the requests in the first slots and in one more
slot-done : (g : Gone) (front slots : List (Option TokenRequest)) (place : ℕ) → place < length slots → left_in g front ++ left_in g (take (place + 1) slots) ≡ (left_in g front ++ left_in g (take place slots)) ++ left_in g (request_at slots place ∷ [])
slot-done g front slots place low =
    ap (λ (xs : List TokenRequest). left_in g front ++ xs) (ap (left_in g) (take_more slots place None low) ∙ left-append g (take place slots) (request_at slots place ∷ []))
    ∙ sym (append_assoc (left_in g front) (left_in g (take place slots)) (left_in g (request_at slots place ∷ [])))

slot-all : (g : Gone) (front slots : List (Option TokenRequest)) (place : ℕ) → place < length slots → left_in g front ++ left_in g slots ≡ (left_in g front ++ left_in g (take place slots)) ++ (left_in g (request_at slots place ∷ []) ++ left_in g (drop (place + 1) slots))
slot-all g front slots place low =
    ap (λ (xs : List TokenRequest). left_in g front ++ xs)
    (ap (left_in g) (sym (take-append-drop place slots))
    ∙ left-append g (take place slots) (drop place slots)
    ∙ ap (λ (xs : List TokenRequest). left_in g (take place slots) ++ xs) (ap (left_in g) (drop_more slots place None low) ∙ left-append g (request_at slots place ∷ []) (drop (place + 1) slots)))
    ∙ sym (append_assoc (left_in g front) (left_in g (take place slots)) (left_in g (request_at slots place ∷ []) ++ left_in g (drop (place + 1) slots)))

-- a slot without a request that is left: nothing is admitted
pub comes-none : (g : Gone) (active : List TokenRequest) (front slots : List (Option TokenRequest)) (place : ℕ) (fresh : List TokenRequest) → place < length slots → left_in g (request_at slots place ∷ []) ≡ [] → IsAdmitted active (left_in g front ++ left_in g (take place slots)) fresh → IsAdmitted active (left_in g front ++ left_in g (take (place + 1) slots)) fresh
comes-none g active front slots place fresh low none is =
    let done : List TokenRequest = left_in g front ++ left_in g (take place slots) in
    subst (λ (xs : List TokenRequest). IsAdmitted active xs fresh) (sym (slot-done g front slots place low ∙ ap (λ (xs : List TokenRequest). done ++ xs) none ∙ append-nil done)) is

-- a slot with a request that is left, of a call that has none before it
module _ (g : Gone) (active : List TokenRequest) (front slots : List (Option TokenRequest)) (place : ℕ) (fresh : List TokenRequest) (r : TokenRequest) (low : place < length slots) (one : left_in g (request_at slots place ∷ []) ≡ r ∷ []) (distinct : AreDistinct (left_in g front ++ left_in g slots)) (is : IsAdmitted active (left_in g front ++ left_in g (take place slots)) fresh) where
  abbrev done : List TokenRequest
  done = left_in g front ++ left_in g (take place slots)

  next : left_in g front ++ left_in g (take (place + 1) slots) ≡ done ++ r ∷ []
  next = slot-done g front slots place low ∙ ap (λ (xs : List TokenRequest). done ++ xs) one

  alone : calls r.call done ≡ 0
  alone =
      distinct-before done (left_in g (drop (place + 1) slots)) r (subst AreDistinct (slot-all g front slots place low ∙ ap (λ (xs : List TokenRequest). done ++ (xs ++ left_in g (drop (place + 1) slots))) one) distinct) (own-call r)

  test : (b : Bool) → (meets_some r active || (meets_some r (left_in g front) || meets_some r (left_in g (take place slots)))) ≡ b → (meets_some r active || meets_some r done) ≡ b
  test b h = ap (λ (t : Bool). meets_some r active || t) (both-meet r (left_in g front) (left_in g (take place slots))) ∙ h

  -- the request in the slot stays queued
  pub comes-stays : (meets_some r active || (meets_some r (left_in g front) || meets_some r (left_in g (take place slots)))) ≡ true → IsAdmitted active (left_in g front ++ left_in g (take (place + 1) slots)) fresh
  comes-stays h = subst (λ (xs : List TokenRequest). IsAdmitted active xs fresh) (sym next) (admitted-stays active done fresh r is alone (test true h))

  -- the request in the slot is admitted
  pub comes-goes : (meets_some r active || (meets_some r (left_in g front) || meets_some r (left_in g (take place slots)))) ≡ false → IsAdmitted active (left_in g front ++ left_in g (take (place + 1) slots)) (fresh ++ r ∷ [])
  comes-goes h = subst (λ (xs : List TokenRequest). IsAdmitted active xs (fresh ++ r ∷ [])) (sym next) (admitted-goes active done fresh r is alone (test false h))

-- in a settled queue each request stays
pub stays-all : (active before queue : List TokenRequest) → all_stay active before queue ≡ true → Stay active before queue
stays-all active before [] h = tt
stays-all active before (r ∷ rest) h =
    let parts = and_parts (meets_some r active || meets_some r before) (all_stay active (before ++ r ∷ []) rest) h in
    (parts.0, stays-all active (before ++ r ∷ []) rest parts.1)

-- in a settled queue each request stays, with the ended one at the end of the active
freed-stay : (active queue : List TokenRequest) (call : CallId) (ended : TokenRequest) → HasEnded active queue call ended → Stay (still_active (Some call) active ++ ended ∷ []) [] queue
freed-stay active queue call ended has =
    stay-same active (still_active (Some call) active ++ ended ∷ []) [] queue (ended-meets call active ended has.few has.found) (stays-all active [] queue has.settled)

-- a request that needs no byte of the ended one stays
pub freed-skip : (active : List TokenRequest) (slots : List (Option TokenRequest)) (call : CallId) (ended : TokenRequest) (place : ℕ) (fresh : List TokenRequest) (r : TokenRequest) → HasEnded active (requests_in slots) call ended → place < length slots → request_at slots place ≡ Some r → meets ended.wanted.required r.wanted.required ≡ false → IsAdmitted (still_active (Some call) active) (requests_in (take place slots)) fresh → IsAdmitted (still_active (Some call) active) (requests_in (take (place + 1) slots)) fresh
freed-skip active slots call ended place fresh r has low at apart is =
    subst (λ (xs : List TokenRequest). IsAdmitted on xs fresh) (sym next) (admitted-stays on done fresh r is (distinct-before done rest r (subst AreDistinct around has.distinct) (own-call r)) (by (meets_some r on) (meets_some r done) (sym (ap (λ (t : Bool). t || meets_some r done) beside) ∙ here)))
  where
    on : List TokenRequest
    on = still_active (Some call) active

    done : List TokenRequest
    done = requests_in (take place slots)

    rest : List TokenRequest
    rest = requests_in (drop (place + 1) slots)

    around : requests_in slots ≡ done ++ r ∷ rest
    around = requests_in-around slots place r low at

    next : requests_in (take (place + 1) slots) ≡ done ++ r ∷ []
    next = requests_in-more slots place low ∙ ap (λ (slot : Option TokenRequest). done ++ requests_in (slot ∷ [])) at

    beside : meets_some r (on ++ ended ∷ []) ≡ (meets_some r on || false)
    beside = both-meet r on (ended ∷ []) ∙ ap (λ (t : Bool). meets_some r on || (t || false)) (meets-flip r.wanted.required ended.wanted.required ∙ apart)

    here : (meets_some r (on ++ ended ∷ []) || meets_some r done) ≡ true
    here = stay-at (on ++ ended ∷ []) [] done rest r (subst (Stay (on ++ ended ∷ []) []) around (freed-stay active (requests_in slots) call ended has))

    by : (a d : Bool) → ((a || false) || d) ≡ true → (a || d) ≡ true
    by true d h = refl
    by false d h = h

-- a request that needs all bytes of the ended one
pub freed-all : (slots : List (Option TokenRequest)) (ended : TokenRequest) (place : ℕ) (r : TokenRequest) → place < length slots → request_at slots place ≡ Some r → r.wanted.required.lo ≤ ended.wanted.required.lo → ended.wanted.required.hi ≤ r.wanted.required.hi → NeedsAllOf ended (requests_in (take (place + 1) slots))
freed-all slots ended place r low at starts ends q meet =
    ap (meets_some q) (requests_in-more slots place low ∙ ap (λ (slot : Option TokenRequest). requests_in (take place slots) ++ requests_in (slot ∷ [])) at)
    ∙ both-meet q (requests_in (take place slots)) (r ∷ [])
    ∙ or-second (meets_some q (requests_in (take place slots))) (meets q.wanted.required r.wanted.required || false) (or-end (meets q.wanted.required r.wanted.required) ∙ meets-within q.wanted.required r.wanted.required ended.wanted.required starts ends meet)

-- behind a request that needs all bytes of the ended one, all stay
pub freed-rest : (active : List TokenRequest) (slots : List (Option TokenRequest)) (call : CallId) (ended : TokenRequest) (place : ℕ) (fresh : List TokenRequest) → HasEnded active (requests_in slots) call ended → NeedsAllOf ended (requests_in (take place slots)) → IsAdmitted (still_active (Some call) active) (requests_in (take place slots)) fresh → IsAdmitted (still_active (Some call) active) (requests_in slots) fresh
freed-rest active slots call ended place fresh has all is =
    subst (λ (xs : List TokenRequest). IsAdmitted on xs fresh) (sym parts) (admitted-rest on done rest fresh own-call (subst AreDistinct parts has.distinct) is (stay-covered on ended done rest all (stay-behind (on ++ ended ∷ []) [] done rest (subst (Stay (on ++ ended ∷ []) []) parts (freed-stay active (requests_in slots) call ended has)))))
  where
    on : List TokenRequest
    on = still_active (Some call) active

    done : List TokenRequest
    done = requests_in (take place slots)

    rest : List TokenRequest
    rest = requests_in (drop place slots)

    parts : requests_in slots ≡ done ++ rest
    parts = ap requests_in (sym (take-append-drop place slots)) ∙ requests_in-append (take place slots) (drop place slots)

-- where requests are of distinct calls, so are the first of them
pub distinct-first : (xs ys : List TokenRequest) → AreDistinct (xs ++ ys) → AreDistinct xs
distinct-first xs ys distinct = λ call.
    let a : calls call (xs ++ ys) ≡ calls call xs + calls call ys = calls-append call xs ys in
    let b : calls call (xs ++ ys) ≤ 1 = distinct call in
    omega arith

-- where the queue after a move is of distinct calls, so is the queue before
pub distinct-before_moved : (moved : Moved) (queue waiting : List TokenRequest) → AreDistinct (queue_moved moved queue waiting) → AreDistinct queue
distinct-before_moved Nothing queue waiting distinct = distinct
distinct-before_moved (New r) queue waiting distinct = distinct-first queue (r ∷ []) distinct
distinct-before_moved (Again call r) queue waiting distinct = distinct-first queue (r ∷ []) distinct
distinct-before_moved Waiting queue waiting distinct = distinct-first queue waiting distinct
distinct-before_moved (PutOff r) queue waiting distinct = distinct
