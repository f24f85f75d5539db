-- The admission of requests from the queue, one after the other.
use Rattle.std.specs.Prelude.{◌≡◌, Bool, true, false, cond, ◌||◌, List, [], ◌∷◌, ◌++◌, ℕ, ◌+◌, not, ◌&&◌, nat_le, filter, count_by, ◌≤◌, find, Some}
use Rattle.std.proofs.Common.{refl, ap, ◌∙◌, sym, append-nil, append_assoc, subst, inl, inr, arith, ◌==◌}
use Rattle.token_server.specs.declared.token_queue.token_request.TokenRequest.{TokenRequest}
use Rattle.token_server.specs.rule.State.{ServerState}
use Rattle.token_server.specs.rule.Serve.{meets_some, admitted, ready}
use Rattle.std.proofs.lemmas.List.Folds.{list_any-append}
use Rattle.token_server.specs.rule.Requests.{meets, is_of_call}
use Rattle.std.specs.List.{list_any}
use Rattle.std.proofs.lemmas.Bool.Decides.{eqb_tells}
use Rattle.std.proofs.lemmas.Bool.{and_parts, and_from, not-true, leb-true, le-leb}
use Rattle.std.proofs.lemmas.List.Elements.{filter-append}
use Rattle.std.proofs.lemmas.List.Sums.{sum_by-append}
use Rattle.intervals.specs.rule.Bytes.{Range}
use Rattle.model.specs.declared.call.CallId.{CallId}
use Rattle.messages.specs.rule.Messages.{same_call}
use Rattle.token_server.specs.code.Admissions.{has_call_of, all_but, IsAdmitted}
use Rattle.token_server.specs.rule.Obstacles.{are_apart}
use Rattle.token_server.specs.code.Edits.{AreDistinct}

-- the active requests, and those that stay queued
abbrev pub Lists : Type 0
Lists = List TokenRequest × List TokenRequest

-- the admission of two parts of the queue, one after the other
pub admitted-append : (active staying xs ys : List TokenRequest) → admitted active staying (xs ++ ys) ≡ (let next = admitted active staying xs in admitted next.0 next.1 ys)
admitted-append active staying [] ys = refl
admitted-append active staying (r ∷ xs) ys =
    by (meets_some r active || meets_some r staying) (admitted-append active (staying ++ r ∷ []) xs ys) (admitted-append (active ++ r ∷ []) staying xs ys)
  where
    then_rest : Lists → Lists
    then_rest next = admitted next.0 next.1 ys

    by : (b : Bool) → admitted active (staying ++ r ∷ []) (xs ++ ys) ≡ then_rest (admitted active (staying ++ r ∷ []) xs) → admitted (active ++ r ∷ []) staying (xs ++ ys) ≡ then_rest (admitted (active ++ r ∷ []) staying xs) → cond b (admitted active (staying ++ r ∷ []) (xs ++ ys)) (admitted (active ++ r ∷ []) staying (xs ++ ys)) ≡ then_rest (cond b (admitted active (staying ++ r ∷ []) xs) (admitted (active ++ r ∷ []) staying xs))
    by true stays goes = stays
    by false stays goes = goes

-- the admission of one request more
pub admitted-one : (active staying : List TokenRequest) (r : TokenRequest) (b : Bool) → (meets_some r active || meets_some r staying) ≡ b → admitted active staying (r ∷ []) ≡ cond b (active, staying ++ r ∷ []) (active ++ r ∷ [], staying)
admitted-one active staying r b is = ap (λ (t : Bool). let next : Lists = cond t (active, staying ++ r ∷ []) (active ++ r ∷ [], staying) in next) is

pub admitted-more : (before a s xs : List TokenRequest) (r : TokenRequest) (b : Bool) → admitted before [] xs ≡ (a, s) → (meets_some r a || meets_some r s) ≡ b → admitted before [] (xs ++ r ∷ []) ≡ cond b (a, s ++ r ∷ []) (a ++ r ∷ [], s)
admitted-more before a s xs r b so_far is =
    admitted-append before [] xs (r ∷ [])
    ∙ ap (λ (next : Lists). admitted next.0 next.1 (r ∷ [])) so_far
    ∙ admitted-one a s r b is

pub ready-is : (s : ServerState) (a q : List TokenRequest) → admitted s.active [] s.queue ≡ (a, q) → ready s ≡ record s { active = a; queue = q }
ready-is s a q is = λ i. record s { active = (is i).0; queue = (is i).1 }

-- each of the requests needs a byte of an active one, or of one before it
abbrev pub Stay : List TokenRequest → List TokenRequest → List TokenRequest → Type 0
Stay active before [] = Unit {0}
Stay active before (r ∷ rest) = ((meets_some r active || meets_some r before) ≡ true) × Stay active (before ++ r ∷ []) rest

-- where each request stays, none is admitted
pub stay-admits : (active before queue : List TokenRequest) → Stay active before queue → admitted active before queue ≡ (active, before ++ queue)
stay-admits active before [] all = ap (λ (xs : List TokenRequest). let p : Lists = (active, xs) in p) (sym (append-nil before))
stay-admits active before (r ∷ rest) all =
    ap (λ (b : Bool). cond b (admitted active (before ++ r ∷ []) rest) (admitted (active ++ r ∷ []) before rest)) all.0
    ∙ stay-admits active (before ++ r ∷ []) rest all.1
    ∙ ap (λ (xs : List TokenRequest). let p : Lists = (active, xs) in p) (append_assoc before (r ∷ []) rest)

or-more : (a b c : Bool) → (a || c) ≡ true → ((a || b) || c) ≡ true
or-more true b c h = refl
or-more false true c h = refl
or-more false false c h = h

-- requests stay beside more active ones
pub stay-more : (active more before queue : List TokenRequest) → Stay active before queue → Stay (active ++ more) before queue
stay-more active more before [] all = tt
stay-more active more before (r ∷ rest) all = (
  ap (λ (b : Bool). b || meets_some r before) (list_any-append (λ q. meets r.wanted.required q.wanted.required) active more)
      ∙ or-more (meets_some r active) (meets_some r more) (meets_some r before) all.0,
  stay-more active more (before ++ r ∷ []) rest all.1,
)

-- one request more stays at the end of those that do
pub stay-push : (active before queue : List TokenRequest) (r : TokenRequest) → Stay active before queue → (meets_some r active || meets_some r (before ++ queue)) ≡ true → Stay active before (queue ++ r ∷ [])
stay-push active before [] r all one = (ap (λ (xs : List TokenRequest). meets_some r active || meets_some r xs) (sym (append-nil before)) ∙ one, tt)
stay-push active before (q ∷ queue) r all one =
    (all.0, stay-push active (before ++ q ∷ []) queue r all.1 (ap (λ (xs : List TokenRequest). meets_some r active || meets_some r xs) (append_assoc before (q ∷ []) queue) ∙ one))

-- after an admission the requests that are left stay
pub admitted-stay : (active staying queue : List TokenRequest) → Stay active [] staying → (let next = admitted active staying queue in Stay next.0 [] next.1)
admitted-stay active staying [] all = all
admitted-stay active staying (r ∷ rest) all =
    by (meets_some r active || meets_some r staying) refl (λ stays. admitted-stay active (staying ++ r ∷ []) rest (stay-push active [] staying r all stays)) (admitted-stay (active ++ r ∷ []) staying rest (stay-more active (r ∷ []) [] staying all))
  where
    Stays : Lists → Type 0
    Stays next = Stay next.0 [] next.1

    by : (b : Bool) → (meets_some r active || meets_some r staying) ≡ b → ((meets_some r active || meets_some r staying) ≡ true → Stays (admitted active (staying ++ r ∷ []) rest)) → Stays (admitted (active ++ r ∷ []) staying rest) → Stays (cond b (admitted active (staying ++ r ∷ []) rest) (admitted (active ++ r ∷ []) staying rest))
    by true is stays goes = stays is
    by false is stays goes = goes

-- the number of the call's requests among these
abbrev pub calls : CallId → List TokenRequest → ℕ
calls call rs = count_by (is_of_call call) rs

pub calls-append : (call : CallId) (xs ys : List TokenRequest) → calls call (xs ++ ys) ≡ calls call xs + calls call ys
calls-append call xs ys = sum_by-append (λ r. cond (is_of_call call r) 1 0) xs ys

pub calls-cons : (call : CallId) (x : TokenRequest) (xs : List TokenRequest) → calls call (x ∷ xs) ≡ cond (is_of_call call x) 1 0 + calls call xs
calls-cons call x xs = calls-append call (x ∷ []) xs ∙ ap (λ (k : ℕ). k + calls call xs) (let one : calls call (x ∷ []) ≡ cond (is_of_call call x) 1 0 = omega arith in one)

pub calls-none : (call : CallId) (xs : List TokenRequest) → calls call xs ≡ 0 → list_any (is_of_call call) xs ≡ false
calls-none call [] none = refl
calls-none call (x ∷ xs) none = by (is_of_call call x) (sym (calls-cons call x xs) ∙ none) (calls-none call xs)
  where
    by : (b : Bool) → cond b 1 0 + calls call xs ≡ 0 → (calls call xs ≡ 0 → list_any (is_of_call call) xs ≡ false) → (b || list_any (is_of_call call) xs) ≡ false
    by true h rest = absurd (omega arith)
    by false h rest = rest (omega arith)

-- equality of two numbers is symmetric
eq-flip : (m n : ℕ) → m == n ≡ n == m
eq-flip m n = elim (eqb_tells m n) [
  | inl same ↦ same.0 ∙ sym (ap (λ (k : ℕ). n == k) same.1 ∙ here n)
  | inr other ↦ other.0 ∙ sym (apart n m (λ e. other.1 (sym e)))
]
  where
    here : (k : ℕ) → k == k ≡ true
    here k = elim (eqb_tells k k) [ inl same ↦ same.0 | inr other ↦ absurd (other.1 refl) ]

    apart : (j k : ℕ) → (j ≡ k → ⊥) → j == k ≡ false
    apart j k ne = elim (eqb_tells j k) [ inl same ↦ absurd (ne same.1) | inr other ↦ other.0 ]

pub same_call-flip : (c d : CallId) → same_call c d ≡ same_call d c
same_call-flip c d = λ i. eq-flip c.node d.node i && (eq-flip c.incarnation d.incarnation i && eq-flip c.number d.number i)

-- removing a call that has no request there changes nothing
all_but-more : (fresh done : List TokenRequest) (r : TokenRequest) → calls r.call done ≡ 0 → all_but (fresh ++ r ∷ []) done ≡ all_but fresh done
all_but-more fresh [] r none = refl
all_but-more fresh (q ∷ done) r none = by (is_of_call r.call q) refl (sym (calls-cons r.call q done) ∙ none) (all_but-more fresh done r)
  where
    rest : List TokenRequest
    rest = all_but fresh done

    by : (b : Bool) → is_of_call r.call q ≡ b → cond b 1 0 + calls r.call done ≡ 0 → (calls r.call done ≡ 0 → all_but (fresh ++ r ∷ []) done ≡ rest) → all_but (fresh ++ r ∷ []) (q ∷ done) ≡ all_but fresh (q ∷ done)
    by true is h others = absurd (omega arith)
    by false is h others =
        let here : has_call_of (fresh ++ r ∷ []) q ≡ has_call_of fresh q =
        list_any-append (is_of_call q.call) fresh (r ∷ [])
        ∙ ap (λ (b : Bool). has_call_of fresh q || (b || false)) (same_call-flip r.call q.call ∙ is)
        ∙ or_false (has_call_of fresh q) in
        λ i. cond (not (here i)) (q ∷ others (omega arith) i) (others (omega arith) i)
      where
        or_false : (b : Bool) → (b || false) ≡ b
        or_false true = refl
        or_false false = refl

or-shift : (a b c : Bool) → ((a || b) || c) ≡ (a || (b || c))
or-shift true b c = refl
or-shift false b c = refl

or-turn : (a b c : Bool) → ((a || b) || c) ≡ ((a || c) || b)
or-turn true b c = refl
or-turn false true true = refl
or-turn false true false = refl
or-turn false false true = refl
or-turn false false false = refl

pub neither : (a b : Bool) → (a || b) ≡ false → (a ≡ false) × (b ≡ false)
neither true b h = absurd (cc)
neither false b h = (refl, h)

pub or-end : (b : Bool) → (b || false) ≡ b
or-end true = refl
or-end false = refl

-- the test against two lists together is the test against one or the other
pub both-meet : (r : TokenRequest) (xs ys : List TokenRequest) → meets_some r (xs ++ ys) ≡ (meets_some r xs || meets_some r ys)
both-meet r xs ys = list_any-append (λ q. meets r.wanted.required q.wanted.required) xs ys

-- one request more is tested against the active, the admitted and the staying ones
tested : (active done fresh : List TokenRequest) (r : TokenRequest) (b : Bool) → IsAdmitted active done fresh → (meets_some r active || meets_some r done) ≡ b → (meets_some r (active ++ fresh) || meets_some r (all_but fresh done)) ≡ b
tested active done fresh r b is test =
    ap (λ (t : Bool). t || meets_some r (all_but fresh done)) (both-meet r active fresh)
    ∙ or-shift (meets_some r active) (meets_some r fresh) (meets_some r (all_but fresh done))
    ∙ ap (λ (t : Bool). meets_some r active || t) (is.meeting r)
    ∙ test

not_fresh : (active done fresh : List TokenRequest) (r : TokenRequest) → IsAdmitted active done fresh → calls r.call done ≡ 0 → has_call_of fresh r ≡ false
not_fresh active done fresh r is none =
    let c : calls r.call fresh + calls r.call (all_but fresh done) ≡ calls r.call done = is.counted r.call in
    calls-none r.call fresh (omega arith)

left-push : (fresh done : List TokenRequest) (r : TokenRequest) → has_call_of fresh r ≡ false → all_but fresh (done ++ r ∷ []) ≡ all_but fresh done ++ r ∷ []
left-push fresh done r apart =
    filter-append (λ q. not (has_call_of fresh q)) done (r ∷ [])
    ∙ ap (λ (b : Bool). all_but fresh done ++ cond (not b) (r ∷ []) []) apart

-- of an empty queue none is admitted
pub admitted-none : (active : List TokenRequest) → IsAdmitted active [] []
admitted-none active = record {
  comes = ap (λ (xs : List TokenRequest). let p : Lists = (xs, []) in p) (sym (append-nil active));
  meeting = λ r. refl;
  counted = λ call. refl;
}

pub all_but-none : (rs : List TokenRequest) → all_but [] rs ≡ rs
all_but-none [] = refl
all_but-none (r ∷ rs) = ap (λ (xs : List TokenRequest). r ∷ xs) (all_but-none rs)

-- of a settled queue none is admitted
pub admitted-settled : (active queue : List TokenRequest) → Stay active [] queue → IsAdmitted active queue []
admitted-settled active queue settled = record {
  comes = stay-admits active [] queue settled ∙ sym (λ i. let p : Lists = (append-nil active i, all_but-none queue i) in p);
  meeting = λ r. ap (meets_some r) (all_but-none queue);
  counted = λ call. let same : calls call (all_but [] queue) ≡ calls call queue = ap (calls call) (all_but-none queue) in let nothing : calls call [] ≡ 0 = refl in omega arith;
}

-- one request more stays queued
pub admitted-stays : (active done fresh : List TokenRequest) (r : TokenRequest) → IsAdmitted active done fresh → calls r.call done ≡ 0 → (meets_some r active || meets_some r done) ≡ true → IsAdmitted active (done ++ r ∷ []) fresh
admitted-stays active done fresh r is none stays =
    let left = left-push fresh done r (not_fresh active done fresh r is none) in
    record {
      comes = admitted-more active (active ++ fresh) (all_but fresh done) done r true is.comes (tested active done fresh r true is stays) ∙ sym (λ i. let p : Lists = (active ++ fresh, left i) in p);
      meeting = λ q.
          ap (λ (xs : List TokenRequest). meets_some q fresh || meets_some q xs) left
          ∙ ap (λ (t : Bool). meets_some q fresh || t) (both-meet q (all_but fresh done) (r ∷ []))
          ∙ sym (or-shift (meets_some q fresh) (meets_some q (all_but fresh done)) (meets_some q (r ∷ [])))
          ∙ ap (λ (t : Bool). t || meets_some q (r ∷ [])) (is.meeting q)
          ∙ sym (both-meet q done (r ∷ []));
      counted = λ call.
          let a : calls call (all_but fresh (done ++ r ∷ [])) ≡ calls call (all_but fresh done) + calls call (r ∷ []) = ap (calls call) left ∙ calls-append call (all_but fresh done) (r ∷ []) in
          let b : calls call (done ++ r ∷ []) ≡ calls call done + calls call (r ∷ []) = calls-append call done (r ∷ []) in
          let c : calls call fresh + calls call (all_but fresh done) ≡ calls call done = is.counted call in
          omega arith;
    }

-- one request more is admitted
pub admitted-goes : (active done fresh : List TokenRequest) (r : TokenRequest) → IsAdmitted active done fresh → calls r.call done ≡ 0 → (meets_some r active || meets_some r done) ≡ false → IsAdmitted active (done ++ r ∷ []) (fresh ++ r ∷ [])
admitted-goes active done fresh r is none goes =
    let left : all_but (fresh ++ r ∷ []) (done ++ r ∷ []) ≡ all_but fresh done = gone in
    record {
      comes = admitted-more active (active ++ fresh) (all_but fresh done) done r false is.comes (tested active done fresh r false is goes) ∙ (λ i. let p : Lists = (append_assoc active fresh (r ∷ []) i, all_but fresh done) in p) ∙ sym (λ i. let p : Lists = (active ++ (fresh ++ r ∷ []), left i) in p);
      meeting = λ q.
          ap (λ (xs : List TokenRequest). meets_some q (fresh ++ r ∷ []) || meets_some q xs) left
          ∙ ap (λ (t : Bool). t || meets_some q (all_but fresh done)) (both-meet q fresh (r ∷ []))
          ∙ or-turn (meets_some q fresh) (meets_some q (r ∷ [])) (meets_some q (all_but fresh done))
          ∙ ap (λ (t : Bool). t || meets_some q (r ∷ [])) (is.meeting q)
          ∙ sym (both-meet q done (r ∷ []));
      counted = λ call.
          let a : calls call (all_but (fresh ++ r ∷ []) (done ++ r ∷ [])) ≡ calls call (all_but fresh done) = ap (calls call) left in
          let b : calls call (done ++ r ∷ []) ≡ calls call done + calls call (r ∷ []) = calls-append call done (r ∷ []) in
          let d : calls call (fresh ++ r ∷ []) ≡ calls call fresh + calls call (r ∷ []) = calls-append call fresh (r ∷ []) in
          let c : calls call fresh + calls call (all_but fresh done) ≡ calls call done = is.counted call in
          omega arith;
    }
  where
    own : has_call_of (fresh ++ r ∷ []) r ≡ true
    own = list_any-append (is_of_call r.call) fresh (r ∷ []) ∙ or_true (has_call_of fresh r) (is_of_call r.call r) (here r.call)
      where
        here : (c : CallId) → same_call c c ≡ true
        here c = same c.node c.incarnation c.number
          where
            eq : (k : ℕ) → k == k ≡ true
            eq k = elim (eqb_tells k k) [ inl same ↦ same.0 | inr other ↦ absurd (other.1 refl) ]

            same : (a b c : ℕ) → ((a == a) && ((b == b) && (c == c))) ≡ true
            same a b c = λ i. eq a i && (eq b i && eq c i)

        or_true : (a b : Bool) → b ≡ true → (a || (b || false)) ≡ true
        or_true true b h = refl
        or_true false b h = or-end b ∙ h

    gone : all_but (fresh ++ r ∷ []) (done ++ r ∷ []) ≡ all_but fresh done
    gone =
        filter-append (λ q. not (has_call_of (fresh ++ r ∷ []) q)) done (r ∷ [])
        ∙ ap (λ (b : Bool). all_but (fresh ++ r ∷ []) done ++ cond (not b) (r ∷ []) []) own
        ∙ append-nil (all_but (fresh ++ r ∷ []) done)
        ∙ all_but-more fresh done r none

-- after the admission each request that stays needs a byte of an active one, or of one before it
pub admitted-leaves : (active done fresh : List TokenRequest) → IsAdmitted active done fresh → Stay (active ++ fresh) [] (all_but fresh done)
admitted-leaves active done fresh is = subst (λ (p : Lists). Stay p.0 [] p.1) is.comes (admitted-stay active [] done tt)

pub meets-flip : (s t : Range) → meets s t ≡ meets t s
meets-flip s t = and-turn (nat_le s.lo t.hi) (nat_le t.lo s.hi)
  where
    and-turn : (a b : Bool) → (a && b) ≡ (b && a)
    and-turn true true = refl
    and-turn true false = refl
    and-turn false true = refl
    and-turn false false = refl

pub apart-push : (rs : List TokenRequest) (r : TokenRequest) → are_apart rs ≡ true → meets_some r rs ≡ false → are_apart (rs ++ r ∷ []) ≡ true
apart-push [] r apart none = refl
apart-push (q ∷ rs) r apart none =
    let parts = and_parts (not (meets_some q rs)) (are_apart rs) apart in
    let here = neither (meets r.wanted.required q.wanted.required) (meets_some r rs) none in
    let clear : meets_some q (rs ++ r ∷ []) ≡ false =
    both-meet q rs (r ∷ [])
    ∙ ap (λ (b : Bool). meets_some q rs || (b || false)) (meets-flip q.wanted.required r.wanted.required ∙ here.0)
    ∙ or-end (meets_some q rs)
    ∙ not-true (meets_some q rs) parts.0 in
    and_from (not (meets_some q (rs ++ r ∷ []))) (are_apart (rs ++ r ∷ [])) (ap not clear) (apart-push rs r parts.1 here.1)

-- no two active requests need a byte in common after the admission
pub apart-admitted : (active staying queue : List TokenRequest) → are_apart active ≡ true → are_apart (admitted active staying queue).0 ≡ true
apart-admitted active staying [] apart = apart
apart-admitted active staying (r ∷ rest) apart =
    by (meets_some r active) (meets_some r staying) refl (apart-admitted active (staying ++ r ∷ []) rest apart) (λ none. apart-admitted (active ++ r ∷ []) staying rest (apart-push active r apart none))
  where
    Apart : Lists → Type 0
    Apart next = are_apart next.0 ≡ true

    by : (a b : Bool) → meets_some r active ≡ a → Apart (admitted active (staying ++ r ∷ []) rest) → (meets_some r active ≡ false → Apart (admitted (active ++ r ∷ []) staying rest)) → Apart (cond (a || b) (admitted active (staying ++ r ∷ []) rest) (admitted (active ++ r ∷ []) staying rest))
    by true b is stays goes = stays
    by false true is stays goes = stays
    by false false is stays goes = goes is

pub admitted-keeps_apart : (active done fresh : List TokenRequest) → IsAdmitted active done fresh → are_apart active ≡ true → are_apart (active ++ fresh) ≡ true
admitted-keeps_apart active done fresh is apart = subst (λ (p : Lists). are_apart p.0 ≡ true) is.comes (apart-admitted active [] done apart)

-- where a request needs no byte of these, it needs none of a part of them
meets-fewer : (r : TokenRequest) (p : TokenRequest → Bool) (rs : List TokenRequest) → meets_some r rs ≡ false → meets_some r (filter p rs) ≡ false
meets-fewer r p [] none = refl
meets-fewer r p (q ∷ rs) none =
    let parts = neither (meets r.wanted.required q.wanted.required) (meets_some r rs) none in
    let rest = meets-fewer r p rs parts.1 in
    elim (p q) as (λ b. meets_some r (cond b (q ∷ filter p rs) (filter p rs)) ≡ false) [
      | true ↦ ap (λ (t : Bool). t || meets_some r (filter p rs)) parts.0 ∙ rest
      | false ↦ rest
    ]

pub apart-fewer : (p : TokenRequest → Bool) (rs : List TokenRequest) → are_apart rs ≡ true → are_apart (filter p rs) ≡ true
apart-fewer p [] apart = refl
apart-fewer p (r ∷ rs) apart =
    let parts = and_parts (not (meets_some r rs)) (are_apart rs) apart in
    let rest = apart-fewer p rs parts.1 in
    let none = meets-fewer r p rs (not-true (meets_some r rs) parts.0) in
    elim (p r) as (λ b. are_apart (cond b (r ∷ filter p rs) (filter p rs)) ≡ true) [
      | true ↦ and_from (not (meets_some r (filter p rs))) (are_apart (filter p rs)) (ap not none) rest
      | false ↦ rest
    ]

-- removing the call of one admitted request more
pub all_but-push : (fresh rs : List TokenRequest) (x : TokenRequest) → all_but (fresh ++ x ∷ []) rs ≡ filter (λ r. not (is_of_call x.call r)) (all_but fresh rs)
all_but-push fresh [] x = refl
all_but-push fresh (r ∷ rs) x = by (has_call_of fresh r) (is_of_call x.call r) refl test (all_but-push fresh rs x)
  where
    test : has_call_of (fresh ++ x ∷ []) r ≡ (has_call_of fresh r || (is_of_call x.call r || false))
    test = list_any-append (is_of_call r.call) fresh (x ∷ []) ∙ ap (λ (b : Bool). has_call_of fresh r || (b || false)) (same_call-flip x.call r.call)

    rest : List TokenRequest
    rest = all_but fresh rs

    Left : List TokenRequest → List TokenRequest
    Left qs = filter (λ q. not (is_of_call x.call q)) qs

    by : (f o : Bool) → is_of_call x.call r ≡ o → has_call_of (fresh ++ x ∷ []) r ≡ (f || (o || false)) → all_but (fresh ++ x ∷ []) rs ≡ Left rest → cond (not (has_call_of (fresh ++ x ∷ []) r)) (r ∷ all_but (fresh ++ x ∷ []) rs) (all_but (fresh ++ x ∷ []) rs) ≡ Left (cond (not f) (r ∷ rest) rest)
    by true o own is more = ap (λ (b : Bool). cond (not b) (r ∷ all_but (fresh ++ x ∷ []) rs) (all_but (fresh ++ x ∷ []) rs)) is ∙ more
    by false true own is more =
        ap (λ (b : Bool). cond (not b) (r ∷ all_but (fresh ++ x ∷ []) rs) (all_but (fresh ++ x ∷ []) rs)) is
        ∙ more
        ∙ sym (ap (λ (b : Bool). cond (not b) (r ∷ Left rest) (Left rest)) own)
    by false false own is more =
        ap (λ (b : Bool). cond (not b) (r ∷ all_but (fresh ++ x ∷ []) rs) (all_but (fresh ++ x ∷ []) rs)) is
        ∙ ap (λ (qs : List TokenRequest). r ∷ qs) more
        ∙ sym (ap (λ (b : Bool). cond (not b) (r ∷ Left rest) (Left rest)) own)

-- a call that has a request has no other before it, where calls are distinct
pub distinct-before : (done rest : List TokenRequest) (r : TokenRequest) → AreDistinct (done ++ r ∷ rest) → is_of_call r.call r ≡ true → calls r.call done ≡ 0
distinct-before done rest r distinct own =
    let a : calls r.call (done ++ r ∷ rest) ≡ calls r.call done + calls r.call (r ∷ rest) = calls-append r.call done (r ∷ rest) in
    let b : calls r.call (r ∷ rest) ≡ 1 + calls r.call rest = calls-cons r.call r rest ∙ ap (λ (t : Bool). cond t 1 0 + calls r.call rest) own in
    let c : calls r.call (done ++ r ∷ rest) ≤ 1 = distinct r.call in
    omega arith

-- who stays beside some active requests stays beside others that need the same bytes
pub stay-same : (active others before queue : List TokenRequest) → ((r : TokenRequest) → meets_some r active ≡ meets_some r others) → Stay active before queue → Stay others before queue
stay-same active others before [] same all = tt
stay-same active others before (r ∷ rest) same all =
    (ap (λ (b : Bool). b || meets_some r before) (sym (same r)) ∙ all.0, stay-same active others (before ++ r ∷ []) rest same all.1)

-- each request of those that stay needs a byte of an active one, or of one before it
pub stay-at : (active before done rest : List TokenRequest) (r : TokenRequest) → Stay active before (done ++ r ∷ rest) → (meets_some r active || meets_some r (before ++ done)) ≡ true
stay-at active before [] rest r all = ap (λ (xs : List TokenRequest). meets_some r active || meets_some r xs) (append-nil before) ∙ all.0
stay-at active before (q ∷ done) rest r all =
    ap (λ (xs : List TokenRequest). meets_some r active || meets_some r xs) (sym (append_assoc before (q ∷ []) done)) ∙ stay-at active (before ++ q ∷ []) done rest r all.1

-- behind some that stay, the others stay
pub stay-behind : (active before done rest : List TokenRequest) → Stay active before (done ++ rest) → Stay active (before ++ done) rest
stay-behind active before [] rest all = subst (λ (xs : List TokenRequest). Stay active xs rest) (sym (append-nil before)) all
stay-behind active before (q ∷ done) rest all =
    subst (λ (xs : List TokenRequest). Stay active xs rest) (append_assoc before (q ∷ []) done) (stay-behind active (before ++ q ∷ []) done rest all.1)

-- where requests before them need all bytes of the ended one, requests stay without it
pub stay-covered : (active : List TokenRequest) (ended : TokenRequest) (before queue : List TokenRequest) → ((r : TokenRequest) → meets r.wanted.required ended.wanted.required ≡ true → meets_some r before ≡ true) → Stay (active ++ ended ∷ []) before queue → Stay active before queue
stay-covered active ended before [] cover all = tt
stay-covered active ended before (r ∷ rest) cover all =
    (by (meets_some r active) (meets r.wanted.required ended.wanted.required) refl (sym (ap (λ (b : Bool). b || meets_some r before) (both-meet r active (ended ∷ []))) ∙ all.0), stay-covered active ended (before ++ r ∷ []) rest more all.1)
  where
    by : (a e : Bool) → meets r.wanted.required ended.wanted.required ≡ e → ((a || (e || false)) || meets_some r before) ≡ true → (a || meets_some r before) ≡ true
    by true e is h = refl
    by false true is h = cover r is
    by false false is h = h

    more : (q : TokenRequest) → meets q.wanted.required ended.wanted.required ≡ true → meets_some q (before ++ r ∷ []) ≡ true
    more q h = both-meet q before (r ∷ []) ∙ ap (λ (b : Bool). b || meets_some q (r ∷ [])) (cover q h)

-- the rest of the queue stays, and none of it is admitted
pub admitted-rest : (active done rest fresh : List TokenRequest) → ((r : TokenRequest) → is_of_call r.call r ≡ true) → AreDistinct (done ++ rest) → IsAdmitted active done fresh → Stay active done rest → IsAdmitted active (done ++ rest) fresh
admitted-rest active done [] fresh own distinct is all = subst (λ (xs : List TokenRequest). IsAdmitted active xs fresh) (sym (append-nil done)) is
admitted-rest active done (r ∷ rest) fresh own distinct is all =
    let next = append_assoc done (r ∷ []) rest in
    let one = admitted-stays active done fresh r is (distinct-before done rest r distinct (own r)) all.0 in
    subst (λ (xs : List TokenRequest). IsAdmitted active xs fresh) next (admitted-rest active (done ++ r ∷ []) rest fresh own (subst AreDistinct (sym next) distinct) one all.1)

-- a span that contains another one meets all that it meets
pub meets-within : (s t u : Range) → t.lo ≤ u.lo → u.hi ≤ t.hi → meets s u ≡ true → meets s t ≡ true
meets-within s t u starts ends both =
    let parts = and_parts (nat_le s.lo u.hi) (nat_le u.lo s.hi) both in
    let a : s.lo ≤ u.hi = leb-true s.lo u.hi parts.0 in
    let b : u.lo ≤ s.hi = leb-true u.lo s.hi parts.1 in
    and_from (nat_le s.lo t.hi) (nat_le t.lo s.hi) (le-leb s.lo t.hi (omega arith)) (le-leb t.lo s.hi (omega arith))

-- the active requests need the same bytes with the ended one moved to the end
pub ended-meets : (call : CallId) (active : List TokenRequest) (ended : TokenRequest) → calls call active ≤ 1 → find (is_of_call call) active ≡ Some ended → (r : TokenRequest) → meets_some r active ≡ meets_some r (filter (λ q. not (is_of_call call q)) active ++ ended ∷ [])
ended-meets call [] ended few found r = absurd (cc)
ended-meets call (q ∷ rest) ended few found r = by (is_of_call call q) refl few_cons found (ended-meets call rest ended)
  where
    left : List TokenRequest
    left = filter (λ q. not (is_of_call call q)) rest

    few_cons : cond (is_of_call call q) 1 0 + calls call rest ≤ 1
    few_cons = let e : calls call (q ∷ rest) ≡ cond (is_of_call call q) 1 0 + calls call rest = calls-cons call q rest in omega arith

    M : TokenRequest → Bool
    M x = meets r.wanted.required x.wanted.required

    -- where no request is of the call, removing the call's keeps all
    none : (xs : List TokenRequest) → calls call xs ≡ 0 → filter (λ q. not (is_of_call call q)) xs ≡ xs
    none [] h = refl
    none (x ∷ xs) h = go (is_of_call call x) (sym (calls-cons call x xs) ∙ h) (none xs)
      where
        go : (b : Bool) → cond b 1 0 + calls call xs ≡ 0 → (calls call xs ≡ 0 → filter (λ q. not (is_of_call call q)) xs ≡ xs) → cond (not b) (x ∷ filter (λ q. not (is_of_call call q)) xs) (filter (λ q. not (is_of_call call q)) xs) ≡ x ∷ xs
        go true h rest = absurd (omega arith)
        go false h rest = ap (λ (ys : List TokenRequest). x ∷ ys) (rest (omega arith))

    or-last : (a b : Bool) → (a || b) ≡ (b || (a || false))
    or-last true true = refl
    or-last true false = refl
    or-last false true = refl
    or-last false false = refl

    by : (b : Bool) → is_of_call call q ≡ b → cond b 1 0 + calls call rest ≤ 1 → cond b (Some q) (find (is_of_call call) rest) ≡ Some ended → (calls call rest ≤ 1 → find (is_of_call call) rest ≡ Some ended → (r : TokenRequest) → meets_some r rest ≡ meets_some r (left ++ ended ∷ [])) → (M q || meets_some r rest) ≡ meets_some r (cond (not b) (q ∷ left) left ++ ended ∷ [])
    by true is few found more =
        let here : q ≡ ended = cc in
        or-last (M q) (meets_some r rest)
        ∙ ap (λ (x : TokenRequest). meets_some r rest || (M x || false)) here
        ∙ sym (both-meet r rest (ended ∷ []))
        ∙ ap (λ (xs : List TokenRequest). meets_some r (xs ++ ended ∷ [])) (sym (none rest (omega arith)))
    by false is few found more = ap (λ (t : Bool). M q || t) (more (omega arith) found r)
