-- What the stored members say of a node, and how rules change them.
use Rattle.std.specs.Prelude.{◌==◌, slice_set, slice_index_or, ◌-◌}
use Rattle.std.proofs.Common.{◌≡◌, ℕ, Bool, true, false, if◌then◌else◌, refl, zero, suc, ◌+◌, ◌<◌, ◌≤◌, sym, ◌∙◌, ap, subst, arith, List, [], ◌∷◌, ◌++◌, length, length-append, not, nat_le, nat_lt, ◌&&◌, Some, None, Result, Ok, Err}
use Rattle.std.proofs.lemmas.Bool.{eqb-true, eqb-false}
use Rattle.std.proofs.lemmas.Bool.Decides.{nat_tests}
use Rattle.messages.specs.rule.Messages.{is_within}
use Rattle.messages.specs.rule.Members.{numbered, IsRest, MembersState, most_incarnations, first_members, live_incarnation, was_declared, with_declared, with_restarted, declared_failed, restarted, MemberParts, incarnation_of, alive_in, incarnation_in, members_state}
use Rattle.std.proofs.lemmas.List.{length-set}
use Rattle.messages.specs.declared.refusal.Refused.{Refused}
use Rattle.messages.specs.declared.refusal.Refused.TheVariants.{Stranger, NotAlive, NotDead, TooManyRestarts}

-- a statement that holds of both alternatives holds of the one that is chosen
pub if_either : {A : Type 0} (P : A → Type 0) (b : Bool) (x y : A) → P x → P y → P (if b then x else y)
if_either P true x y p q = p
if_either P false x y p q = q

-- a choice within a choice by one test is the outer choice alone
pub if_again : {A : Type 0} (b : Bool) (x y z : A) → (if b then x else z) ≡ (if b then x else (if b then y else z))
if_again true x y z = refl
if_again false x y z = refl

-- a statement about a test of two numbers holds if it holds in both cases
pub at_number : (m n : ℕ) (P : Bool → Type 0) → (m ≡ n → P true) → ((m ≡ n → ⊥) → P false) → P (m == n)
at_number m n P here there =
    elim (m == n) as (λ b. (m == n) ≡ b → P b) [ true ↦ λ h. here (eqb-true m n h) | false ↦ λ h. there (eqb-false m n h) ] refl

-- a number after `from` is not `from`
later : (from k : ℕ) → ((from + suc k) == from) ≡ false
later from k = grind (arith, nat_tests)

at_first : (from : ℕ) → ((from + 0) == from) ≡ true
at_first from = grind (arith, nat_tests)

onward : (from k : ℕ) → from + suc k ≡ from + 1 + k
onward from k = omega arith

pub numbered-read : {A B : Type 0} (f : A → B) (rest : ℕ → B) (from : ℕ) (xs : List A) (k : ℕ) (x : A) → k < length xs → x ≡ slice_index_or xs k x → numbered f rest from xs (from + k) ≡ f x
unfolding numbered
numbered-read f rest from [] k x lt is = absurd (omega arith)
numbered-read f rest from (y ∷ ys) zero x lt is =
    ap (λ (b : Bool). if b then f y else numbered f rest (from + 1) ys (from + 0)) (at_first from) ∙ ap f (sym is)
numbered-read f rest from (y ∷ ys) (suc k) x lt is =
    let lower : k < length ys = omega arith in
    ap (λ (b : Bool). if b then f y else numbered f rest (from + 1) ys (from + suc k)) (later from k)
    ∙ (ap (λ (n : ℕ). numbered f rest (from + 1) ys n) (onward from k) ∙ numbered-read f rest (from + 1) ys k x lower is)

swapped : {B : Type 0} (a b : Bool) (x y z : B) → (a ≡ true → b ≡ false) → (if a then y else (if b then x else z)) ≡ (if b then x else (if a then y else z))
swapped true true x y z apart = cc (apart refl)
swapped true false x y z apart = refl
swapped false true x y z apart = refl
swapped false false x y z apart = refl

apart : (n from k : ℕ) → (n == from) ≡ true → (n == from + suc k) ≡ false
apart n from k h = grind (arith, nat_tests, h)

pub numbered-set : {A B : Type 0} (f : A → B) (rest : ℕ → B) (from : ℕ) (xs : List A) (k : ℕ) (x : A) → k < length xs → (n : ℕ) → numbered f rest from (slice_set xs k x) n ≡ (if n == from + k then f x else numbered f rest from xs n)
unfolding numbered
numbered-set f rest from [] k x lt n = absurd (omega arith)
numbered-set f rest from (y ∷ ys) zero x lt n =
    if_again (n == from) (f x) (f y) (numbered f rest (from + 1) ys n)
    ∙ ap (λ (m : ℕ). if n == m then f x else (if n == from then f y else numbered f rest (from + 1) ys n)) (omega arith)
numbered-set f rest from (y ∷ ys) (suc k) x lt n =
    let lower : k < length ys = omega arith in
    ap (λ (z : _). if n == from then f y else z) (numbered-set f rest (from + 1) ys k x lower n)
    ∙ (ap (λ (m : ℕ). if n == from then f y else (if n == m then f x else numbered f rest (from + 1) ys n)) (sym (onward from k))
    ∙ swapped (n == from) (n == from + suc k) (f x) (f y) (numbered f rest (from + 1) ys n) (apart n from k))

pub numbered-push : {A B : Type 0} (f : A → B) (rest : ℕ → B) (from : ℕ) (xs : List A) (x : A) (n : ℕ) → numbered f rest from (xs ++ x ∷ []) n ≡ (if n == from + length xs then f x else numbered f rest from xs n)
unfolding numbered
numbered-push f rest from [] x n = ap (λ (m : ℕ). if n == m then f x else rest n) (omega arith)
numbered-push f rest from (y ∷ ys) x n =
    ap (λ (z : _). if n == from then f y else z) (numbered-push f rest (from + 1) ys x n)
    ∙ (ap (λ (m : ℕ). if n == from then f y else (if n == m then f x else numbered f rest (from + 1) ys n)) (sym (onward from (length ys)))
    ∙ swapped (n == from) (n == from + suc (length ys)) (f x) (f y) (numbered f rest (from + 1) ys n) (apart n from (length ys)))

-- the first i items of a list have the values of `rest`
pub record Begun {A B : Type 0} (f : A → B) (rest : ℕ → B) (xs : List A) (i : ℕ) : Type 0 where
  pub there : length xs ≡ i
  pub first : IsRest f rest xs

either : {B : Type 0} (b : Bool) (x y z : B) → (b ≡ true → x ≡ z) → y ≡ z → (if b then x else y) ≡ z
either true x y z same other = same refl
either false x y z same other = other

pub begun_empty : {A B : Type 0} (f : A → B) (rest : ℕ → B) → Begun f rest [] 0
unfolding numbered
begun_empty f rest = record { there = refl; first = λ n. refl }

pub begun_more : {A B : Type 0} (f : A → B) (rest : ℕ → B) (xs ys : List A) (i : ℕ) (x : A) → Begun f rest xs i → f x ≡ rest (i + 1) → ys ≡ xs ++ x ∷ [] → Begun f rest ys (i + 1)
begun_more f rest xs ys i x begun is made =
    let P : List _ → Type 0 = λ zs. Begun f rest zs (i + 1) in
    subst P (sym made) (record {
      there = simp length-append (omega (arith, begun.there));
      first = λ n.
          numbered-push f rest 1 xs x n
          ∙ either (n == 1 + length xs) (f x) (numbered f rest 1 xs n) (rest n)
          (λ h. is ∙ ap rest (next ∙ sym (eqb-true n (1 + length xs) h)))
          (begun.first n);
    })
  where
    next : i + 1 ≡ 1 + length xs
    next = omega (arith, begun.there)

pub within_is : (most n : ℕ) → is_within most n ≡ true → (1 ≤ n) × (n ≤ most)
within_is most n h = (grind (arith, nat_tests, h), grind (arith, nat_tests, h))

pub put_at : {A B : Type 0} (f : A → B) (rest : ℕ → B) (xs : List A) (n : ℕ) (x : A) → 1 ≤ n → n ≤ length xs → (m : ℕ) → numbered f rest 1 (slice_set xs (n - 1) x) m ≡ (if m == n then f x else numbered f rest 1 xs m)
put_at f rest xs n x least most m =
    let place : n - 1 < length xs = omega arith in
    let number : 1 + (n - 1) ≡ n = omega arith in
    numbered-set f rest 1 xs (n - 1) x place m ∙ ap (λ (k : ℕ). if m == k then f x else numbered f rest 1 xs m) number

pub read_number : {A B : Type 0} (f : A → B) (rest : ℕ → B) (xs : List A) (n : ℕ) (x : A) → 1 ≤ n → n ≤ length xs → x ≡ slice_index_or xs (n - 1) x → numbered f rest 1 xs n ≡ f x
read_number f rest xs n x least most is =
    let place : n - 1 < length xs = omega arith in
    let number : 1 + (n - 1) ≡ n = omega arith in
    ap (λ (k : ℕ). numbered f rest 1 xs k) (sym number) ∙ numbered-read f rest 1 xs (n - 1) x place is

-- a number outside the list has the value of `rest`
pub numbered-outside : {A B : Type 0} (f : A → B) (rest : ℕ → B) (from : ℕ) (xs : List A) (n : ℕ) → (from ≤ n → from + length xs ≤ n) → numbered f rest from xs n ≡ rest n
unfolding numbered
numbered-outside f rest from [] n out = refl
numbered-outside f rest from (x ∷ xs) n out =
    at_number n from (λ b. (if b then f x else numbered f rest (from + 1) xs n) ≡ rest n)
    (λ here. absurd (omega arith))
    (λ other. numbered-outside f rest (from + 1) xs n (λ above. omega arith))

abbrev member : Bool → ℕ → MemberParts
member alive last = record { alive = alive; last = last }

-- the stored members, opened, with the one at a node's place
module _ (ms now : List MemberParts) (view : ms ≡ now) (n : ℕ) (has : is_within (length now) n ≡ true) where
  has_before : is_within (length ms) n ≡ true
  has_before = subst (λ (xs : List MemberParts). is_within (length xs) n ≡ true) (sym view) has

  least : 1 ≤ n
  least = (within_is (length ms) n has_before).0

  most : n ≤ length ms
  most = (within_is (length ms) n has_before).1

  -- another member is put at the node's place
  module _ (b : Bool) (k : ℕ) where
    abbrev put : List MemberParts
    put = slice_set ms (n - 1) (member b k)

    put_alive : (m : ℕ) → alive_in put m ≡ (if m == n then b else alive_in ms m)
    put_alive m = put_at (λ x. x.alive) (λ k. true) ms n (member b k) least most m

    put_incarnation : (m : ℕ) → incarnation_in put m ≡ (if m == n then incarnation_of b k else incarnation_in ms m)
    put_incarnation m = put_at (λ x. incarnation_of x.alive x.last) (λ k. 1) ms n (member b k) least most m

  module _ (a : Bool) (last : ℕ) (x : MemberParts) (opened : member a last ≡ x) (there : x ≡ slice_index_or ms (n - 1) x) where
    alive_is : alive_in now n ≡ a
    alive_is = ap (λ (xs : List MemberParts). alive_in xs n) (sym view) ∙ (read_number (λ y. y.alive) (λ k. true) ms n x least most there ∙ ap (λ (y : MemberParts). y.alive) (sym opened))

    pub incarnation_is : (b : Bool) → a ≡ b → incarnation_in now n ≡ incarnation_of b last
    incarnation_is b h =
        ap (λ (xs : List MemberParts). incarnation_in xs n) (sym view)
        ∙ (read_number (λ y. incarnation_of y.alive y.last) (λ k. 1) ms n x least most there
        ∙ (ap (λ (y : MemberParts). incarnation_of y.alive y.last) (sym opened) ∙ ap (λ (c : Bool). incarnation_of c last) h))

    pub live_is : (b : Bool) → a ≡ b → live_incarnation (members_state now) n ≡ (if b then Some last else None)
    live_is true h = λ i. if has i && (alive_is ∙ h) i then Some (incarnation_is true h i) else None
    live_is false h = λ i. if has i && (alive_is ∙ h) i then Some (incarnation_is false h i) else None

    pub declared_is : (b : Bool) → a ≡ b → (i : ℕ) → was_declared (members_state now) n i ≡ (nat_le 1 i && nat_lt i (incarnation_of b last))
    declared_is b h i = λ j. has j && (nat_le 1 i && nat_lt i (incarnation_is b h j))

    pub not_alive : a ≡ false → declared_failed (members_state now) n ≡ Err NotAlive
    not_alive h = λ i. if not (has i) then Err Stranger else (if (alive_is ∙ h) i then Ok (with_declared (members_state now) n, incarnation_in now n) else Err NotAlive)

    pub fails : a ≡ true → declared_failed (members_state now) n ≡ Ok (members_state (put false last), last)
    fails h =
        (λ i. if not (has i) then Err Stranger else (if (alive_is ∙ h) i then Ok (with_declared (members_state now) n, incarnation_is true h i) else Err NotAlive))
        ∙ (λ i. Ok (sym made i, last))
      where
        made : members_state (put false last) ≡ with_declared (members_state now) n
        made = λ i. record {
          nodes = (length-set ms (n - 1) (member false last) ∙ ap (λ (xs : List MemberParts). length xs) view) i;
          alive = λ m. (put_alive false last m ∙ ap (λ (xs : List MemberParts). if m == n then false else alive_in xs m) view) i;
          incarnation = λ m. (put_incarnation false last m ∙ ((λ j. if m == n then sym (incarnation_is true h) j + 1 else incarnation_in ms m) ∙ ap (λ (xs : List MemberParts). if m == n then incarnation_in now n + 1 else incarnation_in xs m) view)) i;
        }

    pub not_dead : a ≡ true → restarted (members_state now) n ≡ Err NotDead
    not_dead h = λ i. if not (has i) then Err Stranger else (if (alive_is ∙ h) i then Err NotDead else (if nat_le (incarnation_in now n) most_incarnations then Ok (with_restarted (members_state now) n, incarnation_in now n) else Err TooManyRestarts))

    dead : a ≡ false → restarted (members_state now) n ≡ (if nat_le (last + 1) most_incarnations then Ok (with_restarted (members_state now) n, last + 1) else Err TooManyRestarts)
    dead h = λ i. if not (has i) then Err Stranger else (if (alive_is ∙ h) i then Err NotDead else (if nat_le (incarnation_is false h i) most_incarnations then Ok (with_restarted (members_state now) n, incarnation_is false h i) else Err TooManyRestarts))

    few : (k : ℕ) → k < 65535 → nat_le (k + 1) 65535 ≡ true
    few k h = grind (arith, nat_tests)

    pub none_left : a ≡ false → last ≡ 65535 → restarted (members_state now) n ≡ Err TooManyRestarts
    none_left h is = dead h ∙ ap (λ (k : ℕ). if nat_le (k + 1) most_incarnations then Ok (with_restarted (members_state now) n, k + 1) else Err TooManyRestarts) is

    pub restarts_next : a ≡ false → last < 65535 → restarted (members_state now) n ≡ Ok (with_restarted (members_state now) n, last + 1)
    restarts_next h lt = dead h ∙ ap (λ (b : Bool). if b then Ok (with_restarted (members_state now) n, last + 1) else Err TooManyRestarts) (few last lt)

-- a declaration that isn't refused is of a member that is alive, and gives this result
pub declaration : {A : Type 0} (a b : Bool) (t r : A) → (let x : Result A Refused = if not a then Err Stranger else (if b then Ok t else Err NotAlive) in x ≡ Ok r) → (a ≡ true) × (b ≡ true) × (t ≡ r)
declaration true true t r h = (refl, refl, cc)
declaration true false t r h = absurd (cc)
declaration false b t r h = absurd (cc)

-- a restart that isn't refused is of a member that isn't alive and has an incarnation left, and gives this result
pub restart : {A : Type 0} (a b c : Bool) (t r : A) → (let x : Result A Refused = if not a then Err Stranger else (if b then Err NotDead else (if c then Ok t else Err TooManyRestarts)) in x ≡ Ok r) → (a ≡ true) × (b ≡ false) × (c ≡ true) × (t ≡ r)
restart true true c t r h = absurd (cc)
restart true false true t r h = (refl, refl, refl, cc)
restart true false false t r h = absurd (cc)
restart false b c t r h = absurd (cc)

-- the members after a restart
pub restarts : (ms now : List MemberParts) (n k : ℕ) → ms ≡ now → restarted (members_state now) n ≡ Ok (with_restarted (members_state now) n, k) → restarted (members_state now) n ≡ Ok (members_state (slice_set ms (n - 1) (record { alive = true; last = k })), k)
restarts ms now n k view done =
    let right = restart (is_within (length now) n) (alive_in now n) (nat_le (incarnation_in now n) most_incarnations) (with_restarted (members_state now) n, incarnation_in now n) (with_restarted (members_state now) n, k) done in
    let same : incarnation_in now n ≡ k = ap (λ (r : MembersState × ℕ). r.1) right.3 in
    done ∙ (λ i. Ok (sym (made right.0 same) i, k))
  where
    stays : (m : ℕ) → incarnation_in now n ≡ k → (if m == n then k else incarnation_in now m) ≡ incarnation_in now m
    stays m same = at_number m n (λ b. (if b then k else incarnation_in now m) ≡ incarnation_in now m) (λ is. sym (ap (incarnation_in now) is ∙ same)) (λ other. refl)

    made : is_within (length now) n ≡ true → incarnation_in now n ≡ k → members_state (slice_set ms (n - 1) (record { alive = true; last = k })) ≡ with_restarted (members_state now) n
    made has same = λ i. record {
      nodes = (length-set ms (n - 1) (member true k) ∙ ap (λ (xs : List MemberParts). length xs) view) i;
      alive = λ m. (put_alive ms now view n has true k m ∙ ap (λ (xs : List MemberParts). if m == n then true else alive_in xs m) view) i;
      incarnation = λ m. (put_incarnation ms now view n has true k m ∙ (ap (λ (xs : List MemberParts). if m == n then k else incarnation_in xs m) view ∙ stays m same)) i;
    }

-- the members of a cluster that begins
pub first_is_first : (ms : List MemberParts) (nodes : ℕ) → length ms ≡ nodes → IsRest (λ m. m.alive) (λ n. true) ms → IsRest (λ m. incarnation_of m.alive m.last) (λ n. 1) ms → members_state ms ≡ first_members nodes
first_is_first ms nodes there alive first = λ i. record { nodes = there i; alive = λ n. alive n i; incarnation = λ n. first n i }

-- no incarnation was declared failed of a node that the cluster doesn't have
pub none_declared : (ms : List MemberParts) (n : ℕ) → is_within (length ms) n ≡ false → 0 ≡ incarnation_in ms n - 1
none_declared ms n out =
    let first : incarnation_in ms n ≡ 1 = numbered-outside (λ y. incarnation_of y.alive y.last) (λ k. 1) 1 ms n (λ least. grind (arith, nat_tests, out)) in
    sym (ap (λ (k : ℕ). k - 1) first)
