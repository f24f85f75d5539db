-- The index of the messages that were sent, as messages are added.
use Rattle.std.proofs.Common.{◌≡◌, ℕ, zero, suc, ◌+◌, ◌<◌, ◌≤◌, Bool, true, false, cond, ◌||◌, ◌⊎◌, nat_eq, refl, sym, ◌∙◌, ap, subst, arith, List, [], ◌∷◌, ◌++◌, length, take, get_or, slice_get, All, Option, Some, None, is_some}
use Rattle.std.proofs.Math.Bool.{or_comm}
use Rattle.std.proofs.Math.Seq.{take-append_seam}
use Rattle.std.proofs.lemmas.Bool.{or_cases, or_left, or_right, both_ways, eqb-true, eq-eqb}
use Rattle.std.proofs.lemmas.List.{take_all, take_more}
use Rattle.std.proofs.lemmas.List.Folds.{list_any-append}
use Rattle.std.proofs.lemmas.List.Elements.{All-head, All-tail, All-push, All-weaker}
use Rattle.std.proofs.lemmas.Option.{get_or_from_slice_get, slice_get_within, slice_get_past, slice_get-get_or}
use Rattle.std.specs.Prelude.{IsTrue, ◌↔◌}
use Rattle.std.specs.HashMap.{get, Updates as Places_Updates}
use Rattle.messages.specs.declared.message.Message.{Message}
use Rattle.messages.specs.rule.Messages.{same_message, is_among}
use Rattle.messages.proofs.SameMessages.{same_message-is-equality}
use Rattle.cluster_core.specs.code.Changes.{Places, Others, fingerprint, is_this, stands_at, stands_among, has, KnowsFirst, Knows, SaysTheSame}

pub is_among-append : (xs ys : List Message) (m : Message) → is_among (xs ++ ys) m ≡ (is_among xs m || is_among ys m)
is_among-append xs ys m = list_any-append (same_message m) xs ys

pub sent_before : (xs ys : List Message) (m : Message) → is_among xs m ≡ true → is_among (xs ++ ys) m ≡ true
sent_before xs ys m h = is_among-append xs ys m ∙ or_left (is_among xs m) (is_among ys m) h

pub sent_now : (xs ys : List Message) (m : Message) → is_among ys m ≡ true → is_among (xs ++ ys) m ≡ true
sent_now xs ys m h = is_among-append xs ys m ∙ or_right (is_among xs m) (is_among ys m) h

pub sent_either : (xs ys : List Message) (m : Message) → is_among (xs ++ ys) m ≡ true → (is_among xs m ≡ true) ⊎ (is_among ys m ≡ true)
sent_either xs ys m h = or_cases (is_among xs m) (is_among ys m) (sym (is_among-append xs ys m) ∙ h)

-- a message at a place is among those that were sent
pub among_there : (sent : List Message) (k : ℕ) (m : Message) → slice_get sent k ≡ Some m → is_among sent m ≡ true
among_there [] k m there = let lt = slice_get_within [] k m there in absurd (omega arith)
among_there (x ∷ xs) zero m there =
    let same : x ≡ m = cc in
    or_left (same_message m x) (is_among xs m) ((same_message-is-equality m x).1 (sym same))
among_there (x ∷ xs) (suc k) m there = or_right (same_message m x) (is_among xs m) (among_there xs k m there)

-- what the index has of one message
same_truth : (r s : Bool) → (r ≡ true → s ≡ true) → (s ≡ true → r ≡ true) → r ≡ s
same_truth true s f g = sym (f refl)
same_truth false true f g = g refl
same_truth false false f g = refl

pub told_same : (m other : Message) (r : Bool) → IsTrue r ↔ (other ≡ m) → r ≡ same_message m other
told_same m other r same =
    same_truth r (same_message m other) (λ yes. (same_message-is-equality m other).1 (sym (same.0 yes))) (λ yes. same.1 (sym ((same_message-is-equality m other).0 yes)))

pub stands_there : (sent : List Message) (m other : Message) (k : ℕ) (o : Option ℕ) (r : Bool) → o ≡ Some k → slice_get sent k ≡ Some other → r ≡ same_message m other → r ≡ stands_at sent m o
stands_there sent m other k o r found there same = same ∙ (ap (is_this m) (sym there) ∙ ap (stands_at sent m) (sym found))

pub stands_nowhere : (sent : List Message) (m : Message) (k : ℕ) (o : Option ℕ) → o ≡ Some k → length sent ≤ k → false ≡ stands_at sent m o
stands_nowhere sent m k o found past = ap (is_this m) (sym (slice_get_past sent k past)) ∙ ap (stands_at sent m) (sym found)

not_found : (x : Option ℕ) → is_some x ≡ false → x ≡ None
not_found None h = refl
not_found (Some x) h = absurd (cc)

pub read_there : (sent : List Message) (i : ℕ) (m : Message) → i < length sent → m ≡ get_or sent i m → slice_get sent i ≡ Some m
read_there sent i m lt is = slice_get-get_or sent i m lt ∙ ap (λ (x : Message). Some x) (sym is)

-- a message that is read at a place is there
pub get_there : (sent : List Message) (i : ℕ) (m : Message) (own : Message) → i < length sent → m ≡ own → own ≡ get_or sent i own → slice_get sent i ≡ Some m
get_there sent i m own lt same is = subst (λ (x : Message). slice_get sent i ≡ Some x) (sym same) (read_there sent i own lt is)

-- the first n + 1 messages
module _ (places : Places) (others : Others) (sent : List Message) (n : ℕ) (m : Message) (there : slice_get sent n ≡ Some m) (known : KnowsFirst places others sent n) where
  grown : take (n + 1) sent ≡ take n sent ++ m ∷ []
  grown = take_more sent n m (slice_get_within sent n m there) ∙ ap (λ (x : Message). take n sent ++ x ∷ []) (get_or_from_slice_get sent n m m there)

  one_more : (q : Message) → is_among (take (n + 1) sent) q ≡ (is_among (take n sent) q || (same_message q m || false))
  one_more q = ap (λ (xs : List Message). is_among xs q) grown ∙ is_among-append (take n sent) (m ∷ []) q

  -- a message that the index has
  has_it : (q : Message) (b a : Bool) → same_message q m ≡ b → is_among (take n sent) q ≡ a → (same_message q m ≡ true → a ≡ true) → a ≡ (a || (b || false))
  has_it q true a same is there_too = there_too same ∙ sym (or_right a true refl)
  has_it q false true same is there_too = refl
  has_it q false false same is there_too = refl

  later : All (λ k. k < n + 1) others
  later = All-weaker (λ k. k < n) (λ k. k < n + 1) (λ k lt. omega arith) others known.others_before

  pub knows_known : has places others sent m ≡ true → KnowsFirst places others sent (n + 1)
  knows_known is_known = record {
    finds = λ q.
        let P : Message → Type 0 = λ x. is_among (take n sent) x ≡ true in
        known.finds q
        ∙ (has_it q (same_message q m) (is_among (take n sent) q) refl refl (λ same. subst P (sym ((same_message-is-equality q m).0 same)) (sym (known.finds m) ∙ is_known))
        ∙ sym (one_more q));
    before = λ f k found. let lt = known.before f k found in omega arith;
    others_before = later;
  }

  pub knows_stands : (first : ℕ) → get nat_eq places (fingerprint m) ≡ Some first → stands_at sent m (Some first) ≡ true → KnowsFirst places others sent (n + 1)
  knows_stands first found stands =
      knows_known (or_left (stands_at sent m (get nat_eq places (fingerprint m))) (stands_among sent m others) (ap (stands_at sent m) found ∙ stands))

  -- a message that is put at the place for its fingerprint
  placed : (q : Message) (e b a c : Bool) (o : Option ℕ) → nat_eq (fingerprint m) (fingerprint q) ≡ e → same_message q m ≡ b → o ≡ get nat_eq places (fingerprint q) → (nat_eq (fingerprint m) (fingerprint q) ≡ true → o ≡ None) → (stands_at sent q o || c) ≡ a → (stands_at sent q (cond e (Some n) o) || c) ≡ (a || (b || false))
  placed q true b a c o at same is fresh found =
      ap (λ (x : Option Message). is_this q x || c) there
      ∙ (ap (λ (x : Bool). x || c) same
      ∙ (or_comm b c
      ∙ (or_end c b
      ∙ ap (λ (x : Bool). x || (b || false)) (ap (λ (x : Option ℕ). stands_at sent q x || c) (sym (fresh at)) ∙ found))))
    where
      or_end : (x y : Bool) → (x || y) ≡ (x || (y || false))
      or_end true y = refl
      or_end false true = refl
      or_end false false = refl
  placed q false true a c o at same is fresh found =
      absurd (both_ways (nat_eq (fingerprint m) (fingerprint q)) at (eq-eqb (fingerprint m) (fingerprint q) (ap fingerprint (sym ((same_message-is-equality q m).0 same)))))
  placed q false false a c o at same is fresh found = found ∙ by a
    where
      by : (x : Bool) → x ≡ (x || (false || false))
      by true = refl
      by false = refl

  knows_at : (next : Places) → get nat_eq places (fingerprint m) ≡ None → Places_Updates nat_eq places next (fingerprint m) (Some n) → KnowsFirst next others sent (n + 1)
  knows_at next none updates = record {
    finds = λ q.
        let P : ℕ → Type 0 = λ f. get nat_eq places f ≡ None in
        ap (λ (o : Option ℕ). stands_at sent q o || stands_among sent q others) (updates.0 (fingerprint q))
        ∙ (placed q (nat_eq (fingerprint m) (fingerprint q)) (same_message q m) (is_among (take n sent) q) (stands_among sent q others) (get nat_eq places (fingerprint q)) refl refl refl (λ same. subst P (eqb-true (fingerprint m) (fingerprint q) same) none) (known.finds q)
        ∙ sym (one_more q));
    before = λ f k found. within (nat_eq (fingerprint m) f) f k (sym (updates.0 f) ∙ found);
    others_before = later;
  }
    where
      within : (e : Bool) (f k : ℕ) → cond e (Some n) (get nat_eq places f) ≡ Some k → k < n + 1
      within true f k found = let same : n ≡ k = cc in omega arith
      within false f k found = let lt = known.before f k found in omega arith

  pub knows_placed : (next : Places) (print : ℕ) → print ≡ fingerprint m → is_some (get nat_eq places print) ≡ false → Places_Updates nat_eq places next print (Some n) → KnowsFirst next others sent (n + 1)
  knows_placed next print is fresh updates =
      let P : ℕ → Type 0 = λ f. Places_Updates nat_eq places next f (Some n) in
      knows_at next (ap (get nat_eq places) (sym is) ∙ not_found (get nat_eq places print) fresh) (subst P is updates)

  -- a message that is put among the others
  other : (s c e a : Bool) → (s || c) ≡ a → (s || (c || (e || false))) ≡ (a || (e || false))
  other true c e a found = ap (λ (b : Bool). b || (e || false)) found
  other false c e a found = ap (λ (b : Bool). b || (e || false)) found

  pub knows_other : (next : Others) → next ≡ others ++ n ∷ [] → KnowsFirst places next sent (n + 1)
  knows_other next is =
      subst (λ (xs : Others). KnowsFirst places xs sent (n + 1)) (sym is) (record {
        finds = λ q.
            let s = stands_at sent q (get nat_eq places (fingerprint q)) in
            let c = stands_among sent q others in
            ap (λ (b : Bool). s || b) (list_any-append (λ k. stands_at sent q (Some k)) others (n ∷ []))
            ∙ (ap (λ (o : Option Message). s || (c || (is_this q o || false))) there
            ∙ (other s c (same_message q m) (is_among (take n sent) q) (known.finds q)
            ∙ sym (one_more q)));
        before = λ f k found. let lt = known.before f k found in omega arith;
        others_before = All-push (λ k. k < n + 1) others n later (omega arith);
      })

  pub knows_among : stands_among sent m others ≡ true → KnowsFirst places others sent (n + 1)
  knows_among stands = knows_known (or_right (stands_at sent m (get nat_eq places (fingerprint m))) (stands_among sent m others) stands)

-- the index of a list is one of the longer list as well
stands_before : (sent more : List Message) (q : Message) (o : Option ℕ) → ((k : ℕ) → o ≡ Some k → k < length sent) → stands_at (sent ++ more) q o ≡ stands_at sent q o
stands_before sent more q None within = refl
stands_before sent more q (Some k) within = ap (is_this q) (reads sent more k (within k refl))
  where
    reads : (xs ys : List Message) (i : ℕ) → i < length xs → slice_get (xs ++ ys) i ≡ slice_get xs i
    reads [] ys i lt = absurd (omega arith)
    reads (x ∷ xs) ys zero lt = refl
    reads (x ∷ xs) ys (suc i) lt = reads xs ys i (omega arith)

among_before : (sent more : List Message) (q : Message) (others : Others) → All (λ k. k < length sent) others → stands_among (sent ++ more) q others ≡ stands_among sent q others
among_before sent more q [] all = refl
among_before sent more q (k ∷ rest) all =
    let first = stands_before sent more q (Some k) (λ j is. let lt = All-head (λ i. i < length sent) k rest all in let same : k ≡ j = cc in omega arith) in
    let others = among_before sent more q rest (All-tail (λ i. i < length sent) k rest all) in
    λ i. first i || others i

pub knows_same : (places next : Places) (others rest : Others) (sent : List Message) → SaysTheSame places others next rest → Knows places others sent → Knows next rest sent
knows_same places next others rest sent same known = record {
  finds = λ q.
      ap (λ (o : Option ℕ). stands_at sent q o || stands_among sent q rest) (same.at_places (fingerprint q))
      ∙ (ap (λ (xs : Others). stands_at sent q (get nat_eq places (fingerprint q)) || stands_among sent q xs) same.of_others
      ∙ known.finds q);
  before = λ f k found. known.before f k (sym (same.at_places f) ∙ found);
  others_before = subst (λ (xs : Others). All (λ k. k < length sent) xs) (sym same.of_others) known.others_before;
}

pub knows_start : (places : Places) (others : Others) (sent more : List Message) → Knows places others sent → KnowsFirst places others (sent ++ more) (length sent)
knows_start places others sent more known = record {
  finds = λ q.
      (λ i. stands_before sent more q (get nat_eq places (fingerprint q)) (known.before (fingerprint q)) i || among_before sent more q others known.others_before i)
      ∙ (known.finds q
      ∙ ap (λ (xs : List Message). is_among xs q) (take_all (length sent) sent (omega arith) ∙ sym (take-append_seam sent more)));
  before = known.before;
  others_before = known.others_before;
}

-- an index with the same places and others, and then with the messages that were added
pub knows_more : (places middle next : Places) (others between rest : Others) (sent more all slice : List Message) (start : ℕ) → SaysTheSame places others middle between → Knows places others sent → slice ≡ all → all ≡ sent ++ more → start ≡ length sent → (KnowsFirst middle between slice start → Knows next rest slice) → Knows next rest all
knows_more places middle next others between rest sent more all slice start same known slice_is all_is start_is takes =
    let P : List Message → Type 0 = λ xs. KnowsFirst middle between xs (length sent) in
    let Q : ℕ → Type 0 = λ n. KnowsFirst middle between slice n in
    let R : List Message → Type 0 = λ xs. Knows next rest xs in
    subst R slice_is (takes (subst Q (sym start_is) (subst P (sym (slice_is ∙ all_is)) (knows_start middle between sent more (knows_same places middle others between sent same known)))))
