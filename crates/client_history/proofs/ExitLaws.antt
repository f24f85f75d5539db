-- Exits of an order, place by place.
use Rattle.std.specs.Prelude.{◌≢◌}
use Rattle.std.proofs.Common.{◌≡◌, ℕ, ◌+◌, ◌<◌, ◌≤◌, ◌⊎◌, ⊎_elim, Bool, true, false, List, length, slice_get, Some, None, sym, ap, subst, ◌∙◌, arith}
use Rattle.std.proofs.lemmas.Bool.{false≢true}
use Rattle.std.proofs.lemmas.Option.{slice_get_within}
use Rattle.model.specs.declared.owner.Owner.{Owner}
use Rattle.client_history.specs.declared.client_call.ClientCall.{ClientCall}
use Rattle.client_history.specs.rule.Explained.{IsAt, Stands, ExitsAreLast, ExitsAreWhole}
use Rattle.client_history.proofs.Orders.{last_place, get_one, is_at_one, at_within}

-- the owners of the exits before the k-th place
pub record ExitsTo (calls : List ClientCall) (order : List ℕ) (k : ℕ) (gone : Owner → Bool) : Type 0 where
  pub known : (q : Owner) → gone q ≡ true → (j : ℕ) × (a : ClientCall) × (j < k) × IsAt calls order j a × (a.is_last ≡ true) × (a.owner ≡ q)
  pub noted : (j : ℕ) (a : ClientCall) → j < k → IsAt calls order j a → a.is_last ≡ true → gone a.owner ≡ true

-- the owners that are gone before the k-th place: no call of theirs stands behind their exits
pub record GoneTo (calls : List ClientCall) (order : List ℕ) (k : ℕ) (gone : Owner → Bool) : Type 0 where
  pub exits : ExitsTo calls order k gone
  pub good : (j m : ℕ) (a b : ClientCall) → j < m → m < k → IsAt calls order j a → IsAt calls order m b → a.is_last ≡ true → b.owner ≡ a.owner → ⊥

-- with the exits that stand, each of the first n calls that has a reply stands if its owner's exit does
abbrev pub WholeTo : List ClientCall → List ℕ → ℕ → Type 0
WholeTo calls order n = (k i : ℕ) (a b : ClientCall) → i < n → IsAt calls order k a → a.is_last ≡ true → slice_get calls i ≡ Some b → b.owner ≡ a.owner → b.end ≢ None → Stands order i

module _ (calls : List ClientCall) (order : List ℕ) where
  pub exits_none : (gone : Owner → Bool) → ((q : Owner) → gone q ≡ false) → ExitsTo calls order 0 gone
  exits_none gone empty = record {
    known = λ q is. absurd (false≢true (sym (empty q) ∙ is));
    noted = λ j a lt. absurd (omega arith);
  }

  pub gone_none : (gone : Owner → Bool) → ((q : Owner) → gone q ≡ false) → GoneTo calls order 0 gone
  gone_none gone empty = record {
    exits = exits_none gone empty;
    good = λ j m a b lt early. absurd (omega arith);
  }

  module _ (k : ℕ) (gone : Owner → Bool) (before : ExitsTo calls order k gone) (b : ClientCall) (at : IsAt calls order k b) where
    -- one more call that is no exit
    pub exits_same : b.is_last ≡ false → ExitsTo calls order (k + 1) gone
    exits_same open_call = record {
      known = λ q is. let was = before.known q is in let early = was.2 in (was.0, was.1, omega arith, was.3, was.4, was.5);
      noted = λ j a early p last. ⊎_elim (λ below. before.noted j a below p last) (λ e. absurd (false≢true (sym open_call ∙ sym (ap (λ (c : ClientCall). c.is_last) (is_at_one calls order j k a b e p at)) ∙ last))) (last_place j k early);
    }

    -- one more exit
    pub exits_more : b.is_last ≡ true → (new : Owner → Bool) → ((q : Owner) → new q ≡ true → (b.owner ≡ q) ⊎ (gone q ≡ true)) → ((q : Owner) → gone q ≡ true → new q ≡ true) → new b.owner ≡ true → ExitsTo calls order (k + 1) new
    exits_more last new only keeps adds = record {
      known = λ q is. ⊎_elim (λ e. (k, b, omega arith, at, last, e)) (λ old. let was = before.known q old in let early = was.2 in (was.0, was.1, omega arith, was.3, was.4, was.5)) (only q is);
      noted = λ j a early p is. ⊎_elim (λ below. keeps a.owner (before.noted j a below p is)) (λ e. subst (λ (c : ClientCall). new c.owner ≡ true) (sym (is_at_one calls order j k a b e p at)) adds) (last_place j k early);
    }

  module _ (k : ℕ) (gone : Owner → Bool) (before : GoneTo calls order k gone) (b : ClientCall) (at : IsAt calls order k b) where
    -- a call of an owner that is gone stands behind its exit: the exits are not last
    pub gone_late : gone b.owner ≡ true → ExitsAreLast calls order → ⊥
    gone_late is all = let was = before.exits.known b.owner is in all was.0 k was.1 b was.2 was.3 at was.4 (sym was.5)

    module _ (stays : gone b.owner ≡ false) where
      good_at : (j m : ℕ) (a d : ClientCall) → j < m → m < k + 1 → IsAt calls order j a → IsAt calls order m d → a.is_last ≡ true → d.owner ≡ a.owner → ⊥
      good_at j m a d lt early p q last same = ⊎_elim
          (λ below. before.good j m a d lt below p q last same)
          (λ e. let is : d ≡ b = is_at_one calls order m k d b e q at in
          let low : j < k = omega arith in
          false≢true (sym stays ∙ ap gone (sym (ap (λ (c : ClientCall). c.owner) is) ∙ same) ∙ before.exits.noted j a low p last))
          (last_place m k early)

      -- one more call that is no exit
      pub gone_same : b.is_last ≡ false → GoneTo calls order (k + 1) gone
      gone_same open_call = record {
        exits = exits_same k gone before.exits b at open_call;
        good = good_at;
      }

      -- one more exit
      pub gone_more : b.is_last ≡ true → (new : Owner → Bool) → ((q : Owner) → new q ≡ true → (b.owner ≡ q) ⊎ (gone q ≡ true)) → ((q : Owner) → gone q ≡ true → new q ≡ true) → new b.owner ≡ true → GoneTo calls order (k + 1) new
      gone_more last new only keeps adds = record {
        exits = exits_more k gone before.exits b at last new only keeps adds;
        good = good_at;
      }

  pub gone_all : (k : ℕ) (gone : Owner → Bool) → GoneTo calls order k gone → length order ≤ k → ExitsAreLast calls order
  gone_all k gone before all j m a b lt p q = let within = at_within calls order m b q in before.good j m a b lt (omega arith) p q

  module _ (k : ℕ) (gone : Owner → Bool) (exits : ExitsTo calls order k gone) (i : ℕ) (b : ClientCall) (there : slice_get calls i ≡ Some b) where
    -- a call with a reply that does not stand, while its owner's exit does: the exits are not whole
    pub whole_not : gone b.owner ≡ true → b.end ≢ None → (Stands order i → ⊥) → ExitsAreWhole calls order → ⊥
    whole_not is some out all = let was = exits.known b.owner is in out (all was.0 i was.1 b was.3 was.4 there (sym was.5) some)

    -- one more call, which stands if its owner's exit does and it has a reply
    pub whole_more : length order ≤ k → (b.end ≢ None → gone b.owner ≡ true → Stands order i) → WholeTo calls order i → WholeTo calls order (i + 1)
    whole_more all stands before m j a d lt at last its same some = ⊎_elim
        (λ below. before m j a d below at last its same some)
        (λ e. let is : b ≡ d = get_one calls i j b d (sym e) there its in
        let within = at_within calls order m a at in
        let low : m < k = omega arith in
        subst (Stands order) (sym e) (stands
        (λ none. some (sym (ap (λ (c : ClientCall). c.end) is) ∙ none))
        (ap gone (ap (λ (c : ClientCall). c.owner) is ∙ same) ∙ exits.noted m a low at last)))
        (last_place j i lt)

  pub whole_all : (n : ℕ) → WholeTo calls order n → length calls ≤ n → ExitsAreWhole calls order
  whole_all n whole all k i a b at last there = let within = slice_get_within calls i b there in whole k i a b (omega arith) at last there
