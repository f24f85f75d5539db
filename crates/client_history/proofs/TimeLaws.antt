-- The times of an order's calls, place by place.
use Rattle.std.proofs.Common.{◌≡◌, ℕ, ◌+◌, ◌<◌, ◌≤◌, ⊎_elim, List, length, refl, sym, ap, subst, ◌∙◌, arith}
use Rattle.client_history.specs.declared.client_call.ClientCall.{ClientCall}
use Rattle.client_history.specs.rule.Explained.{IsAt, EndsBefore, AreInTime}
use Rattle.client_history.proofs.Orders.{last_place, is_at_one, at_within}

-- the latest begin of the first k calls, which are in time
pub record TimesTo (calls : List ClientCall) (order : List ℕ) (k latest : ℕ) : Type 0 where
  pub most : (j : ℕ) (a : ClientCall) → j < k → IsAt calls order j a → a.begin ≤ latest
  pub some : 0 < latest → (j : ℕ) × (a : ClientCall) × (j < k) × IsAt calls order j a × (a.begin ≡ latest)
  pub good : (j m : ℕ) (a b : ClientCall) → j < m → m < k → IsAt calls order j a → IsAt calls order m b → EndsBefore b a.begin → ⊥

module _ (calls : List ClientCall) (order : List ℕ) where
  pub times_none : TimesTo calls order 0 0
  times_none = record {
    most = λ j a lt at. absurd (omega arith);
    some = λ lt. absurd (omega arith);
    good = λ j m a b lt early. absurd (omega arith);
  }

  module _ (k latest : ℕ) (before : TimesTo calls order k latest) where
    -- a call that ended before the latest begin: the order is not in time
    pub times_late : (b : ClientCall) → IsAt calls order k b → EndsBefore b latest → AreInTime calls order → ⊥
    times_late b at ends all =
        let lt = ends.2 in
        let was = before.some (omega arith) in
        all was.0 k was.1 b was.2 was.3 at (ends.0, ends.1, subst (λ n. ends.0 < n) (sym was.4) ends.2)

    module _ (b : ClientCall) (at : IsAt calls order k b) (ends : EndsBefore b latest → ⊥) where
      good_at : (j m : ℕ) (a d : ClientCall) → j < m → m < k + 1 → IsAt calls order j a → IsAt calls order m d → EndsBefore d a.begin → ⊥
      good_at j m a d lt early p q late = ⊎_elim
          (λ below. before.good j m a d lt below p q late)
          (λ e. let same : d ≡ b = is_at_one calls order m k d b e q at in
          let most = before.most j a (omega arith) p in let sooner = late.2 in
          ends (late.0, ap (λ (c : ClientCall). c.end) (sym same) ∙ late.1, omega arith))
          (last_place m k early)

      -- one more call that begins no later
      pub times_same : b.begin ≤ latest → TimesTo calls order (k + 1) latest
      times_same low = record {
        most = λ j a early p. ⊎_elim (λ below. before.most j a below p) (λ e. subst (λ (c : ClientCall). c.begin ≤ latest) (sym (is_at_one calls order j k a b e p at)) low) (last_place j k early);
        some = λ lt. let was = before.some lt in let early = was.2 in (was.0, was.1, omega arith, was.3, was.4);
        good = good_at;
      }

      -- one more call that begins later
      pub times_more : latest < b.begin → TimesTo calls order (k + 1) b.begin
      times_more high = record {
        most = λ j a early p. ⊎_elim (λ below. let low = before.most j a below p in omega arith) (λ e. subst (λ (c : ClientCall). c.begin ≤ b.begin) (sym (is_at_one calls order j k a b e p at)) (omega arith)) (last_place j k early);
        some = λ lt. (k, b, omega arith, at, refl);
        good = good_at;
      }

    pub times_all : length order ≤ k → AreInTime calls order
    times_all all j m a b lt p q = let within = at_within calls order m b q in before.good j m a b lt (omega arith) p q
