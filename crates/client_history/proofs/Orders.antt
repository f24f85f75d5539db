-- The places of an order.
use Rattle.std.proofs.Common.{◌≡◌, ℕ, ◌+◌, ◌<◌, ◌⊎◌, inl, inr, ⊎_elim, List, length, slice_get, get_or, Some, refl, sym, ap, ◌∙◌, arith}
use Rattle.std.proofs.lemmas.Bool.{cases_order}
use Rattle.std.proofs.lemmas.Option.{same_Some, slice_get-get_or, slice_get_read, slice_get_within}
use Rattle.client_history.specs.declared.client_call.ClientCall.{ClientCall}
use Rattle.client_history.specs.rule.Explained.{AreWithin, IsAt}

-- a place below k + 1 is below k, or is k
pub last_place : (j k : ℕ) → j < k + 1 → (j < k) ⊎ (j ≡ k)
last_place j k lt = ⊎_elim (λ e. inr e) (⊎_elim (λ a. inl a) (λ b. absurd (omega arith))) (cases_order j k)

-- a list has one element at a place
pub get_one : {X : Type 0} (xs : List X) (j k : ℕ) (x y : X) → j ≡ k → slice_get xs j ≡ Some x → slice_get xs k ≡ Some y → x ≡ y
get_one xs j k x y e p q = same_Some x y (sym p ∙ ap (slice_get xs) e ∙ q)

module _ (calls : List ClientCall) (order : List ℕ) where
  -- an order has one call at a place
  pub is_at_one : (j k : ℕ) (a b : ClientCall) → j ≡ k → IsAt calls order j a → IsAt calls order k b → a ≡ b
  is_at_one j k a b e p q = get_one calls p.index q.index a b (get_one order j k p.index q.index e p.at q.at) p.there q.there

  -- a call that was read at a place stands there
  pub is_at : (k : ℕ) (call : ClientCall) → AreWithin (length calls) order → k < length order → call ≡ get_or calls (get_or order k 0) call → IsAt calls order k call
  is_at k call within lt read =
      let at : slice_get order k ≡ Some (get_or order k 0) = slice_get-get_or order k 0 lt in
      record { index = get_or order k 0; at = at; there = slice_get_read calls (length calls) (get_or order k 0) call refl (within k (get_or order k 0) at) read }

  -- a place at which a call stands is one of the order
  pub at_within : (k : ℕ) (call : ClientCall) → IsAt calls order k call → k < length order
  at_within k call a = slice_get_within order k a.index a.at
