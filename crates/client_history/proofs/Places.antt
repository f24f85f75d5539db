-- Elements of lists of calls.
use Rattle.std.proofs.Common.{◌≡◌, ℕ, zero, suc, ◌+◌, ◌⊎◌, inl, inr, ⊎_elim, List, [], ◌∷◌, ◌++◌, length, slice_get, Some, refl, sym, ap, subst, arith}
use Rattle.std.proofs.lemmas.Bool.{cases_eq}
use Rattle.std.proofs.lemmas.Option.{none-some, same_Some, slice_get_within}
use Rattle.model.specs.rule.Locks.{Locks}
use Rattle.client_history.specs.declared.client_call.ClientCall.{ClientCall}
use Rattle.client_history.specs.rule.Explained.{Leads, Stands, IsAt, IsOnce}
use Rattle.client_history.proofs.Exchange.{get_split, get_left, get_right}

module _ (xs ys : List ℕ) where
  pub stands_left : (i : ℕ) → Stands xs i → Stands (xs ++ ys) i
  stands_left i s = (s.0, get_left xs ys s.0 i s.1)

  pub stands_right : (i : ℕ) → Stands ys i → Stands (xs ++ ys) i
  stands_right i s = (length xs + s.0, get_right xs ys (length xs + s.0) s.0 i refl s.1)

  pub stands_split : (i : ℕ) → Stands (xs ++ ys) i → Stands xs i ⊎ Stands ys i
  stands_split i s = ⊎_elim (λ p. inl (s.0, p.1)) (λ p. inr (p.0, p.2)) (get_split xs ys s.0 i s.1)

  -- if no index stands twice in two lists together, none stands in both
  pub stands_apart : IsOnce (xs ++ ys) → (i : ℕ) → Stands xs i → Stands ys i → ⊥
  stands_apart once i s t =
      let lt = slice_get_within xs s.0 i s.1 in
      let e : s.0 ≡ length xs + t.0 = once s.0 (length xs + t.0) i (get_left xs ys s.0 i s.1) (get_right xs ys (length xs + t.0) t.0 i refl t.1) in
      absurd (omega arith)

  pub at_left : (calls : List ClientCall) (k : ℕ) (a : ClientCall) → IsAt calls xs k a → IsAt calls (xs ++ ys) k a
  at_left calls k a at = record { index = at.index; at = get_left xs ys k at.index at.at; there = at.there }

  pub at_right : (calls : List ClientCall) (k : ℕ) (a : ClientCall) → IsAt calls ys k a → IsAt calls (xs ++ ys) (length xs + k) a
  at_right calls k a at = record { index = at.index; at = get_right xs ys (length xs + k) k at.index refl at.at; there = at.there }

module _ (x : ℕ) (xs : List ℕ) where
  pub stands_first : Stands (x ∷ xs) x
  stands_first = (zero, refl)

  pub stands_more : (i : ℕ) → Stands xs i → Stands (x ∷ xs) i
  stands_more i s = (suc s.0, s.1)

  pub stands_cases : (i : ℕ) → Stands (x ∷ xs) i → (i ≡ x) ⊎ Stands xs i
  stands_cases i s = by s.0 s.1
    where
      by : (k : ℕ) → slice_get (x ∷ xs) k ≡ Some i → (i ≡ x) ⊎ Stands xs i
      by zero at = inl (sym (same_Some x i at))
      by (suc k) at = inr (k, at)

-- a list of one index has that index alone
pub stands_alone : (x i : ℕ) → Stands (x ∷ []) i → i ≡ x
stands_alone x i s = ⊎_elim (λ e. e) (λ none. absurd (none-some i none.1)) (stands_cases x [] i s)

-- an index stands in a list, or does not
pub decide_stands : (xs : List ℕ) (i : ℕ) → Stands xs i ⊎ (Stands xs i → ⊥)
decide_stands [] i = inr (λ s. none-some i s.1)
decide_stands (x ∷ xs) i = ⊎_elim
    (λ e. inl (subst (λ (j : ℕ). Stands (x ∷ xs) j) (sym e) (stands_first x xs)))
    (λ other. ⊎_elim
    (λ s. inl (stands_more x xs i s))
    (λ none. inr (λ s. ⊎_elim other none (stands_cases x xs i s)))
    (decide_stands xs i))
    (cases_eq i x)

-- a list is what stands before a place, the element there, and what stands behind it
pub split_at : (xs : List ℕ) (k i : ℕ) → slice_get xs k ≡ Some i → (before : List ℕ) × (behind : List ℕ) × (xs ≡ before ++ (i ∷ behind)) × (length before ≡ k)
split_at [] k i at = absurd (none-some i at)
split_at (x ∷ xs) zero i at = ([], xs, ap (λ (y : ℕ). y ∷ xs) (same_Some x i at), refl)
split_at (x ∷ xs) (suc k) i at = let rest = split_at xs k i at in (x ∷ rest.0, rest.1, ap (λ (ys : List ℕ). x ∷ ys) rest.2, ap (λ (n : ℕ). suc n) rest.3)

-- an index of an order that leads somewhere is that of a call
pub call_of : (calls : List ClientCall) (h n : Locks) (order : List ℕ) (k i : ℕ) → Leads calls h order n → slice_get order k ≡ Some i → (call : ClientCall) × (slice_get calls i ≡ Some call)
call_of calls h n [] k i leads at = absurd (none-some i at)
call_of calls h n (x ∷ xs) zero i leads at = (leads.0, subst (λ (j : ℕ). slice_get calls j ≡ Some leads.0) (same_Some x i at) leads.2)
call_of calls h n (x ∷ xs) (suc k) i leads at = call_of calls leads.1 n xs k i leads.4 at
