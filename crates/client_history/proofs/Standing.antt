-- Elements of lists.
use Rattle.std.proofs.Common.{◌≡◌, ℕ, zero, suc, ◌+◌, ◌<◌, ◌≤◌, ◌⊎◌, inl, inr, ⊎_elim, List, [], ◌∷◌, ◌++◌, length, set, slice_get, Some, refl, sym, ap, subst, ◌∙◌, arith}
use Rattle.std.proofs.lemmas.Option.{none-some, same_Some, slice_get_within}
use Rattle.client_history.proofs.Exchange.{get_left, get_right, get_split}
use Rattle.client_history.proofs.Orders.{last_place, get_one}

module _ {X : Type 0} where
  -- the list has the element
  abbrev pub Has : List X → X → Type 0
  Has xs x = (k : ℕ) × (slice_get xs k ≡ Some x)

  pub has_left : (xs ys : List X) (x : X) → Has xs x → Has (xs ++ ys) x
  has_left xs ys x has = (has.0, get_left xs ys has.0 x has.1)

  pub has_right : (xs ys : List X) (x : X) → Has ys x → Has (xs ++ ys) x
  has_right xs ys x has = (length xs + has.0, get_right xs ys (length xs + has.0) has.0 x refl has.1)

  pub has_split : (xs ys : List X) (x : X) → Has (xs ++ ys) x → Has xs x ⊎ Has ys x
  has_split xs ys x has = ⊎_elim (λ p. inl (has.0, p.1)) (λ p. inr (p.0, p.2)) (get_split xs ys has.0 x has.1)

  pub has_one : (y x : X) → Has (y ∷ []) x → x ≡ y
  has_one y x has = by has.0 has.1
    where
      by : (k : ℕ) → slice_get (y ∷ []) k ≡ Some x → x ≡ y
      by zero at = sym (same_Some y x at)
      by (suc k) at = absurd (none-some x at)

  -- a list has its last element
  pub has_last : (xs : List X) (x : X) → Has (xs ++ x ∷ []) x
  has_last xs x = has_right xs (x ∷ []) x (0, refl)

  pub has_push : (xs : List X) (y x : X) → Has (xs ++ y ∷ []) x → Has xs x ⊎ (x ≡ y)
  has_push xs y x has = ⊎_elim inl (λ one. inr (has_one y x one)) (has_split xs (y ∷ []) x has)

  set_at : (xs : List X) (i : ℕ) (y : X) → i < length xs → slice_get (set xs i y) i ≡ Some y
  set_at [] i y lt = absurd (omega arith)
  set_at (x ∷ xs) zero y lt = refl
  set_at (x ∷ xs) (suc i) y lt = set_at xs i y (omega arith)

  set_beside : (xs : List X) (i k : ℕ) (y : X) → (k ≡ i → ⊥) → slice_get (set xs i y) k ≡ slice_get xs k
  set_beside [] i k y differ = refl
  set_beside (x ∷ xs) zero zero y differ = absurd (differ refl)
  set_beside (x ∷ xs) zero (suc k) y differ = refl
  set_beside (x ∷ xs) (suc i) zero y differ = refl
  set_beside (x ∷ xs) (suc i) (suc k) y differ = set_beside xs i k y (λ e. differ (ap suc e))

-- the first n elements of a list became what they should, and the others are as they were
pub record EachTo {X : Type 0} (P : X → X → Type 0) (old new : List X) (n : ℕ) : Type 0 where
  pub done : (k : ℕ) (x : X) → k < n → slice_get old k ≡ Some x → (y : X) × (slice_get new k ≡ Some y) × P x y
  pub rest : (k : ℕ) → n ≤ k → slice_get new k ≡ slice_get old k

module _ {X : Type 0} (P : X → X → Type 0) (old : List X) where
  pub each_none : EachTo P old old 0
  each_none = record { done = λ k x lt. absurd (omega arith); rest = λ k le. refl }

  -- one more element became what it should
  pub each_more : (new : List X) (n : ℕ) (x y : X) → EachTo P old new n → n < length new → slice_get new n ≡ Some x → P x y → EachTo P old (set new n y) (n + 1)
  each_more new n x y before lt at is = record {
    done = λ k z low there. ⊎_elim
        (λ below. let was = before.done k z below there in (was.0, set_beside new n k y (λ e. absurd (omega arith)) ∙ was.1, was.2))
        (λ e. let same : z ≡ x = get_one old k n z x e there (sym (before.rest n (omega arith)) ∙ at) in (y, ap (slice_get (set new n y)) e ∙ set_at new n y lt, subst (λ (w : X). P w y) (sym same) is))
        (last_place k n low);
    rest = λ k le. set_beside new n k y (λ e. absurd (omega arith)) ∙ before.rest k (omega arith);
  }

  pub each_all : (new : List X) (n : ℕ) → EachTo P old new n → length old ≤ n → (k : ℕ) (x : X) → slice_get old k ≡ Some x → (y : X) × (slice_get new k ≡ Some y) × P x y
  each_all new n to past k x there = let within = slice_get_within old k x there in to.done k x (omega arith) there
