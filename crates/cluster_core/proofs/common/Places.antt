-- Places in a list that grows at its end, or is read from its beginning.
use Rattle.std.proofs.Common.{◌≡◌, ℕ, zero, suc, ◌+◌, ◌<◌, ◌⊎◌, inl, inr, sym, ◌∙◌, ap, refl, List, [], ◌∷◌, ◌++◌, length, take, drop, get_or, slice_get, Some}
use Rattle.std.proofs.lemmas.List.{take_more, drop_more}

module _ {A : Type 0} where
  pub slice_get-keeps : (xs ys : List A) (k : ℕ) (x : A) → slice_get xs k ≡ Some x → slice_get (xs ++ ys) k ≡ Some x
  slice_get-keeps [] ys k x e = cc
  slice_get-keeps (z ∷ zs) ys zero x e = e
  slice_get-keeps (z ∷ zs) ys (suc k) x e = slice_get-keeps zs ys k x e

  pub slice_get-last : (xs : List A) (y : A) → slice_get (xs ++ y ∷ []) (length xs) ≡ Some y
  slice_get-last [] y = refl
  slice_get-last (z ∷ zs) y = slice_get-last zs y

  -- an element is an old one, or the last
  pub slice_get-push : (xs : List A) (y : A) (k : ℕ) (x : A) → slice_get (xs ++ y ∷ []) k ≡ Some x → (slice_get xs k ≡ Some x) ⊎ ((k ≡ length xs) × (y ≡ x))
  slice_get-push [] y zero x e = inr (refl, cc)
  slice_get-push [] y (suc k) x e = cc
  slice_get-push (z ∷ zs) y zero x e = inl e
  slice_get-push (z ∷ zs) y (suc k) x e = elim (slice_get-push zs y k x e) [ inl h ↦ inl h | inr h ↦ inr (ap suc h.0, h.1) ]

  -- the element that is read next
  pub take_read : (xs : List A) (i : ℕ) (x : A) → i < length xs → x ≡ get_or xs i x → take (i + 1) xs ≡ take i xs ++ x ∷ []
  take_read xs i x lt is = take_more xs i x lt ∙ ap (λ (y : A). take i xs ++ y ∷ []) (sym is)

  pub drop_read : (xs : List A) (i : ℕ) (x : A) → i < length xs → x ≡ get_or xs i x → drop i xs ≡ x ∷ drop (i + 1) xs
  drop_read xs i x lt is = drop_more xs i x lt ∙ ap (λ (y : A). y ∷ drop (i + 1) xs) (sym is)
