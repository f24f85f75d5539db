-- Elements of lists.
use Rattle.std.proofs.Common.{◌≡◌, ℕ, ◌<◌, List, [], ◌∷◌, ◌++◌, length, map, slice_get, Option, Some, None, refl, sym, ap, subst, ◌∙◌, arith, length-append}
use Rattle.std.specs.List.{All}
use Rattle.std.specs.Option.{option_map}
use Rattle.std.proofs.Math.Seq.{get_or-append_seam}
use Rattle.std.proofs.lemmas.Option.{get_or_from_slice_get, same_Some, slice_get-get_or, slice_get-map, slice_get_within}

module _ {X : Type 0} (xs : List X) where
  -- a list has one element at a place
  pub get_one : (i j : ℕ) (x y : X) → i ≡ j → slice_get xs i ≡ Some x → slice_get xs j ≡ Some y → x ≡ y
  get_one i j x y e p q = same_Some x y (sym p ∙ ap (slice_get xs) e ∙ q)

  -- what holds of each element holds of the one at a place
  pub of_all : (P : X → Type 0) (i : ℕ) (x : X) → All P xs → slice_get xs i ≡ Some x → P x
  of_all P i x all at = subst P (get_or_from_slice_get xs i x x at) (all i x (slice_get_within xs i x at))

  -- the last element stands behind all others
  pub get_last : (x : X) → slice_get (xs ++ x ∷ []) (length xs) ≡ Some x
  get_last x =
      let here : length xs < length (xs ++ x ∷ []) = omega (arith, length-append xs (x ∷ [])) in
      slice_get-get_or (xs ++ x ∷ []) (length xs) x here ∙ ap Some (get_or-append_seam xs x [] x)

-- an element of a mapped list is made of the element at the same place
module _ {X Y : Type 0} (f : X → Y) (xs : List X) (i : ℕ) (y : Y) where
  pub map_get : slice_get (map f xs) i ≡ Some y → (x : X) × (slice_get xs i ≡ Some x) × (f x ≡ y)
  map_get at = by (slice_get xs i) refl (sym (slice_get-map f xs i) ∙ at)
    where
      by : (o : Option X) → slice_get xs i ≡ o → option_map f o ≡ Some y → (x : X) × (slice_get xs i ≡ Some x) × (f x ≡ y)
      by None e p = absurd (cc)
      by (Some x) e p = (x, e, same_Some (f x) y p)
