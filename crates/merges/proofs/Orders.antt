-- Lists in which a number never falls.
use Rattle.std.proofs.Common.{◌≡◌, ℕ, zero, ◌+◌, ◌-◌, ◌<◌, ◌≤◌, inl, inr, sym, subst, ◌∙◌, ap, arith, List, ◌∷◌, length, length-drop, drop, All}
use Rattle.std.proofs.lemmas.Bool.{cases_lt, cases_eq}
use Rattle.std.proofs.lemmas.List.{get_or-drop, get_or_default, drop_more}
use Rattle.std.specs.Prelude.{slice_index_or}

module _ (X : Type 0) (n : X → ℕ) where
  -- the number never falls over the first elements, that many
  abbrev pub RisesTo : ℕ → List X → Type 0
  RisesTo k xs = (i j : ℕ) (d : X) → i < j → j < k → n (slice_index_or xs i d) ≤ n (slice_index_or xs j d)

  pub one_more : (xs : List X) (k : ℕ) (e f : X) → k < length xs → RisesTo k xs → n (slice_index_or xs (k - 1) e) ≤ n (slice_index_or xs k f) → RisesTo (k + 1) xs
  one_more xs k e f within before next i j d order below =
      let last : (d : X) → n (slice_index_or xs (k - 1) d) ≤ n (slice_index_or xs k d) = λ d.
      let one : slice_index_or xs (k - 1) d ≡ slice_index_or xs (k - 1) e = get_or_default xs (k - 1) d e (omega (arith, within)) in
      let two : slice_index_or xs k d ≡ slice_index_or xs k f = get_or_default xs k d f within in
      subst (λ (y : X). n y ≤ n (slice_index_or xs k d)) (sym one) (subst (λ (y : X). n (slice_index_or xs (k - 1) e) ≤ n y) (sym two) next) in
      elim (cases_lt j k) [
        | inl earlier ↦ before i j d order earlier
        | inr here ↦
            let there : k ≡ j = omega (arith, here, below) in
            subst (λ (m : ℕ). n (slice_index_or xs i d) ≤ n (slice_index_or xs m d)) there
            (elim (cases_eq i (k - 1)) [
              | inl same ↦ subst (λ (m : ℕ). n (slice_index_or xs m d) ≤ n (slice_index_or xs k d)) (sym same) (last d)
              | inr other ↦
                  let one = before i (k - 1) d (omega (arith, other, order, there)) (omega (arith, order, there)) in
                  let two = last d in
                  omega (arith, one, two)
            ])
      ]

  -- the same of what is left behind one more
  pub rises_behind : (xs : List X) (k : ℕ) → RisesTo (length (drop k xs)) (drop k xs) → RisesTo (length (drop (k + 1) xs)) (drop (k + 1) xs)
  rises_behind xs k rises i j d order within =
      let count : length (drop k xs) ≡ length xs - k = length-drop k xs in
      let rest : length (drop (k + 1) xs) ≡ length xs - (k + 1) = length-drop (k + 1) xs in
      let at : (m : ℕ) → slice_index_or (drop k xs) (m + 1) d ≡ slice_index_or (drop (k + 1) xs) m d = λ m. get_or-drop k xs (m + 1) d ∙ ap (λ (p : ℕ). slice_index_or xs p d) (omega arith) ∙ sym (get_or-drop (k + 1) xs m d) in
      let both = rises (i + 1) (j + 1) d (omega arith) (omega arith) in
      subst (λ (y : X). n y ≤ n (slice_index_or (drop (k + 1) xs) j d)) (at i) (subst (λ (y : X). n (slice_index_or (drop k xs) (i + 1) d) ≤ n y) (at j) both)

  -- the first is the least
  pub first_least : (xs : List X) (x : X) (ys : List X) → xs ≡ x ∷ ys → RisesTo (length xs) xs → All (λ (y : X). n x ≤ n y) xs
  first_least xs x ys is rises k d within =
      elim (cases_eq k zero) [
        | inl same ↦ let here : slice_index_or xs k d ≡ x = (λ i. slice_index_or (is i) (same i) d) in subst (λ (y : X). n x ≤ n y) (sym here) (omega arith)
        | inr other ↦ subst (λ (y : X). n y ≤ n (slice_index_or xs k d)) (λ i. slice_index_or (is i) zero d) (rises zero k d (omega arith) within)
      ]

-- what is left behind the first of what is left
pub rest_behind : (X : Type 0) (xs : List X) (k : ℕ) (y : X) (ys : List X) → k < length xs → drop k xs ≡ y ∷ ys → drop (k + 1) xs ≡ ys
rest_behind X xs k y ys within is = let both : slice_index_or xs k y ∷ drop (k + 1) xs ≡ y ∷ ys = sym (drop_more xs k y within) ∙ is in cc
