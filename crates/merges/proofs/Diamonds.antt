-- Steps of which any two that may come now may come in either order: whichever come first, as many come.
use Rattle.std.proofs.Common.{◌≡◌, ℕ, zero, suc, ◌⊎◌, inl, inr, refl, sym, subst}

-- what is asked of the steps of states, each of one list: a list's step is one, those of two lists may come in either order, and alike states take the same steps
pub record IsConfluent (S L : Type 0) (Step : S → L → S → Type 0) (Alike : S → S → Type 0) (Done : S → Type 0) : Type 0 where
  pub decides : (k l : L) → (k ≡ l) ⊎ (k ≡ l → ⊥)
  pub ends : (s n : S) (l : L) → Done s → Step s l n → ⊥
  pub stays : (s t : S) → Alike s t → Done s → Done t
  pub one : (s m n : S) (l : L) → Step s l m → Step s l n → m ≡ n
  pub follows : (s t m : S) (l : L) → Alike s t → Step s l m → (n : S) × Step t l n × Alike m n
  pub swaps : (s m n : S) (k l : L) → (k ≡ l → ⊥) → Step s k m → Step s l n → (p : S) × (q : S) × Step m l p × Step n k q × Alike p q

module _ (S L : Type 0) (Step : S → L → S → Type 0) (Alike : S → S → Type 0) (Done : S → Type 0) (c : IsConfluent S L Step Alike Done) where
  -- that many steps end it
  abbrev pub Ends : S → ℕ → Type 0
  Ends s zero = Done s
  Ends s (suc k) = (l : L) × (m : S) × Step s l m × Ends m k

  pub ends_alike : (k : ℕ) (s t : S) → Alike s t → Ends s k → Ends t k
  ends_alike zero s t alike done = c.stays s t alike done
  ends_alike (suc k) s t alike e =
      let next = c.follows s t e.1 e.0 alike e.2 in
      (e.0, next.0, next.1, ends_alike k e.1 next.0 next.2 e.3)

  -- a step that may come now may come first
  pub ends_after : (k : ℕ) (s n : S) (l : L) → Ends s k → Step s l n → (j : ℕ) × (k ≡ suc j) × Ends n j
  ends_after zero s n l done step = absurd (c.ends s n l done step)
  ends_after (suc k) s n l e step = elim (c.decides e.0 l) [
    | inl same ↦
        let m_is : e.1 ≡ n = c.one s e.1 n l (subst (λ (i : L). Step s i e.1) same e.2) step in
        (k, refl, subst (λ (x : S). Ends x k) m_is e.3)
    | inr other ↦
        let two = c.swaps s e.1 n e.0 l other e.2 step in
        let later = ends_after k e.1 two.0 l e.3 two.2 in
        let moved = ends_alike later.0 two.0 two.1 two.4 later.2 in
        (k, refl, subst (λ (x : ℕ). Ends n x) (sym later.1) (e.0, two.1, two.3, moved))
  ]
