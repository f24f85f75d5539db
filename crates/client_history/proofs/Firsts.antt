-- The first of a set in a list.
use Rattle.std.proofs.Common.{◌≡◌, ℕ, zero, suc, ◌⊎◌, inl, inr, ⊎_elim, List, [], ◌∷◌, ◌++◌, slice_get, Some, refl, sym, ap, subst}
use Rattle.std.proofs.lemmas.Option.{none-some, same_Some}
use Rattle.client_history.specs.rule.Explained.{Stands}

-- an element of a list is its first, or stands behind it
stands_behind : (y : ℕ) (ys : List ℕ) (i k : ℕ) → slice_get (y ∷ ys) k ≡ Some i → (y ≡ i) ⊎ Stands ys i
stands_behind y ys i zero at = inl (same_Some y i at)
stands_behind y ys i (suc k) at = inr (k, at)

stands_more : (y : ℕ) (ys : List ℕ) (i : ℕ) → Stands ys i → Stands (y ∷ ys) i
stands_more y ys i stands = (suc stands.0, stands.1)

-- the list up to x, split at its first element that is of the set
pub record IsFirst (Set : ℕ → Type 0) (before behind : List ℕ) (x : ℕ) : Type 0 where
  pub earlier : List ℕ
  pub first : ℕ
  pub later : List ℕ
  pub splits : before ++ (x ∷ behind) ≡ earlier ++ (first ∷ later)
  pub chosen : Set first
  pub none : (i : ℕ) → Stands earlier i → Set i → ⊥
  pub within : (i : ℕ) → Stands earlier i → Stands (before ++ (x ∷ [])) i
  pub here : Stands (before ++ (x ∷ [])) first

-- if x is of the set, there is a first element of the set
pub first_of : (Set : ℕ → Type 0) → ((i : ℕ) → Set i ⊎ (Set i → ⊥)) → (before behind : List ℕ) (x : ℕ) → Set x → IsFirst Set before behind x
first_of Set decided [] behind x chosen = record {
  earlier = [];
  first = x;
  later = behind;
  splits = refl;
  chosen = chosen;
  none = λ i stands. absurd (none-some i stands.1);
  within = λ i stands. absurd (none-some i stands.1);
  here = (zero, refl);
}
first_of Set decided (y ∷ ys) behind x chosen = ⊎_elim here (behind_it (first_of Set decided ys behind x chosen)) (decided y)
  where
    here : Set y → IsFirst Set (y ∷ ys) behind x
    here is = record {
      earlier = [];
      first = y;
      later = ys ++ (x ∷ behind);
      splits = refl;
      chosen = is;
      none = λ i stands. absurd (none-some i stands.1);
      within = λ i stands. absurd (none-some i stands.1);
      here = (zero, refl);
    }

    behind_it : IsFirst Set ys behind x → (Set y → ⊥) → IsFirst Set (y ∷ ys) behind x
    behind_it next never = record {
      earlier = y ∷ next.earlier;
      first = next.first;
      later = next.later;
      splits = ap (λ (xs : List ℕ). y ∷ xs) next.splits;
      chosen = next.chosen;
      none = λ i stands is. ⊎_elim (λ e. never (subst Set (sym e) is)) (λ more. next.none i more is) (stands_behind y next.earlier i stands.0 stands.1);
      within = λ i stands. ⊎_elim (λ e. (zero, ap Some e)) (λ more. stands_more y (ys ++ (x ∷ [])) i (next.within i more)) (stands_behind y next.earlier i stands.0 stands.1);
      here = stands_more y (ys ++ (x ∷ [])) next.first next.here;
    }
