-- Lists of calls into which one is put, or from which some are taken.
use Rattle.std.specs.Prelude.{not, filter, ◌↔◌}
use Rattle.std.specs.List.{insert, list_any}
use Rattle.std.proofs.Common.{◌≡◌, ℕ, inl, inr, ⊎_elim, Bool, true, false, cond, ◌||◌, nat_eq, List, [], ◌∷◌, ◌++◌, take, drop, refl, sym, subst, ◌∙◌, eqb-true, eq-eqb}
use Rattle.std.proofs.lemmas.Bool.{false≢true, not-true, cases_Bool}
use Rattle.std.proofs.lemmas.List.{take-append-drop}
use Rattle.std.proofs.lemmas.Option.{none-some}
use Rattle.client_history.specs.rule.Explained.{Stands}
use Rattle.client_history.specs.code.Taken.{IsAlsoTaken}
use Rattle.client_history.proofs.Places.{stands_left, stands_right, stands_split, stands_first, stands_more, stands_cases}

-- a call that is put into a list is in it, besides those before
pub put_in : (i place : ℕ) (old : List ℕ) → IsAlsoTaken i old (insert old place i)
put_in i place old = record {
  there = stands_right (take place old) (i ∷ drop place old) i (stands_first i (drop place old));
  kept = λ j s. ⊎_elim
      (λ a. stands_left (take place old) (i ∷ drop place old) j a)
      (λ b. stands_right (take place old) (i ∷ drop place old) j (stands_more i (drop place old) j b))
      (stands_split (take place old) (drop place old) j (subst (λ (xs : List ℕ). Stands xs j) (sym (take-append-drop place old)) s));
  added = λ j s. ⊎_elim
      (λ a. inr (whole j (stands_left (take place old) (drop place old) j a)))
      (λ b. ⊎_elim (λ e. inl e) (λ c. inr (whole j (stands_right (take place old) (drop place old) j c))) (stands_cases i (drop place old) j b))
      (stands_split (take place old) (i ∷ drop place old) j s);
}
  where
    whole : (j : ℕ) → Stands (take place old ++ drop place old) j → Stands old j
    whole j s = subst (λ (xs : List ℕ). Stands xs j) (take-append-drop place old) s

module _ (i : ℕ) where
  pub found : (xs : List ℕ) → list_any (λ x. nat_eq x i) xs ≡ true → Stands xs i
  found [] e = absurd (false≢true e)
  found (x ∷ xs) e = ⊎_elim
      (λ same. subst (λ (j : ℕ). Stands (x ∷ xs) j) (eqb-true x i same) (stands_first x xs))
      (λ other. stands_more x xs i (found xs (subst (λ (b : Bool). (b || list_any (λ y. nat_eq y i) xs) ≡ true) other e)))
      (cases_Bool (nat_eq x i))

  pub lost : (xs : List ℕ) → list_any (λ x. nat_eq x i) xs ≡ false → Stands xs i → ⊥
  lost [] e s = none-some i s.1
  lost (x ∷ xs) e s = ⊎_elim
      (λ same. false≢true (sym e ∙ subst (λ (b : Bool). (b || list_any (λ y. nat_eq y i) xs) ≡ true) (sym (eq-eqb x i (sym same))) refl))
      (λ behind. ⊎_elim
      (λ same. false≢true (sym e ∙ subst (λ (b : Bool). (b || list_any (λ y. nat_eq y i) xs) ≡ true) (sym same) refl))
      (λ other. lost xs (subst (λ (b : Bool). (b || list_any (λ y. nat_eq y i) xs) ≡ false) other e) behind)
      (cases_Bool (nat_eq x i)))
      (stands_cases x xs i s)

module _ (p : ℕ → Bool) (i : ℕ) where
  -- an element that a filter keeps was in the list, and passes
  passed : (xs : List ℕ) → Stands (filter p xs) i → Stands xs i × (p i ≡ true)
  passed [] s = absurd (none-some i s.1)
  passed (x ∷ xs) s = ⊎_elim
      (λ yes. ⊎_elim
      (λ e. (subst (λ (j : ℕ). Stands (x ∷ xs) j) (sym e) (stands_first x xs), subst (λ (j : ℕ). p j ≡ true) (sym e) yes))
      (λ behind. let rest = passed xs behind in (stands_more x xs i rest.0, rest.1))
      (stands_cases x (filter p xs) i (subst (λ (b : Bool). Stands (cond b (x ∷ filter p xs) (filter p xs)) i) yes s)))
      (λ no. let rest = passed xs (subst (λ (b : Bool). Stands (cond b (x ∷ filter p xs) (filter p xs)) i) no s) in (stands_more x xs i rest.0, rest.1))
      (cases_Bool (p x))

  -- an element of the list that passes is kept
  passes : (xs : List ℕ) → p i ≡ true → Stands xs i → Stands (filter p xs) i
  passes [] ok s = absurd (none-some i s.1)
  passes (x ∷ xs) ok s = ⊎_elim
      (λ e. subst (λ (b : Bool). Stands (cond b (x ∷ filter p xs) (filter p xs)) i) (sym (subst (λ (j : ℕ). p j ≡ true) e ok)) (subst (λ (j : ℕ). Stands (x ∷ filter p xs) j) (sym e) (stands_first x (filter p xs))))
      (λ behind. let rest = passes xs ok behind in ⊎_elim
      (λ t. subst (λ (b : Bool). Stands (cond b (x ∷ filter p xs) (filter p xs)) i) (sym t) (stands_more x (filter p xs) i rest))
      (λ f. subst (λ (b : Bool). Stands (cond b (x ∷ filter p xs) (filter p xs)) i) (sym f) rest)
      (cases_Bool (p x)))
      (stands_cases x xs i s)

-- the calls that are not over stay
pub stays : (over old : List ℕ) (i : ℕ) → Stands (filter (λ x. not (list_any (λ y. nat_eq y x) over)) old) i ↔ (Stands old i × (Stands over i → ⊥))
stays over old i = (
  (λ s. let parts = passed (λ x. not (list_any (λ y. nat_eq y x) over)) i old s in (parts.0, lost i over (not-true (list_any (λ y. nat_eq y i) over) parts.1))),
  (λ s. passes (λ x. not (list_any (λ y. nat_eq y x) over)) i old (by (list_any (λ y. nat_eq y i) over) (λ e. s.1 (found i over e))) s.0),
)
  where
    by : (b : Bool) → (b ≡ true → ⊥) → not b ≡ true
    by true none = absurd (none refl)
    by false none = refl
