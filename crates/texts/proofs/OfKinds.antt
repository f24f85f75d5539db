-- Values of several kinds: the front of a text says of which kind its value is.
use Rattle.std.proofs.Common.{◌≡◌, ◌≢◌, ℕ, false, true, eqb, List, [], ◌∷◌, ◌++◌, Option, Some, None, inl, inr, refl, sym, ap, subst, ◌∙◌, arith}
use Rattle.std.specs.Prelude.{◌⊎◌}
use Rattle.std.specs.List.{starts_with}
use Rattle.std.specs.Option.{IsSomeAnd, MatchOption, option_map}
use Rattle.texts.specs.rule.Reads.{Reads}
use Rattle.texts.proofs.Pairs.{AreApart, cancel-front}

-- the values of a kind are made of its fields, and written as the kind's front and the fields; values of other kinds have other fronts
pub record IsKind {A F : Type 0} (text : A → List ℕ) (Fits : A → Type 0) (front : List ℕ) (rest : F → List ℕ) (Fit : F → Type 0) (make : F → A) : Type 0 where
  pub fits : (f : F) → Fit f → Fits (make f)
  pub written : (f : F) → text (make f) ≡ front ++ rest f
  pub told : (x : A) → Fits x → ((f : F) × Fit f × (x ≡ make f)) ⊎ (starts_with eqb (text x) front ≡ false)

starts-front : (front bytes : List ℕ) → starts_with eqb (front ++ bytes) front ≡ true
starts-front [] bytes = refl
starts-front (c ∷ front) bytes = grind (arith, starts-front front bytes)

no-front : (front bytes text : List ℕ) → starts_with eqb text front ≡ false → front ++ bytes ≢ text
no-front front bytes text other e = grind (arith, starts-front front bytes, other, e)

-- a text behind a kind's front is that of a value exactly if it is the text of the kind's fields
pub reads-kind : {A F : Type 0} {text : A → List ℕ} {Fits : A → Type 0} {front : List ℕ} {rest : F → List ℕ} {Fit : F → Type 0} {make : F → A} → IsKind text Fits front rest Fit make
    → (bytes : List ℕ) (fields : Option F) → Reads rest Fit bytes fields → Reads text Fits (front ++ bytes) (option_map make fields)
reads-kind {text = text} {front = front} {rest = rest} kind bytes None none = λ x fits e.
    elim (kind.told x fits) [
      | inl (f, f_fits, made) ↦ none f f_fits (cancel-front front bytes (rest f) (e ∙ ap text made ∙ kind.written f))
      | inr other ↦ no-front front bytes _ other e
    ]
reads-kind {front = front} kind bytes (Some f) some = (kind.fits f some.0, ap (λ (r : List ℕ). front ++ r) some.1 ∙ sym (kind.written f))

-- a text behind a kind's front gives the value that a function makes of the fields, if the function makes the values of the kind
pub reads-made : {A F : Type 0} {text : A → List ℕ} {Fits : A → Type 0} {front : List ℕ} {rest : F → List ℕ} {Fit : F → Type 0} {make : F → A} {Made : F → A → Type 0} → IsKind text Fits front rest Fit make
    → (bytes : List ℕ) (fields : Option F) (value : Option A) → Reads rest Fit bytes fields → MatchOption fields (value ≡ None) (λ f. IsSomeAnd value (Made f)) → ((f : F) (x : A) → Made f x → x ≡ make f)
    → Reads text Fits (front ++ bytes) value
reads-made {text = text} {Fits = Fits} {front = front} kind bytes None value none is_none makes = subst (λ (v : Option _). Reads text Fits (front ++ bytes) v) (sym is_none) (reads-kind kind bytes None none)
reads-made kind bytes (Some f) None some cases makes = absurd cases
reads-made {text = text} {Fits = Fits} {front = front} kind bytes (Some f) (Some x) some cases makes =
    subst (λ (y : _). Reads text Fits (front ++ bytes) (Some y)) (sym (makes f x cases)) (reads-kind kind bytes (Some f) some)

-- a value of the kind shares its text with no other value, if no two of the kind's fields share a text
pub apart-kind : {A F : Type 0} {text : A → List ℕ} {Fits : A → Type 0} {front : List ℕ} {rest : F → List ℕ} {Fit : F → Type 0} {make : F → A} → IsKind text Fits front rest Fit make → AreApart rest Fit
    → (f : F) → Fit f → (y : A) → Fits y → text (make f) ≡ text y → make f ≡ y
apart-kind {text = text} {front = front} {rest = rest} {make = make} kind apart f f_fits y y_fits e =
    elim (kind.told y y_fits) [
      | inl (g, g_fits, made) ↦ ap make (apart f g f_fits g_fits (cancel-front front (rest f) (rest g) (sym (kind.written f) ∙ e ∙ ap text made ∙ kind.written g))) ∙ sym made
      | inr other ↦ absurd (no-front front (rest f) _ other (sym (kind.written f) ∙ e))
    ]
