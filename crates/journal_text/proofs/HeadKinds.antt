-- The first lines of journals, which differ by version.
use Rattle.std.proofs.Common.{◌≡◌, ◌≢◌, List, [], ◌∷◌, ◌++◌, ℕ, false, true, eqb, Option, Some, None, inl, inr, refl, sym, ap, subst, ◌∙◌, arith}
use Rattle.std.specs.Prelude.{◌⊎◌}
use Rattle.std.specs.List.{starts_with}
use Rattle.model.specs.declared.policy.Policy.{Policy}
use Rattle.messages.specs.rule.Shapes.{IsShape, ShapeFields}
use Rattle.messages.specs.declared.version.Version.{Version}
use Rattle.messages.specs.declared.version.Version.TheVariants.{First, Second}
use Rattle.texts.specs.rule.Reads.{Reads}
use Rattle.message_text.proofs.NameTexts.{AreTexts, has_no_feed, Variant, is_of, none-of, of_variants, variant}
use Rattle.lockscript.specs.rule.Scripts.{IsShapeOf, counts_text}
use Rattle.lockscript.proofs.Clusters.{IsCounts, counts-fit, counts-parts, counts_of, shape_counts, shape_with}
use Rattle.journal_text.specs.rule.Journals.{head_front, head_text}

pub shape-fits : (v : Version) (c : ℕ × (ℕ × Policy)) → IsCounts c → IsShape (shape_with v c)
shape-fits v c fits = record { nodes_in = (fits.0.0, omega (arith, fits.0.1)); files_in = fits.1.0 }

-- the shape is of the version, or its line begins otherwise
abbrev pub IsTold : Version → ShapeFields → Type 0
IsTold v s = ((c : ℕ × (ℕ × Policy)) × IsCounts c × (s ≡ shape_with v c)) ⊎ (starts_with eqb (head_text s) (head_front v) ≡ false)

told-same : (v : Version) (s : ShapeFields) → s.version ≡ v → IsShape s → IsTold v s
told-same v s e fits = inl (counts_of s, counts-fit s fits, ap (λ (w : Version). shape_with w (counts_of s)) e)

begins-as : (v w : Version) (s : ShapeFields) → s.version ≡ w → starts_with eqb (head_text s) (head_front v) ≡ starts_with eqb (head_front w ++ counts_text s) (head_front v)
begins-as v w s e = ap (λ (x : Version). starts_with eqb (head_front x ++ counts_text s) (head_front v)) e

told-by : (v w : Version) (s : ShapeFields) → s.version ≡ w → IsShape s → IsTold v s
told-by First First s e fits = told-same First s e fits
told-by First Second s e fits = inr (begins-as First Second s e)
told-by Second First s e fits = inr (begins-as Second First s e)
told-by Second Second s e fits = told-same Second s e fits

pub told : (v : Version) (s : ShapeFields) → IsShape s → IsTold v s
told v s fits = told-by v s.version s refl fits

pub no_feed : (v : Version) → has_no_feed (head_front v) ≡ true
no_feed First = refl
no_feed Second = refl

abbrev pub head_of : Version → Variant head_text IsShape
head_of v = variant (head_front v) (no_feed v) shape_counts (shape_with v) (shape-fits v) (λ c. ap (λ (t : List ℕ). head_front v ++ t) (counts-parts (shape_with v c))) (told v)

abbrev kinds : List (Variant head_text IsShape)
kinds = head_of First ∷ head_of Second ∷ []

begins-one : (v : Version) (bytes : List ℕ) → is_of kinds (head_front v ++ bytes) ≡ true
begins-one First bytes = refl
begins-one Second bytes = refl

pub head : AreTexts head_text IsShape
head = of_variants kinds (λ s. begins-one s.version (counts_text s))

-- a line that begins as one of this version names a shape of the version, or none
pub head-read : (version : Version) (line operands : List ℕ) → line ≡ head_front version ++ operands → (made : Option ShapeFields) → Reads counts_text (IsShapeOf version) operands made → Reads head_text IsShape line made
head-read version line operands parts None none =
    subst (λ (bytes : List ℕ). Reads head_text IsShape bytes None) (sym parts)
    (none-of (head_of version) operands (λ c fits e. none (shape_with version c) (record { is_shape = shape-fits version c fits; is_version = refl }) (e ∙ sym (counts-parts (shape_with version c)))))
head-read version line operands parts (Some s) some =
    (some.0.is_shape, parts ∙ ap (λ (counts : List ℕ). head_front version ++ counts) some.1 ∙ sym (ap (λ (v : Version). head_front v ++ counts_text s) some.0.is_version))

begins-none : (version : Version) (line operands : List ℕ) → ((rest : List ℕ) → line ≢ head_front First ++ rest) → ((rest : List ℕ) → line ≢ head_front Second ++ rest) → line ≢ head_front version ++ operands
begins-none First line operands no_first no_second = no_first operands
begins-none Second line operands no_first no_second = no_second operands

-- a line that begins as one of no version names no shape
pub head-none : (line : List ℕ) → ((rest : List ℕ) → line ≢ head_front First ++ rest) → ((rest : List ℕ) → line ≢ head_front Second ++ rest) → Reads head_text IsShape line None
head-none line no_first no_second s fits e = begins-none s.version line (counts_text s) no_first no_second e
