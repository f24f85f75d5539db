-- What reads of a merge under way tell.
use Rattle.std.proofs.Common.{◌≡◌, ℕ, ◌<◌, true, false, ◌∙◌, refl, sym, subst, ltb, get_or, List, length, slice_get, Option, Some, None}
use Rattle.std.specs.Option.{MatchOption, is_some}
use Rattle.std.proofs.lemmas.Bool.{ltb-true}
use Rattle.std.proofs.lemmas.Option.{slice_get_read}
use Rattle.messages.specs.declared.actor.Actor.{Actor}
use Rattle.cluster_core.specs.rule.World.{WorldState}
use Rattle.merges.specs.code.Merging.{current, is_there}

-- an element that was got
pub got : (X : Type 0) (ys xs : List X) (i : ℕ) (x : X) → true ≡ ltb i (length ys) → x ≡ get_or ys i x → ys ≡ xs → slice_get xs i ≡ Some x
got X ys xs i x within is same = subst (λ (zs : List X). slice_get zs i ≡ Some x) same (slice_get_read ys (length ys) i x refl (ltb-true i (length ys) (sym within)) is)

module _ (w v : WorldState) (a b : Actor) (i j : ℕ) (worlds : w ≡ v) (actors : a ≡ b) (incarnations : i ≡ j) where
  pub current_there : current w a ≡ i → current v b ≡ j
  current_there now = (λ k. current (sym worlds k) (sym actors k)) ∙ now ∙ incarnations

  pub not_current_there : (is_there w a ≡ true → current w a ≡ i → ⊥) → is_there v b ≡ true → current v b ≡ j → ⊥
  not_current_there other there now = other ((λ k. is_there (worlds k) (actors k)) ∙ there) ((λ k. current (worlds k) (actors k)) ∙ now ∙ sym incarnations)

-- an element at an index
pub read : (X : Type 0) (xs : List X) (i : ℕ) (x : X) → i < length xs → x ≡ get_or xs i x → slice_get xs i ≡ Some x
read X xs i x within is = slice_get_read xs (length xs) i x refl within is

-- what is known of a value that is there, or not
module _ (X : Type 0) (P : Type 0) (Q : X → Type 0) where
  pub found : (o : Option X) → true ≡ is_some o → MatchOption o P Q → (x : X) × Q x
  found None some known = absurd (cc)
  found (Some x) some known = (x, known)

  pub not_found : (o : Option X) → is_some o ≡ false → MatchOption o P Q → P
  not_found None none known = known
  not_found (Some x) none known = absurd (cc)

  pub none_there : (o : Option X) → ((x : X) → Q x → ⊥) → MatchOption o P Q → is_some o ≡ false
  none_there None never known = refl
  none_there (Some x) never known = absurd (never x known)
