-- Results that are no refusal.
use Rattle.std.proofs.Common.{◌≡◌, Bool, true, false, not, ◌&&◌, if◌then◌else◌, ◌⊎◌, inl, inr, refl, Result, Ok, Err}
pub use Rattle.model.proofs.Refusals.{ok_is, if_ok, if_then}

pub unless_refused : {A E : Type 0} (b : Bool) (x : Result A E) (y : A) (e : E) → ◌≡◌ {A = Result A E} (if b then Err e else x) (Ok y) → (b ≡ false) × (x ≡ Ok y)
unless_refused true x y e h = absurd (cc)
unless_refused false x y e h = (refl, h)

-- a message that is for its actor: by a test it does the one or the other
pub if_ours : {A E : Type 0} (ours known here : Bool) (x y p : A) (e : E) → ◌≡◌ {A = Result A E} (if not (ours && known) then Err e else (if here then Ok x else Ok y)) (Ok p) → (ours ≡ true) × (known ≡ true) × (((here ≡ true) × (x ≡ p)) ⊎ ((here ≡ false) × (y ≡ p)))
if_ours false known here x y p e h = absurd (cc)
if_ours true false here x y p e h = absurd (cc)
if_ours true true true x y p e h = (refl, refl, inl (refl, ok_is x p h))
if_ours true true false x y p e h = (refl, refl, inr (refl, ok_is y p h))
