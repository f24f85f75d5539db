-- Results of tests that are not refusals.
use Rattle.std.proofs.Common.{◌≡◌, Bool, true, false, if◌then◌else◌, refl, Result, Ok, Err}

pub ok_is : {A E : Type 0} (a b : A) → ◌≡◌ {A = Result A E} (Ok a) (Ok b) → a ≡ b
ok_is a b e = cc

-- a choice between a value and a refusal that gives a value
pub if_ok : {A E : Type 0} (b : Bool) (x y : A) (e : E) → ◌≡◌ {A = Result A E} (if b then Ok x else Err e) (Ok y) → (b ≡ true) × (x ≡ y)
if_ok true x y e h = (refl, ok_is x y h)
if_ok false x y e h = absurd (cc)

pub if_then : {A E : Type 0} (b : Bool) (x : Result A E) (y : A) (e : E) → ◌≡◌ {A = Result A E} (if b then x else Err e) (Ok y) → (b ≡ true) × (x ≡ Ok y)
if_then true x y e h = (refl, h)
if_then false x y e h = absurd (cc)
