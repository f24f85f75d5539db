-- The derived test of owners is equality.
use Rattle.std.proofs.Common.{◌≡◌, ◌⊎◌, Bool, true, false, inl, inr, if◌then◌else◌, refl, arith}
use Rattle.std.proofs.lemmas.Grind.{common_steps}
use Rattle.model.specs.declared.owner.Owner.{Owner}
use Rattle.model.specs.contracts.owner.OwnerPartialEq.TheImpl as derived

pub eq_refl : (a : Owner) → derived.ghosts.eq a a ≡ true
eq_refl a = grind (arith, common_steps)

pub eq_exact : (a b : Owner) → derived.ghosts.eq a b ≡ true → a ≡ b
eq_exact a b h = grind (arith, common_steps)

-- an owner that is in after another was added was there, or is that one
pub put_in : (b x : Bool) → (if b then true else x) ≡ true → (b ≡ true) ⊎ (x ≡ true)
put_in true x h = inl refl
put_in false x h = inr h

pub stays_in : (b x : Bool) → x ≡ true → (if b then true else x) ≡ true
stays_in true x h = refl
stays_in false x h = h
