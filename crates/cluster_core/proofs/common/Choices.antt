-- Choices by a test.
use Rattle.std.proofs.Common.{◌≡◌, Bool, true, false, if◌then◌else◌, refl, Option, Some, None}
pub use Rattle.messages.proofs.Rules.{if_either, if_again, at_number}

-- an event that a test gives is that one
pub one_event : {A : Type 0} (b : Bool) (x y : A) → ◌≡◌ {A = Option A} (if b then Some x else None) (Some y) → (b ≡ true) × (y ≡ x)
one_event true x y e = (refl, cc)
one_event false x y e = absurd (cc)
