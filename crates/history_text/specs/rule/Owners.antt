-- The owners that stand for names, and the times at which calls begin and end.
use Rattle.std.specs.Prelude.{◌≡◌, ℕ, ◌+◌, ◌/◌, ◌%◌, List, slice_get, Some, ◌≤◌, Option, IfSome}
use Rattle.model.specs.rule.Limits.{OwnerFields}
use Rattle.model.specs.declared.owner.Owner.{Owner}
use Rattle.model.specs.declared.owner.Kind.TheVariants.{OfProcess}

-- the number of owners that can be told apart
abbrev pub most_owners : ℕ
most_owners = 1073725440

-- the owner that stands for the name of this number, from 0
abbrev pub owner_numbered : ℕ → OwnerFields
owner_numbered k = record { node = k / 256 / 65535 + 1; incarnation = k / 256 % 65535 + 1; kind = OfProcess; number = k % 256 + 1 }

-- no name stands twice
abbrev pub AreDistinct : List (List ℕ) → Type 0
AreDistinct names = (i j : ℕ) (name : List ℕ) → slice_get names i ≡ Some name → slice_get names j ≡ Some name → i ≡ j

-- the owner stands for the name, one of these
abbrev pub IsNamed : List (List ℕ) → Owner → List ℕ → Type 0
IsNamed names owner name = (k : ℕ) × (slice_get names k ≡ Some name) × (owner ≡ owner_numbered k)

-- the end, if there is one, is no earlier than the begin
abbrev pub IsTimed : ℕ → Option ℕ → Type 0
IsTimed begin end = IfSome end (λ time. begin ≤ time)
