-- The definitions' tests of modes and owners are equality.
use Rattle.std.specs.Prelude.{◌≡◌, ◌↔◌, IsTrue}
use Rattle.model.specs.declared.mode.Mode.{Mode}
use Rattle.model.specs.declared.owner.Owner.{Owner}
use Rattle.model.specs.rule.Owners.{same_mode, same_owner}

abbrev pub SameModeIsEquality : Type 0
SameModeIsEquality = (a b : Mode) → IsTrue (same_mode a b) ↔ (a ≡ b)

abbrev pub SameOwnerIsEquality : Type 0
SameOwnerIsEquality = (a b : Owner) → IsTrue (same_owner a b) ↔ (a ≡ b)
