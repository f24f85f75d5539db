-- Bytes none of which is held exclusively.
use Rattle.std.specs.Prelude.{◌≢◌, ℕ, Option, Some}
use Rattle.model.specs.declared.mode.Mode.{Mode}
use Rattle.model.specs.declared.mode.Mode.TheVariants.{Write}

-- no byte is held in exclusive mode
abbrev pub IsShared : (ℕ → Option Mode) → Type 0
IsShared f = (b : ℕ) → f b ≢ Some Write
