-- The calls taken, one by one.
use Rattle.std.specs.Prelude.{◌≡◌, ℕ, ◌⊎◌, List}
use Rattle.client_history.specs.rule.Explained.{Stands}

-- the call was taken as well
pub record IsAlsoTaken (i : ℕ) (old new : List ℕ) : Type 0 where
  pub there : Stands new i
  pub kept : (j : ℕ) → Stands old j → Stands new j
  pub added : (j : ℕ) → Stands new j → (j ≡ i) ⊎ Stands old j
