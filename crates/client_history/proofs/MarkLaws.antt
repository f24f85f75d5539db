-- Marks of an order, place by place.
use Rattle.std.proofs.Common.{◌≡◌, ℕ, ◌<◌, Bool, true, false, List, length, slice_get, get_or, Some}

-- the marks of the first k places
pub record MarksTo (order : List ℕ) (count k : ℕ) (marks : List Bool) : Type 0 where
  pub within : (j i : ℕ) → j < k → slice_get order j ≡ Some i → i < count
  pub once : (a b i : ℕ) → a < k → b < k → slice_get order a ≡ Some i → slice_get order b ≡ Some i → a ≡ b
  pub size : length marks ≡ count
  pub marked : (i : ℕ) → get_or marks i false ≡ true → (j : ℕ) × (j < k) × (slice_get order j ≡ Some i)
  pub noted : (j i : ℕ) → j < k → slice_get order j ≡ Some i → get_or marks i false ≡ true
