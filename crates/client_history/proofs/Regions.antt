-- The number of regions of a table.
use Rattle.std.proofs.Common.{◌≡◌, ◌≢◌, ℕ, ◌<◌, ◌≤◌, true, Option, refl, arith}
use Rattle.intervals.specs.rule.Bytes.{all_bytes}
use Rattle.intervals.proofs.StartsWith.{starts-few}
use Rattle.model.specs.declared.mode.Mode.{Mode}
use Rattle.model.specs.declared.mode.Mode.TheVariants.{Read, Write}
use Rattle.model.specs.rule.Locks.{regions}
use Rattle.model.specs.rule.Owners.{same_mode}
use Rattle.lock_table.specs.declared.error.LockError.{LockError}
use Rattle.lock_table.specs.declared.error.LockError.TheVariants.{NoMemory, NoLocks}

mode_same : (mode : Mode) → same_mode mode mode ≡ true
mode_same Read = refl
mode_same Write = refl

-- an owner has no more regions than a file has bytes
pub few_regions : (bytes : ℕ → Option Mode) → regions bytes ≤ 9223372036854775808
unfolding all_bytes
few_regions bytes = starts-few same_mode mode_same bytes 9223372036854775808

-- the number of regions never passes the greatest limit
pub never_many : (limit : ℕ) (bytes : ℕ → Option Mode) → limit ≡ 18446744073709551615 → limit < regions bytes → ⊥
never_many limit bytes greatest many = let few = few_regions bytes in absurd (omega arith)

-- an error that is not of the limit is for want of memory
pub is_memory : (error : LockError) → error ≢ NoLocks → error ≡ NoMemory
is_memory NoMemory other = refl
is_memory NoLocks other = absurd (other refl)
