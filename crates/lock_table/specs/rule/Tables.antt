-- The parts of a lock table, the locks that it holds, and its regions as a list.
use Rattle.std.specs.Prelude.{ℕ, List, [], ◌∷◌, ◌≡◌, ◌<◌, ◌⊎◌, Bool, ◌&&◌, ◌==◌, All, AllPairs, Contains}
use Rattle.std.specs.List.{flat_map, IsDistinct}
use Rattle.intervals.specs.rule.Runs.{value_at}
use Rattle.model.specs.rule.Locks.{Locks, no_locks, replace, FileLocks, IsRegion, IsInWay}
use Rattle.lock_table.specs.declared.owner_locks.OwnerLocks.{OwnerLocks}
use Rattle.std.specs.declared.cmp.Ordering.TheVariants.{Less}
use Rattle.model.specs.rule.Owners.{same_owner, owner_cmp}
use Rattle.model.specs.declared.lock_info.LockInfo.{LockInfo}
use Rattle.model.specs.declared.mode.Mode.{Mode}

-- the locks that the rows hold: the first row of an owner in a file has its bytes
unfoldable pub rows_held : List OwnerLocks → Locks
rows_held [] = no_locks
rows_held (r ∷ rest) = replace (rows_held rest) r.file r.owner (value_at r.spans)

-- the rows of all blocks, in order
abbrev pub all_rows : List (List OwnerLocks) → List OwnerLocks
all_rows = flat_map (λ rows. rows)

-- a lock table: its rows in blocks, and the greatest number of regions of an owner in a file
pub record TableParts : Type 0 where
  pub blocks : List (List OwnerLocks)
  pub limit : ℕ

-- the locks that a table holds
abbrev pub held : TableParts → Locks
held t = rows_held (all_rows t.blocks)

-- lock a comes before lock b: by first byte, then by owner
abbrev pub IsBefore : LockInfo → LockInfo → Type 0
IsBefore a b = (a.span.lo < b.span.lo) ⊎ ((a.span.lo ≡ b.span.lo) × (owner_cmp a.owner b.owner ≡ Less))

-- the list has each region of the file once, by first byte and then by owner
pub record IsListing (h : FileLocks) (locks : List LockInfo) : Type 0 where
  pub regions : All (IsRegion h) locks
  pub complete : (lock : LockInfo) → IsRegion h lock → Contains locks lock
  pub rises : AllPairs IsBefore locks

-- whether two locks begin at one byte and are of one owner
abbrev pub same_start : LockInfo → LockInfo → Bool
same_start a b = (a.span.lo == b.span.lo) && same_owner a.owner b.owner

-- the list has each region of the file once, in any order
pub record ListsRegions (h : FileLocks) (locks : List LockInfo) : Type 0 where
  pub regions : All (IsRegion h) locks
  pub complete : (lock : LockInfo) → IsRegion h lock → Contains locks lock
  pub once : IsDistinct same_start locks

-- a lock of a kind holds byte b and excludes the mode
abbrev pub HasInWay : (LockInfo → Type 0) → Mode → ℕ → Type 0
HasInWay IsOne mode b = (lock : LockInfo) × IsOne lock × IsInWay (record { lo = b; hi = b }) mode lock
