-- Locks that block an owner, and locks in the way of a mode, as a search goes over rows.
use Rattle.std.specs.Prelude.{◌≡◌, ◌≢◌, ℕ, ◌≤◌, false, Option, None, Some, MatchOption, IsSome}
use Rattle.intervals.specs.rule.Bytes.{Range}
use Rattle.model.specs.rule.Locks.{FileLocks, bars, IsRegion, IsLowestBlocker, IsLowestInWay}
use Rattle.model.specs.declared.mode.Mode.{Mode}
use Rattle.model.specs.declared.owner.Owner.{Owner}
use Rattle.model.specs.declared.lock_info.LockInfo.{LockInfo}
use Rattle.lock_table.specs.declared.owner_set.OwnerSet.{OwnerSet}
use Rattle.lock_table.specs.code.Rows.{Has}
use Rattle.std.specs.Ordering.{nat_cmp, ordering_then}
use Rattle.std.specs.declared.cmp.Ordering.{Ordering}
use Rattle.model.specs.rule.Owners.{owner_cmp}

-- the owner counts in a search that leaves out at most one owner
abbrev pub IsAsked : Option Owner → Owner → Type 0
IsAsked None o = Unit {0}
IsAsked (Some out) o = o ≢ out

-- no lock on the span that counts excludes the mode
abbrev pub IsClearBut : FileLocks → Option Owner → Range → Mode → Type 0
IsClearBut h out s mode = (o : Owner) (b : ℕ) → IsAsked out o → s.lo ≤ b → b ≤ s.hi → bars mode (h o b) ≡ false

-- the lock is a region of an owner that counts
pub record IsRegionBut (h : FileLocks) (out : Option Owner) (lock : LockInfo) : Type 0 where
  pub asked : IsAsked out lock.owner
  pub region : IsRegion h lock

-- the lock is the lowest one in the way that counts; or there is none, and no lock that counts excludes the mode on the span
pub record IsLowestBut (h : FileLocks) (out : Option Owner) (s : Range) (mode : Mode) (lock : Option LockInfo) : Type 0 where
  pub answer : MatchOption lock (IsClearBut h out s mode) (IsLowestInWay (IsRegionBut h out) s mode)
  pub ordered : IsSome lock → s.lo ≤ s.hi

-- the set has each owner that holds a byte of the span
abbrev pub AreNear : FileLocks → OwnerSet → Range → Type 0
AreNear h near s = (o : Owner) (b : ℕ) (m : Mode) → s.lo ≤ b → b ≤ s.hi → h o b ≡ Some m → Has near o

-- two locks that are both the lowest that blocks an owner are equal
abbrev pub LowestBlockerIsOne : Type 0
LowestBlockerIsOne =
    (h : FileLocks) (owner : Owner) (s : Range) (mode : Mode) (a b : LockInfo)
    → IsLowestBlocker h owner s mode a
    → IsLowestBlocker h owner s mode b
    → a ≡ b

-- how lock a stands to lock b: by first byte, then by owner
abbrev pub lock_cmp : LockInfo → LockInfo → Ordering
lock_cmp a b = ordering_then (nat_cmp a.span.lo b.span.lo) (owner_cmp a.owner b.owner)
