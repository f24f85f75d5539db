-- The locks of files: the mode in which each owner holds each byte, and the searches for locks in the way.
use Rattle.std.specs.Prelude.{◌≡◌, ◌≢◌, ℕ, ◌≤◌, ◌<◌, ◌+◌, ◌⊎◌, Bool, true, false, ◌&&◌, ◌==◌, nat_le, if◌then◌else◌, Option, Some, None, MatchOption}
use Rattle.std.specs.declared.cmp.Ordering.TheVariants.{Greater}
use Rattle.intervals.specs.rule.Search.{first_answer}
use Rattle.intervals.specs.rule.Bytes.{Range, greatest, nothing, put, is_start, number_of_runs, run_from, IsRun}
use Rattle.model.specs.declared.mode.Mode.{Mode}
use Rattle.model.specs.declared.mode.Mode.TheVariants.{Read, Write}
use Rattle.model.specs.declared.owner.Owner.{Owner}
use Rattle.model.specs.declared.lock_info.LockInfo.{LockInfo}
use Rattle.model.specs.rule.Owners.{same_mode, same_owner, owner_cmp, owner_at, most_owners}

-- the locks of one file: the mode in which each owner holds each byte, if any
abbrev pub FileLocks : Type 0
FileLocks = Owner → ℕ → Option Mode

-- the locks of each file
abbrev pub Locks : Type 0
Locks = ℕ → FileLocks

abbrev pub no_locks : Locks
no_locks file owner = nothing

-- the locks after one owner's locks in one file are replaced by the given bytes
abbrev pub replace : Locks → ℕ → Owner → (ℕ → Option Mode) → Locks
replace h file owner bytes f o = if (file == f) && same_owner owner o then bytes else h f o

-- the locks after the owner's bytes of the span are set to the mode, or freed
abbrev pub with_lock : Locks → ℕ → Owner → Range → Option Mode → Locks
with_lock h file owner s mode = replace h file owner (put (h file owner) s mode)

-- the locks after the owner's bytes of the file are freed
abbrev pub without_owner : Locks → ℕ → Owner → Locks
without_owner h file owner = replace h file owner nothing

-- the locks after the owner's bytes of all files are freed
abbrev pub without_owner_anywhere : Locks → Owner → Locks
without_owner_anywhere h owner f o = if same_owner owner o then nothing else h f o

-- the number of regions in an owner's bytes
abbrev pub regions : (ℕ → Option Mode) → ℕ
regions bytes = number_of_runs same_mode bytes

-- POSIX.1-2017 fcntl(): two read locks may share a byte, a write lock shares it with no lock
abbrev pub excludes : Mode → Mode → Bool
excludes Read Read = false
excludes Read Write = true
excludes Write mode = true

-- whether a byte that another owner holds in the given mode, if any, can't be locked in mode
abbrev pub bars : Mode → Option Mode → Bool
bars mode None = false
bars mode (Some held) = excludes held mode

-- the mode of the locks that exclude a lock of this mode; none where locks of either mode do
abbrev pub bar_of : Mode → Option Mode
bar_of Read = Some Write
bar_of Write = None

-- no other owner's lock on the span excludes the mode
abbrev pub IsFree : FileLocks → Owner → Range → Mode → Type 0
IsFree h owner s mode = (other : Owner) (b : ℕ) → other ≢ owner → s.lo ≤ b → b ≤ s.hi → bars mode (h other b) ≡ false

-- the lock is a whole region of its owner
abbrev pub IsRegion : FileLocks → LockInfo → Type 0
IsRegion h lock = IsRun (h lock.owner) lock.span lock.mode

-- the lock is a region of another owner that reaches into the span and excludes the mode
pub record Blocks (h : FileLocks) (owner : Owner) (s : Range) (mode : Mode) (lock : LockInfo) : Type 0 where
  pub is_other : lock.owner ≢ owner
  pub region : IsRegion h lock
  pub conflicts : excludes lock.mode mode ≡ true
  pub starts : lock.span.lo ≤ s.hi
  pub ends : s.lo ≤ lock.span.hi

-- lock a comes before b or begins with it, in the order by first byte and then by owner
abbrev pub IsNotAfter : LockInfo → LockInfo → Type 0
IsNotAfter a b = (a.span.lo < b.span.lo) ⊎ ((a.span.lo ≡ b.span.lo) × (owner_cmp a.owner b.owner ≢ Greater))

-- the lock blocks, and no lock that blocks comes before it
pub record IsLowestBlocker (h : FileLocks) (owner : Owner) (s : Range) (mode : Mode) (lock : LockInfo) : Type 0 where
  pub blocks : Blocks h owner s mode lock
  pub lowest : (other : LockInfo) → Blocks h owner s mode other → IsNotAfter lock other

-- the owner's region that begins at byte lo, where the byte is held in the given mode, if it reaches into the span and excludes the mode
abbrev pub region_at : FileLocks → Range → Mode → Owner → ℕ → Option Mode → Option LockInfo
region_at h s mode owner lo None = None
region_at h s mode owner lo (Some held) =
    let run = run_from same_mode (h owner) lo held in
    if excludes held mode && (is_start same_mode (h owner) lo && nat_le s.lo run.hi)
    then Some (record { owner = owner; mode = held; span = run })
    else None

-- the region of the owner `other` that begins at byte lo and blocks `owner` on the span, if there is one
abbrev pub blocking_at : FileLocks → Owner → Range → Mode → ℕ → Owner → Option LockInfo
blocking_at h owner s mode lo other = if same_owner other owner then None else region_at h s mode other lo (h other lo)

-- the lowest region that blocks the owner, by first byte and then by owner, among those of the owner's node
unfoldable pub lowest_blocker : FileLocks → Owner → Range → Mode → Option LockInfo
lowest_blocker h owner s mode =
    first_answer (λ lo. first_answer (λ k. blocking_at h owner s mode lo (owner_at owner.node owner.incarnation k)) 0 most_owners) 0 (s.hi + 1)

-- all locks in the file are of owners that the node can have in this incarnation, and none is past the greatest offset
pub record IsOfNode (h : FileLocks) (node incarnation : ℕ) : Type 0 where
  pub is_own : (o : Owner) (b : ℕ) (mode : Mode) → h o b ≡ Some mode → (k : ℕ) × (k < most_owners) × (o ≡ owner_at node incarnation k)
  pub ends : (o : Owner) (b : ℕ) → greatest < b → h o b ≡ None

-- `lowest_blocker` finds the lowest lock that blocks, or none exactly where the span is free for the owner
abbrev pub LowestIsLowest : Type 0
LowestIsLowest =
    (h : FileLocks) (owner : Owner) (s : Range) (mode : Mode)
    → IsOfNode h owner.node owner.incarnation
    → s.lo ≤ s.hi
    → s.hi ≤ greatest
    → MatchOption (lowest_blocker h owner s mode) (IsFree h owner s mode) (IsLowestBlocker h owner s mode)

-- no lock on the span excludes the mode, whoever owns it
abbrev pub IsClear : FileLocks → Range → Mode → Type 0
IsClear h s mode = (o : Owner) (b : ℕ) → s.lo ≤ b → b ≤ s.hi → bars mode (h o b) ≡ false

-- the lock reaches into the span and excludes the mode
pub record IsInWay (s : Range) (mode : Mode) (lock : LockInfo) : Type 0 where
  pub conflicts : excludes lock.mode mode ≡ true
  pub starts : lock.span.lo ≤ s.hi
  pub ends : s.lo ≤ lock.span.hi

-- the lock is one that `IsOne` admits and is in the way, and no such lock comes before it
pub record IsLowestInWay (IsOne : LockInfo → Type 0) (s : Range) (mode : Mode) (lock : LockInfo) : Type 0 where
  pub is_one : IsOne lock
  pub in_way : IsInWay s mode lock
  pub lowest : (other : LockInfo) → IsOne other → IsInWay s mode other → IsNotAfter lock other

-- the lowest region in the way, by first byte and then by owner, among those of all owners of a node
unfoldable pub lowest_in_way : FileLocks → ℕ → ℕ → Range → Mode → Option LockInfo
lowest_in_way h node incarnation s mode =
    first_answer (λ lo. first_answer (λ k. region_at h s mode (owner_at node incarnation k) lo (h (owner_at node incarnation k) lo)) 0 most_owners) 0 (s.hi + 1)

-- `lowest_in_way` finds the lowest lock in the way, or none exactly where the span is clear
abbrev pub LowestInWayIsLowest : Type 0
LowestInWayIsLowest =
    (h : FileLocks) (node incarnation : ℕ) (s : Range) (mode : Mode)
    → IsOfNode h node incarnation
    → s.lo ≤ s.hi
    → s.hi ≤ greatest
    → MatchOption (lowest_in_way h node incarnation s mode) (IsClear h s mode) (IsLowestInWay (IsRegion h) s mode)

-- two regions that are both the lowest in the way are one
abbrev pub LowestInWayIsOne : Type 0
LowestInWayIsOne =
    (h : FileLocks) (s : Range) (mode : Mode) (a b : LockInfo)
    → IsLowestInWay (IsRegion h) s mode a
    → IsLowestInWay (IsRegion h) s mode b
    → a ≡ b
