-- The rows of a lock table, their blocks and the index of their pages, and the locks that they hold.
use Rattle.std.specs.Prelude.{◌≡◌, ℕ, ◌≤◌, Option, ◌+◌, ◌-◌, ◌*◌, ◌/◌, ◌%◌, ◌<◌, ◌⊎◌, Some, length, get_or, [], ◌≢◌, zero, suc, false, None, List, ◌∷◌, Bool, Result, MatchResult, IsTrue, ◌↔◌, set, take}
use Rattle.intervals.specs.rule.Bytes.{Range, greatest, IsBarred, IsFirstIn, IsRun, nothing}
use Rattle.intervals.specs.rule.Runs.{value_at}
use Rattle.model.specs.declared.mode.Mode.{Mode}
use Rattle.model.specs.declared.lock_info.LockInfo.{LockInfo}
use Rattle.lock_table.specs.declared.owner_locks.OwnerLocks.{OwnerLocks}
use Rattle.std.specs.Int.{bit_at}
use Rattle.model.specs.rule.Limits.{IsNumber}
use Rattle.model.specs.rule.Locks.{Locks, FileLocks, no_locks, replace}
use Rattle.model.specs.declared.owner.Owner.{Owner}
use Rattle.lock_table.specs.declared.flag_set.FlagSet.{FlagSet}
use Rattle.lock_table.specs.declared.owner_set.OwnerSet.{OwnerSet}
use Rattle.lock_table.specs.declared.page_index.PageIndex.{PageIndex}
use Rattle.std.specs.Borrow.{Bor}
use Rattle.std.specs.Ordering.{nat_cmp, ordering_then, is_le}
use Rattle.std.specs.declared.cmp.Ordering.{Ordering}
use Rattle.std.specs.declared.cmp.Ordering.TheVariants.{Less, Equal, Greater}
use Rattle.intervals.specs.declared.byte_run.ByteRun.{ByteRun}
use Rattle.model.specs.rule.Owners.{same_owner, owner_cmp}
use Rattle.lock_table.specs.rule.Tables.{TableParts, held, all_rows}
use Rattle.std.specs.Global.{Box}
use Rattle.std.specs.Vec.{vec_capacity}
use Rattle.intervals.specs.declared.span_edit.SpanEdit.{SpanEdit}
use Rattle.intervals.specs.code.Edits.{written}
use Rattle.lock_table.specs.declared.place.Place.{Place}
use Rattle.lock_table.specs.declared.lock_table.LockEdit.{LockEdit}
use Rattle.lock_table.specs.declared.blocks.RowRoom.{RowRoom}

-- the span from byte `first` to the greatest offset
abbrev pub rest_from : ℕ → Range
rest_from first = record { lo = first; hi = greatest }

-- the lock is the row's region that has the first barred byte of the span
pub record IsFirstRegion (r : OwnerLocks) (within : Range) (bar : Option Mode) (lock : LockInfo) : Type 0 where
  pub owner : lock.owner ≡ r.owner
  pub region : IsRun (value_at r.spans) lock.span lock.mode
  pub byte : ℕ
  pub first : IsFirstIn (IsBarred (value_at r.spans) bar) within byte
  pub starts : lock.span.lo ≤ byte
  pub ends : byte ≤ lock.span.hi

-- the flag of an owner, which it shares with other owners
abbrev pub flag_of : Owner → ℕ
flag_of o = (o.node * 32 + o.number) % 256

-- the set has the flag
pub record HasFlag (s : FlagSet) (flag : ℕ) : Type 0 where
  pub set : bit_at (get_or s.words (flag / 64) 0) (flag % 64) ≡ 1

-- the set has the owner, by its flag
abbrev pub Has : OwnerSet → Owner → Type 0
Has s o = HasFlag s.flags (flag_of o)

-- the place of a page's set of owners among so many sets, which the page shares with other pages
abbrev pub slot_of : ℕ → ℕ → ℕ → ℕ
slot_of sets file page = (page + file * 1031) % sets

-- the index has memory
abbrev pub IsKept : PageIndex → Type 0
IsKept x = (0 < length x.sets.items) × (length x.files.items ≡ 256)

-- the set of the page has the owner
abbrev pub HasPage : PageIndex → ℕ → Owner → ℕ → Type 0
HasPage x file o page = Has (get_or x.sets.items (slot_of (length x.sets.items) file page) x.long) o

abbrev pub no_flags : FlagSet
no_flags = record { words = [] }

-- the set of the owner's flag has the file
pub record HasFile (x : PageIndex) (file : ℕ) (o : Owner) : Type 0 where
  pub number : IsNumber 256 file
  pub set : HasFlag (get_or x.files.items (flag_of o) no_flags) (file - 1)

-- if the index is kept, it has the owner in the set of long runs or of the byte's page,
-- and the file in the set of the owner's flag, or the owner in the set of files without a flag
pub record MayHold (x : PageIndex) (file : ℕ) (o : Owner) (b : ℕ) : Type 0 where
  pub noted : IsKept x → Has x.long o ⊎ HasPage x file o (b / (x.extra + 64))
  pub in_file : IsKept x → Has x.wide o ⊎ HasFile x file o

-- by the index each owner may hold each byte that it holds
abbrev pub Covers : PageIndex → Locks → Type 0
Covers x h = (f : ℕ) (o : Owner) (b : ℕ) (m : Mode) → h f o b ≡ Some m → MayHold x f o b

-- both tables hold the same locks, and have the same limit
pub record IsSameTable (a b : TableParts) : Type 0 where
  pub locks : held a ≡ held b
  pub limit : a.limit ≡ b.limit

-- the number by which rows stand: by file, and in a file by the flag of the owner
abbrev pub mark_of : ℕ → Owner → ℕ
mark_of file owner = file * 256 + flag_of owner

-- how a row stands to a mark and an owner: by mark, then by owner
abbrev pub mark_cmp : OwnerLocks → ℕ → Owner → Ordering
mark_cmp r mark owner = ordering_then (nat_cmp (mark_of r.file r.owner) mark) (owner_cmp r.owner owner)

-- how a row stands to the place of an owner in a file: by file, then by flag, then by owner
abbrev pub row_cmp : OwnerLocks → ℕ → Owner → Ordering
row_cmp r file owner = mark_cmp r (mark_of file owner) owner

-- the bytes that the spans of an owner in a file hold; none if it has no spans there
abbrev pub bytes_in : Option (Bor (List (ByteRun Mode))) → ℕ → Option Mode
bytes_in None = nothing
bytes_in (Some own) = value_at own.now

-- the number of runs in the spans of an owner in a file
abbrev pub runs_in : Option (Bor (List (ByteRun Mode))) → ℕ
runs_in None = 0
runs_in (Some own) = length own.now

-- no byte past the greatest offset is held
abbrev pub IsBounded : (ℕ → Option Mode) → Type 0
IsBounded f = (b : ℕ) → greatest < b → f b ≡ None

-- no byte from `first` on is held
abbrev pub NothingFrom : (ℕ → Option Mode) → ℕ → Type 0
NothingFrom f first = (b : ℕ) → first ≤ b → f b ≡ None

-- some byte is held, and none past the greatest offset
pub record HoldsSome (f : ℕ → Option Mode) : Type 0 where
  pub some : f ≢ nothing
  pub bounded : IsBounded f

-- each of the rows stands behind the place of the owner in the file
abbrev pub AllAfter : ℕ → Owner → List OwnerLocks → Type 0
AllAfter file owner [] = Unit {0}
AllAfter file owner (r ∷ rest) = (row_cmp r file owner ≡ Greater) × AllAfter file owner rest

-- the rows stand by file, flag and owner, with at most one for an owner in a file, and each row holds some byte
abbrev pub AreRows : List OwnerLocks → Type 0
AreRows [] = Unit {0}
AreRows (r ∷ rest) = HoldsSome (value_at r.spans) × AllAfter r.file r.owner rest × AreRows rest

-- the row at place i is the one of the owner in the file
abbrev pub IsRowAt : List OwnerLocks → ℕ → ℕ → Owner → Type 0
IsRowAt [] i file owner = ⊥
IsRowAt (r ∷ rest) zero file owner = row_cmp r file owner ≡ Equal
IsRowAt (r ∷ rest) (suc i) file owner = (row_cmp r file owner ≡ Less) × IsRowAt rest i file owner

-- no row is of the owner in the file, and such a row belongs at place i
abbrev pub IsGap : List OwnerLocks → ℕ → ℕ → Owner → Type 0
IsGap rows zero file owner = AllAfter file owner rows
IsGap [] (suc i) file owner = ⊥
IsGap (r ∷ rest) (suc i) file owner = (row_cmp r file owner ≡ Less) × IsGap rest i file owner

-- the locks of one row, in the row's file
abbrev pub locks_of : OwnerLocks → FileLocks
locks_of r = replace no_locks r.file r.owner (value_at r.spans) r.file

-- both rows are of one owner in one file, and hold the same bytes in the same modes
pub record IsSameRow (a b : OwnerLocks) : Type 0 where
  pub file : a.file ≡ b.file
  pub owner : a.owner ≡ b.owner
  pub bytes : value_at a.spans ≡ value_at b.spans

-- after the change the owner holds in each file what it held or nothing, and other owners hold what they held
pub record HoldsLess (owner : Owner) (before after : Locks) : Type 0 where
  pub own : (f : ℕ) → (after f owner ≡ nothing) ⊎ (after f owner ≡ before f owner)
  pub others : (f : ℕ) (o : Owner) → same_owner owner o ≡ false → after f o ≡ before f o

-- the set has no owner of the rows from place i up to place j
abbrev pub ArePassed : List OwnerLocks → OwnerSet → ℕ → ℕ → Type 0
ArePassed rows near i j = (k : ℕ) (row : OwnerLocks) → i ≤ k → k < j → row ≡ get_or rows k row → Has near row.owner → ⊥

-- each of the blocks has some rows
abbrev pub AreSome : List (List OwnerLocks) → Type 0
AreSome [] = Unit {0}
AreSome (rows ∷ rest) = (0 < length rows) × AreSome rest

-- each of the rows stands before the place of the owner in the file
abbrev pub AllBefore : ℕ → Owner → List OwnerLocks → Type 0
AllBefore file owner [] = Unit {0}
AllBefore file owner (r ∷ rest) = (row_cmp r file owner ≡ Less) × AllBefore file owner rest

-- whether there is a first row, and it doesn't stand behind the place of an owner with this mark
abbrev pub begins_to : List OwnerLocks → ℕ → Owner → Bool
begins_to [] mark owner = false
begins_to (r ∷ rest) mark owner = is_le (mark_cmp r mark owner)

-- the file of the first row; 0 if there is none
abbrev pub first_file : List OwnerLocks → ℕ
first_file [] = 0
first_file (r ∷ rest) = r.file

-- the number of rows before a place
abbrev pub rows_before : List (List OwnerLocks) → Place → ℕ
rows_before blocks p = length (all_rows (take p.block blocks)) + p.row

-- a row stands at the place
abbrev pub IsRowOf : List (List OwnerLocks) → Place → Type 0
IsRowOf blocks p = p.row < length (get_or blocks p.block [])

-- the row at the place is the one of the owner in the file
abbrev pub IsRowIn : List (List OwnerLocks) → Place → ℕ → Owner → Type 0
IsRowIn blocks p file owner = IsRowAt (get_or blocks p.block []) p.row file owner

-- no row is of the owner in the file, and such a row belongs at the place
pub record IsGapIn (blocks : List (List OwnerLocks)) (p : Place) (file : ℕ) (owner : Owner) : Type 0 where
  pub gap : IsGap (all_rows blocks) (rows_before blocks p) file owner
  pub within : p.row ≤ length (get_or blocks p.block [])
  pub block : (p.block < length blocks) ⊎ (length blocks ≡ 0)

-- where the row of the owner in the file stands, or else where it belongs
abbrev pub IsPlaced : List (List OwnerLocks) → Result Place Place → ℕ → Owner → Type 0
IsPlaced blocks found file owner = MatchResult found (λ p. IsRowIn blocks p file owner) (λ p. IsGapIn blocks p file owner)

-- the row at the place has at most `most` runs
abbrev pub RunsFit : List (List OwnerLocks) → Place → ℕ → Type 0
RunsFit blocks p most = (row : OwnerLocks) → row ≡ get_or (get_or blocks p.block []) p.row row → length row.spans ≤ most

-- there is memory for one more block and its place, if the block of the place is full or there is none
pub record IsRoom (blocks : List (List OwnerLocks)) (p : Place) (room : RowRoom) : Type 0 where
  pub wanted : (64 ≤ length (get_or blocks p.block [])) ⊎ (length blocks ≡ 0)
  pub empty : room.block ≡ []
  pub places : length blocks < vec_capacity room.places

abbrev pub HasRoom : List (List OwnerLocks) → Place → Option (Box RowRoom) → Type 0
HasRoom blocks p None = (length (get_or blocks p.block []) < 64) × (0 < length blocks)
HasRoom blocks p (Some room) = IsRoom blocks p room.value

-- the change was planned for a table like this one, with the memory that it takes
abbrev pub Fits : TableParts → LockEdit → Type 0
Fits t e = MatchResult e.place (λ p. IsRowIn t.blocks p e.file e.owner × RunsFit t.blocks p e.write.runs) (λ p. IsGapIn t.blocks p e.file e.owner × HasRoom t.blocks p e.room)

-- the write of the row at place i is made, and `gone` says whether the row then holds nothing
pub record IsRowWritten (was is : List OwnerLocks) (i : ℕ) (e : SpanEdit Mode) (gone : Bool) : Type 0 where
  pub row : OwnerLocks
  pub read : row ≡ get_or was i row
  pub after : List (ByteRun Mode)
  pub bytes : value_at after ≡ written e row.spans
  pub rows : is ≡ set was i (record row { spans = after })
  pub none : IsTrue gone ↔ (value_at after ≡ nothing)
  pub bounded : IsBounded (value_at after)
