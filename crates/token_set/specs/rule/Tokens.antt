-- Tokens: what a node may lock at each byte without asking the token server, and what a holder gives up when a server revokes.
use Rattle.std.specs.Prelude.{ℕ, Bool, true, false, if◌then◌else◌, Option, Some, None, is_none, ◌≡◌, ◌≤◌, IsSome}
use Rattle.intervals.specs.rule.Search.{some_passes, all_pass}
use Rattle.intervals.specs.rule.Bytes.{Range, greatest, whole, is_in, size, IsLargest, largest_around}
use Rattle.model.specs.declared.mode.Mode.{Mode}
use Rattle.model.specs.declared.mode.Mode.TheVariants.{Read, Write}
use Rattle.model.specs.declared.level.Level.{Level}
use Rattle.model.specs.declared.level.Level.TheVariants.{Shared, Exclusive}
use Rattle.model.specs.declared.policy.Policy.{Policy}
use Rattle.model.specs.declared.policy.Policy.TheVariants.{Wide, Exact}
use Rattle.intervals.specs.declared.tree_map.TreeMap.{TreeMap}
use Rattle.intervals.specs.rule.Runs.{value_at}
use Rattle.model.specs.declared.owner.Owner.{Owner}
use Rattle.model.specs.declared.lock_info.LockInfo.{LockInfo}
use Rattle.model.specs.rule.Owners.{owner_at, most_owners}
use Rattle.model.specs.rule.Locks.{FileLocks, bars, IsRegion, IsOfNode, IsClear, IsInWay, IsLowestInWay, lowest_in_way}
use Rattle.lock_table.specs.rule.Tables.{HasInWay}
use Rattle.token_set.specs.declared.gave_up.GaveUp.{GaveUp}
use Rattle.token_set.specs.declared.gave_up.GaveUp.TheVariants.{Released, Conflict}

-- a token: the level of each byte, none where the node may lock nothing without asking
abbrev pub Token : Type 0
Token = ℕ → Option Level

abbrev pub no_token : Token
no_token b = None

-- whether a byte at this level may be locked in the mode: a shared byte only for read, an exclusive byte for either
abbrev pub serves : Option Level → Mode → Bool
serves None mode = false
serves (Some Shared) Read = true
serves (Some Shared) Write = false
serves (Some Exclusive) mode = true

-- whether the node may lock the whole span in the mode without asking
abbrev pub covers : Token → Range → Mode → Bool
covers t s mode = all_pass (λ b. serves (t b) mode) s.lo (size s)

-- a grant for read raises none to shared, a grant for write raises each level to exclusive
abbrev pub raised_level : Option Level → Mode → Option Level
raised_level level Write = Some Exclusive
raised_level None Read = Some Shared
raised_level (Some level) Read = Some level

abbrev pub raised : Token → Range → Mode → Token
raised t s mode b = if is_in s b then raised_level (t b) mode else t b

-- whether a byte at this level conflicts with a lock of the mode on another node
abbrev pub level_conflicts : Option Level → Mode → Bool
level_conflicts None mode = false
level_conflicts (Some Shared) Read = false
level_conflicts (Some Shared) Write = true
level_conflicts (Some Exclusive) mode = true

-- whether some byte of the span conflicts with a lock of the mode on another node
abbrev pub conflicts : Token → Range → Mode → Bool
conflicts t s mode = some_passes (λ b. level_conflicts (t b) mode) s.lo (size s)

-- whether no byte of the file has a level
abbrev pub holds_nothing : Token → Bool
holds_nothing t = all_pass (λ b. is_none (t b)) 0 (size whole)

-- FAST 2002, required and desired ranges: the desired range of a request for the required bytes, under a policy
abbrev pub desired : Policy → Token → Range → Range
desired Exact t required = required
desired Wide t required = if holds_nothing t then whole else record { lo = required.lo; hi = greatest }

-- the token that a map of levels stands for
abbrev pub token_of : TreeMap Level → Token
token_of = value_at

-- a revoke for read lowers exclusive to shared, a revoke for write lowers every level to none
abbrev pub lowered_level : Option Level → Mode → Option Level
lowered_level level Write = None
lowered_level None Read = None
lowered_level (Some level) Read = Some Shared

abbrev pub lowered : Token → Range → Mode → Token
lowered t s mode b = if is_in s b then lowered_level (t b) mode else t b

-- whether an owner of the node has a lock at byte b that excludes the mode
abbrev pub is_in_way : FileLocks → ℕ → ℕ → Mode → ℕ → Bool
is_in_way h node incarnation mode b = some_passes (λ k. bars mode (h (owner_at node incarnation k) b)) 0 most_owners

-- FAST 2002, required and desired ranges: the largest span around the required bytes, within the desired ones, without a lock of the node in the way
abbrev pub given_up_span : FileLocks → ℕ → ℕ → Mode → Range → Range → Range
given_up_span h node incarnation mode required desired = largest_around (is_in_way h node incarnation mode) required desired

-- the answer to a revoke: a conflict with the lock, if there is one, else the span is released
abbrev pub answer_of : Option LockInfo → Range → GaveUp
answer_of None s = Released s
answer_of (Some lock) s = Conflict lock

-- a holder's answer to a revoke: its lowest lock in the way of the required bytes, else the span that it gives up
abbrev pub gave_up : FileLocks → ℕ → ℕ → Mode → Range → Range → GaveUp
gave_up h node incarnation mode required desired =
    answer_of (lowest_in_way h node incarnation required mode) (given_up_span h node incarnation mode required desired)

-- the token after the answer to a revoke: a released span is lowered
abbrev pub after_giving_up : Token → Mode → GaveUp → Token
after_giving_up t mode (Released s) = lowered t s mode
after_giving_up t mode (Conflict lock) = t

-- no lock of a kind is in the way on the span
abbrev pub NoneInWay : (LockInfo → Type 0) → Range → Mode → Type 0
NoneInWay IsOne s mode = (lock : LockInfo) → IsOne lock → IsInWay s mode lock → ⊥

-- the right answer to a revoke, by the locks of a kind: the lowest one in the way of the required bytes; without one, the largest span free of them
abbrev pub IsGivenUp : (LockInfo → Type 0) → Mode → Range → Range → GaveUp → Type 0
IsGivenUp IsOne mode required desired (Conflict lock) = IsLowestInWay IsOne required mode lock
IsGivenUp IsOne mode required desired (Released s) = NoneInWay IsOne required mode × IsLargest (HasInWay IsOne mode) required desired s

-- the bytes that a revoke can name: at least one is required, and the desired ones contain the required ones
pub record IsRevocable (required desired : Range) : Type 0 where
  pub ordered : required.lo ≤ required.hi
  pub within : required.hi ≤ greatest
  pub starts : desired.lo ≤ required.lo
  pub ends : required.hi ≤ desired.hi

-- `gave_up` gives the right answer, as `IsGivenUp` says
abbrev pub GaveUpIsGivenUp : Type 0
GaveUpIsGivenUp =
    (h : FileLocks) (node incarnation : ℕ) (mode : Mode) (required desired : Range)
    → IsOfNode h node incarnation
    → IsRevocable required desired
    → IsGivenUp (IsRegion h) mode required desired (gave_up h node incarnation mode required desired)

-- the right answer, by the regions of the node's locks, is the one of `gave_up`
abbrev pub GaveUpIsOne : Type 0
GaveUpIsOne =
    (h : FileLocks) (node incarnation : ℕ) (mode : Mode) (required desired : Range) (answer : GaveUp)
    → IsOfNode h node incarnation
    → IsRevocable required desired
    → IsGivenUp (IsRegion h) mode required desired answer
    → answer ≡ gave_up h node incarnation mode required desired

-- no lock of the node excludes the mode on a span that is released
abbrev pub ReleasedIsClear : Type 0
ReleasedIsClear =
    (h : FileLocks) (node incarnation : ℕ) (mode : Mode) (required desired s : Range)
    → IsOfNode h node incarnation
    → IsRevocable required desired
    → gave_up h node incarnation mode required desired ≡ Released s
    → IsClear h s mode

-- level x lets a node lock no more than level y
abbrev pub IsAtMost : Option Level → Option Level → Type 0
IsAtMost None y = Unit {0}
IsAtMost (Some Shared) y = IsSome y
IsAtMost (Some Exclusive) y = y ≡ Some Exclusive

-- a lowered token has no higher level at any byte
abbrev pub LoweringLowers : Type 0
LoweringLowers = (t : Token) (s : Range) (mode : Mode) (b : ℕ) → IsAtMost (lowered t s mode b) (t b)

-- if no lock on the span excludes the mode, a token that covers the locks still covers them after it is lowered there
abbrev pub LoweringKeepsLocks : Type 0
LoweringKeepsLocks =
    (h : FileLocks) (t : Token) (s : Range) (mode : Mode)
    → IsClear h s mode
    → ((o : Owner) (b : ℕ) (held : Mode) → h o b ≡ Some held → serves (t b) held ≡ true)
    → (o : Owner) (b : ℕ) (held : Mode)
    → h o b ≡ Some held
    → serves (lowered t s mode b) held ≡ true
