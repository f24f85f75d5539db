-- The tokens and the locks of a cluster as lists.
use Rattle.std.specs.Prelude.{◌≡◌, ℕ, ◌<◌, ◌⊎◌, true, List, ◌++◌, All, AllPairs, Contains}
use Rattle.intervals.specs.rule.Bytes.{Range, IsRun}
use Rattle.model.specs.declared.level.Level.{Level}
use Rattle.model.specs.declared.lock_info.LockInfo.{LockInfo}
use Rattle.model.specs.rule.Locks.{IsRegion}
use Rattle.lock_table.specs.rule.Tables.{IsBefore}
use Rattle.cluster_core.specs.declared.held_lock.HeldLock.{HeldLock}
use Rattle.cluster_core.specs.declared.node_token_run.NodeTokenRun.{NodeTokenRun}
use Rattle.cluster_core.specs.rule.World.{WorldState, has_file, is_live}
use Rattle.cluster_core.specs.rule.Union.{union}

-- the list has each element of the kind once, in the order
pub record Lists {A : Type 0} (Is : A → Type 0) (Before : A → A → Type 0) (xs : List A) : Type 0 where
  pub each : All Is xs
  pub complete : (x : A) → Is x → Contains xs x
  pub rises : AllPairs Before xs

-- the list is the old one and behind it all elements of the kind, in the order
abbrev pub Adds : {A : Type 0} → (A → Type 0) → (A → A → Type 0) → List A → List A → Type 0
Adds {A} Is Before old new = (more : List A) × (new ≡ old ++ more) × Lists Is Before more

-- a longest run of bytes at one level in the token of a live node
pub record IsTokenRun (w : WorldState) (t : NodeTokenRun) : Type 0 where
  pub live : is_live w t.node t.incarnation ≡ true
  pub file_in : has_file w t.file ≡ true
  pub run : IsRun ((w.nodes t.node).files t.file).token t.span t.level

-- the order of token runs: by node, then by file, then by first byte
abbrev pub IsTokenBefore : NodeTokenRun → NodeTokenRun → Type 0
IsTokenBefore a b = (a.node < b.node) ⊎ ((a.node ≡ b.node) × ((a.file < b.file) ⊎ ((a.file ≡ b.file) × (a.span.lo < b.span.lo))))

-- the list has each longest run of the live nodes' tokens once, in order
abbrev pub IsTokenListing : WorldState → List NodeTokenRun → Type 0
IsTokenListing w = Lists (IsTokenRun w) IsTokenBefore

-- a longest run in a token of that node
abbrev pub IsTokenOf : WorldState → ℕ → NodeTokenRun → Type 0
IsTokenOf w node t = IsTokenRun w t × (t.node ≡ node)

abbrev pub IsTokenOfFile : WorldState → ℕ → ℕ → NodeTokenRun → Type 0
IsTokenOfFile w node file t = IsTokenOf w node t × (t.file ≡ file)

-- a run with its node, incarnation and file
abbrev pub token_run : ℕ → ℕ → ℕ → Range × Level → NodeTokenRun
token_run node incarnation file r = record { node = node; incarnation = incarnation; file = file; span = r.0; level = r.1 }

-- a region of the live nodes' locks together
pub record IsHeld (w : WorldState) (h : HeldLock) : Type 0 where
  pub file_in : has_file w h.file ≡ true
  pub region : IsRegion ((union w).locks h.file) h.lock

-- the order of locks: by file, then by first byte, then by owner
abbrev pub IsHeldBefore : HeldLock → HeldLock → Type 0
IsHeldBefore a b = (a.file < b.file) ⊎ ((a.file ≡ b.file) × IsBefore a.lock b.lock)

-- the list has each region of the live nodes' locks once, in order
abbrev pub IsLockListing : WorldState → List HeldLock → Type 0
IsLockListing w = Lists (IsHeld w) IsHeldBefore

-- a region with its file
abbrev pub held_lock : ℕ → LockInfo → HeldLock
held_lock file lock = record { file = file; lock = lock }
