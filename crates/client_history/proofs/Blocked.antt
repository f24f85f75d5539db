-- Locks that block.
use Rattle.std.specs.Prelude.{◌≢◌}
use Rattle.std.proofs.Common.{◌≡◌, ℕ, ◌+◌, ◌<◌, ◌≤◌, ⊎_elim, List, length, slice_get, get_or, Some, subst, ◌∙◌, ap, arith}
use Rattle.std.proofs.lemmas.Option.{slice_get-get_or}
use Rattle.intervals.specs.rule.Bytes.{Range}
use Rattle.model.specs.declared.mode.Mode.{Mode}
use Rattle.model.specs.declared.owner.Owner.{Owner}
use Rattle.model.specs.declared.lock_info.LockInfo.{LockInfo}
use Rattle.model.specs.rule.Locks.{FileLocks, Locks, IsFree, IsInWay, IsLowestBlocker, IsRegion}
use Rattle.model.proofs.BlockerLaws.{blocks_bars}
use Rattle.lock_table.specs.rule.Tables.{IsListing}
use Rattle.client_history.specs.declared.told_lock.ToldLock.{ToldLock}
use Rattle.client_history.specs.rule.Explained.{IsTold, IsBlocked}
use Rattle.client_history.proofs.Orders.{last_place, get_one}

-- where a lock blocks, the span is not free
pub blocked_is_not_free : (h : FileLocks) (owner : Owner) (s : Range) (mode : Mode) (lock : LockInfo) → s.lo ≤ s.hi → IsLowestBlocker h owner s mode lock → IsFree h owner s mode → ⊥
blocked_is_not_free h owner s mode lock order b free = blocks_bars h owner s mode lock order b.blocks free

-- the lock is of another owner and in the way, and what was told is so of it
abbrev pub Denies : Owner → Range → Mode → ToldLock → LockInfo → Type 0
Denies owner s mode told lock = (lock.owner ≢ owner) × IsInWay s mode lock × IsTold told lock

-- none of the first k locks denies
abbrev pub NoneDenies : List LockInfo → ℕ → Owner → Range → Mode → ToldLock → Type 0
NoneDenies locks k owner s mode told = (j : ℕ) (lock : LockInfo) → j < k → slice_get locks j ≡ Some lock → Denies owner s mode told lock → ⊥

module _ (locks : List LockInfo) (owner : Owner) (s : Range) (mode : Mode) (told : ToldLock) where
  -- one more lock that does not deny
  pub none_more : (k : ℕ) (lock : LockInfo) → NoneDenies locks k owner s mode told → slice_get locks k ≡ Some lock → (Denies owner s mode told lock → ⊥) → NoneDenies locks (k + 1) owner s mode told
  none_more k lock before at stays j other lt there denies = ⊎_elim
      (λ below. before j other below there denies)
      (λ e. stays (subst (Denies owner s mode told) (get_one locks j k other lock e there at) denies))
      (last_place j k lt)

  -- where none of all locks denies, none of fewer does
  pub none_enough : (k : ℕ) → length locks ≤ k → NoneDenies locks k owner s mode told → NoneDenies locks (length locks) owner s mode told
  none_enough k past before j lock lt at denies = before j lock (omega arith) at denies

  module _ (h : Locks) (file : ℕ) (all : IsListing (h file) locks) where
    -- where no lock denies, none blocks
    pub none_blocks : NoneDenies locks (length locks) owner s mode told → IsBlocked h file owner s mode told → ⊥
    none_blocks none b =
        let at = all.complete b.lock b.blocks.region in
        none at.0 b.lock at.1 (slice_get-get_or locks at.0 b.lock at.1 ∙ ap Some at.2) (b.blocks.is_other, record { conflicts = b.blocks.conflicts; starts = b.blocks.starts; ends = b.blocks.ends }, b.named)

    -- a lock that denies blocks
    pub one_blocks : (k : ℕ) (lock : LockInfo) → k < length locks → get_or locks k lock ≡ lock → Denies owner s mode told lock → IsBlocked h file owner s mode told
    one_blocks k lock lt at denies = record {
      lock = lock;
      blocks = record { is_other = denies.0; region = subst (λ (l : LockInfo). IsRegion (h file) l) at (all.regions k lock lt); conflicts = denies.1.conflicts; starts = denies.1.starts; ends = denies.1.ends };
      named = denies.2;
    }

-- where the span is free, no lock blocks
pub free_not_blocked : (h : Locks) (file : ℕ) (owner : Owner) (s : Range) (mode : Mode) (told : ToldLock) → s.lo ≤ s.hi → IsFree (h file) owner s mode → IsBlocked h file owner s mode told → ⊥
free_not_blocked h file owner s mode told order free b = blocks_bars (h file) owner s mode b.lock order b.blocks free

-- a lowest blocker to which all that was told applies blocks
pub lowest_blocks : (h : Locks) (file : ℕ) (owner : Owner) (s : Range) (mode : Mode) (told : ToldLock) (lock : LockInfo) → IsLowestBlocker (h file) owner s mode lock → IsTold told lock → IsBlocked h file owner s mode told
lowest_blocks h file owner s mode told lock lowest named = record { lock = lock; blocks = lowest.blocks; named = named }
