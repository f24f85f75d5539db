-- The locks that block a call.
use Rattle.std.specs.Prelude.{Bool, not, ◌&&◌, ◌==◌, nat_le, List, filter, map}
use Rattle.model.specs.declared.lock_info.LockInfo.{LockInfo}
use Rattle.model.specs.rule.Locks.{excludes}
use Rattle.model.specs.rule.Owners.{same_owner}
use Rattle.node_core.specs.declared.open_call.OpenCall.{OpenCall}
use Rattle.cluster_core.specs.declared.held_lock.HeldLock.{HeldLock}

-- the lock, of those of the cluster, blocks the call
abbrev pub is_blocker : OpenCall → HeldLock → Bool
is_blocker c h = (h.file == c.file) && (not (same_owner h.lock.owner c.owner) && (excludes h.lock.mode c.mode && (nat_le h.lock.span.lo c.span.hi && nat_le c.span.lo h.lock.span.hi)))

-- the locks that block a call, of these
abbrev pub blocking_of : OpenCall → List HeldLock → List LockInfo
blocking_of c hs = map (λ h. h.lock) (filter (is_blocker c) hs)
