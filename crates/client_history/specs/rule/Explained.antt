-- When one table of record locks explains what the clients of a file saw, and what a verdict says.
use Rattle.std.specs.Prelude.{◌≡◌, ℕ, Some, None, IfSome, ◌≢◌, ◌≤◌, ◌<◌, true, List, [], ◌∷◌, slice_get, ⊤}
use Rattle.intervals.specs.rule.Bytes.{Range}
use Rattle.model.specs.declared.mode.Mode.{Mode}
use Rattle.model.specs.declared.owner.Owner.{Owner}
use Rattle.model.specs.declared.lock_info.LockInfo.{LockInfo}
use Rattle.model.specs.rule.Locks.{Locks, with_lock, without_owner, IsFree, Blocks, no_locks}
use Rattle.client_history.specs.declared.told_lock.ToldLock.{ToldLock}
use Rattle.client_history.specs.declared.act.Act.{Act}
use Rattle.client_history.specs.declared.act.Act.TheVariants.{Locks as Takes, IsDenied, IsFree as FindsFree, Frees, Drops}
use Rattle.client_history.specs.declared.client_call.ClientCall.{ClientCall}
use Rattle.client_history.specs.declared.verdict.Verdict.{Verdict}
use Rattle.client_history.specs.declared.verdict.Verdict.TheVariants.{Explained, Unexplained, Unknown}

-- all that the client was told applies to the lock
pub record IsTold (told : ToldLock) (lock : LockInfo) : Type 0 where
  pub mode : IfSome told.mode (λ mode. mode ≡ lock.mode)
  pub span : IfSome told.span (λ span. span ≡ lock.span)
  pub owner : IfSome told.owner (λ owner. owner ≡ lock.owner)

-- some lock of another owner blocks the span in the mode, and all that the client was told applies to it
pub record IsBlocked (h : Locks) (file : ℕ) (owner : Owner) (span : Range) (mode : Mode) (told : ToldLock) : Type 0 where
  pub lock : LockInfo
  pub blocks : Blocks (h file) owner span mode lock
  pub named : IsTold told lock

-- the owner's act leads from the old locks to the new (POSIX.1-2017 fcntl()): a set or wait that is done, one denied, a query, an unlock, a close or an exit
abbrev pub ActStep : ℕ → Locks → Owner → Act → Locks → Type 0
ActStep file old owner (Takes mode span) new = IsFree (old file) owner span mode × (new ≡ with_lock old file owner span (Some mode))
ActStep file old owner (IsDenied mode span told) new = IsBlocked old file owner span mode told × (new ≡ old)
ActStep file old owner (FindsFree mode span) new = IsFree (old file) owner span mode × (new ≡ old)
ActStep file old owner (Frees span) new = new ≡ with_lock old file owner span None
ActStep file old owner Drops new = new ≡ without_owner old file owner

-- the file whose locks are judged: each file has its own history
abbrev pub the_file : ℕ
the_file = 1

-- the calls with these indexes, one after the other, lead from the old locks to the new ones
abbrev pub Leads : List ClientCall → Locks → List ℕ → Locks → Type 0
Leads calls old [] new = old ≡ new
Leads calls old (i ∷ is) new = (call : ClientCall) × (mid : Locks) × (slice_get calls i ≡ Some call) × ActStep the_file old call.owner call.act mid × Leads calls mid is new

-- the calls of the order may follow one another in one table, which has no lock at first
abbrev pub IsLegal : List ClientCall → List ℕ → Type 0
IsLegal calls order = (last : Locks) × Leads calls no_locks order last

-- the call had its reply at that time or earlier
abbrev pub EndedBy : ℕ → ClientCall → Type 0
EndedBy time call = (end : ℕ) × (call.end ≡ Some end) × (end ≤ time)

-- the call ended before that time
abbrev pub EndsBefore : ClientCall → ℕ → Type 0
EndsBefore call time = (end : ℕ) × (call.end ≡ Some end) × (end < time)

-- each index is below that number of calls
abbrev pub AreWithin : ℕ → List ℕ → Type 0
AreWithin count order = (k i : ℕ) → slice_get order k ≡ Some i → i < count

-- the index stands in the order
abbrev pub Stands : List ℕ → ℕ → Type 0
Stands order i = (k : ℕ) × (slice_get order k ≡ Some i)

-- the call stands at that place of the order
pub record IsAt (calls : List ClientCall) (order : List ℕ) (k : ℕ) (call : ClientCall) : Type 0 where
  pub index : ℕ
  pub at : slice_get order k ≡ Some index
  pub there : slice_get calls index ≡ Some call

-- no index stands in the order twice
abbrev pub IsOnce : List ℕ → Type 0
IsOnce order = (j k i : ℕ) → slice_get order j ≡ Some i → slice_get order k ≡ Some i → j ≡ k

-- each call of the order began at that time or earlier
abbrev pub HaveBegun : ℕ → List ClientCall → List ℕ → Type 0
HaveBegun time calls order = (k : ℕ) (call : ClientCall) → IsAt calls order k call → call.begin ≤ time

-- each call that had its reply at that time or earlier stands in the order
abbrev pub AreAnswered : ℕ → List ClientCall → List ℕ → Type 0
AreAnswered time calls order = (i : ℕ) (call : ClientCall) → slice_get calls i ≡ Some call → EndedBy time call → Stands order i

-- no call of the order stands behind one that began after its end
abbrev pub AreInTime : List ClientCall → List ℕ → Type 0
AreInTime calls order = (j k : ℕ) (a b : ClientCall) → j < k → IsAt calls order j a → IsAt calls order k b → EndsBefore b a.begin → ⊥

-- no call of the order stands behind its owner's exit
abbrev pub ExitsAreLast : List ClientCall → List ℕ → Type 0
ExitsAreLast calls order = (j k : ℕ) (a b : ClientCall) → j < k → IsAt calls order j a → IsAt calls order k b → a.is_last ≡ true → b.owner ≢ a.owner

-- if an exit stands in the order, each call of its owner that has a reply does
abbrev pub ExitsAreWhole : List ClientCall → List ℕ → Type 0
ExitsAreWhole calls order = (k i : ℕ) (a b : ClientCall) → IsAt calls order k a → a.is_last ≡ true → slice_get calls i ≡ Some b → b.owner ≡ a.owner → b.end ≢ None → Stands order i

-- each call of the order that follows another stands behind it
abbrev pub AreBehindTheirFirst : List ClientCall → List ℕ → Type 0
AreBehindTheirFirst calls order = (k first : ℕ) (call : ClientCall) → IsAt calls order k call → call.follows ≡ Some first → (j : ℕ) × (j < k) × (slice_get order j ≡ Some first)

-- The order explains the calls up to a time. Each that ended by then stands there, some that began by then may, none twice, each between its begin and its end,
-- nothing of an owner behind its exit, each behind the call that it follows. One table of record locks, which has no lock at first, gives each reply.
pub record IsExplainedBy (time : ℕ) (calls : List ClientCall) (order : List ℕ) : Type 0 where
  pub legal : IsLegal calls order
  pub once : IsOnce order
  pub begun : HaveBegun time calls order
  pub answered : AreAnswered time calls order
  pub in_time : AreInTime calls order
  pub last : ExitsAreLast calls order
  pub whole : ExitsAreWhole calls order
  pub behind : AreBehindTheirFirst calls order

-- the greatest time that a call can have: no end is later
abbrev pub always : ℕ
always = 18446744073709551615

-- up to each time before that one some order explains the calls
abbrev pub AreExplainedBefore : ℕ → List ClientCall → Type 0
AreExplainedBefore end calls = (time : ℕ) → time < end → (order : List ℕ) × IsExplainedBy time calls order

-- no order explains the calls up to the end of the call, nor up to a later time
pub record IsUnexplainedFrom (calls : List ClientCall) (i : ℕ) : Type 0 where
  pub call : ClientCall
  pub there : slice_get calls i ≡ Some call
  pub end : ℕ
  pub ends : call.end ≡ Some end
  pub timed : end ≤ always
  pub none : (time : ℕ) (order : List ℕ) → end ≤ time → IsExplainedBy time calls order → ⊥

-- no order explains the calls up to the end of the call, nor up to a later time; up to each earlier time one does
pub record IsUnexplained (calls : List ClientCall) (i : ℕ) : Type 0 where
  pub from : IsUnexplainedFrom calls i
  pub before : AreExplainedBefore from.end calls

-- the verdict is true; `Unknown` says nothing
abbrev pub IsVerdict : List ClientCall → Verdict → Type 0
IsVerdict calls (Explained order) = IsExplainedBy always calls order.items
IsVerdict calls (Unexplained call ways) = IsUnexplained calls call
IsVerdict calls (Unknown call) = ⊤

-- what the search says is true where it finds no order; an order that it finds says nothing
abbrev pub IsSearched : List ClientCall → Verdict → Type 0
IsSearched calls (Explained order) = ⊤
IsSearched calls (Unexplained call ways) = IsUnexplainedFrom calls call
IsSearched calls (Unknown call) = ⊤
