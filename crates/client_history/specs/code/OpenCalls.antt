-- Open calls, which of them may have to come first, and sets of them that are made closed.
use Rattle.std.specs.Prelude.{◌≡◌, ◌≢◌, ℕ, ◌≤◌, ◌⊎◌, ⊤, true, List, [], ◌∷◌, ◌++◌, slice_get, Some, None, IfSome, Option}
use Rattle.intervals.specs.rule.Bytes.{Range}
use Rattle.model.specs.declared.mode.Mode.{Mode}
use Rattle.model.specs.declared.mode.Mode.TheVariants.{Read}
use Rattle.model.specs.declared.owner.Owner.{Owner}
use Rattle.model.specs.declared.lock_info.LockInfo.{LockInfo}
use Rattle.model.specs.rule.Locks.{Locks, no_locks, IsFree, IsRegion, IsInWay, excludes}
use Rattle.client_history.specs.declared.told_lock.ToldLock.{ToldLock}
use Rattle.client_history.specs.declared.act.Act.{Act}
use Rattle.client_history.specs.declared.act.Act.TheVariants.{Locks as Takes, IsDenied, IsFree as FindsFree, Frees, Drops}
use Rattle.client_history.specs.declared.client_call.ClientCall.{ClientCall}
use Rattle.client_history.specs.rule.Explained.{ActStep, the_file, Leads, Stands, IsExplainedBy}
use Rattle.client_history.specs.code.Moves.{AsksOnly, Meet}
use Rattle.client_history.specs.declared.open_client_call.OpenClientCall.{OpenClientCall}
use Rattle.model.specs.contracts.owner.OwnerPartialEq.TheImpl as derived
use Rattle.indexmap.specs.IndexMap.{get}
use Rattle.client_history.specs.declared.owner_calls.OwnerFacts.{OwnerFacts}
use Rattle.client_history.specs.declared.owner_calls.OwnerCalls.{OwnerCalls}

-- the act changes locks
abbrev pub Changes : Act → Type 0
Changes (IsDenied mode span told) = ⊥
Changes (FindsFree mode span) = ⊥
Changes _ = ⊤

-- some calls that are left, each with its index
abbrev pub Calls : Type 1
Calls = ℕ → ClientCall → Type 0

-- the act takes bytes of the lock from its owner, or lets others read them
abbrev pub LetsGo : LockInfo → Owner → Act → Type 0
LetsGo lock owner (Takes mode span) = (owner ≡ lock.owner) × (mode ≡ Read) × Meet span lock.span
LetsGo lock owner (Frees span) = (owner ≡ lock.owner) × Meet span lock.span
LetsGo lock owner Drops = owner ≡ lock.owner
LetsGo lock owner _ = ⊥

-- another change of the owner is left
pub record HasRival (Left : Calls) (i : ℕ) (owner : Owner) : Type 0 where
  pub index : ℕ
  pub call : ClientCall
  pub left : Left index call
  pub other : index ≢ i
  pub own : call.owner ≡ owner
  pub changes : Changes call.act

-- the new lock would bar the call: a query that found bytes of it free, or a lock of an owner with another change
abbrev pub IsBarred : Calls → Mode → Range → ℕ → Owner → Act → Type 0
IsBarred Left mode span i owner (FindsFree asked bytes) = Meet span bytes × (excludes mode asked ≡ true)
IsBarred Left mode span i owner (Takes asked bytes) = Meet span bytes × (excludes mode asked ≡ true) × HasRival Left i owner
IsBarred Left mode span i owner _ = ⊥

-- the client was told nothing of the lock
abbrev pub IsUntold : ToldLock → Type 0
IsUntold told = (told.mode ≡ None) × (told.span ≡ None) × (told.owner ≡ None)

-- the act may make the lock that denied another owner, who was told this of it
abbrev pub MayDeny : Mode → Range → ToldLock → Act → Type 0
MayDeny mode span told (Takes asked bytes) = IsUntold told → Meet span bytes × (excludes asked mode ≡ true)
MayDeny mode span told (Frees bytes) = IsUntold told → ⊥
MayDeny mode span told Drops = IsUntold told → ⊥
MayDeny mode span told _ = ⊥

-- the act of another owner would be barred by the call's lock, or may make the lock by which the call is denied
abbrev pub MeetsOther : Calls → Act → ℕ → Owner → Act → Type 0
MeetsOther Left (Takes mode span) i owner act = IsBarred Left mode span i owner act
MeetsOther Left (IsDenied mode span told) i owner act = MayDeny mode span told act × ((told.owner ≡ None) ⊎ (told.owner ≡ Some owner))
MeetsOther Left _ i owner act = ⊥

-- the other call may have to come before the call, which no lock blocks
abbrev pub MayComeBefore : Calls → ClientCall → ℕ → ClientCall → Type 0
MayComeBefore Left call i other =
    ((other.owner ≡ call.owner) × Changes call.act × ((call.is_last ≡ true) ⊎ Changes other.act))
    ⊎ ((other.owner ≢ call.owner) × MeetsOther Left call.act i other.owner other.act)

-- the act needs these bytes free in this mode
abbrev pub NeedsFree : Act → Mode → Range → Type 0
NeedsFree (Takes asked bytes) mode span = (asked ≡ mode) × (bytes ≡ span)
NeedsFree (FindsFree asked bytes) mode span = (asked ≡ mode) × (bytes ≡ span)
NeedsFree _ mode span = ⊥

-- a lock blocks the call, and each call that lets it go is in the set
pub record IsKept (h : Locks) (Left : Calls) (Set : ℕ → Type 0) (call : ClientCall) : Type 0 where
  pub lock : LockInfo
  pub mode : Mode
  pub span : Range
  pub needs : NeedsFree call.act mode span
  pub ordered : span.lo ≤ span.hi
  pub region : IsRegion (h the_file) lock
  pub other : lock.owner ≢ call.owner
  pub in_way : IsInWay span mode lock
  pub closed : (i : ℕ) (other : ClientCall) → Left i other → LetsGo lock other.owner other.act → Set i

-- no lock blocks an act that needs its bytes free, or a denial of which the client was told nothing
abbrev pub IsUnbarred : Locks → Owner → Act → Type 0
IsUnbarred h owner (Takes mode span) = IsFree (h the_file) owner span mode
IsUnbarred h owner (FindsFree mode span) = IsFree (h the_file) owner span mode
IsUnbarred h owner (IsDenied mode span told) = IsUntold told → (span.lo ≤ span.hi) × IsFree (h the_file) owner span mode
IsUnbarred h owner _ = ⊤

-- no lock blocks the call, and each call that may have to come before it is in the set
pub record IsMet (h : Locks) (Left : Calls) (Set : ℕ → Type 0) (call : ClientCall) : Type 0 where
  pub unbarred : IsUnbarred h call.owner call.act
  pub closed : (i : ℕ) (other : ClientCall) → Left i other → MayComeBefore Left call i other → Set i

-- the calls that the call needs are in the set
abbrev pub IsServed : Locks → Calls → (ℕ → Type 0) → ClientCall → Type 0
IsServed h Left Set call = IsKept h Left Set call ⊎ IsMet h Left Set call

-- the calls that are left: each is one of the history, none ended before another began, and one that follows another of them follows a change of its owner
pub record AreOpen (calls : List ClientCall) (Left : Calls) : Type 0 where
  pub there : (i : ℕ) (call : ClientCall) → Left i call → slice_get calls i ≡ Some call
  pub beside : (i j : ℕ) (a b : ClientCall) → Left i a → Left j b → (end : ℕ) → b.end ≡ Some end → a.begin ≤ end
  pub halves : (i j : ℕ) (a b : ClientCall) → Left i a → Left j b → a.follows ≡ Some j → (b.owner ≡ a.owner) × Changes b.act

-- a set of calls that are left is closed: it has all that each of its calls needs
pub record IsClosed (h : Locks) (Left : Calls) (Set : ℕ → Type 0) : Type 0 where
  pub decided : (i : ℕ) → Set i ⊎ (Set i → ⊥)
  pub served : (i : ℕ) (call : ClientCall) → Set i → Left i call → IsServed h Left Set call

-- A call of the set may come first behind the front: a change that the locks allow, with an order behind it that explains what is left. The call that it
-- follows, if any, stands in the front; so does each call of its owner that has a reply, if it is an exit.
pub record ComesFirst (calls : List ClientCall) (front rest : List ℕ) (time : ℕ) (h : Locks) (Left : Calls) (Set : ℕ → Type 0) : Type 0 where
  pub index : ℕ
  pub call : ClientCall
  pub left : Left index call
  pub chosen : Set index
  pub changes : Changes call.act
  pub next : Locks
  pub step : ActStep the_file h call.owner call.act next
  pub ended : call.is_last ≡ true → (i : ℕ) (other : ClientCall) → slice_get calls i ≡ Some other → other.owner ≡ call.owner → other.end ≢ None → i ≢ index → Stands front i
  pub stood : (first : ℕ) → call.follows ≡ Some first → Stands front first
  pub behind : List ℕ
  pub explains : IsExplainedBy time calls (front ++ (index ∷ behind))
  pub kept : (i : ℕ) → Stands behind i → Stands rest i

-- if the calls up to some call are left, none of them may be asked here, and a closed set has that call, one of the set may come first
abbrev pub ClosedSetsComeFirst : Type 1
ClosedSetsComeFirst =
    (calls : List ClientCall) (front before behind : List ℕ) (time x : ℕ) (h : Locks) (Left : Calls) (Set : ℕ → Type 0)
    → AreOpen calls Left
    → IsClosed h Left Set
    → Set x
    → IsExplainedBy time calls (front ++ (before ++ (x ∷ behind)))
    → Leads calls no_locks front h
    → ((i : ℕ) → Stands (before ++ (x ∷ [])) i → (call : ClientCall) × Left i call × (AsksOnly call.act → (next : Locks) → ActStep the_file h call.owner call.act next → ⊥))
    → ComesFirst calls front (before ++ (x ∷ behind)) time h Left Set

-- the call is left: it is not taken, nor is its owner's exit
pub record IsLeft (one : OpenClientCall) (taken : List ℕ) : Type 0 where
  pub stays : Stands taken one.index → ⊥
  pub lives : IfSome one.exit (λ exit. Stands taken exit → ⊥)

-- some call of the list has the index
abbrev pub IsIn : List OpenClientCall → ℕ → Type 0
IsIn running i = (k : ℕ) × (one : OpenClientCall) × (slice_get running k ≡ Some one) × (one.index ≡ i)

-- the open calls that are left, each with its index
abbrev pub IsLeftOf : List OpenClientCall → List ℕ → Calls
IsLeftOf running taken i call = (k : ℕ) × (one : OpenClientCall) × (slice_get running k ≡ Some one) × (one.index ≡ i) × (one.call ≡ call) × IsLeft one taken

-- these locks allow none of the open calls that is left and only asks
abbrev pub AreAsked : List OpenClientCall → List ℕ → Locks → Type 0
AreAsked running taken h = (k : ℕ) (one : OpenClientCall) → slice_get running k ≡ Some one → IsLeft one taken → AsksOnly one.call.act → (next : Locks) → ActStep the_file h one.call.owner one.call.act next → ⊥

-- each other open call of the owner that has a reply was taken
abbrev pub AreOthersTaken : List OpenClientCall → List ℕ → OpenClientCall → Type 0
AreOthersTaken running taken one = (j : ℕ) (other : OpenClientCall) → slice_get running j ≡ Some other → other.index ≢ one.index → other.call.owner ≡ one.call.owner → other.call.end ≢ None → Stands taken other.index

-- the call that this one follows, if that is open, was taken
abbrev pub IsFirstTaken : List OpenClientCall → List ℕ → OpenClientCall → Type 0
IsFirstTaken running taken one = (first : ℕ) → one.call.follows ≡ Some first → IsIn running first → Stands taken first

-- the calls are the changes that these locks allow, of a closed set of open calls that has the one that ends
pub record AreFirst (h : Locks) (running : List OpenClientCall) (taken : List ℕ) (end : ℕ) (first : List OpenClientCall) : Type 0 where
  pub set : List OpenClientCall
  pub has_end : (call : ClientCall) → IsLeftOf running taken end call → IsIn set end
  pub closed : AreAsked running taken h → IsClosed h (IsLeftOf running taken) (IsIn set)
  pub given : (k : ℕ) (one : OpenClientCall) (next : Locks) → slice_get set k ≡ Some one → IsLeft one taken → Changes one.call.act → ActStep the_file h one.call.owner one.call.act next → (one.call.is_last ≡ true → AreOthersTaken running taken one) → IsFirstTaken running taken one → (n : ℕ) × (slice_get first n ≡ Some one)
  pub members : (k : ℕ) (one : OpenClientCall) → slice_get set k ≡ Some one → (n : ℕ) × (slice_get running n ≡ Some one)

-- each call of the set is an open one
abbrev pub AreOf : List OpenClientCall → List OpenClientCall → Type 0
AreOf running set = (k : ℕ) (one : OpenClientCall) → slice_get set k ≡ Some one → (n : ℕ) × (slice_get running n ≡ Some one)

-- no index is in the set twice
abbrev pub AreOnce : List OpenClientCall → Type 0
AreOnce set = (j k : ℕ) (a b : OpenClientCall) → slice_get set j ≡ Some a → slice_get set k ≡ Some b → a.index ≡ b.index → j ≡ k

-- open calls were added at the end, none with an index that was there
pub record IsGrown (running old new : List OpenClientCall) : Type 0 where
  pub kept : (k : ℕ) (one : OpenClientCall) → slice_get old k ≡ Some one → slice_get new k ≡ Some one
  pub members : AreOf running old → AreOf running new
  pub once : AreOnce old → AreOnce new

-- no lock blocks an act that needs its bytes free
abbrev pub FindsNoLock : Locks → Owner → Act → Type 0
FindsNoLock h owner (Takes mode span) = IsFree (h the_file) owner span mode
FindsNoLock h owner (FindsFree mode span) = IsFree (h the_file) owner span mode
FindsNoLock h owner _ = ⊤

-- the lock blocks an act that needs its bytes free
pub record IsHeldUp (h : Locks) (owner : Owner) (act : Act) (lock : LockInfo) : Type 0 where
  pub mode : Mode
  pub span : Range
  pub needs : NeedsFree act mode span
  pub ordered : span.lo ≤ span.hi
  pub region : IsRegion (h the_file) lock
  pub other : lock.owner ≢ owner
  pub in_way : IsInWay span mode lock

-- no lock blocks a denial of which the client was told nothing
abbrev pub IsNotDenied : Locks → Owner → Act → Type 0
IsNotDenied h owner (IsDenied mode span told) = IsUntold told → (span.lo ≤ span.hi) × IsFree (h the_file) owner span mode
IsNotDenied h owner _ = ⊤

-- the other call lets the lock go that blocks the call, or, if none does, may have to come before the call
abbrev pub IsNeeded : Calls → ClientCall → Option LockInfo → ℕ → ClientCall → Type 0
IsNeeded Left call None i other = MayComeBefore Left call i other
IsNeeded Left call (Some lock) i other = LetsGo lock other.owner other.act

-- the set of open calls is closed, and has the call that ends
pub record IsClosedSet (h : Locks) (running : List OpenClientCall) (taken : List ℕ) (end : ℕ) (set : List OpenClientCall) : Type 0 where
  pub has_end : (call : ClientCall) → IsLeftOf running taken end call → IsIn set end
  pub closed : AreAsked running taken h → IsClosed h (IsLeftOf running taken) (IsIn set)
  pub members : AreOf running set

-- the index is that of an exit of the owner
pub record IsExitOfOwner (calls : List ClientCall) (exit : ℕ) (owner : Owner) : Type 0 where
  pub last : ClientCall
  pub there : slice_get calls exit ≡ Some last
  pub is_last : last.is_last ≡ true
  pub own : last.owner ≡ owner

-- a call of the owner that has a reply began at that time
pub record HasAnswerFrom (calls : List ClientCall) (owner : Owner) (time : ℕ) : Type 0 where
  pub index : ℕ
  pub call : ClientCall
  pub there : slice_get calls index ≡ Some call
  pub own : call.owner ≡ owner
  pub answered : call.end ≢ None
  pub begun : call.begin ≡ time

-- the known exit is one of the owner, and the known latest begin is 0 or that of a call of the owner with a reply
pub record IsKnownOf (calls : List ClientCall) (owner : Owner) (known : OwnerFacts) : Type 0 where
  pub exit : (exit : ℕ) → known.exit ≡ Some exit → IsExitOfOwner calls exit owner
  pub latest : (known.latest ≡ 0) ⊎ HasAnswerFrom calls owner known.latest

-- all that is known of each owner is true
abbrev pub AreOwnerCalls : List ClientCall → OwnerCalls → Type 0
AreOwnerCalls calls owners = (owner : Owner) (known : OwnerFacts) → get derived.ghosts.eq owners.known owner ≡ Some known → IsKnownOf calls owner known
