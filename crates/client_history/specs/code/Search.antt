-- What the search knows, its step at the end of a call, and how far it has come.
use Rattle.std.specs.Prelude.{◌≡◌, ℕ, ◌⊎◌, ◌↔◌, List, slice_get, Some, None, ◌≤◌, true, ◌++◌, ◌<◌, ◌+◌}
use Rattle.model.specs.rule.Locks.{Locks, no_locks}
use Rattle.lock_table.specs.rule.Tables.{held}
use Rattle.client_history.specs.declared.open_client_call.OpenClientCall.{OpenClientCall}
use Rattle.client_history.specs.declared.search_front.SearchFront.{SearchFront}
use Rattle.client_history.specs.rule.Explained.{ActStep, the_file, Stands, always, Leads, EndedBy, IsExplainedBy}
use Rattle.client_history.specs.code.Moves.{AsksOnly, AreBegins, AreEnds}
use Rattle.client_history.specs.code.OpenCalls.{IsLeft, IsIn, AreAsked, Changes, IsExitOfOwner}
use Rattle.client_history.specs.declared.act.Act.TheVariants.{Drops}
use Rattle.client_history.specs.declared.client_call.ClientCall.{ClientCall}
use Rattle.client_history.specs.code.Taken.{IsAlsoTaken}
use Rattle.client_history.specs.declared.moment.Moment.{Moment}

-- the front asked the call: it took it, if it only asks, was left and was allowed, and the locks stayed; else the table does not allow it
pub record IsAsked (one : OpenClientCall) (old new : SearchFront) : Type 0 where
  pub locks : held new.table ≡ held old.table
  pub kept : (i : ℕ) → Stands old.taken.items i → Stands new.taken.items i
  pub added : (i : ℕ) → Stands new.taken.items i → Stands old.taken.items i ⊎ ((one.index ≡ i) × AsksOnly one.call.act × ActStep the_file (held old.table) one.call.owner one.call.act (held old.table))
  pub asked : IsLeft one new.taken.items → AsksOnly one.call.act → (next : Locks) → ActStep the_file (held old.table) one.call.owner one.call.act next → ⊥

-- the open call is over when that one ends: it is that call, or it has no reply and that call is its owner's exit
abbrev pub IsOverWith : ℕ → OpenClientCall → Type 0
IsOverWith x one = (one.index ≡ x) ⊎ ((one.exit ≡ Some x) × (one.call.end ≡ None))

-- the list has the open calls that are over when that one ends
pub record AreOver (running : List OpenClientCall) (x : ℕ) (over : List ℕ) : Type 0 where
  pub each : (i : ℕ) → Stands over i → (k : ℕ) × (one : OpenClientCall) × (slice_get running k ≡ Some one) × (one.index ≡ i) × IsOverWith x one
  pub all : (k : ℕ) (one : OpenClientCall) → slice_get running k ≡ Some one → IsOverWith x one → Stands over one.index

-- the list has the open calls without those that are over
pub record AreWithout (running : List OpenClientCall) (over : List ℕ) (left : List OpenClientCall) : Type 0 where
  pub each : (k : ℕ) (one : OpenClientCall) → slice_get left k ≡ Some one → ((n : ℕ) × (slice_get running n ≡ Some one)) × (Stands over one.index → ⊥)
  pub all : (k : ℕ) (one : OpenClientCall) → slice_get running k ≡ Some one → (Stands over one.index → ⊥) → (n : ℕ) × (slice_get left n ≡ Some one)

-- the front dropped the calls that are over
pub record HasForgotten (over : List ℕ) (old new : SearchFront) : Type 0 where
  pub locks : held new.table ≡ held old.table
  pub taken : (i : ℕ) → Stands new.taken.items i ↔ (Stands old.taken.items i × (Stands over i → ⊥))

-- each front dropped the calls that are over
abbrev pub AreForgotten : List ℕ → List SearchFront → List SearchFront → Type 0
AreForgotten over old new = (k : ℕ) (front : SearchFront) → slice_get old k ≡ Some front → (next : SearchFront) × (slice_get new k ≡ Some next) × HasForgotten over front next

-- the call and the one with that index, which is of its owner, both change locks
pub record MayFollow (calls : List ClientCall) (first : ℕ) (call : ClientCall) : Type 0 where
  pub changes : Changes call.act
  pub before : ClientCall
  pub there : slice_get calls first ≡ Some before
  pub own : before.owner ≡ call.owner
  pub changed : Changes before.act

-- A sound call: it ends at a time that a call can have, not before it begins; an exit drops its owner's locks; and a call follows none but a call of its owner,
-- where both change locks.
pub record IsSound (calls : List ClientCall) (call : ClientCall) : Type 0 where
  pub timed : (end : ℕ) → call.end ≡ Some end → end ≤ always
  pub ordered : (end : ℕ) → call.end ≡ Some end → call.begin ≤ end
  pub drop : call.is_last ≡ true → call.act ≡ Drops
  pub follows : (first : ℕ) → call.follows ≡ Some first → MayFollow calls first call

-- each call is sound
abbrev pub AreSound : List ClientCall → Type 0
AreSound calls = (i : ℕ) (call : ClientCall) → slice_get calls i ≡ Some call → IsSound calls call

-- the index is that of an exit of the call's owner
abbrev pub IsExitOf : List ClientCall → ℕ → ClientCall → Type 0
IsExitOf calls exit call = IsExitOfOwner calls exit call.owner

-- the call has no reply, and its owner's exit is over
pub record IsDropped (calls : List ClientCall) (over : List ℕ) (call : ClientCall) : Type 0 where
  pub silent : call.end ≡ None
  pub exit : ℕ
  pub is_over : Stands over exit
  pub ends : IsExitOf calls exit call

-- the open calls: of those that have begun, each that is neither over nor dropped
pub record AreOpenCalls (calls : List ClientCall) (begun over : List ℕ) (running : List OpenClientCall) : Type 0 where
  pub there : (k : ℕ) (one : OpenClientCall) → slice_get running k ≡ Some one → slice_get calls one.index ≡ Some one.call
  pub exits : (k exit : ℕ) (one : OpenClientCall) → slice_get running k ≡ Some one → one.exit ≡ Some exit → IsExitOf calls exit one.call
  pub opened : (k : ℕ) (one : OpenClientCall) → slice_get running k ≡ Some one → Stands begun one.index × (Stands over one.index → ⊥)
  pub known : (i : ℕ) (call : ClientCall) → Stands begun i → slice_get calls i ≡ Some call → Stands over i ⊎ (IsDropped calls over call ⊎ IsIn running i)
  pub beside : (i j end : ℕ) (a b : ClientCall) → Stands begun i → slice_get calls i ≡ Some a → slice_get calls j ≡ Some b → (Stands over j → ⊥) → b.end ≡ Some end → a.begin ≤ end

-- The calls taken led by a way to these locks, and the rest goes on from there to explain the calls up to a time. Each call that is over stands on the way, an
-- open one only if it was taken, and each change that was taken does.
pub record IsWay (calls : List ClientCall) (over : List ℕ) (time : ℕ) (taken : List ℕ) (h : Locks) (way rest : List ℕ) : Type 0 where
  pub explains : IsExplainedBy time calls (way ++ rest)
  pub leads : Leads calls no_locks way h
  pub ended : (i : ℕ) → Stands over i → Stands way i
  pub noted : (i : ℕ) (call : ClientCall) → Stands way i → slice_get calls i ≡ Some call → Stands taken i ⊎ (Stands over i ⊎ IsDropped calls over call)
  pub fresh : (i : ℕ) → Stands rest i → Stands taken i → ⊥
  pub changed : (i : ℕ) (call : ClientCall) → Stands taken i → slice_get calls i ≡ Some call → Changes call.act → Stands way i

-- some way leads to these locks by the calls taken, and each call that only asks was asked there
pub record IsOn (calls : List ClientCall) (over : List ℕ) (running : List OpenClientCall) (time : ℕ) (taken : List ℕ) (h : Locks) : Type 0 where
  pub way : List ℕ
  pub rest : List ℕ
  pub is_way : IsWay calls over time taken h way rest
  pub asked : AreAsked running taken h

-- one of the fronts is on a way
pub record IsCovered (calls : List ClientCall) (over : List ℕ) (running : List OpenClientCall) (time : ℕ) (fronts : List SearchFront) : Type 0 where
  pub place : ℕ
  pub front : SearchFront
  pub there : slice_get fronts place ≡ Some front
  pub is_on : IsOn calls over running time front.taken.items (held front.table)

-- each order that explains the calls up to a time goes by one of the fronts
abbrev pub Covers : List ClientCall → List ℕ → List OpenClientCall → List SearchFront → Type 0
Covers calls over running fronts =
    (time : ℕ) (order : List ℕ)
    → ((i : ℕ) (call : ClientCall) → Stands over i → slice_get calls i ≡ Some call → EndedBy time call)
    → IsExplainedBy time calls order
    → IsCovered calls over running time fronts

-- the front asked these calls: it took some that only ask and were left, the locks stayed, and they allow no other of them
pub record IsAskedOf (running : List OpenClientCall) (old new : SearchFront) : Type 0 where
  pub locks : held new.table ≡ held old.table
  pub kept : (i : ℕ) → Stands old.taken.items i → Stands new.taken.items i
  pub added : (i : ℕ) → Stands new.taken.items i → Stands old.taken.items i ⊎ ((k : ℕ) × (one : OpenClientCall) × (slice_get running k ≡ Some one) × (one.index ≡ i) × AsksOnly one.call.act × ActStep the_file (held old.table) one.call.owner one.call.act (held old.table))
  pub asked : AreAsked running new.taken.items (held old.table)

-- the new fronts have all of the old
abbrev pub HasAll : List SearchFront → List SearchFront → Type 0
HasAll old new = (k : ℕ) (front : SearchFront) → slice_get old k ≡ Some front → (n : ℕ) × (slice_get new n ≡ Some front)

-- each new front is one of the old, or this one
abbrev pub HasOnly : List SearchFront → SearchFront → List SearchFront → Type 0
HasOnly old front new = (k : ℕ) (other : SearchFront) → slice_get new k ≡ Some other → ((n : ℕ) × (slice_get old n ≡ Some other)) ⊎ (other ≡ front)

-- one of the fronts took the same calls, and has the same locks
abbrev pub HasEqual : List SearchFront → SearchFront → Type 0
HasEqual fronts front = (k : ℕ) × (other : SearchFront) × (slice_get fronts k ≡ Some other) × (other.taken.items ≡ front.taken.items) × (held other.table ≡ held front.table)

-- each front asked the call
abbrev pub AreAskedFor : OpenClientCall → List SearchFront → List SearchFront → Type 0
AreAskedFor one old new = (k : ℕ) (front : SearchFront) → slice_get old k ≡ Some front → (next : SearchFront) × (slice_get new k ≡ Some next) × IsAsked one front next

-- the front is the one that the call leads to: these locks, the call taken as well, and each call that only asks then asked
pub record IsGone (running : List OpenClientCall) (taken : List ℕ) (one : OpenClientCall) (h : Locks) (front : SearchFront) : Type 0 where
  pub locks : held front.table ≡ h
  pub then : List ℕ
  pub also : IsAlsoTaken one.index taken then
  pub kept : (i : ℕ) → Stands then i → Stands front.taken.items i
  pub added : (i : ℕ) → Stands front.taken.items i → Stands then i ⊎ ((k : ℕ) × (other : OpenClientCall) × (slice_get running k ≡ Some other) × (other.index ≡ i) × AsksOnly other.call.act × ActStep the_file h other.call.owner other.call.act h)
  pub asked : AreAsked running front.taken.items h

-- if the locks of the front allow the call, one of the fronts is the one that it leads to
abbrev pub HasNext : List OpenClientCall → SearchFront → OpenClientCall → List SearchFront → Type 0
HasNext running front one fronts = (h : Locks) → ActStep the_file (held front.table) one.call.owner one.call.act h → (k : ℕ) × (next : SearchFront) × (slice_get fronts k ≡ Some next) × IsGone running front.taken.items one h next

-- a call ends by the time and is not over, and each call that stands no later in an order that explains the calls has begun
pub record IsEnding (calls : List ClientCall) (begun over : List ℕ) (running : List OpenClientCall) (time x : ℕ) : Type 0 where
  pub sound : AreSound calls
  pub opens : AreOpenCalls calls begun over running
  pub call : ClientCall
  pub there : slice_get calls x ≡ Some call
  pub ends : EndedBy time call
  pub stays : Stands over x → ⊥
  pub begun_by : (order : List ℕ) → IsExplainedBy time calls order → (j k i : ℕ) → j ≤ k → slice_get order k ≡ Some x → slice_get order j ≡ Some i → Stands begun i

-- if the front is on a way to the end of the call, one of the fronts is
abbrev pub GoesOnFrom : List OpenClientCall → SearchFront → ℕ → List SearchFront → Type 0
GoesOnFrom running front x fronts =
    (calls : List ClientCall) (begun over : List ℕ) (time : ℕ)
    → IsEnding calls begun over running time x
    → (Stands front.taken.items x → ⊥)
    → IsOn calls over running time front.taken.items (held front.table)
    → IsCovered calls over running time fronts

-- if one of the first two lists of fronts is on a way to the end of the call, one of the last two is
abbrev pub GoesOn : List OpenClientCall → ℕ → List SearchFront → List SearchFront → List SearchFront → List SearchFront → Type 0
GoesOn running x layer done next more =
    (calls : List ClientCall) (begun over : List ℕ) (time : ℕ)
    → IsEnding calls begun over running time x
    → IsCovered calls over running time layer ⊎ IsCovered calls over running time done
    → IsCovered calls over running time next ⊎ IsCovered calls over running time more

-- each front took the call
abbrev pub AreTaken : ℕ → List SearchFront → Type 0
AreTaken x fronts = (k : ℕ) (front : SearchFront) → slice_get fronts k ≡ Some front → Stands front.taken.items x

-- if one of the old fronts is on a way to the end of the call, one of the new is, and each of the new took the call
pub record AreSettled (running : List OpenClientCall) (x : ℕ) (old new : List SearchFront) : Type 0 where
  pub taken : AreTaken x new
  pub covered : (calls : List ClientCall) (begun over : List ℕ) (time : ℕ) → IsEnding calls begun over running time x → IsCovered calls over running time old → IsCovered calls over running time new

-- the call is that of one of the first n moments
abbrev pub IsPast : List Moment → ℕ → ℕ → Type 0
IsPast moments n i = (k : ℕ) × (moment : Moment) × (k < n) × (slice_get moments k ≡ Some moment) × (moment.call ≡ i)

-- the calls are sound, and these are their begins and ends by time
pub record AreTimed (calls : List ClientCall) (begins ends : List Moment) : Type 0 where
  pub sound : AreSound calls
  pub are_begins : AreBegins calls begins
  pub are_ends : AreEnds calls ends

-- after that many begins and ends the search has these open calls, and these fronts, which cover all orders
pub record IsReached (calls : List ClientCall) (begins ends : List Moment) (p k : ℕ) (running : List OpenClientCall) (fronts : List SearchFront) : Type 0 where
  pub begun : List ℕ
  pub over : List ℕ
  pub are_begun : (i : ℕ) → Stands begun i ↔ IsPast begins p i
  pub are_over : (i : ℕ) → Stands over i ↔ IsPast ends k i
  pub opens : AreOpenCalls calls begun over running
  pub covers : Covers calls over running fronts
  pub apart : (m j : ℕ) (a b : Moment) → p ≤ m → j < k → slice_get begins m ≡ Some a → slice_get ends j ≡ Some b → b.time < a.time
  pub early : (m j : ℕ) (a b : Moment) → m < p → k ≤ j → slice_get begins m ≡ Some a → slice_get ends j ≡ Some b → a.time ≤ b.time

-- from some begins on, of which those up to the number `to` are no later than the next end, the search has come past these
abbrev pub GoesTo : ℕ → ℕ → List OpenClientCall → List SearchFront → ℕ → List OpenClientCall → List SearchFront → List ClientCall → List Moment → Type 0
GoesTo time from running fronts to next more calls begins =
    (ends : List Moment) (k : ℕ) (end : Moment)
    → AreTimed calls begins ends
    → slice_get ends k ≡ Some end
    → end.time ≡ time
    → IsReached calls begins ends from k running fronts
    → IsReached calls begins ends to k next more

-- from that many ends on, where each begin that is left is later than the next end, the search has come past that end
abbrev pub GoesPast : ℕ → List OpenClientCall → List SearchFront → List OpenClientCall → List SearchFront → Type 0
GoesPast x running fronts next more =
    (calls : List ClientCall) (begins ends : List Moment) (p k : ℕ) (end : Moment)
    → AreTimed calls begins ends
    → slice_get ends k ≡ Some end
    → end.call ≡ x
    → ((m : ℕ) (moment : Moment) → p ≤ m → slice_get begins m ≡ Some moment → end.time < moment.time)
    → IsReached calls begins ends p k running fronts
    → IsReached calls begins ends p (k + 1) next more
