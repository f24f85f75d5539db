-- Which acts may stand earlier than others, how far an order has to go, and when calls begin and end.
use Rattle.std.specs.Prelude.{◌≡◌, ◌≢◌, ◌≤◌, ◌⊎◌, ⊤, false, ℕ, true, List, [], ◌∷◌, ◌++◌, take, slice_get, Some, Bool, length, slice_index_or, None}
use Rattle.intervals.specs.rule.Bytes.{Range}
use Rattle.model.specs.declared.mode.Mode.{Mode}
use Rattle.model.specs.declared.owner.Owner.{Owner}
use Rattle.model.specs.declared.lock_info.LockInfo.{LockInfo}
use Rattle.model.specs.rule.Locks.{Locks, Blocks, excludes, no_locks}
use Rattle.client_history.specs.declared.told_lock.ToldLock.{ToldLock}
use Rattle.client_history.specs.declared.act.Act.{Act}
use Rattle.client_history.specs.declared.act.Act.TheVariants.{Locks as Takes, IsDenied, IsFree as FindsFree, Frees, Drops}
use Rattle.client_history.specs.rule.Explained.{ActStep, IsTold, IsBlocked, the_file, Leads, EndsBefore, Stands, IsAt, IsExplainedBy, AreWithin, EndedBy, IsOnce}
use Rattle.client_history.specs.declared.client_call.ClientCall.{ClientCall}
use Rattle.client_history.specs.declared.moment.Moment.{Moment}

-- wherever p's act follows q's, p's may come first, and both ways lead to the same locks
abbrev pub MovesBefore : Locks → Owner → Act → Owner → Act → Type 0
MovesBefore h p a q b = (m u : Locks) → ActStep the_file h q b m → ActStep the_file m p a u → (k : Locks) × ActStep the_file h p a k × ActStep the_file k q b u

-- the act only asks
abbrev pub AsksOnly : Act → Type 0
AsksOnly (IsDenied mode span told) = ⊤
AsksOnly (FindsFree mode span) = ⊤
AsksOnly _ = ⊥

-- the act gives back locks and takes none
abbrev pub Releases : Act → Type 0
Releases (Frees span) = ⊤
Releases Drops = ⊤
Releases _ = ⊥

-- the act is a denial, which these locks explain
abbrev pub IsDeniedIn : Locks → Owner → Act → Type 0
IsDeniedIn h q (IsDenied mode span told) = IsBlocked h the_file q span mode told
IsDeniedIn h q _ = ⊥

-- the spans have a byte in common
abbrev pub Meet : Range → Range → Type 0
Meet s t = (s.lo ≤ t.hi) × (t.lo ≤ s.hi)

-- a lock of another owner than p blocks q, and all that q was told applies to it
pub record IsDeniedByOther (h : Locks) (p q : Owner) (mode : Mode) (span : Range) (told : ToldLock) : Type 0 where
  pub lock : LockInfo
  pub blocks : Blocks (h the_file) q span mode lock
  pub named : IsTold told lock
  pub other : lock.owner ≢ p

-- p's act may stand before q's act, if that is no denial by p's own lock alone, and no query that found bytes free which p takes
abbrev pub LetsBefore : Locks → Owner → Act → Owner → Act → Type 0
LetsBefore h p a q (IsDenied mode span told) = IsDeniedByOther h p q mode span told
LetsBefore h p (Takes mode span) q (FindsFree asked bytes) = (excludes mode asked ≡ false) ⊎ (Meet span bytes → ⊥)
LetsBefore h p a q b = ⊤

-- p's act may stand before q's act: one of p's own that only asks, or one of another owner that lets it
abbrev pub MayPass : Locks → Owner → Act → Owner → Act → Type 0
MayPass h p a q b = (p ≡ q → AsksOnly b) × (p ≢ q → LetsBefore h p a q b)

-- an act that only asks changes nothing: so it may stand earlier, wherever it is allowed
abbrev pub QuestionsChangeNothing : Type 0
QuestionsChangeNothing = (h k : Locks) (p : Owner) (a : Act) → AsksOnly a → ActStep the_file h p a k → k ≡ h

-- a set that is done, an unlock and a drop may stand before what another owner does, unless that doesn't let it
abbrev pub ChangesStandEarlier : Type 0
ChangesStandEarlier = (h k : Locks) (p q : Owner) (a b : Act) → p ≢ q → ActStep the_file h p a k → LetsBefore h p a q b → MovesBefore h p a q b

-- no call ends before it begins
abbrev pub AreOrdered : List ClientCall → Type 0
AreOrdered calls = (i end : ℕ) (call : ClientCall) → slice_get calls i ≡ Some call → call.end ≡ Some end → call.begin ≤ end

-- an order that explains the calls up to a time begins with one that explains them up to an earlier time
abbrev pub EarlierIsExplained : Type 0
EarlierIsExplained =
    (calls : List ClientCall) (order : List ℕ) (early late : ℕ)
    → early ≤ late
    → AreOrdered calls
    → IsExplainedBy late calls order
    → (n : ℕ) × IsExplainedBy early calls (take n order)

-- at each table on the way the call is allowed, and may pass the call that comes there
abbrev pub Passes : List ClientCall → Locks → ClientCall → List ℕ → Type 0
Passes calls h call [] = ⊤
Passes calls h call (i ∷ is) =
    (k : Locks) × ActStep the_file h call.owner call.act k
    × ((other : ClientCall) (m : Locks) → slice_get calls i ≡ Some other → ActStep the_file h other.owner other.act m → MayPass h call.owner call.act other.owner other.act × Passes calls m call is)

-- a call that may pass some calls may come before them, and both ways lead to the same locks
abbrev pub PassingCallsMoveFirst : Type 0
PassingCallsMoveFirst =
    (calls : List ClientCall) (h n : Locks) (call : ClientCall) (i : ℕ) (is js : List ℕ)
    → slice_get calls i ≡ Some call
    → Passes calls h call is
    → Leads calls h (is ++ (i ∷ js)) n
    → Leads calls h (i ∷ (is ++ js)) n

-- none of these calls ended before that time
abbrev pub NoneEnded : List ClientCall → List ℕ → ℕ → Type 0
NoneEnded calls order time = (k : ℕ) (call : ClientCall) → IsAt calls order k call → EndsBefore call time → ⊥

-- the call follows none of these
abbrev pub FollowsNone : List ℕ → ClientCall → Type 0
FollowsNone order call = (first : ℕ) → call.follows ≡ Some first → Stands order first → ⊥

-- none of these calls is of the owner
abbrev pub AreOfOthers : List ClientCall → List ℕ → Owner → Type 0
AreOfOthers calls order owner = (k : ℕ) (call : ClientCall) → IsAt calls order k call → owner ≢ call.owner

-- In an order that explains the calls up to a time, a call may come before those between a front and itself: none of them ended before it began, it follows
-- none of them, none is of its owner if it is an exit, and it may pass them from the locks that the front leads to. The new order explains the calls too.
abbrev pub MovedIsExplained : Type 0
MovedIsExplained =
    (calls : List ClientCall) (front before behind : List ℕ) (time i : ℕ) (h : Locks) (call : ClientCall)
    → slice_get calls i ≡ Some call
    → IsExplainedBy time calls (front ++ (before ++ (i ∷ behind)))
    → Leads calls no_locks front h
    → NoneEnded calls before call.begin
    → FollowsNone before call
    → (call.is_last ≡ true → AreOfOthers calls before call.owner)
    → Passes calls h call before
    → IsExplainedBy time calls (front ++ (i ∷ (before ++ behind)))

-- the owner's calls among these only ask
abbrev pub OwnAskOnly : List ClientCall → List ℕ → Owner → Type 0
OwnAskOnly calls order owner = (k : ℕ) (call : ClientCall) → IsAt calls order k call → owner ≡ call.owner → AsksOnly call.act

-- none of these calls is a denial that these locks explain already
abbrev pub NoneDenied : List ClientCall → List ℕ → Locks → Type 0
NoneDenied calls order h = (k : ℕ) (call : ClientCall) → IsAt calls order k call → IsDeniedIn h call.owner call.act → ⊥

-- In an order that explains the calls up to a time, an unlock or a drop may come before those between a front and itself: none of them ended before it began,
-- it follows none, those of its owner only ask (none is its owner's if it is an exit), and none is a denial that the locks behind the front explain already.
abbrev pub ReleasesComeFirst : Type 0
ReleasesComeFirst =
    (calls : List ClientCall) (front before behind : List ℕ) (time i : ℕ) (h : Locks) (call : ClientCall)
    → slice_get calls i ≡ Some call
    → Releases call.act
    → IsExplainedBy time calls (front ++ (before ++ (i ∷ behind)))
    → Leads calls no_locks front h
    → NoneEnded calls before call.begin
    → FollowsNone before call
    → (call.is_last ≡ true → AreOfOthers calls before call.owner)
    → OwnAskOnly calls before call.owner
    → NoneDenied calls before h
    → IsExplainedBy time calls (front ++ (i ∷ (before ++ behind)))

-- the marks of that many calls say which stand in the order, in which each index is one of theirs and none stands twice
pub record AreMarks (order : List ℕ) (count : ℕ) (marks : List Bool) : Type 0 where
  pub within : AreWithin count order
  pub once : IsOnce order
  pub length : length marks ≡ count
  pub marked : (i : ℕ) → slice_index_or marks i false ≡ true → Stands order i
  pub noted : (i : ℕ) → Stands order i → slice_index_or marks i false ≡ true

-- each call that had its reply at that time or earlier is marked
abbrev pub AreMarked : ℕ → List ClientCall → List Bool → Type 0
AreMarked time calls marks = (i : ℕ) (call : ClientCall) → slice_get calls i ≡ Some call → EndedBy time call → slice_index_or marks i false ≡ true

-- a call of the same owner has a reply, and began at that time or later
pub record IsBehindAnother (calls : List ClientCall) (call : ClientCall) (time : ℕ) : Type 0 where
  pub index : ℕ
  pub other : ClientCall
  pub there : slice_get calls index ≡ Some other
  pub own : other.owner ≡ call.owner
  pub answered : other.end ≢ None
  pub late : time ≤ other.begin

-- the time from which a call is looked at: its begin, or for an exit that of its owner's last call with a reply, if later; never later than its end
pub record IsBeginOf (calls : List ClientCall) (call : ClientCall) (time : ℕ) : Type 0 where
  pub begun : call.begin ≤ time
  pub before_end : (end : ℕ) → call.end ≡ Some end → time ≤ end
  pub latest : (time ≡ call.begin) ⊎ ((call.is_last ≡ true) × IsBehindAnother calls call time)

-- the moments stand by time
abbrev pub AreByTime : List Moment → Type 0
AreByTime moments = (j k : ℕ) (a b : Moment) → j ≤ k → slice_get moments j ≡ Some a → slice_get moments k ≡ Some b → a.time ≤ b.time

-- the list has the begins of all calls
pub record AreBegins (calls : List ClientCall) (begins : List Moment) : Type 0 where
  pub each : (k : ℕ) (moment : Moment) → slice_get begins k ≡ Some moment → (call : ClientCall) × (slice_get calls moment.call ≡ Some call) × IsBeginOf calls call moment.time
  pub all : (i : ℕ) (call : ClientCall) → slice_get calls i ≡ Some call → (k : ℕ) × (moment : Moment) × (slice_get begins k ≡ Some moment) × (moment.call ≡ i)
  pub by_time : AreByTime begins

-- the list has the ends of all calls that have a reply
pub record AreEnds (calls : List ClientCall) (ends : List Moment) : Type 0 where
  pub each : (k : ℕ) (moment : Moment) → slice_get ends k ≡ Some moment → (call : ClientCall) × (slice_get calls moment.call ≡ Some call) × (call.end ≡ Some moment.time)
  pub once : (j k : ℕ) (a b : Moment) → slice_get ends j ≡ Some a → slice_get ends k ≡ Some b → a.call ≡ b.call → j ≡ k
  pub all : (i end : ℕ) (call : ClientCall) → slice_get calls i ≡ Some call → call.end ≡ Some end → (k : ℕ) × (moment : Moment) × (slice_get ends k ≡ Some moment) × (moment.call ≡ i)
  pub by_time : AreByTime ends
