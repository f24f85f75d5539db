-- Logs of single actors, and the runs that they are parts of.
use Rattle.std.specs.Prelude.{◌≡◌, ℕ, ◌≤◌, Bool, false, ◌&&◌, ◌==◌, if◌then◌else◌, List, [], ◌∷◌, ◌+◌, ◌<◌, length, map, All}
use Rattle.std.specs.List.{AllPairs}
use Rattle.messages.specs.declared.actor.Actor.{Actor}
use Rattle.messages.specs.declared.actor.Actor.TheVariants.{Node as ANode, Server as AServer}
use Rattle.merges.specs.declared.logged.LoggedEntry.{LoggedEntry}
use Rattle.merges.specs.declared.logged.LoggedChange.{LoggedChange}
use Rattle.messages.specs.rule.Shapes.{ShapeFields}
use Rattle.messages.specs.rule.Messages.{addressee}
use Rattle.messages.specs.declared.event.Event.{Event}
use Rattle.messages.specs.declared.event.Event.TheVariants.{AtNode, AtServer, Deliver, Member}
use Rattle.messages.specs.declared.event.MemberEvent.TheVariants.{Declare, FailServer}
use Rattle.messages.specs.declared.entry.Entry.{Entry}
use Rattle.cluster_core.specs.rule.World.{journal_limit}
use Rattle.cluster_core.specs.rule.Runs.{IsRun}
use Rattle.merges.specs.declared.logged.Interval.{Interval}

abbrev pub same_actor : Actor → Actor → Bool
same_actor (ANode n) (ANode m) = n == m
same_actor (AServer f) (AServer g) = f == g
same_actor _ _ = false

-- what an actor wrote of one incarnation; a token server, of one epoch
pub record LogFields : Type 0 where
  pub actor : Actor
  pub incarnation : ℕ
  pub entries : List LoggedEntry

-- the log is the actor's, of that incarnation
abbrev pub is_of : LogFields → Actor → ℕ → Bool
is_of l a incarnation = same_actor l.actor a && (l.incarnation == incarnation)

-- no entry had ended before the one before it
abbrev pub IsInOrder : List LoggedEntry → Type 0
IsInOrder xs = AllPairs (λ (x : LoggedEntry) (y : LoggedEntry). x.interval.ended ≤ y.interval.ended) xs

abbrev pub AreInOrder : List LoggedChange → Type 0
AreInOrder cs = AllPairs (λ (x : LoggedChange) (y : LoggedChange). x.interval.ended ≤ y.interval.ended) cs

-- no two logs are of one incarnation of an actor
abbrev pub AreOfDifferent : List LogFields → Type 0
AreOfDifferent ls = AllPairs (λ (l : LogFields) (k : LogFields). is_of l k.actor k.incarnation ≡ false) ls

-- what each actor wrote in each of its incarnations
abbrev pub Logs : Type 0
Logs = Actor → ℕ → List LoggedEntry

-- the entries of the log that is the actor's, of that incarnation; none, where there is no such log
abbrev pub log_of : List LogFields → Logs
log_of [] a incarnation = []
log_of (l ∷ ls) a incarnation = if is_of l a incarnation then l.entries else log_of ls a incarnation

-- the event is a step of the actor
abbrev pub takes : Actor → Event → Bool
takes a (AtNode n input) = same_actor a (ANode n)
takes a (AtServer file input) = same_actor a (AServer file)
takes a (Deliver m) = same_actor a (addressee m)
takes a (Member event) = false

-- the event declares the actor failed
abbrev pub ends : Actor → Event → Bool
ends a (Member (Declare n)) = same_actor a (ANode n)
ends a (Member (FailServer file)) = same_actor a (AServer file)
ends a _ = false

-- the entries that the actor made in that incarnation (of a server: epoch), where it is in incarnation `now` before them
abbrev pub part : Actor → ℕ → ℕ → List LoggedEntry → List LoggedEntry
part a incarnation now [] = []
part a incarnation now (x ∷ xs) =
    if takes a x.entry.event then (if now == incarnation then x ∷ part a incarnation now xs else part a incarnation now xs)
    else part a incarnation (if ends a x.entry.event then now + 1 else now) xs

abbrev pub change_before : Interval → Event → List LoggedChange → List LoggedChange
change_before interval (Member event) rest = record { event = event; interval = interval } ∷ rest
change_before interval _ rest = rest

-- the declarations and starts, in order
abbrev pub changes_of : List LoggedEntry → List LoggedChange
changes_of [] = []
changes_of (x ∷ xs) = change_before x.interval x.entry.event (changes_of xs)

-- no entry stands before one that had ended before it began, where no two clocks ever differ by more than the skew; nor did one end before it began
abbrev pub AgreesWithClocks : ℕ → List LoggedEntry → Type 0
AgreesWithClocks skew [] = Unit
AgreesWithClocks skew (x ∷ xs) = All (λ (y : LoggedEntry). x.interval.began ≤ y.interval.ended + skew) (x ∷ xs) × AgreesWithClocks skew xs

-- the entries are a run; each actor made in each incarnation what its log has; the declarations and starts are these; and no clock contradicts the order
pub record IsMerge (shape : ShapeFields) (skew : ℕ) (logs : Logs) (declared : List LoggedChange) (xs : List LoggedEntry) : Type 0 where
  pub run : IsRun shape (map (λ (x : LoggedEntry). x.entry) xs)
  pub parts : (a : Actor) (incarnation : ℕ) → part a incarnation 1 xs ≡ logs a incarnation
  pub declares : changes_of xs ≡ declared
  pub agrees : AgreesWithClocks skew xs

-- the entries of a merge
abbrev pub AreMerged : ShapeFields → ℕ → Logs → List LoggedChange → List Entry → Type 0
AreMerged shape skew logs declared es = (xs : List LoggedEntry) × (es ≡ map (λ (x : LoggedEntry). x.entry) xs) × IsMerge shape skew logs declared xs

-- the logs have no merge
abbrev pub NoneMerges : ShapeFields → ℕ → Logs → List LoggedChange → Type 0
NoneMerges shape skew logs declared = (xs : List LoggedEntry) → ¬ IsMerge shape skew logs declared xs

-- each merge is longer than a journal may be
abbrev pub AllAreTooLong : ShapeFields → ℕ → Logs → List LoggedChange → Type 0
AllAreTooLong shape skew logs declared = (xs : List LoggedEntry) → IsMerge shape skew logs declared xs → journal_limit < length xs

-- each run that no clock contradicts is a merge of its parts
abbrev pub RunsAreMerges : Type 0
RunsAreMerges = (shape : ShapeFields) (skew : ℕ) (xs : List LoggedEntry) → IsRun shape (map (λ (x : LoggedEntry). x.entry) xs) → AgreesWithClocks skew xs → IsMerge shape skew (λ a incarnation. part a incarnation 1 xs) (changes_of xs) xs
