-- A merge under way, and as the code has it.
use Rattle.std.specs.Prelude.{◌≡◌, ℕ, ◌+◌, ◌≤◌, Bool, true, ◌&&◌, ◌==◌, if◌then◌else◌, List, [], ◌∷◌, ◌++◌, length, map, All, Option, Some, None, Ok, ◌-◌, ◌<◌, slice_get, slice_index_or}
use Rattle.messages.specs.rule.Shapes.{ShapeFields}
use Rattle.messages.specs.declared.actor.Actor.{Actor}
use Rattle.messages.specs.declared.actor.Actor.TheVariants.{Node as ANode, Server as AServer}
use Rattle.messages.specs.declared.event.Event.TheVariants.{Member}
use Rattle.messages.specs.declared.event.MemberEvent.{MemberEvent}
use Rattle.messages.specs.declared.entry.Entry.{Entry}
use Rattle.cluster_core.specs.rule.World.{WorldState, first_world, journal_limit}
use Rattle.cluster_core.specs.rule.Next.{has_actor, next}
use Rattle.merges.specs.declared.logged.LoggedEntry.{LoggedEntry}
use Rattle.merges.specs.declared.logged.LoggedChange.{LoggedChange}
use Rattle.cluster_core.specs.rule.Runs.{Leads as IsLed}
use Rattle.merges.specs.rule.Merges.{same_actor, takes, ends, part, changes_of, AgreesWithClocks, Logs, IsMerge, NoneMerges, LogFields, AreOfDifferent, log_of}
use Rattle.std.specs.List.{Contains}
use Rattle.messages.specs.declared.event.Event.{Event}
use Rattle.cluster_core.specs.rule.Parts.{world_state}
use Rattle.cluster_core.specs.rule.Journals.{RunFields}
use Rattle.merges.specs.declared.merger.Merger.{Merger}
use Rattle.merges.specs.declared.merge_error.MergeError.{MergeError}
use Rattle.merges.specs.declared.merge_error.MergeError.TheVariants.{NoMemory, TwoLogs, JournalFull, NoOrder}

-- the world to which what was put leads, what is left of each log, and which declarations and starts are left
pub record Merging : Type 0 where
  pub world : WorldState
  pub left : Logs
  pub changes : List LoggedChange

-- nothing is put
abbrev pub begun : ShapeFields → Logs → List LoggedChange → Merging
begun shape logs declared = record { world = first_world shape; left = logs; changes = declared }

-- the incarnation of an actor that is live, or that begins when it starts again
abbrev pub current : WorldState → Actor → ℕ
current w (ANode n) = (w.nodes n).incarnation
current w (AServer file) = if w.working file then (w.servers file).epoch else (w.servers file).epoch + 1

-- the actor is alive, or works
abbrev pub stands : WorldState → Actor → Bool
stands w (ANode n) = w.alive n
stands w (AServer file) = w.working file

-- the cluster has the actor, and it is alive, or works
abbrev pub is_there : WorldState → Actor → Bool
is_there w a = has_actor w a && stands w a

-- what is left of the log of the actor's current incarnation
abbrev pub next_of : Merging → Actor → List LoggedEntry
next_of m a = m.left a (current m.world a)

-- what is left had not ended before that moment
pub record Allows (skew : ℕ) (m : Merging) (moment : ℕ) : Type 0 where
  pub entries : (a : Actor) (incarnation : ℕ) → All (λ (y : LoggedEntry). moment ≤ y.interval.ended + skew) (m.left a incarnation)
  pub changes : All (λ (c : LoggedChange). moment ≤ c.interval.ended + skew) m.changes

abbrev pub with_left : Logs → Actor → ℕ → List LoggedEntry → Logs
with_left left a incarnation rest b i = if same_actor a b && (incarnation == i) then rest else left b i

-- the next entry of the actor is put
pub record EntryComes (skew : ℕ) (m : Merging) (a : Actor) (x : LoggedEntry) (n : Merging) : Type 0 where
  pub rest : List LoggedEntry
  pub first : next_of m a ≡ x ∷ rest
  pub own : takes a x.entry.event ≡ true
  pub allows : Allows skew m x.interval.began
  pub step : next m.world x.entry.event ≡ Ok (n.world, x.entry)
  pub left : n.left ≡ with_left m.left a (current m.world a) rest
  pub changes : n.changes ≡ m.changes

-- the next declaration or start is put
pub record ChangeComes (skew : ℕ) (m : Merging) (x : LoggedEntry) (n : Merging) : Type 0 where
  pub event : MemberEvent
  pub is : x.entry.event ≡ Member event
  pub rest : List LoggedChange
  pub first : m.changes ≡ record { event = event; interval = x.interval } ∷ rest
  pub used_up : (a : Actor) → ends a (Member event) ≡ true → next_of m a ≡ []
  pub allows : Allows skew m x.interval.began
  pub step : next m.world (Member event) ≡ Ok (n.world, x.entry)
  pub left : n.left ≡ m.left
  pub changes : n.changes ≡ rest

-- the next of that list is put: of an actor's current log, or of the declarations and starts
abbrev pub Comes : ℕ → Merging → Option Actor → LoggedEntry → Merging → Type 0
Comes skew m None x n = ChangeComes skew m x n
Comes skew m (Some a) x n = EntryComes skew m a x n

-- these are put, one after the other
abbrev pub Leads : ℕ → Merging → List LoggedEntry → Merging → Type 0
Leads skew m [] n = m ≡ n
Leads skew m (x ∷ xs) n = (list : Option Actor) × (mid : Merging) × Comes skew m list x mid × Leads skew mid xs n

-- nothing is left
pub record IsDone (m : Merging) : Type 0 where
  pub left : (a : Actor) (incarnation : ℕ) → m.left a incarnation ≡ []
  pub changes : m.changes ≡ []

-- the entries are a merge of what is left
pub record MergesFrom (skew : ℕ) (m : Merging) (xs : List LoggedEntry) : Type 0 where
  pub world : WorldState
  pub leads : IsLed m.world (map (λ (x : LoggedEntry). x.entry) xs) world
  pub parts : (a : Actor) (incarnation : ℕ) → part a incarnation (current m.world a) xs ≡ m.left a incarnation
  pub declares : changes_of xs ≡ m.changes
  pub agrees : AgreesWithClocks skew xs

-- whatever may be put serves: where the logs have a merge, they have one that begins with what was put, and is as long
abbrev pub WhatIsPutServes : Type 0
WhatIsPutServes = (shape : ShapeFields) (skew : ℕ) (logs : Logs) (declared : List LoggedChange) (xs ys : List LoggedEntry) (m : Merging) → Leads skew (begun shape logs declared) xs m → IsMerge shape skew logs declared ys
    → (zs : List LoggedEntry) × IsMerge shape skew logs declared (xs ++ zs) × (length (xs ++ zs) ≡ length ys)

-- where all is put, that is a merge
abbrev pub WhatIsDoneIsAMerge : Type 0
WhatIsDoneIsAMerge = (shape : ShapeFields) (skew : ℕ) (logs : Logs) (declared : List LoggedChange) (xs : List LoggedEntry) (m : Merging) → Leads skew (begun shape logs declared) xs m → IsDone m → IsMerge shape skew logs declared xs

-- where nothing may be put, and something is left, there is no merge
abbrev pub WhatIsStuckHasNone : Type 0
WhatIsStuckHasNone = (shape : ShapeFields) (skew : ℕ) (logs : Logs) (declared : List LoggedChange) (xs : List LoggedEntry) (m : Merging) → Leads skew (begun shape logs declared) xs m
    → ((list : Option Actor) (x : LoggedEntry) (n : Merging) → Comes skew m list x n → ⊥) → (IsDone m → ⊥) → NoneMerges shape skew logs declared

-- where the event of an actor's next entry makes another entry, there is no merge
abbrev pub WhatComesOtherwiseHasNone : Type 0
WhatComesOtherwiseHasNone = (shape : ShapeFields) (skew : ℕ) (logs : Logs) (declared : List LoggedChange) (xs : List LoggedEntry) (m : Merging) → Leads skew (begun shape logs declared) xs m
    → (a : Actor) (x : LoggedEntry) (rest : List LoggedEntry) (made : Entry) (v : WorldState) → next_of m a ≡ x ∷ rest → takes a x.entry.event ≡ true → next m.world x.entry.event ≡ Ok (v, made) → (made ≡ x.entry → ⊥)
    → NoneMerges shape skew logs declared

-- the run that was made, what is left of the logs and of the declarations and starts, and a moment: what is left had not ended before it
pub record MergerFields : Type 0 where
  pub run : RunFields
  pub logs : List LogFields
  pub changes : List LoggedChange
  pub skew : ℕ
  pub floor : ℕ

abbrev pub fields_of : Merger → MergerFields
fields_of m = record { run = m.run; logs = m.logs.items; changes = m.changes; skew = m.skew; floor = m.floor }

abbrev pub merging_of : MergerFields → Merging
merging_of m = record { world = world_state m.run.world; left = log_of m.logs; changes = m.changes }

pub record IsMerger (m : MergerFields) : Type 0 where
  pub different : AreOfDifferent m.logs
  pub lower : (moment : ℕ) → moment ≤ m.floor + m.skew → Allows m.skew (merging_of m) moment

-- the greatest moment that a clock may show
abbrev pub last_moment : ℕ
last_moment = 18446744073709551615

-- all that is left in the first logs, that many, ended no earlier
abbrev pub EndsFrom : ℕ → ℕ → List LogFields → Type 0
EndsFrom moment count logs = (k : ℕ) (d : LogFields) → k < count → All (λ (y : LoggedEntry). moment ≤ y.interval.ended) (slice_index_or logs k d).entries

-- for each log there is a moment before which nothing that is left of it had ended, written as the last moment less that one
abbrev pub Covers : List (ℕ × ℕ) → List LogFields → Type 0
Covers ends logs = (k : ℕ) (d : LogFields) → k < length logs → (e : ℕ) × Contains ends (e, k) × All (λ (y : LoggedEntry). last_moment - e ≤ y.interval.ended) (slice_index_or logs k d).entries

-- no later moment than the floor would do
abbrev pub IsExact : MergerFields → Type 0
IsExact m = (moment : ℕ) → moment ≤ last_moment → Allows m.skew (merging_of m) moment → moment ≤ m.floor + m.skew

-- no entry of the log with that index may be put
abbrev pub CannotCome : MergerFields → ℕ → Type 0
CannotCome m k = IsExact m → (l : LogFields) → slice_get m.logs k ≡ Some l → current (world_state m.run.world) l.actor ≡ l.incarnation
    → (x : LoggedEntry) (n : Merging) → EntryComes m.skew (merging_of m) l.actor x n → ⊥

-- no declaration or start may be put
abbrev pub NoChangeComes : MergerFields → Type 0
NoChangeComes m = IsExact m → (x : LoggedEntry) (n : Merging) → ChangeComes m.skew (merging_of m) x n → ⊥

-- nothing may be put
abbrev pub IsStuck : MergerFields → Type 0
IsStuck m = (list : Option Actor) (x : LoggedEntry) (n : Merging) → Comes m.skew (merging_of m) list x n → ⊥

-- the event is that of the next entry of the log with that index, which is of its actor and in its incarnation, and no clock contradicts it
pub record MayBeTried (m : MergerFields) (k : ℕ) (event : Event) : Type 0 where
  pub log : LogFields
  pub there : slice_get m.logs k ≡ Some log
  pub entry : LoggedEntry
  pub rest : List LoggedEntry
  pub first : log.entries ≡ entry ∷ rest
  pub is : event ≡ entry.entry.event
  pub own : takes log.actor event ≡ true
  pub now : current (world_state m.run.world) log.actor ≡ log.incarnation
  pub allows : Allows m.skew (merging_of m) entry.interval.began

-- the same log with other entries
abbrev pub with_entries : LogFields → List LoggedEntry → LogFields
with_entries l xs = record { actor = l.actor; incarnation = l.incarnation; entries = xs }

-- the last entry that was made, and the next one of the log with that index
pub record LastAndNext (m : MergerFields) (k : ℕ) : Type 0 where
  pub before : List Entry
  pub made : Entry
  pub last : m.run.entries ≡ before ++ made ∷ []
  pub log : LogFields
  pub there : slice_get m.logs k ≡ Some log
  pub entry : LoggedEntry
  pub rest : List LoggedEntry
  pub first : log.entries ≡ entry ∷ rest

-- there was room for an entry, and there are more of them
abbrev pub Longer : MergerFields → MergerFields → Type 0
Longer m n = (length m.run.entries < journal_limit) × (length m.run.entries < length n.run.entries)

-- these entries were put
pub record PutsOn (m n : MergerFields) : Type 0 where
  pub good : IsMerger n
  pub count : length n.logs ≡ length m.logs
  pub skew : n.skew ≡ m.skew
  pub put : List LoggedEntry
  pub leads : Leads m.skew (merging_of m) put (merging_of n)
  pub entries : n.run.entries ≡ m.run.entries ++ map (λ (x : LoggedEntry). x.entry) put
  pub later : (k : ℕ) (d : LogFields) (moment : ℕ) → All (λ (y : LoggedEntry). moment ≤ y.interval.ended) (slice_index_or m.logs k d).entries → All (λ (y : LoggedEntry). moment ≤ y.interval.ended) (slice_index_or n.logs k d).entries

-- what is left has no merge
abbrev pub NoneFrom : MergerFields → Type 0
NoneFrom m = (xs : List LoggedEntry) → MergesFrom m.skew (merging_of m) xs → ⊥

-- with a merge of what is left there are more entries than a journal may have
abbrev pub TooLongFrom : MergerFields → Type 0
TooLongFrom m = (xs : List LoggedEntry) → MergesFrom m.skew (merging_of m) xs → journal_limit < length m.run.entries + length xs

-- what an error says of logs, before anything is put
abbrev pub FailsToBegin : MergeError → List LogFields → Type 0
FailsToBegin NoMemory logs = Unit
FailsToBegin (TwoLogs a incarnation) logs = ¬ AreOfDifferent logs
FailsToBegin JournalFull logs = ⊥
FailsToBegin NoOrder logs = ⊥

-- what an error says
abbrev pub Fails : MergeError → MergerFields → Type 0
Fails NoMemory m = Unit
Fails (TwoLogs a incarnation) m = ⊥
Fails JournalFull m = TooLongFrom m
Fails NoOrder m = NoneFrom m
