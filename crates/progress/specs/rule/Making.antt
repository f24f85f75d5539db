-- Rounds are made in whatever order their events happen, within a bound, unless a server spends the numbers of an epoch in them.
use Rattle.std.specs.Prelude.{◌≡◌, ◌⊎◌, ◌+◌, ◌≤◌, ℕ, true, List, [], ◌∷◌, length, Contains, is_some, Ok, Err}
use Rattle.messages.specs.rule.Shapes.{ShapeFields, IsShape}
use Rattle.messages.specs.declared.message.Message.{Message}
use Rattle.messages.specs.declared.event.Event.{Event}
use Rattle.messages.specs.declared.entry.Entry.{Entry}
use Rattle.messages.specs.declared.refusal.Refused.TheVariants.{Spent}
use Rattle.cluster_core.specs.rule.Actors.{server_event}
use Rattle.cluster_core.specs.rule.World.{WorldState, first_world, has_file}
use Rattle.cluster_core.specs.rule.Next.{next}
use Rattle.cluster_core.specs.rule.Runs.{Leads}
use Rattle.cluster_core.specs.rule.Rounds.{IsRound}
use Rattle.progress.specs.rule.Agenda.{agenda, agenda_with, AreOlder, WorksOff}
use Rattle.progress.specs.rule.Bounds.{number_of_requests, most_entries, rounds_bound, entries_of}
use Rattle.progress.specs.rule.Rounds.{number_of_open_calls, AllAreBlocked, AreRounds}

-- The server of the file has spent the numbers of its epoch for a node before a round is made: once events of the round's agenda happened, each once, and no older message, and they are no more than the bound of a round says, the server refuses an event that is left on the agenda
pub record IsSpent (file : ℕ) (w : WorldState) : Type 0 where
  pub entries : List Entry
  pub world : WorldState
  pub left : List Event
  pub works_off : WorksOff file w (agenda file w) entries world left
  pub few : length entries ≤ most_entries w file 0
  pub event : Event
  pub is_left : Contains left event
  pub at : is_some (server_event file event) ≡ true
  pub refused : next world event ≡ Err Spent

-- there is a round about the file that begins in the world, and has no more entries than the bound says
abbrev pub CanBeMade : ℕ → WorldState → Type 0
CanBeMade file w = (es : List Entry) × (v : WorldState) × IsRound file w es v × (length es ≤ most_entries w file 0)

-- after any run a round about each file whose server works can be made within its bound, unless the server turns out to have spent its numbers before that
abbrev pub ARoundCanBeMade : Type 0
ARoundCanBeMade =
    (shape : ShapeFields) (past : List Entry) (w : WorldState) (file : ℕ)
    → IsShape shape
    → Leads (first_world shape) past w
    → has_file w file ≡ true
    → w.working file ≡ true
    → CanBeMade file w ⊎ IsSpent file w

-- After any run, if the server of a file works: in whatever order the events on the agenda of a round about it happen, each once, and whichever older messages come, they are no more than the bound says; once none is left, they are a round; and each that is left can happen next, unless the server refuses it, having spent the numbers of its epoch for a node
abbrev pub EveryOrderMakesARound : Type 0
EveryOrderMakesARound =
    (shape : ShapeFields) (past es : List Entry) (w v : WorldState) (file : ℕ) (older : List Message) (left : List Event)
    → IsShape shape
    → Leads (first_world shape) past w
    → has_file w file ≡ true
    → w.working file ≡ true
    → AreOlder w older
    → WorksOff file w (agenda_with file w older) es v left
    → (length es ≤ most_entries w file (length older))
    × (left ≡ [] → IsRound file w es v)
    × ((event : Event) → Contains left event → ((q : WorldState × Entry) × (next v event ≡ Ok q)) ⊎ ((next v event ≡ Err Spent) × (is_some (server_event file event) ≡ true)))

-- these are rounds about the file, one behind the other, each made by its agenda, in any order, and in each so many older messages come at most
abbrev pub AreWorkedOff : ℕ → ℕ → WorldState → List (List Entry) → WorldState → Type 0
AreWorkedOff file most w [] v = w ≡ v
AreWorkedOff file most w (es ∷ rounds) v =
    (mid : WorldState) × (older : List Message)
    × AreOlder w older
    × (length older ≤ most)
    × WorksOff file w (agenda_with file w older) es mid []
    × AreWorkedOff file most mid rounds v

-- the rounds, in each of which so many older messages come at most, are within their bound, and answer each call about the file but waits that a lock blocks
abbrev pub AnswerOthers : ℕ → ℕ → WorldState → List (List Entry) → WorldState → Type 0
AnswerOthers file most w rounds v = AllAreBlocked v file × (entries_of rounds ≤ rounds_bound (number_of_open_calls w + 2) w.shape.nodes (number_of_requests w file) (number_of_open_calls w + most))

-- Bounded progress: after any run, if the server of a file works and n calls are open, n + 2 rounds about the file, each made by its agenda in any order, answer each call about it but waits that a lock blocks, within their bound
abbrev pub AllOthersAreAnswered : Type 0
AllOthersAreAnswered =
    (shape : ShapeFields) (past : List Entry) (rounds : List (List Entry)) (w v : WorldState) (file most : ℕ)
    → IsShape shape
    → Leads (first_world shape) past w
    → has_file w file ≡ true
    → w.working file ≡ true
    → AreWorkedOff file most w rounds v
    → length rounds ≡ number_of_open_calls w + 2
    → AnswerOthers file most w rounds v

-- fewer than k rounds are made, one behind the other, each by its agenda, and in the next one the server turns out to have spent its numbers, all within the bound of k rounds
pub record IsSpentWithin (k file : ℕ) (w : WorldState) : Type 0 where
  pub rounds : List (List Entry)
  pub world : WorldState
  pub work_off : AreWorkedOff file 0 w rounds world
  pub fewer : length rounds + 1 ≤ k
  pub spent : IsSpent file world
  pub few : entries_of rounds + length spent.entries ≤ rounds_bound k w.shape.nodes (number_of_requests w file) (number_of_open_calls w)

-- after any run n + 2 such rounds about each file whose server works can be made, where n calls are open, unless the server turns out to have spent its numbers before that
abbrev pub AllOthersCanBeAnswered : Type 0
AllOthersCanBeAnswered =
    (shape : ShapeFields) (past : List Entry) (w : WorldState) (file : ℕ)
    → IsShape shape
    → Leads (first_world shape) past w
    → has_file w file ≡ true
    → w.working file ≡ true
    → ((rounds : List (List Entry)) × (v : WorldState) × AreRounds file w rounds v × (length rounds ≡ number_of_open_calls w + 2) × AnswerOthers file 0 w rounds v) ⊎ IsSpentWithin (number_of_open_calls w + 2) file w
