-- How a script is run, line by line, and its outcome.
use Rattle.std.specs.Prelude.{◌≡◌, ℕ, ◌-◌, ◌<◌, ◌==◌, ◌||◌, nat_lt, Bool, true, false, if◌then◌else◌, List, [], ◌∷◌, ◌++◌, length, slice_get, Option, Result, Ok, Err, Some, None, IfSome}
use Rattle.messages.specs.declared.refusal.Refused.{Refused}
use Rattle.messages.specs.declared.refusal.Refused.TheVariants.{NoMemory, Stranger, JournalFull, Fenced}
use Rattle.messages.specs.declared.event.Event.{Event}
use Rattle.messages.specs.declared.event.Event.TheVariants as event
use Rattle.messages.specs.declared.event.NodeInput.TheVariants as input
use Rattle.messages.specs.declared.event.ServerInput.TheVariants as order
use Rattle.messages.specs.declared.event.MemberEvent.TheVariants as change
use Rattle.messages.specs.declared.message.Message.{Message}
use Rattle.messages.specs.declared.entry.Entry.{Entry}
use Rattle.messages.specs.rule.Entries.{number_of}
use Rattle.messages.specs.rule.Shapes.{ShapeFields}
use Rattle.cluster_core.specs.rule.World.{WorldState, first_world}
use Rattle.cluster_core.specs.rule.Next.{kept_next}
use Rattle.cluster_core.specs.rule.Journals.{delivery, JournalFields}
use Rattle.lockscript.specs.declared.refused_line.RefusedLine.{RefusedLine}
use Rattle.lockscript.specs.declared.script_line.ScriptCommand.{ScriptCommand}
use Rattle.lockscript.specs.declared.script_line.ScriptCommand.TheVariants.{Call, Deliver, Lose, Settle, Interrupt, Retry, Resend, Declare, Restart, Learn, FailServer, StartServer}
use Rattle.lockscript.specs.rule.Scripts.{LineFields}
use Rattle.cluster_core.specs.rule.Runs.{Leads}
use Rattle.cluster_core.specs.rule.Safe.{IsSafe}

-- how far a run came: its entries, its world, the settled messages (by index in order of sending), and the refused lines with the numbers of refusals
pub record Progress : Type 0 where
  pub entries : List Entry
  pub world : WorldState
  pub settled : ℕ → Bool
  pub refused : List RefusedLine

abbrev pub first_progress : ShapeFields → Progress
first_progress shape = record { entries = []; world = first_world shape; settled = λ index. false; refused = [] }

-- a run behind these entries, which led to this world: each message that was sent is settled, and no line was refused
abbrev pub progress_after : List Entry → WorldState → Progress
progress_after entries world = record { entries = entries; world = world; settled = λ index. nat_lt index (length world.sent); refused = [] }

-- the run after an event happened, which made this entry and led to this world
abbrev pub after_entry : Progress → WorldState × Entry → Progress
after_entry p made = record p { entries = p.entries ++ made.1 ∷ []; world = made.0 }

-- the run after an event of the line was refused
abbrev pub after_refusal : Progress → ℕ → Refused → Progress
after_refusal p line refusal = record p { refused = p.refused ++ record { line = line; code = number_of refusal } ∷ [] }

-- where a run comes to: a progress, or nothing if the journal has no room for an event
abbrev pub End : Type 0
End = Option Progress

-- an event that is accepted adds its entry; a refused one is listed with its line; a full journal ends the run; a lack of memory is no end
abbrev pub Ends : ℕ → Progress → Result (WorldState × Entry) Refused → End → Type 0
Ends line p (Ok made) end = end ≡ Some (after_entry p made)
Ends line p (Err NoMemory) end = ⊥
Ends line p (Err JournalFull) end = end ≡ None
Ends line p (Err refusal) end = end ≡ Some (after_refusal p line refusal)

-- the event of a line happens, or is refused
abbrev pub Happens : ℕ → Event → Progress → End → Type 0
Happens line event p end = Ends line p (kept_next p.world event) end

-- things are done one after another, each from where the one before it came to, until the journal is full
abbrev pub InTurn : {A : Type 0} → (A → Progress → End → Type 0) → End → List A → End → Type 0
InTurn Is None xs end = end ≡ None
InTurn Is (Some p) [] end = end ≡ Some p
InTurn Is (Some p) (x ∷ xs) end = (mid : End) × Is x p mid × InTurn Is mid xs end

-- the settled messages after one more is settled
abbrev pub with_settled : (ℕ → Bool) → ℕ → ℕ → Bool
with_settled settled index = λ other. (other == index) || settled other

abbrev pub settling : ℕ → Progress → Progress
settling index p = record p { settled = with_settled p.settled index }

-- the message with this index isn't settled, and each message before it is
pub record IsLeastUnsettled (settled : ℕ → Bool) (index : ℕ) : Type 0 where
  pub unsettled : settled index ≡ false
  pub before : (other : ℕ) → other < index → settled other ≡ true

-- the message m, with this index, is the earliest that was sent and isn't settled
pub record IsNextMessage (p : Progress) (index : ℕ) (m : Message) : Type 0 where
  pub least : IsLeastUnsettled p.settled index
  pub sent : slice_get p.world.sent index ≡ Some m

-- a settled message whose node or server was declared failed is passed over without a listing; any other delivery ends as an event of the line
abbrev pub Passes : ℕ → Progress → Result (WorldState × Entry) Refused → End → Type 0
Passes line p (Err Fenced) end = end ≡ Some p
Passes line p made end = Ends line p made end

-- the message m, the next one, is settled: it is delivered, or passed over if its delivery is refused
abbrev pub Delivers : ℕ → Message → Progress → End → Type 0
Delivers line m p end = (index : ℕ) × IsNextMessage p index m × Passes line (settling index p) (kept_next p.world (event.Deliver m)) end

-- each message that was sent is settled
abbrev pub IsSettled : Progress → Type 0
IsSettled p = (index : ℕ) → index < length p.world.sent → p.settled index ≡ true

-- messages are settled one after another, also ones that are sent meanwhile, until none is left or the journal is full
abbrev pub Settles : ℕ → Progress → End → Type 0
Settles line p end = (ms : List Message) × InTurn (Delivers line) (Some p) ms end × IfSome end IsSettled

-- the index of the message with this number, in the order of sending
abbrev pub index_of : ℕ → ℕ
index_of number = number - 1

-- a delivery that a line names settles its message, unless it is refused
abbrev pub after_delivery : ℕ → Progress → Result (WorldState × Entry) Refused → Progress
after_delivery index p (Ok made) = settling index p
after_delivery index p (Err refusal) = p

abbrev pub Comes : ℕ → ℕ → Progress → Result (WorldState × Entry) Refused → End → Type 0
Comes line index p made end = Ends line (after_delivery index p made) made end

-- a message that was sent is lost: it is settled and no event happens; if it wasn't sent the line is listed
abbrev pub lost : ℕ → ℕ → Progress → Progress
lost line index p = if nat_lt index (length p.world.sent) then settling index p else after_refusal p line Stranger

-- what the command of a line does
abbrev pub Does : ℕ → ScriptCommand → Progress → End → Type 0
Does line (Call node pid op) p end = Happens line (event.AtNode node (input.Call pid op)) p end
Does line (Deliver number) p end = Comes line (index_of number) p (delivery p.world (slice_get p.world.sent (index_of number))) end
Does line (Lose number) p end = end ≡ Some (lost line (index_of number) p)
Does line Settle p end = Settles line p end
Does line (Interrupt node pid) p end = Happens line (event.AtNode node (input.Interrupt pid)) p end
Does line (Retry node pid) p end = Happens line (event.AtNode node (input.Retry pid)) p end
Does line (Resend file) p end = Happens line (event.AtServer file order.Resend) p end
Does line (Declare node) p end = Happens line (event.Member (change.Declare node)) p end
Does line (Restart node) p end = Happens line (event.Member (change.Restart node)) p end
Does line (Learn file node incarnation) p end = Happens line (event.AtServer file (order.Learn node incarnation)) p end
Does line (FailServer file) p end = Happens line (event.Member (change.FailServer file)) p end
Does line (StartServer file) p end = Happens line (event.Member (change.StartServer file)) p end

-- the lines are run in order
abbrev pub RunsTo : Progress → List LineFields → End → Type 0
RunsTo p lines end = InTurn (λ (l : LineFields). Does l.number l.command) (Some p) lines end

-- the outcome of a script: the journal of its run, the world at the run's end, and the refused lines, each by its number with that of its refusal
pub record PlayedState : Type 0 where
  pub journal : JournalFields
  pub world : WorldState
  pub refused : List RefusedLine

-- the entries of the journal lead to the world, which is safe
pub record EndsIn (journal : JournalFields) (world : WorldState) : Type 0 where
  pub leads : Leads (first_world journal.shape) journal.entries world
  pub safe : IsSafe world

abbrev pub played_of : ShapeFields → Progress → PlayedState
played_of shape p = record { journal = record { shape = shape; entries = p.entries }; world = p.world; refused = p.refused }

-- the lines, run from `from` on a cluster of this shape, have this outcome
abbrev pub ComesFrom : ShapeFields → Progress → List LineFields → PlayedState → Type 0
ComesFrom shape from lines played = (p : Progress) × RunsTo from lines (Some p) × (played ≡ played_of shape p)

-- the lines, run on a cluster of this shape that begins, have this outcome
abbrev pub ComesTo : ShapeFields → List LineFields → PlayedState → Type 0
ComesTo shape lines played = ComesFrom shape (first_progress shape) lines played

-- the lines, run on a cluster of this shape that begins, need an entry for which the journal has no room
abbrev pub FillsJournal : ShapeFields → List LineFields → Type 0
FillsJournal shape lines = RunsTo (first_progress shape) lines None

-- the lines, run behind the journal from its last world, have this outcome
abbrev pub GoesOnFrom : JournalFields → WorldState → List LineFields → PlayedState → Type 0
GoesOnFrom j world lines played = Leads (first_world j.shape) j.entries world × ComesFrom j.shape (progress_after j.entries world) lines played

-- the lines, run behind the journal, have this outcome
abbrev pub GoesOnTo : JournalFields → List LineFields → PlayedState → Type 0
GoesOnTo j lines played = (world : WorldState) × GoesOnFrom j world lines played

-- the lines, run behind the journal, need an entry for which it has no room
abbrev pub FillsBehind : JournalFields → List LineFields → Type 0
FillsBehind j lines = (world : WorldState) × Leads (first_world j.shape) j.entries world × RunsTo (progress_after j.entries world) lines None
