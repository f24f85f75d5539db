-- Runs as the code stores them, and as they go on by lines and by rounds.
use Rattle.std.specs.Prelude.{ℕ, ◌||◌, nat_lt, Bool, false, List, slice_index_or, ◌≡◌, true, Option, None, ◌⊎◌, ◌≢◌, ◌<◌, ◌≤◌, ◌++◌, length, slice_get, Some, Err, Contains, All}
use Rattle.cluster_core.specs.rule.Journals.{JournalFields, RunFields, GoesOn, events_of}
use Rattle.cluster_core.specs.rule.Parts.{WorldParts, world_state}
use Rattle.lockscript.specs.declared.refused_line.RefusedLine.{RefusedLine}
use Rattle.player.specs.rule.Progress.{Progress, PlayedState, ComesFrom, ComesTo, FillsJournal}
use Rattle.messages.specs.declared.entry.Entry.{Entry}
use Rattle.messages.specs.declared.refusal.Refused.{Refused}
use Rattle.messages.specs.rule.Shapes.{ShapeFields, IsShape}
use Rattle.cluster_core.specs.rule.Rounds.{IsRound as IsRoundAbout}
use Rattle.cluster_core.specs.rule.Runs.{Leads}
use Rattle.cluster_core.specs.rule.World.{WorldState, first_world}
use Rattle.lockscript.specs.rule.Scripts.{LineFields}
use Rattle.player.specs.declared.rounds.Calm.{Calm}
use Rattle.player.specs.rule.Rounds.{EndsCalm, IsRound, cut_of, works, Arrive, EndsRefused, IsCalmed, IsQuietRun, IsDue}
use Rattle.messages.specs.declared.event.Event.{Event}
use Rattle.messages.specs.declared.event.Event.TheVariants.{Deliver, AtNode, AtServer}
use Rattle.messages.specs.declared.message.Message.{Message}
use Rattle.messages.specs.declared.refusal.Refused.TheVariants.{NoMemory}
use Rattle.messages.specs.rule.Messages.{addressee, is_among}
use Rattle.cluster_core.specs.rule.Next.{is_stopped, kept_next}
use Rattle.messages.specs.declared.event.NodeInput.TheVariants.{Retry}
use Rattle.messages.specs.declared.event.ServerInput.TheVariants.{Resend, Learn}
use Rattle.node_core.specs.declared.open_call.OpenCall.{OpenCall}

-- each message before the cursor is settled, and each one with a mark
pub record SettledParts : Type 0 where
  pub cursor : ℕ
  pub marks : List Bool

unfoldable pub settled_in : SettledParts → ℕ → Bool
settled_in s index = nat_lt index s.cursor || slice_index_or s.marks index false

pub record PlayerParts : Type 0 where
  pub run : RunFields
  pub settled : SettledParts
  pub refused : List RefusedLine

abbrev pub progress : PlayerParts → Progress
progress p = record { entries = p.run.entries; world = world_state p.run.world; settled = settled_in p.settled; refused = p.refused }

pub record PlayedParts : Type 0 where
  pub journal : JournalFields
  pub world : WorldParts
  pub refused : List RefusedLine

abbrev pub state_of : PlayedParts → PlayedState
state_of p = record { journal = p.journal; world = world_state p.world; refused = p.refused }

-- a script has one outcome at most
abbrev pub ComesToOne : Type 0
ComesToOne = (shape : ShapeFields) (lines : List LineFields) (one other : PlayedState) → ComesTo shape lines one → ComesTo shape lines other → one ≡ other

-- a script that fills the journal has no outcome
abbrev pub FullComesToNothing : Type 0
FullComesToNothing = (shape : ShapeFields) (lines : List LineFields) (played : PlayedState) → FillsJournal shape lines → ComesTo shape lines played → ⊥

-- after any run, a round is a round about each file whose server works
abbrev pub RoundsAreAboutFiles : Type 0
RoundsAreAboutFiles =
    (shape : ShapeFields) (past es : List Entry) (w v : WorldState) (file : ℕ)
    → IsShape shape
    → Leads (first_world shape) past w
    → IsRound w es v
    → works w file ≡ true
    → IsRoundAbout file w es v

-- what the lines come to from where a run stands, as `Comes` says it of a run that begins
abbrev pub ComesOn : Bool → ShapeFields → Progress → List LineFields → PlayedState → Option Refused → Type 0
ComesOn false shape from lines played cut = ComesFrom shape from lines played × (cut ≡ None)
ComesOn true shape from lines played cut = (mid : PlayedState) × (end : Calm) × ComesFrom shape from lines mid × EndsCalm mid end played × (cut ≡ cut_of end)

-- the run goes on by these entries, which are of quiet events
pub record GoesBy (r : RunFields) (es : List Entry) (s : RunFields) : Type 0 where
  pub entries : s.entries ≡ r.entries ++ es
  pub run : IsQuietRun (world_state r.world) es (world_state s.world)

abbrev pub GoesQuietly : RunFields → RunFields → Type 0
GoesQuietly r s = (es : List Entry) × GoesBy r es s

-- where one of the events was refused, and not for want of memory, it is refused in the world of the run
abbrev pub StopsAmong : List Event → RunFields → Refused → Type 0
StopsAmong events r refusal = refusal ≢ NoMemory → (event : Event) × Contains events event × (kept_next (world_state r.world) event ≡ Err refusal)

-- where the delivery of a message was refused, and not for want of memory, it is one that was sent, and it is refused in the world of the run
abbrev pub StopsAtSent : RunFields → Refused → Type 0
StopsAtSent r refusal = refusal ≢ NoMemory → (m : Message) × (is_among r.world.sent m ≡ true) × (kept_next (world_state r.world) (Deliver m) ≡ Err refusal)

-- where an event was refused, and not for want of memory, the run went on up to it, and a round owes it, or it is the delivery of a message that was sent
abbrev pub Stops : RunFields → RunFields → Refused → Type 0
Stops r s refusal = refusal ≢ NoMemory → (es : List Entry) × GoesBy r es s × EndsRefused refusal (world_state r.world) es (world_state s.world)

-- the message is one that was sent, from that place on in the order of sending
abbrev pub IsSentFrom : List Message → ℕ → Message → Type 0
IsSentFrom sent place m = (k : ℕ) × (place ≤ k) × (k < length sent) × (slice_index_or sent k m ≡ m)

-- the message m is delivered, or its addressee was declared failed
abbrev pub Passes : RunFields → Message → RunFields → Type 0
Passes r m s = GoesOn r (Deliver m) s ⊎ ((s ≡ r) × (is_stopped (world_state r.world) (addressee m) ≡ true))

-- the message at a place in the order of sending is delivered, or its addressee was declared failed
abbrev pub PassesAt : RunFields → ℕ → RunFields → Type 0
PassesAt r place s = (m : Message) × (slice_get r.world.sent place ≡ Some m) × Passes r m s

-- these entries went before, and of what they sent only messages from that place on are left
abbrev pub ArriveUpTo : RunFields → ℕ → List Entry → Type 0
ArriveUpTo r place es = Arrive (world_state r.world) (IsSentFrom r.world.sent place) es

-- the events happen in order, and of what their entries send only what was sent since is left
abbrev pub TakesAll : RunFields → List Event → RunFields → Type 0
TakesAll r events s = (es : List Entry) × GoesBy r es s × (events_of es ≡ events) × ArriveUpTo s (length r.world.sent) es

-- where of what other entries sent before only messages from that place on are left, the run goes on until none is
abbrev pub Arrives : RunFields → ℕ → RunFields → Type 0
Arrives r place s = (es : List Entry) → ArriveUpTo r place es → (ds : List Entry) × GoesBy r ds s × Arrive (world_state s.world) (λ m. ⊥) (es ++ ds)

-- the run goes on by a round
abbrev pub GoesByRound : RunFields → RunFields → Type 0
GoesByRound r s = (es : List Entry) × (s.entries ≡ r.entries ++ es) × IsRound (world_state r.world) es (world_state s.world)

-- the run goes on, at last by a round
pub record EndsInRound (r s : RunFields) : Type 0 where
  pub before : List Entry
  pub last : List Entry
  pub begun : WorldState
  pub entries : s.entries ≡ r.entries ++ (before ++ last)
  pub run : IsQuietRun (world_state r.world) before begun
  pub round : IsRound begun last (world_state s.world)

-- the run goes on by rounds, which end so
abbrev pub GoesCalm : RunFields → RunFields → Calm → Type 0
GoesCalm r s end = (es : List Entry) × (s.entries ≡ r.entries ++ es) × IsCalmed (world_state r.world) es (world_state s.world) end

-- the list is the old one and behind it all events of a kind
pub record Adds (Is : Event → Type 0) (old new : List Event) : Type 0 where
  pub more : List Event
  pub grew : new ≡ old ++ more
  pub each : All Is more
  pub all : (event : Event) → Is event → Contains more event

-- what is due is all there, and nothing else
pub record AreDue (w : WorldState) (events : List Event) : Type 0 where
  pub each : All (IsDue w) events
  pub all : (event : Event) → IsDue w event → Contains events event

-- of one of these numbers
abbrev pub OfUpTo : (ℕ → Event → Type 0) → ℕ → Event → Type 0
OfUpTo Is last event = (n : ℕ) × (1 ≤ n) × (n ≤ last) × Is n event

-- the server of the file is to learn of an incarnation of the node
abbrev pub IsLearnAt : WorldState → ℕ → ℕ → Event → Type 0
IsLearnAt w file n event = (incarnation : ℕ) × (event ≡ AtServer file (Learn n incarnation)) × IsDue w event

abbrev pub IsLearnOf : WorldState → ℕ → Event → Type 0
IsLearnOf w file event = (n : ℕ) × IsLearnAt w file n event

abbrev pub IsLearn : WorldState → Event → Type 0
IsLearn w event = (file : ℕ) × IsLearnOf w file event

-- one of these calls of the node is to be tried again
abbrev pub IsRetryOf : ℕ → List OpenCall → Event → Type 0
IsRetryOf n calls event = (c : OpenCall) × Contains calls c × (event ≡ AtNode n (Retry c.pid))

abbrev pub IsRetryAt : WorldState → ℕ → Event → Type 0
IsRetryAt w n event = (pid : ℕ) × (event ≡ AtNode n (Retry pid)) × IsDue w event

abbrev pub IsRetry : WorldState → Event → Type 0
IsRetry w event = (n : ℕ) × IsRetryAt w n event

abbrev pub IsResendAt : WorldState → ℕ → Event → Type 0
IsResendAt w file event = (event ≡ AtServer file Resend) × IsDue w event

abbrev pub IsResend : WorldState → Event → Type 0
IsResend w event = (file : ℕ) × IsResendAt w file event
