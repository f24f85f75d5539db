-- Rounds: stretches of a run in which nothing fails and nothing is lost, and what is open is tried again.
use Rattle.std.specs.Prelude.{◌≡◌, ◌⊎◌, ℕ, ◌+◌, ◌≤◌, ◌&&◌, Bool, true, false, List, [], ◌∷◌, ◌++◌, All, Contains, Err, Option, Some, None}
use Rattle.messages.specs.declared.entry.Entry.{Entry}
use Rattle.messages.specs.declared.event.Event.{Event}
use Rattle.messages.specs.declared.event.Event.TheVariants.{AtNode, AtServer, Deliver}
use Rattle.messages.specs.declared.event.NodeInput.TheVariants.{Retry}
use Rattle.messages.specs.declared.event.ServerInput.TheVariants.{Resend, Learn}
use Rattle.messages.specs.declared.message.Message.{Message}
use Rattle.messages.specs.declared.refusal.Refused.{Refused}
use Rattle.messages.specs.rule.Messages.{addressee, is_among}
use Rattle.messages.specs.rule.Shapes.{ShapeFields}
use Rattle.node_core.specs.declared.open_call.OpenCall.{OpenCall}
use Rattle.cluster_core.specs.rule.Journals.{JournalFields, events_of}
use Rattle.cluster_core.specs.rule.Next.{is_stopped, kept_next}
use Rattle.cluster_core.specs.rule.Rounds.{AnswersNone, IsBlockedWait, IsQuiet}
use Rattle.cluster_core.specs.rule.Runs.{Leads}
use Rattle.cluster_core.specs.rule.World.{WorldState, has_file, has_node, is_alive}
use Rattle.lockscript.specs.rule.Scripts.{LineFields}
use Rattle.player.specs.rule.Progress.{PlayedState, ComesTo, GoesOnTo}
use Rattle.player.specs.declared.rounds.Calm.{Calm}
use Rattle.player.specs.declared.rounds.Calm.TheVariants as calm

-- the entries lead from one world to another, and all are of quiet events
pub record IsQuietRun (w : WorldState) (es : List Entry) (v : WorldState) : Type 0 where
  pub leads : Leads w es v
  pub quiet : All IsQuiet (events_of es)

abbrev pub works : WorldState → ℕ → Bool
works w file = has_file w file && w.working file

-- the process of a live node has an open call
abbrev pub HasOpen : WorldState → ℕ → ℕ → Type 0
HasOpen w n pid = (is_alive w n ≡ true) × (c : OpenCall) × Contains (w.nodes n).pending c × (c.pid ≡ pid)

-- a round owes to each working server of a file what node's incarnation was declared failed last, and a resend; and to each open call that it is tried again
abbrev pub IsDue : WorldState → Event → Type 0
IsDue w (AtServer file (Learn n incarnation)) = (works w file ≡ true) × (has_node w n ≡ true) × (1 ≤ incarnation) × (incarnation + 1 ≡ (w.nodes n).incarnation)
IsDue w (AtServer file Resend) = works w file ≡ true
IsDue w (AtNode n (Retry pid)) = HasOpen w n pid
IsDue w _ = ⊥

-- each message that an entry sends is delivered by a later one, unless who is to get it is declared failed, or it is one of those left
abbrev pub Arrive : WorldState → (Message → Type 0) → List Entry → Type 0
Arrive w IsLeft [] = Unit {0}
Arrive w IsLeft (e ∷ es) = All (λ m. (is_stopped w (addressee m) ≡ true) ⊎ (Contains (events_of es) (Deliver m) ⊎ IsLeft m)) e.sends × Arrive w IsLeft es

-- a round: what is due at its beginning happens, and what is sent in it arrives in it. So for each file whose server works it is a round about that file
pub record IsRound (w : WorldState) (es : List Entry) (v : WorldState) : Type 0 where
  pub run : IsQuietRun w es v
  pub due : (event : Event) → IsDue w event → Contains (events_of es) event
  pub arrive : Arrive v (λ m. ⊥) es

-- no call of a live node is open
abbrev pub NoneOpen : WorldState → Type 0
NoneOpen w = (n : ℕ) → is_alive w n ≡ true → (w.nodes n).pending ≡ []

-- the entries end in two rounds, of which the second answers no call
pub record EndsSilent (w : WorldState) (es : List Entry) (v : WorldState) : Type 0 where
  pub before : List Entry
  pub first : List Entry
  pub second : List Entry
  pub split : es ≡ before ++ (first ++ second)
  pub begun : WorldState
  pub mid : WorldState
  pub leads : Leads w before begun
  pub round : IsRound begun first mid
  pub silent : IsRound mid second v
  pub answers_none : AnswersNone second

-- the event is the delivery of a message that was sent
abbrev pub IsSent : WorldState → Event → Type 0
IsSent w (Deliver m) = is_among w.sent m ≡ true
IsSent w _ = ⊥

-- the entries end in a front of a round, and behind it an event is refused so, which the round owes, or which is the delivery of a message that was sent
pub record EndsRefused (refusal : Refused) (w : WorldState) (es : List Entry) (v : WorldState) : Type 0 where
  pub before : List Entry
  pub front : List Entry
  pub split : es ≡ before ++ front
  pub begun : WorldState
  pub leads : Leads w before begun
  pub leads_on : Leads begun front v
  pub event : Event
  pub owed : IsDue begun event ⊎ IsSent v event
  pub refused : kept_next v event ≡ Err refusal

abbrev pub EndsAs : Calm → WorldState → List Entry → WorldState → Type 0
EndsAs calm.NoneOpen w es v = NoneOpen v
EndsAs calm.Silent w es v = EndsSilent w es v
EndsAs (calm.Refused refusal) w es v = EndsRefused refusal w es v

-- rounds lead by these entries from one world to another, and end so
pub record IsCalmed (w : WorldState) (es : List Entry) (v : WorldState) (end : Calm) : Type 0 where
  pub run : IsQuietRun w es v
  pub ends : EndsAs end w es v

-- no call is stuck: each open call of a live node about a file whose server works is a wait, and a lock of another owner in the table of all nodes blocks it
abbrev pub NoneStuck : WorldState → Type 0
NoneStuck w = (n : ℕ) (c : OpenCall) → is_alive w n ≡ true → Contains (w.nodes n).pending c → works w c.file ≡ true → IsBlockedWait w c

-- where rounds end so, no call is stuck, unless an event was refused
abbrev pub LeavesNoneStuck : Calm → WorldState → Type 0
LeavesNoneStuck calm.NoneOpen w = NoneStuck w
LeavesNoneStuck calm.Silent w = NoneStuck w
LeavesNoneStuck (calm.Refused refusal) w = Unit {0}

-- what a script comes to goes on by rounds, which end so, and leave no call stuck
pub record EndsCalm (from : PlayedState) (end : Calm) (to : PlayedState) : Type 0 where
  pub later : List Entry
  pub shape : to.journal.shape ≡ from.journal.shape
  pub entries : to.journal.entries ≡ from.journal.entries ++ later
  pub refused : to.refused ≡ from.refused
  pub rounds : IsCalmed from.world later to.world end
  pub none_stuck : LeavesNoneStuck end to.world

-- an event that is refused cuts rounds off
abbrev pub cut_of : Calm → Option Refused
cut_of calm.NoneOpen = None
cut_of calm.Silent = None
cut_of (calm.Refused refusal) = Some refusal

-- the lines come to this; where the run is to be calm, rounds follow behind what they come to, and it is known whether they are cut off
abbrev pub Comes : Bool → ShapeFields → List LineFields → PlayedState → Option Refused → Type 0
Comes false shape lines played cut = ComesTo shape lines played × (cut ≡ None)
Comes true shape lines played cut = (from : PlayedState) × (end : Calm) × ComesTo shape lines from × EndsCalm from end played × (cut ≡ cut_of end)

-- the same behind the run of a journal
abbrev pub GoesBehind : Bool → JournalFields → List LineFields → PlayedState → Option Refused → Type 0
GoesBehind false j lines played cut = GoesOnTo j lines played × (cut ≡ None)
GoesBehind true j lines played cut = (from : PlayedState) × (end : Calm) × GoesOnTo j lines from × EndsCalm from end played × (cut ≡ cut_of end)
