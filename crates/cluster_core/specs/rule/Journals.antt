-- Journals, the run that a list of events makes, and the first wrong entry of a list.
use Rattle.std.specs.Prelude.{◌≡◌, ◌≢◌, ℕ, ◌+◌, ◌≤◌, nat_le, if◌then◌else◌, List, [], ◌∷◌, ◌++◌, length, map, Option, Some, None, Result, Ok, Err}
use Rattle.messages.specs.rule.Shapes.{ShapeFields, IsShape}
use Rattle.messages.specs.declared.refusal.Refused.{Refused}
use Rattle.messages.specs.declared.refusal.Refused.TheVariants.{Stranger, JournalFull}
use Rattle.messages.specs.declared.message.Message.{Message}
use Rattle.messages.specs.declared.event.Event.{Event}
use Rattle.messages.specs.declared.event.Event.TheVariants.{Deliver}
use Rattle.messages.specs.declared.entry.Entry.{Entry}
use Rattle.cluster_core.specs.rule.World.{WorldState, first_world, journal_limit}
use Rattle.cluster_core.specs.rule.Next.{next, kept_next}
use Rattle.cluster_core.specs.rule.Parts.{WorldParts, world_state}
use Rattle.cluster_core.specs.rule.Runs.{Leads, IsRun}

-- the shape of a cluster, and the entries that it made
pub record JournalFields : Type 0 where
  pub shape : ShapeFields
  pub entries : List Entry

-- the shape is served, and the entries are a run, no longer than a journal may be
pub record IsJournal (j : JournalFields) : Type 0 where
  pub served : IsShape j.shape
  pub run : IsRun j.shape j.entries
  pub few : length j.entries ≤ journal_limit

abbrev pub events_of : List Entry → List Event
events_of es = map (λ e. e.event) es

-- the events before one happened, in their order, and that one is refused so
pub record IsFirstRefusal (shape : ShapeFields) (events : List Event) (refusal : Refused) : Type 0 where
  pub done : List Entry
  pub world : WorldState
  pub leads : Leads (first_world shape) done world
  pub event : Event
  pub rest : List Event
  pub in_order : events ≡ events_of done ++ event ∷ rest
  pub refused : kept_next world event ≡ Err refusal

-- The entry at that position, from 1, is the first that is not the next step: its event is refused after the entries before it, or makes another entry
pub record IsFirstWrong (shape : ShapeFields) (entries : List Entry) (position : ℕ) : Type 0 where
  pub before : List Entry
  pub world : WorldState
  pub leads : Leads (first_world shape) before world
  pub wrong : Entry
  pub rest : List Entry
  pub in_order : entries ≡ before ++ wrong ∷ rest
  pub stands_there : position ≡ length before + 1
  pub not_next : (v : WorldState) → next world wrong.event ≢ Ok (v, wrong)

-- entries that have a first wrong one are no run
abbrev pub NoRunHasAWrongEntry : Type 0
NoRunHasAWrongEntry = (shape : ShapeFields) (entries : List Entry) (position : ℕ) → IsFirstWrong shape entries position → ¬ IsRun shape entries

-- a run that goes on: its entries, and the world to which they lead
pub record RunFields : Type 0 where
  pub world : WorldParts
  pub entries : List Entry

-- the shape is served, and the entries, no more than a journal may have, lead from the first world to this one
pub record LeadsToItsWorld (r : RunFields) : Type 0 where
  pub served : IsShape r.world.shape
  pub few : r.world.length ≤ journal_limit
  pub leads : Leads (first_world r.world.shape) r.entries (world_state r.world)

-- the run goes on by the event: its world takes the event, and the entry comes last
abbrev pub GoesOn : RunFields → Event → RunFields → Type 0
GoesOn r event s = (e : Entry) × (kept_next (world_state r.world) event ≡ Ok (world_state s.world, e)) × (s.entries ≡ r.entries ++ e ∷ [])

abbrev pub journal_of : RunFields → JournalFields
journal_of r = record { shape = r.world.shape; entries = r.entries }

-- the delivery of the message that stands at a place in the order of sending; it is refused if none does
abbrev pub delivery : WorldState → Option Message → Result (WorldState × Entry) Refused
delivery w (Some m) = kept_next w (Deliver m)
delivery w None = Err (if nat_le journal_limit w.length then JournalFull else Stranger)
