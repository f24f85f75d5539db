-- The copy of an actor's state that a seat has, its changes, and the spots of last states in a trail.
use Rattle.std.specs.Prelude.{ℕ, Option, ◌≡◌, Ok, ◌≢◌, ◌⊎◌, ◌+◌, List, Some, slice_get}
use Rattle.messages.specs.declared.event.Event.{Event}
use Rattle.messages.specs.declared.outcome.Outcome.{Outcome}
use Rattle.node_core.specs.rule.Parts.{node_state}
use Rattle.node_core.specs.code.Plans.{planned as reached, Fits as NodeFits}
use Rattle.token_server.specs.rule.Parts.{server_state}
use Rattle.token_server.specs.code.Edits.{planned, Fits as ServerFits}
use Rattle.cluster_core.specs.rule.Actors.{node_step, server_step}
use Rattle.book.specs.declared.state_edit.StateEdit.{StateEdit}
use Rattle.book.specs.declared.state_edit.StateEdit.TheVariants.{Node as OnNode, Server as OnServer}
use Rattle.book.specs.declared.state.State.{State}
use Rattle.book.specs.declared.state.State.TheVariants.{OfNode, OfServer}
use Rattle.book.specs.rule.States.{SeatFields, IsLevel, PreparedFields, StandingFields, standing_state, ActorState, actor_of, HasState}
use Rattle.model.specs.rule.Limits.{most_nodes}
use Rattle.messages.specs.declared.actor.Actor.{Actor}
use Rattle.messages.specs.declared.actor.Actor.TheVariants.{Node as ANode, Server as AServer}
use Rattle.cluster_core.specs.rule.World.{WorldState}

-- a place of a trail, from 0, and the item that stands there
pub record SpotFields (E : Type 0) : Type 0 where
  pub place : ℕ
  pub item : Option E

-- the change was planned from the copy
abbrev pub Fits : State → StateEdit → Type 0
Fits (OfNode n s) (OnNode e) = NodeFits s.value e
Fits (OfServer f s) (OnServer e) = ServerFits s.value e
Fits _ _ = ⊥

-- the change makes the second copy of the first
abbrev pub Becomes : State → StateEdit → State → Type 0
Becomes (OfNode n s) (OnNode e) (OfNode m t) = (m ≡ n) × (node_state t.value ≡ reached s.value e)
Becomes (OfServer f s) (OnServer e) (OfServer g t) = (g ≡ f) × (server_state t.value ≡ planned s.value e)
Becomes _ _ _ = ⊥

-- the event leads from the copy's state to the one that the change makes, with this outcome
abbrev pub Plans : State → Event → StateEdit → Outcome → Type 0
Plans (OfNode n s) event (OnNode e) o = node_step n (node_state s.value) event ≡ Ok (reached s.value e, o)
Plans (OfServer f s) event (OnServer e) o = server_step f (server_state s.value) event ≡ Ok (planned s.value e, o)
Plans _ event _ o = ⊥

-- the step was planned from the seat's copy, which was level
abbrev pub IsStepFrom : SeatFields → PreparedFields → Type 0
IsStepFrom s p = IsLevel s × Fits s.standing.copy p.edit × Plans s.standing.copy p.event p.edit p.outcome

-- for each actor, by its index: the spot of its last state in the trail of where seats stood, if it is known
abbrev pub LastSpots : Type 0
LastSpots = List (Option (SpotFields StandingFields))

-- the index of an actor among the spots
abbrev pub place_of : Actor → ℕ
place_of (ANode n) = n
place_of (AServer f) = most_nodes + f

-- the spot is the one at that index
abbrev pub IsLastSpot : LastSpots → ℕ → SpotFields StandingFields → Type 0
IsLastSpot spots i spot = slice_get spots i ≡ Some (Some spot)

-- what stands at the spot is this state
abbrev pub IsSpotOf : SpotFields StandingFields → ActorState → Type 0
IsSpotOf spot s = (x : StandingFields) × (spot.item ≡ Some x) × (standing_state x ≡ s)

-- at each spot stands the state of the actor of that index, which is alive and in that state
abbrev pub AreReached : WorldState → LastSpots → Type 0
AreReached w spots = (i : ℕ) (spot : SpotFields StandingFields) → IsLastSpot spots i spot → (s : ActorState) × IsSpotOf spot s × (place_of (actor_of s) ≡ i) × HasState w s

-- each new spot is that of this state's actor, with this state, or an old one of another actor
abbrev pub Noted : LastSpots → ActorState → LastSpots → Type 0
Noted old s new = (i : ℕ) (spot : SpotFields StandingFields) → IsLastSpot new i spot → ((i ≡ place_of (actor_of s)) × IsSpotOf spot s) ⊎ ((i ≢ place_of (actor_of s)) × IsLastSpot old i spot)

-- each new spot is an old one of another actor
abbrev pub Forgotten : LastSpots → Actor → LastSpots → Type 0
Forgotten old a new = (i : ℕ) (spot : SpotFields StandingFields) → IsLastSpot new i spot → (i ≢ place_of a) × IsLastSpot old i spot
