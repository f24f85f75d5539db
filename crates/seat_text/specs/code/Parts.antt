-- What the blocks of a log so far say.
use Rattle.std.specs.Prelude.{◌≡◌, ℕ, ◌<◌, ◌≤◌, false, List, [], ◌∷◌, ◌++◌, All, Option, Some, None}
use Rattle.messages.specs.declared.actor.Actor.{Actor}
use Rattle.messages.specs.declared.event.MemberEvent.{MemberEvent}
use Rattle.merges.specs.declared.logged.Interval.{Interval}
use Rattle.merges.specs.declared.logged.LoggedEntry.{LoggedEntry}
use Rattle.merges.specs.rule.Merges.{LogFields, is_of, log_of}
use Rattle.seat_text.specs.declared.block.Block.{Block}
use Rattle.seat_text.specs.declared.block.LogChange.{LogChange}
use Rattle.seat_text.specs.declared.block.LogStep.{LogStep}
use Rattle.seat_text.specs.declared.parts.Parts.{Parts}
use Rattle.seat_text.specs.declared.parts.Effect.{Effect}
use Rattle.seat_text.specs.declared.parts.Effect.TheVariants.{Ends, Begins, Nothing}
use Rattle.seat_text.specs.rule.Logs.{AreMadeThere, behind, change_of, changed, changes_of, entries_in, logged, now_behind, where_in}

-- no log is of that incarnation
abbrev pub Lacks : Actor → List LogFields → ℕ → Type 0
Lacks actor logs incarnation = All (λ (l : LogFields). is_of l actor incarnation ≡ false) logs

-- the incarnation in which the actor is has no log yet, and is none behind the last one; where it is in none it made nothing
abbrev pub IsOpen : Actor → List LogFields → ℕ → List LoggedEntry → Option ℕ → Type 0
IsOpen actor logs last entries None = entries ≡ []
IsOpen actor logs last entries (Some now) = (now ≤ last) × Lacks actor logs now

-- the logs are the actor's, of incarnations up to the last one in which it was
pub record AreParts (p : Parts) : Type 0 where
  pub own : All (λ (l : LogFields). l.actor ≡ p.actor) p.logs.items
  pub none_later : (incarnation : ℕ) → p.last < incarnation → Lacks p.actor p.logs.items incarnation
  pub open_now : IsOpen p.actor p.logs.items p.last p.entries.items p.current

-- what the actor made so far in that incarnation
abbrev pub held : Parts → ℕ → List LoggedEntry
held p incarnation = log_of p.logs.items p.actor incarnation ++ where_in p.current incarnation p.entries.items

abbrev pub IsEffect : Effect → Actor → MemberEvent → Type 0
IsEffect Ends actor event = (now : Option ℕ) (incarnation : ℕ) → behind actor now event incarnation ≡ None
IsEffect Begins actor event = (now : Option ℕ) (incarnation : ℕ) → behind actor now event incarnation ≡ Some incarnation
IsEffect Nothing actor event = (now : Option ℕ) (incarnation : ℕ) → behind actor now event incarnation ≡ now

-- the actor is in that incarnation now; it made nothing more, and was told of nothing more
pub record Moves (a : Parts) (now : Option ℕ) (b : Parts) : Type 0 where
  pub same_actor : b.actor ≡ a.actor
  pub now_is : b.current ≡ now
  pub same_changes : b.changes.items ≡ a.changes.items
  pub same_entries : (incarnation : ℕ) → held b incarnation ≡ held a incarnation
  pub good : AreParts b

-- it was told of a declaration or a start, if there is one
pub record Changes (a : Parts) (interval : Interval) (change : Option LogChange) (b : Parts) : Type 0 where
  pub same_actor : b.actor ≡ a.actor
  pub now_is : b.current ≡ now_behind a.actor a.current change
  pub told : b.changes.items ≡ a.changes.items ++ changed interval change
  pub same_entries : (incarnation : ℕ) → held b incarnation ≡ held a incarnation
  pub good : AreParts b

-- it made these entries
pub record Makes (a : Parts) (interval : Interval) (steps : List LogStep) (b : Parts) : Type 0 where
  pub same_actor : b.actor ≡ a.actor
  pub same_now : b.current ≡ a.current
  pub same_changes : b.changes.items ≡ a.changes.items
  pub made : (incarnation : ℕ) → held b incarnation ≡ held a incarnation ++ where_in a.current incarnation (logged interval steps)
  pub there : a.current ≡ None → steps ≡ []
  pub good : AreParts b

-- the incarnation in which the actor is behind the blocks
abbrev pub now_after : Actor → Option ℕ → List Block → Option ℕ
now_after actor now [] = now
now_after actor now (b ∷ bs) = now_after actor (now_behind actor now (change_of b.said)) bs

-- the blocks say what came to the parts
pub record Takes (a : Parts) (bs : List Block) (b : Parts) : Type 0 where
  pub same_actor : b.actor ≡ a.actor
  pub now_is : b.current ≡ now_after a.actor a.current bs
  pub told : b.changes.items ≡ a.changes.items ++ changes_of bs
  pub made : (incarnation : ℕ) → held b incarnation ≡ held a incarnation ++ entries_in a.actor a.current incarnation bs
  pub there : AreMadeThere a.actor a.current bs
  pub good : AreParts b
