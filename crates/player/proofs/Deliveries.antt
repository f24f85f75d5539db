-- Deliveries of a run: a message is delivered, passed over, or refused.
use Rattle.std.specs.Prelude.{◌≡◌, ◌≢◌, ℕ, ◌<◌, List, [], ◌∷◌, get_or, slice_get, Some, Err, length, true}
use Rattle.std.proofs.Common.{sym, subst, inl, inr, arith}
use Rattle.std.proofs.lemmas.Option.{slice_get-get_or}
use Rattle.messages.specs.declared.event.Event.TheVariants.{Deliver}
use Rattle.messages.specs.declared.message.Message.{Message}
use Rattle.messages.specs.declared.refusal.Refused.{Refused}
use Rattle.messages.specs.declared.refusal.Refused.TheVariants.{NoMemory, Fenced}
use Rattle.cluster_core.specs.rule.Journals.{RunFields, GoesOn, delivery}
use Rattle.cluster_core.specs.rule.Next.{kept_next}
use Rattle.cluster_core.specs.rule.Parts.{world_state}
use Rattle.cluster_core.proofs.steps.KnownMessages.{among_there}
use Rattle.messages.specs.rule.Messages.{is_among}
use Rattle.player.specs.code.Rounds.{GoesQuietly, PassesAt, StopsAtSent}
use Rattle.player.proofs.QuietRuns.{fenced_delivery, goes_one, quietly_none, refused_delivery}

-- the message at a place in the order of sending is delivered
abbrev pub DeliversAt : RunFields → ℕ → RunFields → Type 0
DeliversAt r place s = (m : Message) × (slice_get r.world.sent place ≡ Some m) × GoesOn r (Deliver m) s

pub delivers_quietly : (r s : RunFields) (place : ℕ) → DeliversAt r place s → GoesQuietly r s
delivers_quietly r s place at = (at.2.0 ∷ [], goes_one r s (Deliver at.0) tt at.2)

pub delivers_passes : (r s : RunFields) (place : ℕ) → DeliversAt r place s → PassesAt r place s
delivers_passes r s place at = (at.0, at.1, inl at.2)

pub rests_quietly : (r s : RunFields) → s ≡ r → GoesQuietly r s
rests_quietly r s same = subst (λ (x : RunFields). GoesQuietly r x) (sym same) (quietly_none r)

-- the message is passed over
pub rests_passes : (r s : RunFields) (place : ℕ) → s ≡ r → delivery (world_state r.world) (slice_get r.world.sent place) ≡ Err Fenced → PassesAt r place s
rests_passes r s place same fenced =
    let of = fenced_delivery (world_state r.world) (slice_get r.world.sent place) fenced in
    (of.0, of.1, inr (same, of.2))

there : (sent : List Message) (place : ℕ) → place < length sent → (m : Message) × (slice_get sent place ≡ Some m)
there [] place lt = absurd (omega (arith, lt))
there (m ∷ sent) place lt = (get_or (m ∷ sent) place m, slice_get-get_or (m ∷ sent) place m lt)

-- the delivery of a message that was sent is refused
pub rests_stops : (r s : RunFields) (place : ℕ) (refusal : Refused) → place < length r.world.sent → s ≡ r → (refusal ≢ NoMemory → delivery (world_state r.world) (slice_get r.world.sent place) ≡ Err refusal) → StopsAtSent s refusal
rests_stops r s place refusal lt same refused ne =
    let m = there r.world.sent place lt in
    subst (λ (x : RunFields). (m : Message) × (is_among x.world.sent m ≡ true) × (kept_next (world_state x.world) (Deliver m) ≡ Err refusal)) (sym same)
    (m.0, among_there r.world.sent place m.0 m.1, refused_delivery (world_state r.world) (slice_get r.world.sent place) m.0 refusal m.1 (refused ne))
