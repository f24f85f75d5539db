-- Commits, declarations, failures and restarts of a book: each with all that it keeps.
use Rattle.std.proofs.Common.{◌≡◌, ◌≢◌, ◌⊎◌, inl, inr, ℕ, None, Some, [], ◌∷◌, ◌++◌, ap, sym, ◌∙◌, ◌+◌, true, length, subst, Ok}
use Rattle.messages.specs.declared.actor.Actor.{Actor}
use Rattle.cluster_core.specs.rule.World.{WorldState}
use Rattle.cluster_core.proofs.common.Places.{slice_get-push}
use Rattle.book.specs.code.Copies.{SpotFields, LastSpots, place_of, IsLastSpot, IsSpotOf, AreReached, Noted, Forgotten}
use Rattle.book.specs.rule.States.{ActorState, actor_of, HasState, StepsTo, is_declared, made_by, StandingFields, standing_state, SeatFields, seat_state, PreparedFields, StampFields}
use Rattle.messages.specs.rule.Messages.{sending}
use Rattle.messages.specs.declared.actor.Actor.TheVariants.{Node as ANode, Server as AServer}
use Rattle.messages.specs.declared.event.Event.{Event}
use Rattle.messages.specs.declared.event.Event.TheVariants.{Member}
use Rattle.messages.specs.declared.event.MemberEvent.{MemberEvent}
use Rattle.messages.specs.declared.event.MemberEvent.TheVariants.{Declare, Restart, FailServer, StartServer}
use Rattle.messages.specs.declared.entry.Entry.{Entry}
use Rattle.messages.specs.declared.outcome.Outcome.{Outcome}
use Rattle.token_server.specs.rule.Resends.{outstanding}
use Rattle.cluster_core.specs.rule.Next.{entry, next_server, next}
use Rattle.cluster_core.specs.rule.Parts.{world_state}
use Rattle.cluster_core.specs.rule.Journals.{RunFields, GoesOn}
use Rattle.cluster_core.proofs.common.Refusals.{ok_is}
use Rattle.cluster_core.proofs.steps.Steps.{kept_taken}
use Rattle.cluster_core.specs.rule.Actors.{Records, member_of}
use Rattle.book.specs.rule.Commits.{IsSeatOf, Accepts, Commits, Turns, IsLastStamp, Declared, Restarted, Failed, Started}
use Rattle.book.proofs.Steps.{stays_declared, stays, new_stamp, actor_kept, comes_next, made_entry, may_step, mine, others, declared_entry, declared_fences, others_stay, failed_entry, failed_fences, started_entry}

-- the state that stands at a spot is that of its actor in the world
abbrev Stands : WorldState → ℕ → SpotFields StandingFields → Type 0
Stands w i spot = (s : ActorState) × IsSpotOf spot s × (place_of (actor_of s) ≡ i) × HasState w s

-- an old spot of another actor is right after the event
kept : (w v : WorldState) (a : Actor) (i : ℕ) (spot : SpotFields StandingFields) → ((y : ActorState) → actor_of y ≢ a → HasState w y → HasState v y) → i ≢ place_of a → Stands w i spot → Stands v i spot
kept w v a i spot others ne (y, is, at, has) = (y, is, at, others y (λ e. ne (sym at ∙ ap place_of e)) has)

pub reached_noted : (w v : WorldState) (old new : LastSpots) (s : ActorState) → AreReached w old → Noted old s new → HasState v s → ((y : ActorState) → actor_of y ≢ actor_of s → HasState w y → HasState v y) → AreReached v new
reached_noted w v old new s reached noted has others i spot is = by (noted i spot is)
  where
    by : ((i ≡ place_of (actor_of s)) × IsSpotOf spot s) ⊎ ((i ≢ place_of (actor_of s)) × IsLastSpot old i spot) → Stands v i spot
    by (inl here) = (s, here.1, sym here.0, has)
    by (inr there) = kept w v (actor_of s) i spot others there.0 (reached i spot there.1)

pub reached_forgotten : (w v : WorldState) (old new : LastSpots) (a : Actor) → AreReached w old → Forgotten old a new → ((y : ActorState) → actor_of y ≢ a → HasState w y → HasState v y) → AreReached v new
reached_forgotten w v old new a reached forgotten others i spot is =
    let there = forgotten i spot is in kept w v a i spot others there.0 (reached i spot there.1)

-- no actor's state is known
abbrev pub Unknown : LastSpots → Type 0
Unknown spots = (i : ℕ) (spot : SpotFields StandingFields) → IsLastSpot spots i spot → ⊥

pub unknown_first : Unknown []
unknown_first i spot is = absurd (cc)

pub unknown_more : (spots : LastSpots) → Unknown spots → Unknown (spots ++ None ∷ [])
unknown_more spots none i spot is = elim (slice_get-push spots None i (Some spot) is) [
  | inl old ↦ none i spot old
  | inr new ↦ absurd (cc (new.1))
]

pub unknown_reached : (w : WorldState) (spots : LastSpots) → Unknown spots → AreReached w spots
unknown_reached w spots none i spot is = absurd (none i spot is)

-- two spots with one item are of one state
pub one_spot : (a b : SpotFields StandingFields) (s t : ActorState) → IsSpotOf a s → IsSpotOf b t → a.item ≡ b.item → s ≡ t
one_spot a b s t (x, at, is) (y, there, was) same =
    let one : x ≡ y = cc in sym is ∙ (ap standing_state one ∙ was)

-- a run that took the event recorded what it leads to
records : (b d : RunFields) (event : Event) (made : WorldState × Entry) → GoesOn b event d → next (world_state b.world) event ≡ Ok made → Records b event made d
records b d event made went is =
    let q : WorldState × Entry = (world_state d.world, went.0) in
    let same : q ≡ made = ok_is q made (sym (kept_taken (world_state b.world) event q went.1).1 ∙ is) in
    record { step = is; world = ap (λ (m : WorldState × Entry). m.0) same; entries = went.2 ∙ ap (λ (m : WorldState × Entry). b.entries ++ m.1 ∷ []) same }

pub committed : (b d : RunFields) (s r : SeatFields) (p : PreparedFields) (seen : ℕ) (t : StampFields)
    → Accepts b s p seen → GoesOn b p.event d
    → StepsTo (seat_state s) p.event (seat_state r) p.outcome → r.commits ≡ s.commits + 1
    → t.position ≡ length d.entries → t.event ≡ p.event → t.outcome ≡ p.outcome → t.seen ≡ seen
    → Commits b s p seen d r t
committed b d s r p seen t accepted went step commits position said gave seen_is =
    let w = world_state b.world in
    let v = world_state d.world in
    let x = seat_state r in
    let may = may_step w (seat_state s) p.event x p.outcome accepted.1 step in
    let goes : Records b p.event (made_by w p.event x p.outcome) d = records b d p.event (made_by w p.event x p.outcome) went (comes_next w p.event x p.outcome accepted.0.known may) in
    let k = made_entry w p.event x p.outcome in
    record {
      accepted = accepted;
      goes = goes;
      step = step;
      commits = commits;
      position = position;
      event = said;
      outcome = gave;
      seen_is = seen_is;
      mine = mine w v p.event x p.outcome goes.world may;
      others = λ o ne has. others w v p.event x p.outcome (seat_state o) goes.world (λ e. ne (e ∙ actor_kept (seat_state s) p.event x p.outcome step)) has;
      fences = λ o was. subst (λ (u : WorldState). is_declared u (seat_state o) ≡ true) (sym goes.world) (stays_declared w p.event (made_by w p.event x p.outcome) (seat_state o) goes.step was);
      stamped = new_stamp b.entries d.entries (made_by w p.event x p.outcome).1 k.0 t goes.entries (k.1 ∙ (λ i. entry (sym said i) k.0 (sym gave i))) position;
      stamps = λ o h. stays b.entries d.entries (made_by w p.event x p.outcome).1 o goes.entries h;
    }

-- seats, stamps and fences of a book after a member changed
turned : (b d : RunFields) (event : MemberEvent) → GoesOn b (Member event) d → Turns b event d
turned b d event went =
    let w = world_state b.world in
    let q : WorldState × Entry = (world_state d.world, went.0) in
    let step = (kept_taken w (Member event) q went.1).1 in
    record {
      goes = went;
      fences = λ x was. stays_declared w (Member event) q (seat_state x) step was;
      stamps = λ x h. stays b.entries d.entries went.0 x went.2 h;
      others = λ x ne has. others_stay w event q (seat_state x) step ne has;
    }

-- the stamp of the entry that a change made
stamped : (b d : RunFields) (event : MemberEvent) (out : Outcome) (t : StampFields) (went : GoesOn b (Member event) d)
    → ((q : WorldState × Entry) → next (world_state b.world) (Member event) ≡ Ok q → (k : ℕ) × (q.1 ≡ entry (Member event) k out))
    → t.position ≡ length d.entries → t.event ≡ Member event → t.outcome ≡ out → t.seen ≡ 0 → IsLastStamp d event t
stamped b d event out t went entry_of position said gave seen_is =
    let w = world_state b.world in
    let q : WorldState × Entry = (world_state d.world, went.0) in
    let k = entry_of q (kept_taken w (Member event) q went.1).1 in
    record {
      position = position;
      event_is = said;
      seen_is = seen_is;
      stamped = new_stamp b.entries d.entries went.0 k.0 t went.2 (k.1 ∙ (λ i. entry (sym said i) k.0 (sym gave i))) position;
    }

pub declared : (b d : RunFields) (n : ℕ) (t : StampFields) → GoesOn b (Member (Declare n)) d → t.position ≡ length d.entries → t.event ≡ Member (Declare n) → t.outcome ≡ sending [] → t.seen ≡ 0 → Declared b n d t
declared b d n t went position said gave seen_is =
    let w = world_state b.world in
    let q : WorldState × Entry = (world_state d.world, went.0) in (
      turned b d (Declare n) went,
      stamped b d (Declare n) (sending []) t went (declared_entry w n) position said gave seen_is,
      λ s is same least. declared_fences w n q (seat_state s) (kept_taken w (Member (Declare n)) q went.1).1 is same least,
    )

pub restarted : (b d : RunFields) (n : ℕ) (s : SeatFields) → GoesOn b (Member (Restart n)) d → actor_of (seat_state s) ≡ ANode n → s.commits ≡ 0 → IsSeatOf d s → Restarted b n d s
restarted b d n s went actor commits stands = (
  turned b d (Restart n) went,
  record { actor = actor; commits = commits; mine = stands },
)

pub failed : (b d : RunFields) (f : ℕ) (t : StampFields) → GoesOn b (Member (FailServer f)) d → t.position ≡ length d.entries → t.event ≡ Member (FailServer f) → t.outcome ≡ sending [] → t.seen ≡ 0 → Failed b f d t
failed b d f t went position said gave seen_is =
    let w = world_state b.world in
    let q : WorldState × Entry = (world_state d.world, went.0) in (
      turned b d (FailServer f) went,
      stamped b d (FailServer f) (sending []) t went (failed_entry w f) position said gave seen_is,
      λ s is same least. failed_fences w f q (seat_state s) (kept_taken w (Member (FailServer f)) q went.1).1 is same least,
    )

pub started : (b d : RunFields) (f : ℕ) (s : SeatFields) (t : StampFields) → GoesOn b (Member (StartServer f)) d → actor_of (seat_state s) ≡ AServer f → s.commits ≡ 0 → IsSeatOf d s → t.position ≡ length d.entries → t.event ≡ Member (StartServer f) → t.outcome ≡ sending (outstanding (next_server (world_state b.world) f)) → t.seen ≡ 0 → Started b f d s t
started b d f s t went actor commits stands position said gave seen_is =
    let w = world_state b.world in (
      turned b d (StartServer f) went,
      record { actor = actor; commits = commits; mine = stands },
      stamped b d (StartServer f) (sending (outstanding (next_server w f))) t went (started_entry w f) position said gave seen_is,
    )

-- after a step of one actor the spots are right, with the new state's spot for it
pub committed_reached : (b d : RunFields) (s r : SeatFields) (p : PreparedFields) (seen : ℕ) (t : StampFields) (old new : LastSpots) → Commits b s p seen d r t → AreReached (world_state b.world) old → Noted old (seat_state r) new → AreReached (world_state d.world) new
committed_reached b d s r p seen t old new made reached noted =
    let w = world_state b.world in
    let v = world_state d.world in
    let x = seat_state r in
    let may = may_step w (seat_state s) p.event x p.outcome made.accepted.1 made.step in
    reached_noted w v old new x reached noted made.mine
    (λ y ne has. others w v p.event x p.outcome y made.goes.world ne has)

-- after the change of a member the spots are right, with none for it
pub turned_reached : (b d : RunFields) (event : MemberEvent) (old new : LastSpots) → GoesOn b (Member event) d → AreReached (world_state b.world) old → Forgotten old (member_of event) new → AreReached (world_state d.world) new
turned_reached b d event old new went reached forgotten =
    let w = world_state b.world in
    let q : WorldState × Entry = (world_state d.world, went.0) in
    let step = (kept_taken w (Member event) q went.1).1 in
    reached_forgotten w (world_state d.world) old new (member_of event) reached forgotten (λ y ne has. others_stay w event q y step ne has)
