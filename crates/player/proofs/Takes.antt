-- Events that a run takes in order.
use Rattle.std.specs.Prelude.{◌≡◌, ◌≢◌, ℕ, ◌+◌, ◌<◌, ◌≤◌, List, [], ◌∷◌, ◌++◌, length, get_or, take, refl, Contains, Err}
use Rattle.std.proofs.Common.{sym, ap, ◌∙◌, subst, arith}
use Rattle.std.proofs.lemmas.List.{length-append, map-append, take_all, take_more}
use Rattle.std.proofs.lemmas.List.Elements.{Contains-get_or}
use Rattle.messages.specs.declared.entry.Entry.{Entry}
use Rattle.messages.specs.declared.event.Event.{Event}
use Rattle.messages.specs.declared.message.Message.{Message}
use Rattle.cluster_core.specs.rule.Journals.{RunFields, GoesOn, events_of}
use Rattle.messages.specs.declared.refusal.Refused.{Refused}
use Rattle.messages.specs.declared.refusal.Refused.TheVariants.{NoMemory}
use Rattle.cluster_core.specs.rule.Next.{kept_next}
use Rattle.cluster_core.specs.rule.Parts.{world_state}
use Rattle.cluster_core.specs.rule.Rounds.{IsQuiet}
use Rattle.cluster_core.proofs.runs.JournalRuns.{entry_event}
use Rattle.cluster_core.proofs.steps.Steps.{kept_taken}
use Rattle.player.specs.code.Rounds.{ArriveUpTo, GoesBy, StopsAmong, TakesAll}
use Rattle.player.proofs.Arrivals.{takes_one}
use Rattle.player.proofs.QuietRuns.{goes_append, goes_none, goes_one, quiet_stays}

-- the run went on from r to s by the first events
pub record TakesUpTo (r : RunFields) (events : List Event) (i : ℕ) (s : RunFields) : Type 0 where
  pub es : List Entry
  pub goes : GoesBy r es s
  pub so_far : events_of es ≡ take i events
  pub longer : length r.world.sent ≤ length s.world.sent
  pub arrive : ArriveUpTo s (length r.world.sent) es

pub takes_first : (r : RunFields) (events : List Event) → TakesUpTo r events 0 r
takes_first r events = record { es = []; goes = goes_none r; so_far = refl; longer = omega arith; arrive = tt }

pub takes_more : (r : RunFields) (events : List Event) (i : ℕ) (s t : RunFields) (event copy : Event) → i < length events → event ≡ get_or events i event → copy ≡ event → IsQuiet event → TakesUpTo r events i s → GoesOn s copy t → TakesUpTo r events (i + 1) t
takes_more r events i s t event copy lt is same quiet so_far went =
    let on : GoesOn s event t = subst (λ (x : Event). GoesOn s x t) same went in
    let made = (kept_taken (world_state s.world) event (world_state t.world, on.0) on.1).1 in
    let more : t.world.sent ≡ s.world.sent ++ on.0.sends = (quiet_stays (world_state s.world) event (world_state t.world, on.0) quiet made).sent in
    let long : length t.world.sent ≡ length s.world.sent + length on.0.sends = ap (λ (l : List Message). length l) more ∙ length-append s.world.sent on.0.sends in
    let before = so_far.longer in
    record {
      es = so_far.es ++ on.0 ∷ [];
      goes = goes_append r s t so_far.es (on.0 ∷ []) so_far.goes (goes_one s t event quiet on);
      so_far =
          map-append (λ (e : Entry). e.event) so_far.es (on.0 ∷ [])
          ∙ (ap (λ (x : Event). events_of so_far.es ++ x ∷ []) (entry_event (world_state s.world) (world_state t.world) event on.0 made)
          ∙ (ap (λ (l : List Event). l ++ event ∷ []) so_far.so_far
          ∙ sym (take_more events i event lt ∙ ap (λ (x : Event). take i events ++ x ∷ []) (sym is))));
      longer = omega (arith, before, long);
      arrive = takes_one s t event (length r.world.sent) so_far.es quiet on before so_far.arrive;
    }

pub takes_all : (r : RunFields) (events : List Event) (i : ℕ) (s : RunFields) → length events ≤ i → TakesUpTo r events i s → TakesAll r events s
takes_all r events i s past so_far = (so_far.es, so_far.goes, so_far.so_far ∙ take_all i events past, so_far.arrive)

-- the next one of the events is refused
pub takes_stop : (s t : RunFields) (events : List Event) (i : ℕ) (event copy : Event) (refusal : Refused) → i < length events → event ≡ get_or events i event → copy ≡ event → t ≡ s → (refusal ≢ NoMemory → kept_next (world_state s.world) copy ≡ Err refusal) → StopsAmong events t refusal
takes_stop s t events i event copy refusal lt is same rests refused ne = (
  event,
  subst (λ (x : Event). Contains events x) (sym is) (Contains-get_or events i event lt),
  subst (λ (r : RunFields). kept_next (world_state r.world) event ≡ Err refusal) (sym rests) (subst (λ (x : Event). kept_next (world_state s.world) x ≡ Err refusal) same (refused ne)),
)
