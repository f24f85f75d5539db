-- Runs that go on by quiet events.
use Rattle.std.specs.Prelude.{◌≡◌, Bool, true, false, not, List, [], ◌∷◌, ◌++◌, All, Option, Some, None, Result, Ok, Err, refl, nat_le}
use Rattle.std.proofs.Common.{sym, ap, ◌∙◌, subst, append_assoc, if◌then◌else◌, ℕ}
use Rattle.std.proofs.lemmas.List.{append-nil, map-append}
use Rattle.std.proofs.lemmas.List.Elements.{All-nil, All-cons, All-append}
use Rattle.messages.specs.declared.actor.Actor.{Actor}
use Rattle.messages.specs.declared.actor.Actor.TheVariants.{Node, Server}
use Rattle.messages.specs.declared.entry.Entry.{Entry}
use Rattle.messages.specs.declared.event.Event.{Event}
use Rattle.messages.specs.declared.event.Event.TheVariants.{Deliver}
use Rattle.messages.specs.declared.message.Message.{Message}
use Rattle.messages.specs.declared.refusal.Refused.{Refused}
use Rattle.messages.specs.declared.refusal.Refused.TheVariants.{Fenced, Stranger, JournalFull}
use Rattle.messages.specs.declared.refusal.StepError.{StepError}
use Rattle.messages.specs.declared.refusal.StepError.TheVariants as step
use Rattle.messages.specs.rule.Messages.{addressee}
use Rattle.messages.specs.rule.Entries.{refused_by}
use Rattle.node_core.specs.declared.event.NodeEvent.TheVariants as node
use Rattle.node_core.specs.rule.Node.{node_rule}
use Rattle.token_server.specs.declared.event.ServerEvent.TheVariants as server
use Rattle.token_server.specs.rule.Server.{server_rule}
use Rattle.cluster_core.specs.rule.Journals.{RunFields, GoesOn, delivery, events_of}
use Rattle.cluster_core.specs.rule.Next.{delivered, is_fenced, is_known, is_stopped, kept_next, next, taken}
use Rattle.cluster_core.specs.rule.Parts.{world_state}
use Rattle.cluster_core.specs.rule.Runs.{Leads}
use Rattle.cluster_core.specs.rule.World.{WorldState, journal_limit}
use Rattle.cluster_core.specs.rule.Rounds.{IsQuiet}
use Rattle.cluster_core.proofs.runs.JournalRuns.{entry_event}
use Rattle.cluster_core.proofs.steps.CertainRefusals.{node_refused, server_refused}
use Rattle.cluster_core.proofs.steps.Steps.{next_step, kept_taken}
use Rattle.player.specs.rule.Rounds.{IsQuietRun}
use Rattle.player.specs.code.Rounds.{GoesBy, GoesQuietly}

pub leads_append : (w v u : WorldState) (es fs : List Entry) → Leads w es v → Leads v fs u → Leads w (es ++ fs) u
leads_append w v u [] fs first second = subst (λ (x : WorldState). Leads x fs u) (sym first) second
leads_append w v u (e ∷ es) fs first second = (first.0, first.1, leads_append first.0 v u es fs first.2 second)

pub quiet_append : (w v u : WorldState) (es fs : List Entry) → IsQuietRun w es v → IsQuietRun v fs u → IsQuietRun w (es ++ fs) u
quiet_append w v u es fs first second = record {
  leads = leads_append w v u es fs first.leads second.leads;
  quiet = subst (All IsQuiet) (sym (map-append (λ (e : Entry). e.event) es fs)) (All-append IsQuiet (events_of es) (events_of fs) first.quiet second.quiet);
}

pub goes_none : (r : RunFields) → GoesBy r [] r
goes_none r = record { entries = sym (append-nil r.entries); run = record { leads = refl; quiet = All-nil IsQuiet } }

pub goes_append : (r s t : RunFields) (es fs : List Entry) → GoesBy r es s → GoesBy s fs t → GoesBy r (es ++ fs) t
goes_append r s t es fs first second = record {
  entries = second.entries ∙ (ap (λ (l : List Entry). l ++ fs) first.entries ∙ append_assoc r.entries es fs);
  run = quiet_append (world_state r.world) (world_state s.world) (world_state t.world) es fs first.run second.run;
}

-- by one event
pub goes_one : (r s : RunFields) (event : Event) → IsQuiet event → (on : GoesOn r event s) → GoesBy r (on.0 ∷ []) s
goes_one r s event quiet on =
    let w = world_state r.world in
    let v = world_state s.world in
    let made = (kept_taken w event (v, on.0) on.1).1 in
    let of = entry_event w v event on.0 made in
    record {
      entries = on.2;
      run = record {
        leads = (v, subst (λ (x : Event). next w x ≡ Ok (v, on.0)) (sym of) made, refl);
        quiet = All-cons IsQuiet on.0.event [] (subst IsQuiet (sym of) quiet) (All-nil IsQuiet);
      };
    }

pub quietly_on : (r s t : RunFields) (event : Event) → IsQuiet event → GoesQuietly r s → GoesOn s event t → GoesQuietly r t
quietly_on r s t event quiet first on = (first.0 ++ on.0 ∷ [], goes_append r s t first.0 (on.0 ∷ []) first.1 (goes_one s t event quiet on))

pub quietly_append : (r s t : RunFields) → GoesQuietly r s → GoesQuietly s t → GoesQuietly r t
quietly_append r s t first second = (first.0 ++ second.0, goes_append r s t first.0 second.0 first.1 second.1)

pub quietly_none : (r : RunFields) → GoesQuietly r r
quietly_none r = ([], goes_none r)

-- what a quiet event leaves as it was
pub record Stays (w : WorldState) (q : WorldState × Entry) : Type 0 where
  pub alive : q.0.alive ≡ w.alive
  pub working : q.0.working ≡ w.working
  pub sent : q.0.sent ≡ w.sent ++ q.1.sends

pub quiet_stays : (w : WorldState) (event : Event) (q : WorldState × Entry) → IsQuiet event → next w event ≡ Ok q → Stays w q
quiet_stays w event q quiet h =
    next_step w (Stays w) event q
    (λ n s done is. record { alive = refl; working = refl; sent = refl })
    (λ file s done is. record { alive = refl; working = refl; sent = refl })
    (λ n is alive. absurd (subst IsQuiet is quiet))
    (λ n is dead few. absurd (subst IsQuiet is quiet))
    (λ file is works. absurd (subst IsQuiet is quiet))
    (λ file is stopped few. absurd (subst IsQuiet is quiet))
    h

pub stopped_stays : (w : WorldState) (q : WorldState × Entry) (a : Actor) → Stays w q → is_stopped w a ≡ true → is_stopped q.0 a ≡ true
stopped_stays w q (Node n) stays h = ap (λ (alive : ℕ → Bool). not (alive n)) stays.alive ∙ h
stopped_stays w q (Server f) stays h = ap (λ (working : ℕ → Bool). not (working f)) stays.working ∙ h

step_unfenced : (e : StepError) → refused_by e ≡ Fenced → ⊥
step_unfenced step.NoMemory h = absurd (cc)
step_unfenced step.Busy h = absurd (cc)
step_unfenced step.Stranger h = absurd (cc)
step_unfenced step.Spent h = absurd (cc)

-- no step of an actor is refused as one of an actor that was declared failed
taken_unfenced : (w : WorldState) (m : Message) (to : Actor) → delivered w m to ≡ Err Fenced → ⊥
taken_unfenced w m (Node n) h = let own = node_refused w (Deliver m) n (node_rule (w.nodes n) (node.Deliver m)) Fenced h in step_unfenced own.0 own.2
taken_unfenced w m (Server f) h = let own = server_refused w (Deliver m) f (server_rule (w.servers f) (server.Deliver m)) Fenced h in step_unfenced own.0 own.2

fenced_of : (full known fenced : Bool) (r : Result (WorldState × Entry) Refused) → (r ≡ Err Fenced → ⊥) → ◌≡◌ {A = Result (WorldState × Entry) Refused} (if full then Err JournalFull else (if not known then Err Stranger else (if fenced then Err Fenced else r))) (Err Fenced) → fenced ≡ true
fenced_of true known fenced r other h = absurd (cc)
fenced_of false false fenced r other h = absurd (cc)
fenced_of false true true r other h = refl
fenced_of false true false r other h = absurd (other h)

-- a delivery that is refused so is of a message whose addressee was declared failed
pub fenced_delivery : (w : WorldState) (o : Option Message) → delivery w o ≡ Err Fenced → (m : Message) × (o ≡ Some m) × (is_stopped w (addressee m) ≡ true)
fenced_delivery w (Some m) h = (m, refl, fenced_of (nat_le journal_limit w.length) (is_known w (Deliver m)) (is_fenced w (Deliver m)) (taken w (Deliver m)) (taken_unfenced w m (addressee m)) h)
fenced_delivery w None h = absurd (unsent (nat_le journal_limit w.length) h)
  where
    unsent : (full : Bool) → ◌≡◌ {A = Result (WorldState × Entry) Refused} (Err (if full then JournalFull else Stranger)) (Err Fenced) → ⊥
    unsent true g = absurd (cc)
    unsent false g = absurd (cc)

-- a refusal of a message that was sent is one of its delivery
pub refused_delivery : (w : WorldState) (o : Option Message) (m : Message) (refusal : Refused) → o ≡ Some m → delivery w o ≡ Err refusal → kept_next w (Deliver m) ≡ Err refusal
refused_delivery w o m refusal is h = subst (λ (x : Option Message). delivery w x ≡ Err refusal) is h
