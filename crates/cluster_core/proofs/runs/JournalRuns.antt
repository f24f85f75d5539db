-- Runs that grow by one entry.
use Rattle.std.proofs.Common.{◌≡◌, ℕ, ◌+◌, ◌<◌, ◌≤◌, arith, refl, sym, ◌∙◌, ap, subst, List, [], ◌∷◌, ◌++◌, length, take, drop, get_or, Ok, Err}
use Rattle.std.proofs.lemmas.List.{map-append, take_all, take-append-drop}
use Rattle.messages.specs.rule.Shapes.{ShapeFields, IsShape}
use Rattle.messages.specs.declared.refusal.Refused.{Refused}
use Rattle.messages.specs.declared.event.Event.{Event}
use Rattle.messages.specs.declared.entry.Entry.{Entry}
use Rattle.cluster_core.specs.rule.World.{WorldState, first_world, journal_limit}
use Rattle.cluster_core.specs.rule.Next.{next, kept_next}
use Rattle.cluster_core.specs.rule.Parts.{world_state}
use Rattle.cluster_core.specs.rule.Runs.{Leads}
use Rattle.cluster_core.specs.rule.Journals.{events_of, IsFirstRefusal, JournalFields, RunFields, LeadsToItsWorld, GoesOn}
use Rattle.cluster_core.proofs.common.Lengths.{grows, leads-count}
use Rattle.cluster_core.proofs.common.Places.{take_read, drop_read}
use Rattle.cluster_core.proofs.steps.Steps.{next_step, kept_taken}

-- a run goes on by one more entry
pub leads_push : (w v u : WorldState) (es : List Entry) (e : Entry) → Leads w es v → next v e.event ≡ Ok (u, e) → Leads w (es ++ e ∷ []) u
leads_push w v u [] e is step = let P : WorldState → Type 0 = λ x. next x e.event ≡ Ok (u, e) in (u, subst P (sym is) step, refl)
leads_push w v u (d ∷ es) e leads step = (leads.0, leads.1, leads_push leads.0 v u es e leads.2 step)

-- the entry that is read next comes next
pub leads_read : (w v u : WorldState) (es : List Entry) (i : ℕ) (e : Entry) → i < length es → e ≡ get_or es i e → Leads w (take i es) v → next v e.event ≡ Ok (u, e) → Leads w (take (i + 1) es) u
leads_read w v u es i e lt is leads step = subst (λ (xs : List Entry). Leads w xs u) (sym (take_read es i e lt is)) (leads_push w v u (take i es) e leads step)

-- the events of the entries are the first i of these, and the entries lead to this world
pub record Ran (shape : ShapeFields) (events : List Event) (i : ℕ) (es : List Entry) (w : WorldState) : Type 0 where
  pub leads : Leads (first_world shape) es w
  pub so_far : events_of es ≡ take i events

events_of-push : (es : List Entry) (e : Entry) → events_of (es ++ e ∷ []) ≡ events_of es ++ e.event ∷ []
events_of-push es e = map-append (λ (d : Entry). d.event) es (e ∷ [])

pub ran_empty : (shape : ShapeFields) (events : List Event) (w : WorldState) → w ≡ first_world shape → Ran shape events 0 [] w
ran_empty shape events w is = record { leads = sym is; so_far = refl }

-- the entry of a step is of its event
pub entry_event : (w v : WorldState) (event : Event) (e : Entry) → next w event ≡ Ok (v, e) → e.event ≡ event
entry_event w v event e step = next_step w (λ q. q.1.event ≡ event) event (v, e) (λ n s done is. refl) (λ file s done is. refl) (λ n is alive. refl) (λ n is dead few. refl) (λ file is works. refl) (λ file is stopped few. refl) step

-- one more event happened
pub ran_more : (shape : ShapeFields) (events : List Event) (i : ℕ) (es fs : List Entry) (w v : WorldState) (event : Event) (e : Entry) → i < length events → event ≡ get_or events i event → Ran shape events i es w → kept_next w event ≡ Ok (v, e) → fs ≡ es ++ e ∷ [] → Ran shape events (i + 1) fs v
ran_more shape events i es fs w v event e lt is ran kept made =
    let step = (kept_taken w event (v, e) kept).1 in
    let of = entry_event w v event e step in
    let P : List Entry → Type 0 = λ xs. Ran shape events (i + 1) xs v in
    let Q : Event → Type 0 = λ x. next w x ≡ Ok (v, e) in
    subst P (sym made) (record {
      leads = leads_push (first_world shape) w v es e ran.leads (subst Q (sym of) step);
      so_far =
          events_of-push es e
          ∙ (ap (λ (x : Event). events_of es ++ x ∷ []) of
          ∙ (ap (λ (xs : List Event). xs ++ event ∷ []) ran.so_far
          ∙ sym (take_read events i event lt is)));
    })

-- all events happened
pub ran_all : (shape : ShapeFields) (events : List Event) (i : ℕ) (es : List Entry) (w : WorldState) → length events ≤ i → Ran shape events i es w → events_of es ≡ events
ran_all shape events i es w past ran = ran.so_far ∙ take_all i events past

-- the events before one happened, and that one is refused
pub first_refusal : (shape : ShapeFields) (events : List Event) (i : ℕ) (es : List Entry) (w : WorldState) (event : Event) (refusal : Refused) → i < length events → event ≡ get_or events i event → Ran shape events i es w → kept_next w event ≡ Err refusal → IsFirstRefusal shape events refusal
first_refusal shape events i es w event refusal lt is ran refused = record {
  done = es;
  world = w;
  leads = ran.leads;
  event = event;
  rest = drop (i + 1) events;
  in_order =
      sym (take-append-drop i events)
      ∙ (ap (λ (xs : List Event). take i events ++ xs) (drop_read events i event lt is)
      ∙ ap (λ (xs : List Event). xs ++ event ∷ drop (i + 1) events) (sym ran.so_far));
  refused = refused;
}

-- a step keeps the shape, and so does a run
next_shape : (w v : WorldState) (event : Event) (e : Entry) → next w event ≡ Ok (v, e) → v.shape ≡ w.shape
next_shape w v event e step = next_step w (λ q. q.0.shape ≡ w.shape) event (v, e) (λ n s done is. refl) (λ file s done is. refl) (λ n is alive. refl) (λ n is dead few. refl) (λ file is works. refl) (λ file is stopped few. refl) step

pub leads_shape : (w v : WorldState) (es : List Entry) → Leads w es v → v.shape ≡ w.shape
leads_shape w v [] leads = ap (λ (u : WorldState). u.shape) (sym leads)
leads_shape w v (e ∷ es) leads = leads_shape leads.0 v es leads.2 ∙ next_shape w leads.0 e.event e leads.1

-- the run whose parts were opened goes on
pub goes_on : (r s : RunFields) (event : Event) → LeadsToItsWorld r → GoesOn r event s → LeadsToItsWorld s
goes_on r s event led on =
    let e : Entry = on.0 in
    let kept = kept_taken (world_state r.world) event (world_state s.world, e) on.1 in
    let of = entry_event (world_state r.world) (world_state s.world) event e kept.1 in
    let shape = next_shape (world_state r.world) (world_state s.world) event e kept.1 in
    let step = subst (λ (x : Event). next (world_state r.world) x ≡ Ok (world_state s.world, e)) (sym of) kept.1 in
    let more = leads_push (first_world r.world.shape) (world_state r.world) (world_state s.world) r.entries e led.leads step in
    let one = grows (world_state r.world) (world_state s.world) event e kept.1 in
    record {
      served = subst IsShape (sym shape) led.served;
      few = omega (arith, kept.0, one);
      leads = subst (λ (x : ShapeFields). Leads (first_world x) s.entries (world_state s.world)) (sym shape) (subst (λ (es : List Entry). Leads (first_world r.world.shape) es (world_state s.world)) (sym on.2) more);
    }

-- the entries of a journal lead to the world of a run that has just them
pub led_after : (j : JournalFields) (r : RunFields) → IsShape j.shape → length r.entries ≤ journal_limit → Leads (first_world j.shape) j.entries (world_state r.world) → r.entries ≡ j.entries → LeadsToItsWorld r
led_after j r served few leads same =
    let shape : r.world.shape ≡ j.shape = leads_shape (first_world j.shape) (world_state r.world) j.entries leads in
    let here = subst (λ (es : List Entry). Leads (first_world j.shape) es (world_state r.world)) (sym same) leads in
    let count = leads-count (first_world j.shape) (world_state r.world) r.entries here in
    record {
      served = subst IsShape (sym shape) served;
      few = omega (arith, count, few);
      leads = subst (λ (x : ShapeFields). Leads (first_world x) r.entries (world_state r.world)) (sym shape) here;
    }
