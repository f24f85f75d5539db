-- The number of entries of a run.
use Rattle.std.proofs.Common.{◌≡◌, ◌∙◌, ℕ, ◌+◌, refl, sym, ap, arith, List, [], ◌∷◌, length, Ok}
use Rattle.messages.specs.declared.event.Event.{Event}
use Rattle.messages.specs.declared.entry.Entry.{Entry}
use Rattle.cluster_core.specs.rule.World.{WorldState}
use Rattle.cluster_core.specs.rule.Next.{next}
use Rattle.cluster_core.specs.rule.Runs.{Leads}
use Rattle.cluster_core.proofs.steps.Steps.{next_step}

-- a step that is not refused makes one entry more
pub grows : (w v : WorldState) (event : Event) (e : Entry) → next w event ≡ Ok (v, e) → v.length ≡ w.length + 1
grows w v event e step = next_step w (λ q. q.0.length ≡ w.length + 1) event (v, e) (λ n s done is. refl) (λ file s done is. refl) (λ n is alive. refl) (λ n is dead few. refl) (λ file is works. refl) (λ file is stopped few. refl) step

-- a run makes as many entries as it has
pub leads-count : (w v : WorldState) (es : List Entry) → Leads w es v → v.length ≡ w.length + length es
leads-count w v [] leads = ap (λ (x : WorldState). x.length) (sym leads) ∙ omega arith
leads-count w v (e ∷ es) leads =
    let one = grows w leads.0 e.event e leads.1 in
    let rest = leads-count leads.0 v es leads.2 in
    omega arith
