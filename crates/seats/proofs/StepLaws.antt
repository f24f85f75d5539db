-- What a step comes to.
use Rattle.std.proofs.Common.{◌≡◌, ◌≢◌, ℕ, List, [], ◌∷◌, Result, Ok, Err, refl, sym, ap, ◌∙◌}
use Rattle.messages.specs.declared.event.Event.{Event}
use Rattle.messages.specs.declared.outcome.Outcome.{Outcome}
use Rattle.messages.specs.declared.refusal.Refused.{Refused}
use Rattle.messages.specs.declared.refusal.Refused.TheVariants.{NoMemory}
use Rattle.messages.specs.declared.refusal.StepError.{StepError}
use Rattle.messages.specs.declared.refusal.StepError.TheVariants as step
use Rattle.messages.specs.rule.Entries.{refused_by}
use Rattle.seats.specs.declared.seat_step.SeatStep.{SeatStep}
use Rattle.seats.specs.rule.Steps.{step_of, stepped}

-- the actor made the planned step
pub stepped_on : {S : Type 0} (event : Event) (incarnation : ℕ) (r : Result (S × Outcome) StepError) (s t : S) (o p : Outcome) (steps : List SeatStep) → r ≡ Ok (s, o) → t ≡ s → p ≡ o → steps ≡ step_of event incarnation p ∷ []
    → stepped event incarnation r ≡ Ok (t, steps)
stepped_on event incarnation r s t o p steps planned same made one = rw (planned, one, made, same) refl

-- the step is refused
pub stepped_not : {S : Type 0} (event : Event) (incarnation : ℕ) (r : Result (S × Outcome) StepError) (e : StepError) (f : Refused) → f ≡ refused_by e → (e ≢ step.NoMemory → r ≡ Err e) → f ≢ NoMemory
    → stepped event incarnation r ≡ Err f
stepped_not event incarnation r e f same planned other = ap (stepped event incarnation) (planned (λ is. other (same ∙ ap refused_by is))) ∙ ap Err (sym same)
