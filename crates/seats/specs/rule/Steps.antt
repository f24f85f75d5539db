-- What happens at a seat, what it knows of members, and how long an open call waits before it is tried again.
use Rattle.std.specs.Prelude.{ℕ, ◌&&◌, ◌||◌, ◌==◌, not, Bool, true, false, List, [], ◌∷◌, find, is_some, Option, Some, None, ◌≡◌, Result, Ok, Err}
use Rattle.messages.specs.declared.outcome.Outcome.{Outcome}
use Rattle.messages.specs.rule.Distances.{after_tick, at_first, is_due}
use Rattle.seats.specs.declared.wait.Wait.{Wait}
use Rattle.model.specs.declared.host.Host.{Host}
use Rattle.messages.specs.declared.event.Event.{Event}
use Rattle.messages.specs.declared.event.Event.TheVariants.{Member}
use Rattle.messages.specs.declared.event.MemberEvent.{MemberEvent}
use Rattle.messages.specs.declared.refusal.Refused.{Refused}
use Rattle.messages.specs.declared.refusal.StepError.{StepError}
use Rattle.messages.specs.rule.Entries.{refused_by}
use Rattle.messages.specs.rule.Members.{MembersState, live_incarnation, was_declared}
use Rattle.seats.specs.declared.order.Order.{Order}
use Rattle.seats.specs.declared.seat_step.SeatStep.{SeatStep}

-- a call that its node took since the last tick
abbrev pub first_wait : ℕ → Wait
first_wait number = record { number = number; patience = at_first; blocked = false }

abbrev pub or_first : ℕ → Option Wait → Wait
or_first number None = first_wait number
or_first number (Some w) = w

-- the wait of the open call with this number, by what was open at the last tick
abbrev pub wait_of : List Wait → ℕ → Wait
wait_of waits number = or_first number (find (λ w. w.number == number) waits)

abbrev pub is_none : {A : Type 0} → List A → Bool
is_none [] = true
is_none (x ∷ xs) = false

-- a try that comes to this is made: it answers the call; or it sends something, and its time has come, or a lock of the node was in its way at the last tick
abbrev pub is_made : Wait → Outcome → Bool
is_made w o = is_some o.reply || (not (is_none o.sends) && (w.blocked || is_due w.patience))

-- the wait after a tick at which a try comes, or would come, to this
abbrev pub waited : Wait → Outcome → Wait
waited w o = record { number = w.number; patience = after_tick w.patience; blocked = not (is_some o.reply) && is_none o.sends }

abbrev pub step_of : Event → ℕ → Outcome → SeatStep
step_of event incarnation o = record { event = event; incarnation = incarnation; outcome = o }

-- a member changes
abbrev pub of_member : MemberEvent → ℕ → Outcome → SeatStep
of_member change incarnation o = step_of (Member change) incarnation o

abbrev pub is_now : ℕ → Option ℕ → Bool
is_now incarnation None = false
is_now incarnation (Some live) = live == incarnation

-- the node has begun in this incarnation, as the seat was told
abbrev pub has_begun : MembersState → Host → Bool
has_begun nodes h = was_declared nodes h.node h.incarnation || is_now h.incarnation (live_incarnation nodes h.node)

-- one step of an actor, or why it is refused
abbrev pub stepped : {S : Type 0} → Event → ℕ → Result (S × Outcome) StepError → Result (S × List SeatStep) Refused
stepped event incarnation (Ok r) = Ok (r.0, step_of event incarnation r.1 ∷ [])
stepped event incarnation (Err e) = Err (refused_by e)

-- by its rule one does this as it is told, and is then that: it is as it was where it is refused
abbrev pub Does : {S : Type 0} → (S → Order → Result (S × List SeatStep) Refused) → S → Order → Result (List SeatStep) Refused → S → Type 0
Does rule a order (Ok steps) b = rule a order ≡ Ok (b, steps)
Does rule a order (Err e) b = (rule a order ≡ Err e) × (b ≡ a)
