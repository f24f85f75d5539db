-- What was sent stays sent, and the messages of an entry come last.
use Rattle.std.specs.Prelude.{◌≡◌, true, List, ◌++◌, Ok}
use Rattle.std.proofs.Common.{refl, ap, ◌∙◌}
use Rattle.messages.specs.rule.Messages.{is_among}
use Rattle.messages.specs.declared.message.Message.{Message}
use Rattle.messages.specs.declared.event.Event.{Event}
use Rattle.messages.specs.declared.entry.Entry.{Entry}
use Rattle.cluster_core.specs.rule.World.{WorldState}
use Rattle.cluster_core.specs.rule.Next.{next}
use Rattle.cluster_core.proofs.steps.KnownMessages.{sent_before}
use Rattle.cluster_core.proofs.steps.Steps.{next_step}

-- the messages of an entry are the last that were sent
pub next-sent : (w : WorldState) (event : Event) (q : WorldState × Entry) → next w event ≡ Ok q → q.0.sent ≡ w.sent ++ q.1.sends
next-sent w event q h =
    next_step w (λ p. p.0.sent ≡ w.sent ++ p.1.sends) event q (λ n step done is. refl) (λ file step done is. refl) (λ k is alive. refl) (λ k is dead few. refl) (λ f is works. refl) (λ f is stopped few. refl) h

pub sent-stays : (w : WorldState) (event : Event) (q : WorldState × Entry) (m : Message) → next w event ≡ Ok q → is_among w.sent m ≡ true → is_among q.0.sent m ≡ true
sent-stays w event q m h sent = ap (λ (ms : List Message). is_among ms m) (next-sent w event q h) ∙ sent_before w.sent q.1.sends m sent
