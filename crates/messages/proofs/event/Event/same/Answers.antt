use Rattle.std.proofs.lemmas.Bool.Decides.{Decides-at}
use Rattle.messages.proofs.SameMessages.{event_eq-Decides}
use Rattle.messages.proofs.event.Event.same.Goals as goal

pub returns : goal.returns
returns c = Decides-at _ _ c.eq.ensures (event_eq-Decides _ _)
