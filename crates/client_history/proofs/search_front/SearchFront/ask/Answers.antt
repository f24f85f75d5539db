use Rattle.client_history.proofs.AskLaws.{asked_by}
use Rattle.client_history.proofs.search_front.SearchFront.ask.Goals as goal

pub returns-in_ok-take : goal.returns-in_ok-take
returns-in_ok-take c = asked_by c.args.«open».now c.args.self.now c.take.new.self (c.changes.ensures.asks c.if-not-changes.true) c.in_ok-take.field-0 c.in_ok-take.ensures.taken c.in_ok-take.ensures.noted c.in_ok-take.ensures.never c.in_ok-take.ensures.stays
