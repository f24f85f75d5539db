use Rattle.client_history.proofs.Goings.{has_next}
use Rattle.client_history.proofs.call_ending.go.Goals as goal

pub returns-in_ok-add_front-clause-goes : goal.returns-in_ok-add_front-clause-goes
returns-in_ok-add_front-clause-goes c =
    has_next c.args.ending.now.«open».now c.args.front c.take.new.self c.ask_all.new.self c.args.call.now c.add_front.new.fronts.items
    ((c.in_ok-take.ensures {u = tt}).taken c.if-branch.true)
    ((c.in_ok-take.ensures {u = tt}).noted c.if-branch.true)
    (c.in_ok-ask_all.ensures {u = tt})
    ((c.in_ok-add_front.ensures {u = tt}).there)
