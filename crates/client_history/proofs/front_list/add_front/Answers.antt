use Rattle.std.proofs.Common.{refl, [], ◌∷◌}
use Rattle.client_history.proofs.Standing.{has_left, has_last, has_push}
use Rattle.client_history.proofs.front_list.add_front.Goals as goal

pub returns-then-has_same-clause-there : goal.returns-then-has_same-clause-there
returns-then-has_same-clause-there c = rw c.deref.ensures.value at (c.has_same.ensures c.if-has_same.true)

pub returns-clause-kept : goal.returns-clause-kept
returns-clause-kept c = λ k front there. rw (c.in_ok-push.ensures {u = tt}).items (has_left c.args.fronts.now.items (c.args.front ∷ []) front (k, there))

pub returns-clause-there : goal.returns-clause-there
returns-clause-there c =
    let has = has_last c.args.fronts.now.items c.args.front in
    rw (c.in_ok-push.ensures {u = tt}).items (has.0, c.args.front, has.1, refl, refl)

pub returns-clause-only : goal.returns-clause-only
returns-clause-only c = λ k other there. has_push c.args.fronts.now.items c.args.front other (k, rw (c.in_ok-push.ensures {u = tt}).items at there)
