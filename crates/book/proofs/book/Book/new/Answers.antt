use Rattle.std.proofs.Common.{sym, subst}
use Rattle.cluster_core.specs.rule.World.{WorldState}
use Rattle.book.specs.rule.States.{HasState, seat_state}
use Rattle.book.proofs.book.Book.new.Goals as goal

pub returns-clause-seats : goal.returns-clause-seats
returns-clause-seats g c = λ k s e.
    let first = c.in_ok-push_servers.ensures.seats k s e in
    (first.0, subst (λ (w : WorldState). HasState w (seat_state s)) (sym c.in_ok-run.ensures.world) first.1)
