use Rattle.std.specs.Prelude.{◌++◌}
use Rattle.std.proofs.Common.{sym, subst}
use Rattle.token_server.specs.rule.Actives.{requests_of}
use Rattle.token_server.specs.rule.Parts.{ServerParts}
use Rattle.token_server.specs.code.Edits.{AreDistinct, without, queue_moved}
use Rattle.token_server.proofs.ComesLaws.{distinct-first, distinct-before_moved}
use Rattle.token_server.proofs.server.Server.admit.Goals as goal

pub admit_queued-requires-clause-served : goal.admit_queued-requires-clause-served
admit_queued-requires-clause-served c =
    distinct-first (requests_of c.self.inside.active.held) (c.self.inside.queue.requests ++ c.self.inside.waiting.requests) c.self.invariant.ready.orderly.distinct

pub admit_queued-requires-clause-queued : goal.admit_queued-requires-clause-queued
admit_queued-requires-clause-queued c =
    let p = c.args.self.now in
    let dropped = c.args.gone.now.dropped in
    subst (λ (s : ServerParts). AreDistinct (without dropped s.queue.requests)) (sym c.self.view_is)
    (distinct-before_moved c.args.moved.now (without dropped p.queue.requests) (without dropped p.waiting.requests) c.requires)

pub admit_moved-requires-clause-distinct : goal.admit_moved-requires-clause-distinct
admit_moved-requires-clause-distinct c =
    let dropped = c.args.gone.now.dropped in
    subst (λ (s : ServerParts). AreDistinct (queue_moved c.args.moved.now (without dropped s.queue.requests) (without dropped s.waiting.requests))) (sym c.self.view_is) c.requires
