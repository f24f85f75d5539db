use Rattle.std.specs.Prelude.{◌++◌}
use Rattle.std.proofs.Common.{sym, subst, inl, inr}
use Rattle.token_server.specs.declared.sketch.Moved.{Moved}
use Rattle.token_server.specs.code.Edits.{AreDistinct, without, queue_moved}
use Rattle.token_server.proofs.server.admitting.admit_moved.Goals as goal

pub admit_each-requires-clause-distinct : goal.admit_each-requires-clause-distinct
admit_each-requires-clause-distinct c =
    let dropped = c.args.gone.now.dropped in
    let queue = without dropped c.args.queue.now.requests in
    let waiting = without dropped c.args.waiting.now.requests in
    subst AreDistinct (sym (λ i. without dropped (c.slots.ensures i) ++ without dropped (c.slots-in-Waiting.ensures i)))
    (subst (λ (moved : Moved). AreDistinct (queue_moved moved queue waiting)) c.in-Waiting.is c.requires.distinct)

pub admit_last-requires-clause-distinct : goal.admit_last-requires-clause-distinct
admit_last-requires-clause-distinct c =
    let dropped = c.args.gone.now.dropped in
    let queue = without dropped c.args.queue.now.requests in
    let waiting = without dropped c.args.waiting.now.requests in
    elim c.in-New.is [
      | inl new ↦ subst (λ (moved : Moved). AreDistinct (queue_moved moved queue waiting)) new c.requires.distinct
      | inr again ↦ subst (λ (moved : Moved). AreDistinct (queue_moved moved queue waiting)) again.1 c.requires.distinct
    ]
