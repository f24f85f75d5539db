use Rattle.std.proofs.Common.{subst}
use Rattle.token_server.specs.rule.Requests.{requests_in, AreOfDistinctCalls}
use Rattle.token_server.specs.code.Admissions.{SlotParts}
use Rattle.token_server.proofs.PlaceLaws.{distinct, AreApart-placed}
use Rattle.token_server.proofs.token_queue.slots.Slots.len.Goals as goal

pub returns-clause-distinct : goal.returns-clause-distinct
returns-clause-distinct c =
    subst (λ (p : SlotParts). AreOfDistinctCalls (requests_in p.slots)) c.self.view_is
    (distinct c.self.inside.slots.items (AreApart-placed c.self.inside.slots.items c.self.inside.places c.self.invariant.0))
