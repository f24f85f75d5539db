use Rattle.std.specs.Prelude.{◌++◌, drop}
use Rattle.std.proofs.Common.{ap, subst, sym, ◌∙◌}
use Rattle.token_server.specs.rule.Requests.{AreOfDistinctCalls}
use Rattle.token_server.proofs.LineLaws.{distinct-before, first-rest}
use Rattle.token_server.proofs.token_queue.line.Line.append.Goals as goal

pub push-requires-clause-new : goal.push-requires-clause-new
push-requires-clause-new c =
    let mine = c.loop-request.self.requests in
    let others = c.loop-request.other.requests in
    let r = c.in-Some.request in
    distinct-before mine r (drop 1 others)
    (subst AreOfDistinctCalls (sym c.loop-request.invariant.requests ∙ ap (λ rs. mine ++ rs) (first-rest others r (sym c.take_first.ensures.first ∙ c.in-Some.is))) c.requires.distinct)
