use Rattle.std.specs.Prelude.{◌≡◌}
use Rattle.std.proofs.Common.{sym, ap, ◌∙◌, arith}
use Rattle.token_server.specs.rule.Parts.{ServerParts}
use Rattle.token_server.specs.code.Edits.{with_told, drafted}
use Rattle.token_server.proofs.TurnLaws.{own-unopposed, other-within}
use Rattle.token_server.proofs.server.Server.order.Goals as goal

pub granted_span-requires : goal.granted_span-requires
granted_span-requires c =
    own-unopposed (with_told c.args.told.now (drafted c.args.self.now c.args.draft.now)) c.args.request.now c.args.at c.requires.waits (sym c.is_of_node.ensures ∙ c.if-is_of_node.true)

pub invariant_of-result : goal.invariant_of-result
invariant_of-result c =
    let nodes : c.nodes.result ≡ c.args.self.now.shape.nodes = c.nodes.ensures.value ∙ ap (λ (p : ServerParts). p.shape.nodes) c.self.view_is in
    let within = other-within (with_told c.args.told.now (drafted c.args.self.now c.args.draft.now)) c.args.request.now c.args.at c.requires.waits (sym c.is_of_node.ensures ∙ c.if-is_of_node.false) in
    record { node_in = (within.0, omega (arith, nodes, within.1, c.nodes.ensures.within.1)); incarnation_in = (c.requires.counted, omega (arith, c.ranges.incarnation)) }
