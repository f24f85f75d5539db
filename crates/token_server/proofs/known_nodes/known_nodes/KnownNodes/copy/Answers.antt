use Rattle.std.specs.Prelude.{◌≡◌, List, [], ◌∷◌, ◌++◌}
use Rattle.std.proofs.Common.{ap, sym, subst, ◌∙◌, take}
use Rattle.std.proofs.lemmas.List.{take_more, take_all}
use Rattle.token_server.specs.declared.known_nodes.known_node.KnownNode.{KnownNode}
use Rattle.token_server.specs.rule.RowParts.{rows_of}
use Rattle.token_server.specs.code.Rows.{NoneExclusive}
use Rattle.token_server.proofs.known_nodes.known_nodes.KnownNodes.copy.Goals as goal

pub loop-known_node-preserved : goal.loop-known_node-preserved
loop-known_node-preserved c =
    let known_nodes = c.deref-known_node-items.result.now in
    let i = c.loop-known_node.known_node-index in
    let known_node = c.known_node-item.result in
    c.in_ok-push.ensures.items
    ∙ ap (λ (copies : List KnownNode). copies ++ c.in_ok-copy.field-0 ∷ []) c.loop-known_node.invariant
    ∙ ap (λ (copy : KnownNode). take i known_nodes ++ copy ∷ []) (c.in_ok-copy.ensures ∙ c.known_node-item.is)
    ∙ sym (take_more known_nodes i known_node c.loop-known_node-test.true)

pub returns : goal.returns
returns c =
    c.loop-known_node.invariant
    ∙ take_all c.loop-known_node.known_node-index c.deref-known_node-items.result.now c.loop-known_node-test.false
    ∙ c.deref-known_node-items.ensures.value
    ∙ c.self.view_is

pub invariant_of-result : goal.invariant_of-result
invariant_of-result c = λ unset.
    let same : c.loop-known_node.nodes.items ≡ c.self.inside.nodes.items = c.loop-known_node.invariant ∙ take_all c.loop-known_node.known_node-index c.deref-known_node-items.result.now c.loop-known_node-test.false ∙ c.deref-known_node-items.ensures.value in
    subst (λ (cs : List KnownNode). NoneExclusive (rows_of cs)) (sym same) (c.self.invariant unset)
