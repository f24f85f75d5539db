use Rattle.std.specs.Prelude.{All, None}
use Rattle.std.proofs.Common.{◌≡◌, ◌+◌, length, refl, ap, sym, subst, ◌∙◌}
use Rattle.std.proofs.lemmas.List.{length_push}
use Rattle.std.proofs.lemmas.List.Elements.{All-push}
use Rattle.token_server.specs.declared.known_nodes.known_node.KnownNode.{KnownNode}
use Rattle.token_server.proofs.KnownNodeLaws.{rows_of-new, deaths_of-new, exclusive-new}
use Rattle.token_server.proofs.known_nodes.known_nodes.KnownNodes.new.Goals as goal

pub loop-node-preserved : goal.loop-node-preserved
loop-node-preserved c =
    let new : KnownNode = record { dead = 0; row = None } in
    let is_new : KnownNode → Type 0 = λ known_node. known_node ≡ record { dead = 0; row = None } in
    let pushed = c.in_ok-push.ensures.items in
    record {
      unknown = subst (All is_new) (sym pushed) (All-push is_new c.loop-node.known_nodes.items new c.loop-node.invariant.unknown refl);
      len = ap length pushed ∙ length_push c.loop-node.known_nodes.items new ∙ ap (λ n. n + 1) c.loop-node.invariant.len;
    }

pub returns-clause-rows : goal.returns-clause-rows
returns-clause-rows c = rows_of-new _ c.loop-node.invariant.unknown

pub returns-clause-deaths : goal.returns-clause-deaths
returns-clause-deaths c = deaths_of-new _ c.loop-node.invariant.unknown

pub invariant_of-result : goal.invariant_of-result
invariant_of-result c = λ unset. exclusive-new _ (rows_of-new _ c.loop-node.invariant.unknown)
