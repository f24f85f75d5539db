use Rattle.std.proofs.Common.{◌≡◌, ◌∙◌, List, [], sym, ap, subst, arith}
use Rattle.std.proofs.lemmas.Result.{IfOk-from_err}
use Rattle.cluster_core.specs.declared.node_token_run.NodeTokenRun.{NodeTokenRun}
use Rattle.cluster_core.specs.rule.Listings.{Adds, IsTokenBefore}
use Rattle.cluster_core.specs.rule.Parts.{WorldParts, world_state}
use Rattle.cluster_core.proofs.listings.TokenLists.{IsOfFirstNodes, no_nodes, next_node, all_nodes}
use Rattle.cluster_core.proofs.world.World.tokens.Goals as goal

pub loop-index-init : goal.loop-index-init
loop-index-init c =
    let w = world_state c.args.self.now in
    subst (λ (tokens : List NodeTokenRun). Adds (IsOfFirstNodes w 0) IsTokenBefore [] tokens) (sym c.new-tokens.ensures.items) (no_nodes w [])

pub returns-in_err-push_node_tokens : goal.returns-in_err-push_node_tokens
returns-in_err-push_node_tokens c = IfOk-from_err c.from_residual.result _ c.from_residual.ensures.0

pub loop-index-preserved : goal.loop-index-preserved
loop-index-preserved c = next_node (world_state c.args.self.now) c.loop-index.index [] c.loop-index.tokens.items c.push_node_tokens.new.tokens.items c.loop-index.invariant c.in_ok-push_node_tokens.ensures

pub returns : goal.returns
returns c =
    let end : c.nodes-index-end.result ≡ c.args.self.now.shape.nodes = c.nodes-index-end.ensures.value ∙ ap (λ (p : WorldParts). p.shape.nodes) c.self.view_is in
    all_nodes (world_state c.args.self.now) c.loop-index.index c.loop-index.tokens.items (omega (arith, c.loop-index-test.false)) c.loop-index.invariant
