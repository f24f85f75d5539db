use Rattle.std.proofs.Common.{◌≡◌, ◌+◌, ◌≤◌, ◌∙◌, ap, arith, sym}
use Rattle.node_core.specs.rule.Parts.{node_state}
use Rattle.node_core.specs.rule.State.{NodeState}
use Rattle.cluster_core.specs.rule.Parts.{world_state}
use Rattle.player.specs.code.Rounds.{IsRetryAt}
use Rattle.player.proofs.DueLists.{adds_none, alive_node, all_retries, no_retry, node_retries, up_next, up_none}
use Rattle.player.proofs.rounds.push_retries.Goals as goal

pub loop-index-init : goal.loop-index-init
loop-index-init c = up_none (IsRetryAt (world_state c.args.world.now)) c.args.events.now.items

pub loop-index-preserved-in_default : goal.loop-index-preserved-in_default
loop-index-preserved-in_default c =
    let w = world_state c.args.world.now in
    up_next (IsRetryAt w) c.loop-index.index c.args.events.now.items c.loop-index.events.items c.loop-index.events.items c.loop-index.invariant
    (adds_none (IsRetryAt w (c.loop-index.index + 1)) c.loop-index.events.items (λ event is. no_retry w (c.loop-index.index + 1) event c.in_default.ensures is))

pub loop-index-preserved : goal.loop-index-preserved
loop-index-preserved c =
    let w = world_state c.args.world.now in
    let n = c.loop-index.index + 1 in
    let calls = c.open_calls.result.now in
    let are : calls ≡ (w.nodes n).pending = c.open_calls.ensures.calls ∙ ap (λ (s : NodeState). s.pending) (sym c.in-Some.ensures.state) in
    up_next (IsRetryAt w) c.loop-index.index c.args.events.now.items c.loop-index.events.items c.push_retries_of.new.events.items c.loop-index.invariant
    (node_retries w n calls c.loop-index.events.items c.push_retries_of.new.events.items (alive_node w n (node_state c.in-Some.live.now) c.in-Some.ensures) are c.in_ok-push_retries_of.ensures)

pub returns : goal.returns
returns c =
    let w = world_state c.args.world.now in
    let end : c.nodes-index-end.result ≡ c.args.world.now.shape.nodes = c.nodes-index-end.ensures.value ∙ ap (λ s. s.nodes) (sym c.requires) in
    let all : w.shape.nodes ≤ c.loop-index.index = omega (arith, end, c.loop-index-test.false) in
    all_retries w c.loop-index.index c.args.events.now.items c.loop-index.events.items all c.loop-index.invariant
