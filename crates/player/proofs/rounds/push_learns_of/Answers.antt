use Rattle.std.proofs.Common.{◌≡◌, ◌+◌, ◌≤◌, ◌∙◌, ap, arith, sym}
use Rattle.cluster_core.specs.rule.Parts.{world_state}
use Rattle.player.specs.code.Rounds.{IsLearnAt, IsLearnOf}
use Rattle.player.proofs.DueLists.{adds_none, all_learns_of, no_learn, up_next, up_none, within_node}
use Rattle.player.proofs.rounds.push_learns_of.Goals as goal

pub returns-then-not-is_working : goal.returns-then-not-is_working
returns-then-not-is_working c =
    let w = world_state c.args.world.now in
    adds_none (IsLearnOf w c.args.file) c.args.events.now.items
    (λ event is. no_learn w c.args.file event (sym c.is_working.ensures ∙ c.if-not-is_working.true) is)

pub loop-index-init : goal.loop-index-init
loop-index-init c = up_none (IsLearnAt (world_state c.args.world.now) c.args.file) c.args.events.now.items

pub push_learn-requires-clause-works : goal.push_learn-requires-clause-works
push_learn-requires-clause-works c = sym c.is_working.ensures ∙ c.if-not-is_working.false

pub push_learn-requires-clause-node : goal.push_learn-requires-clause-node
push_learn-requires-clause-node c =
    let end : c.nodes-index-end.result ≡ c.args.world.now.shape.nodes = c.nodes-index-end.ensures.value ∙ ap (λ s. s.nodes) (sym c.requires) in
    within_node (world_state c.args.world.now) (c.loop-index.index + 1) (omega arith) (omega (arith, end, c.loop-index-test.true))

pub loop-index-preserved : goal.loop-index-preserved
loop-index-preserved c =
    up_next (IsLearnAt (world_state c.args.world.now) c.args.file) c.loop-index.index c.args.events.now.items c.loop-index.events.items c.push_learn.new.events.items c.loop-index.invariant c.in_ok-push_learn.ensures

pub returns : goal.returns
returns c =
    let w = world_state c.args.world.now in
    let end : c.nodes-index-end.result ≡ c.args.world.now.shape.nodes = c.nodes-index-end.ensures.value ∙ ap (λ s. s.nodes) (sym c.requires) in
    let all : w.shape.nodes ≤ c.loop-index.index = omega (arith, end, c.loop-index-test.false) in
    all_learns_of w c.args.file c.loop-index.index c.args.events.now.items c.loop-index.events.items all c.loop-index.invariant
