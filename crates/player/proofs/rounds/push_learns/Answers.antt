use Rattle.std.proofs.Common.{◌≡◌, ◌≤◌, ◌∙◌, ap, arith, sym}
use Rattle.cluster_core.specs.rule.Parts.{world_state}
use Rattle.player.specs.code.Rounds.{IsLearnOf}
use Rattle.player.proofs.DueLists.{all_learns, up_next, up_none}
use Rattle.player.proofs.rounds.push_learns.Goals as goal

pub loop-index-init : goal.loop-index-init
loop-index-init c = up_none (IsLearnOf (world_state c.args.world.now)) c.args.events.now.items

pub loop-index-preserved : goal.loop-index-preserved
loop-index-preserved c =
    up_next (IsLearnOf (world_state c.args.world.now)) c.loop-index.index c.args.events.now.items c.loop-index.events.items c.push_learns_of.new.events.items c.loop-index.invariant c.in_ok-push_learns_of.ensures

pub returns : goal.returns
returns c =
    let w = world_state c.args.world.now in
    let end : c.files-index-end.result ≡ c.args.world.now.shape.files = c.files-index-end.ensures.value ∙ ap (λ s. s.files) (sym c.requires) in
    let all : w.shape.files ≤ c.loop-index.index = omega (arith, end, c.loop-index-test.false) in
    all_learns w c.loop-index.index c.args.events.now.items c.loop-index.events.items all c.loop-index.invariant
