use Rattle.std.proofs.Common.{◌≡◌, ◌≤◌, ◌∙◌, ap, arith, sym}
use Rattle.cluster_core.specs.rule.Parts.{world_state}
use Rattle.player.specs.code.Rounds.{IsResendAt}
use Rattle.player.proofs.DueLists.{all_resends, up_next, up_none}
use Rattle.player.proofs.rounds.push_resends.Goals as goal

pub loop-index-init : goal.loop-index-init
loop-index-init c = up_none (IsResendAt (world_state c.args.world.now)) c.args.events.now.items

pub loop-index-preserved : goal.loop-index-preserved
loop-index-preserved c =
    up_next (IsResendAt (world_state c.args.world.now)) c.loop-index.index c.args.events.now.items c.loop-index.events.items c.push_resend.new.events.items c.loop-index.invariant c.in_ok-push_resend.ensures

pub returns : goal.returns
returns c =
    let w = world_state c.args.world.now in
    let end : c.files-index-end.result ≡ c.args.world.now.shape.files = c.files-index-end.ensures.value ∙ ap (λ s. s.files) (sym c.requires) in
    let all : w.shape.files ≤ c.loop-index.index = omega (arith, end, c.loop-index-test.false) in
    all_resends w c.loop-index.index c.args.events.now.items c.loop-index.events.items all c.loop-index.invariant
