use Rattle.std.proofs.Common.{◌∙◌, List, subst}
use Rattle.std.proofs.lemmas.Result.{IfOk-weaker}
use Rattle.cluster_core.specs.rule.Parts.{world_state}
use Rattle.lockscript.specs.rule.Scripts.{LineFields}
use Rattle.messages.specs.rule.Shapes.{ShapeFields}
use Rattle.player.specs.code.Rounds.{ComesOn, progress, state_of}
use Rattle.player.specs.rule.Rounds.{GoesBehind}
use Rattle.player.proofs.RoundEnds.{goes-behind}
use Rattle.player.proofs.play.play_after.Goals as goal

pub returns-clause-played : goal.returns-clause-played
returns-clause-played g c =
    let calm = c.args.calm in
    let j = c.args.journal in
    let player = c.in_ok-player.player in
    let lines = c.into_lines.result.items in
    let same = c.shape-shape.ensures ∙ c.requires.same_shape in
    IfOk-weaker c.play_lines.result _ _ (λ r is.
    let there = subst (λ (s : ShapeFields). ComesOn calm s (progress player) lines (state_of r.0) r.1) same is in
    let behind = goes-behind calm j (world_state player.run.world) (progress player) lines (state_of r.0) r.1 c.in_ok-player.ensures.leads c.in_ok-player.ensures.begins there in
    subst (λ (ls : List LineFields). GoesBehind calm j ls (state_of r.0) r.1) c.into_lines.ensures behind
    ) c.play_lines.ensures.played
