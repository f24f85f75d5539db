use Rattle.std.proofs.Common.{List, refl, sym, subst}
use Rattle.std.proofs.lemmas.Result.{IfOk-weaker}
use Rattle.cluster_core.specs.rule.Runs.{Leads}
use Rattle.cluster_core.specs.rule.World.{first_world}
use Rattle.lockscript.specs.rule.Scripts.{LineFields}
use Rattle.messages.specs.rule.Shapes.{ShapeFields}
use Rattle.player.specs.code.Rounds.{progress, state_of}
use Rattle.player.specs.rule.Progress.{Progress}
use Rattle.player.specs.rule.Rounds.{Comes}
use Rattle.player.proofs.RoundEnds.{comes}
use Rattle.player.proofs.play.play.Goals as goal

pub play_lines-requires : goal.play_lines-requires
play_lines-requires g c = subst (λ (p : Progress). Leads (first_world c.shape-shape.result) p.entries p.world) (sym c.in_ok-player.ensures.first) refl

pub returns-clause-played : goal.returns-clause-played
returns-clause-played g c =
    let lines = c.into_lines.result.items in
    IfOk-weaker c.play_lines.result _ _ (λ r is.
    let calm = c.args.calm in
    let there = comes calm c.shape-shape.result (progress c.in_ok-player.player) lines (state_of r.0) r.1 c.in_ok-player.ensures.first is in
    subst (λ (ls : List LineFields). Comes calm c.args.script.shape ls (state_of r.0) r.1) c.into_lines.ensures
    (subst (λ (s : ShapeFields). Comes calm s lines (state_of r.0) r.1) c.shape-shape.ensures there)
    ) c.play_lines.ensures.played
