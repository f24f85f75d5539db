use Rattle.std.proofs.lemmas.Result.{IfOk-weaker}
use Rattle.cluster_core.specs.rule.Parts.{world_state}
use Rattle.replay.proofs.state.state_behind.Goals as goal

pub returns : goal.returns
returns c = IfOk-weaker c.of.result _ _ (λ told is. (world_state c.in_ok-world.world, c.in_ok-world.ensures, is)) c.of.ensures
