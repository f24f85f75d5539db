use Rattle.std.proofs.Common.{◌<◌, ℕ, get_or}
use Rattle.states.specs.declared.open_call.OpenState.{OpenState}
use Rattle.cluster_core.specs.rule.Parts.{world_state}
use Rattle.replay.proofs.OnThreads.{IsExcused}
use Rattle.replay.proofs.threads.is_none_stuck.Given as goal

abbrev pub invariant-loop-told : goal.invariant-loop-told
invariant-loop-told l = (k : ℕ) (d : OpenState) → k < l.told-index → IsExcused (world_state l.world) (get_or l.told-items k d)
