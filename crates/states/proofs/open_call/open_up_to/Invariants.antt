use Rattle.std.proofs.Common.{◌≡◌}
use Rattle.cluster_core.specs.rule.Parts.{world_state}
use Rattle.states.specs.rule.States.{open_up_to}
use Rattle.states.proofs.open_call.open_up_to.Given as goal

abbrev pub invariant-loop-index : goal.invariant-loop-index
invariant-loop-index l = l.calls.items ≡ open_up_to (world_state l.world) l.index
