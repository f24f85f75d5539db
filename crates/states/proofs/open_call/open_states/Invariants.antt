use Rattle.std.proofs.Common.{◌≡◌, ◌++◌, All, drop, map}
use Rattle.cluster_core.specs.rule.Parts.{world_state}
use Rattle.states.specs.rule.States.{IsOpenState}
use Rattle.states.proofs.open_call.open_states.Given as goal

abbrev pub invariant-loop-asked : goal.invariant-loop-asked
invariant-loop-asked l = record {
  calls : map (λ o. o.asked) l.states.items ++ drop l.asked-index l.asked-items ≡ l.asked-items;
  states : All (IsOpenState (world_state l.world)) l.states.items;
}
