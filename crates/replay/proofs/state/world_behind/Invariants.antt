use Rattle.std.proofs.Common.{◌≤◌}
use Rattle.cluster_core.specs.rule.Parts.{world_state}
use Rattle.cluster_core.proofs.runs.Replayed.{Replayed}
use Rattle.replay.proofs.state.world_behind.Given as goal

abbrev pub invariant-loop-entry : goal.invariant-loop-entry
invariant-loop-entry l = record { within : l.entry-index ≤ l.count; replayed : Replayed l.journal.shape l.journal.entries l.entry-index (world_state l.world) }
