use Rattle.cluster_core.specs.rule.Parts.{world_state}
use Rattle.cluster_core.proofs.runs.JournalRuns.{Ran}
use Rattle.cluster_core.proofs.journal.run.Given as goal

abbrev pub invariant-loop-event : goal.invariant-loop-event
invariant-loop-event l = Ran l.fn.shape l.events l.event-index l.run.entries (world_state l.run.world)
