use Rattle.std.proofs.Common.{◌≡◌, take}
use Rattle.cluster_core.specs.rule.World.{first_world}
use Rattle.cluster_core.specs.rule.Parts.{world_state}
use Rattle.cluster_core.specs.rule.Runs.{Leads}
use Rattle.cluster_core.proofs.journal.Journal.check.Given as goal

abbrev pub invariant-loop-index : goal.invariant-loop-index
invariant-loop-index l = record {
  leads : Leads (first_world l.shape) (take l.index l.entries.items) (world_state l.world);
  kept : l.entries.items ≡ l.fn.entries.items;
}
