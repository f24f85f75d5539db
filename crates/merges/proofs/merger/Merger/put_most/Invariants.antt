use Rattle.std.specs.Prelude.{◌-◌, length}
use Rattle.cluster_core.specs.rule.World.{journal_limit}
use Rattle.merges.specs.code.Merging.{Covers, PutsOn, fields_of}
use Rattle.merges.proofs.merger.Merger.put_most.Given as goal

abbrev pub invariant-loop-queue : goal.invariant-loop-queue
invariant-loop-queue l = record {
  puts : PutsOn (fields_of l.fn.self) (fields_of l.self);
  covers : Covers l.ends l.self.logs.items;
}

abbrev pub decreases-loop-queue : goal.decreases-loop-queue
decreases-loop-queue l = journal_limit - length l.self.run.entries
