use Rattle.std.specs.Prelude.{◌≡◌, ◌-◌, false, true, length}
use Rattle.cluster_core.specs.rule.World.{journal_limit}
use Rattle.merges.specs.code.Merging.{Longer, PutsOn, fields_of}
use Rattle.merges.proofs.merger.Merger.put_log.Given as goal

abbrev pub invariant-loop-put : goal.invariant-loop-put
invariant-loop-put l = record {
  puts : PutsOn (fields_of l.fn.self) (fields_of l.self);
  unchanged : l.put ≡ false → l.self ≡ l.fn.self;
  longer : l.put ≡ true → Longer (fields_of l.fn.self) (fields_of l.self);
}

abbrev pub decreases-loop-put : goal.decreases-loop-put
decreases-loop-put l = journal_limit - length l.self.run.entries
