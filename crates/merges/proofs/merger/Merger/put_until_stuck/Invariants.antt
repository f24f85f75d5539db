use Rattle.std.specs.Prelude.{◌-◌, length}
use Rattle.cluster_core.specs.rule.World.{journal_limit}
use Rattle.merges.specs.code.Merging.{PutsOn, fields_of}
use Rattle.merges.proofs.merger.Merger.put_until_stuck.Given as goal

abbrev pub invariant-loop : goal.invariant-loop
invariant-loop l = PutsOn (fields_of l.fn.self) (fields_of l.self)

abbrev pub decreases-loop : goal.decreases-loop
decreases-loop l = journal_limit - length l.self.run.entries
