use Rattle.std.proofs.Common.{◌==◌}
use Rattle.model.proofs.SearchLaws.{Failed}
use Rattle.descriptors.specs.code.Rows.{count_of}
use Rattle.descriptors.proofs.counts.Counts.lowest_unused.Given as goal

abbrev pub invariant-loop-number : goal.invariant-loop-number
invariant-loop-number l = Failed (λ d. count_of l.self d == 0) 1 l.number
