use Rattle.merges.specs.code.Merging.{Covers}
use Rattle.merges.proofs.ends.Ends.least.Given as goal

abbrev pub invariant-loop : goal.invariant-loop
invariant-loop l = Covers l.fn.self l.logs → Covers l.self l.logs
