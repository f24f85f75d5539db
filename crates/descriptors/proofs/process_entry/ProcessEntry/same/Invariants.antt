use Rattle.std.proofs.Common.{◌≡◌, ◌<◌, ℕ}
use Rattle.descriptors.specs.rule.Rows.{slot}
use Rattle.descriptors.proofs.process_entry.ProcessEntry.same.Given as goal

abbrev pub invariant-loop-fd : goal.invariant-loop-fd
invariant-loop-fd l = (k : ℕ) → k < l.fd → slot l.self.opened k ≡ slot l.other.opened k
