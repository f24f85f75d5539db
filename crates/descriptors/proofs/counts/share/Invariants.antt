use Rattle.std.proofs.Common.{◌≡◌, ◌+◌, ℕ, length}
use Rattle.descriptors.specs.rule.Rows.{processes}
use Rattle.descriptors.specs.code.Rows.{count_of, references_below}
use Rattle.descriptors.proofs.counts.share.Given as goal

abbrev pub invariant-loop-fd : goal.invariant-loop-fd
invariant-loop-fd l = (length l.counts ≡ length l.initial.counts) × ((d : ℕ) → count_of l.counts d ≡ count_of l.initial.counts d + references_below ((processes l.rows).opened l.pid) d l.fd)
