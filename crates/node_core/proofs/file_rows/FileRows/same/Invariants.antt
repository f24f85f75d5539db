use Rattle.std.proofs.Common.{◌≡◌, ◌<◌, ℕ}
use Rattle.std.specs.List.{slice_get}
use Rattle.node_core.specs.rule.Files.{state_or}
use Rattle.node_core.proofs.file_rows.FileRows.same.Given as goal

abbrev pub invariant-loop-before : goal.invariant-loop-before
invariant-loop-before l = (k : ℕ) → k < l.before → state_or (slice_get l.self k) ≡ state_or (slice_get l.other k)
