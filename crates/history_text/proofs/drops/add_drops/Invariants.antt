use Rattle.std.proofs.Common.{ℕ}
use Rattle.std.specs.List.{All}
use Rattle.history_text.specs.declared.rule.Allowed.{Allowed}
use Rattle.history_text.specs.code.Readings.{Adds, with_told, IsLoss}
use Rattle.history_text.proofs.drops.add_drops.Given as goal

abbrev pub invariant-loop-loss : goal.invariant-loop-loss
invariant-loop-loss l = (allowed : Allowed) (lines : ℕ) → All (IsLoss allowed lines) l.losses → Adds allowed l.owners.lives.items lines (with_told l.fn.file) l.file
