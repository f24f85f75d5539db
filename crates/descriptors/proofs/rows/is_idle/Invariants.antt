use Rattle.std.proofs.Common.{◌≡◌, ◌<◌, ℕ, false}
use Rattle.descriptors.specs.rule.Rows.{processes}
use Rattle.descriptors.proofs.rows.is_idle.Given as goal

abbrev pub invariant-loop-pid : goal.invariant-loop-pid
invariant-loop-pid l = (k : ℕ) → k < l.pid → (processes l.rows).runs k ≡ false
