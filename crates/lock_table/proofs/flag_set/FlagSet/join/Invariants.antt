use Rattle.std.proofs.Common.{ℕ, ◌<◌, ◌/◌}
use Rattle.lock_table.specs.code.Rows.{HasFlag}
use Rattle.lock_table.proofs.flag_set.FlagSet.join.Given as goal

abbrev pub invariant-loop-i : goal.invariant-loop-i
invariant-loop-i l = record {
  kept : (k : ℕ) → HasFlag l.initial.self k → HasFlag l.self k;
  joined : (k : ℕ) → k / 64 < l.i → HasFlag l.other k → HasFlag l.self k;
}
