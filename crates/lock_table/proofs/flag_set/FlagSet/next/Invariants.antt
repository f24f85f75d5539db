use Rattle.std.proofs.Common.{ℕ, ◌*◌, ◌≤◌, ◌<◌}
use Rattle.lock_table.specs.code.Rows.{HasFlag}
use Rattle.lock_table.proofs.flag_set.FlagSet.next.Given as goal

-- the words before have no flag from the given one on
abbrev pub invariant-loop-word : goal.invariant-loop-word
invariant-loop-word l = (k : ℕ) → l.flag ≤ k → k < l.word * 64 → HasFlag l.self k → ⊥
