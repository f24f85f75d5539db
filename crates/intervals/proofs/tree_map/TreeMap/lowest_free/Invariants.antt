use Rattle.std.proofs.Common.{ℕ, ◌≤◌, ◌<◌}
use Rattle.intervals.specs.rule.Bytes.{IsBarred}
use Rattle.intervals.specs.rule.Runs.{value_at}
use Rattle.intervals.proofs.tree_map.TreeMap.lowest_free.Given as goal

-- no byte from `end` on and below `from` is barred
abbrev pub invariant-loop-run : goal.invariant-loop-run
invariant-loop-run g l = record { within : l.end ≤ l.from; free : (b : ℕ) → l.end ≤ b → b < l.from → IsBarred (value_at l.self) l.bar b → ⊥ }

abbrev pub decreases-loop-run : goal.decreases-loop-run
decreases-loop-run g l = l.end
