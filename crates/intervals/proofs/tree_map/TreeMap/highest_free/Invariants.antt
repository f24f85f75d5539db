use Rattle.std.proofs.Common.{ℕ, ◌<◌, ◌+◌, ◌-◌}
use Rattle.intervals.specs.rule.Bytes.{IsBarred, greatest}
use Rattle.intervals.specs.rule.Runs.{value_at}
use Rattle.intervals.proofs.tree_map.TreeMap.highest_free.Given as goal

-- no byte above `to` and below `start` is barred
abbrev pub invariant-loop-run : goal.invariant-loop-run
invariant-loop-run g l = record { above : l.to < l.start; free : (b : ℕ) → l.to < b → b < l.start → IsBarred (value_at l.self) l.bar b → ⊥ }

abbrev pub decreases-loop-run : goal.decreases-loop-run
decreases-loop-run g l = greatest + 1 - l.start
