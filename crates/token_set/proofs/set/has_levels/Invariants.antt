use Rattle.std.proofs.Common.{ℕ, ◌+◌, ◌-◌, ◌<◌, ◌≤◌, IsSome}
use Rattle.token_set.specs.rule.Tokens.{token_of}
use Rattle.token_set.proofs.set.has_levels.Given as goal

-- each byte of the span below `lo` has a level
abbrev pub invariant-loop-run : goal.invariant-loop-run
invariant-loop-run l = record { starts : l.span-inside.lo ≤ l.lo; ends : l.lo ≤ l.span-inside.hi; below : (b : ℕ) → l.span-inside.lo ≤ b → b < l.lo → IsSome (token_of l.levels b) }

abbrev pub decreases-loop-run : goal.decreases-loop-run
decreases-loop-run l = l.span-inside.hi + 1 - l.lo
