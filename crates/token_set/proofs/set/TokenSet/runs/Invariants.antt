use Rattle.std.proofs.Common.{◌+◌, ◌-◌, ◌≤◌}
use Rattle.intervals.specs.rule.Bytes.{greatest}
use Rattle.token_set.specs.rule.Tokens.{token_of}
use Rattle.token_set.proofs.TokenLaws.{Listed}
use Rattle.token_set.proofs.set.TokenSet.runs.Given as goal

abbrev pub invariant-loop-next : goal.invariant-loop-next
invariant-loop-next l = record { listed : Listed (token_of l.self) l.from l.runs.items; within : l.from ≤ greatest + 1 }

abbrev pub decreases-loop-next : goal.decreases-loop-next
decreases-loop-next l = greatest + 1 - l.from
