use Rattle.std.proofs.Common.{◌+◌, ◌-◌}
use Rattle.token_set.specs.rule.Tokens.{token_of}
use Rattle.token_set.proofs.TokenLaws.{IsDoneTo}
use Rattle.token_set.proofs.set.set_exclusive.Given as goal

abbrev pub invariant-loop-lo : goal.invariant-loop-lo
invariant-loop-lo l = IsDoneTo (token_of l.levels) (record { lo = l.span-inside.lo; hi = l.span-inside.hi }) l.level (token_of l.initial.new) (token_of l.new) l.lo

abbrev pub decreases-loop-lo : goal.decreases-loop-lo
decreases-loop-lo l = l.span-inside.hi + 1 - l.lo
