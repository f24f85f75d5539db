-- The rules before this one are allowed.
use Rattle.std.proofs.Common.{◌≡◌, drop, fold}
use Rattle.replay.specs.rule.Judging.{allowed_of, with_asked}
use Rattle.replay.proofs.judge.allowed_of.Given as goal

abbrev pub invariant-loop-rule : goal.invariant-loop-rule
invariant-loop-rule l = fold with_asked l.allowed (drop l.rule-index l.rules) ≡ allowed_of l.rules
