use Rattle.std.proofs.Common.{◌≡◌, ◌∷◌, drop}
use Rattle.messages.specs.rule.TokenRuns.{are_longest}
use Rattle.messages.proofs.token_run.are_longest.Given as goal

abbrev pub invariant-loop-run : goal.invariant-loop-run
invariant-loop-run l = are_longest l.fn.runs ≡ are_longest (l.last ∷ drop l.run-index l.rest)
