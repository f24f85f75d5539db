use Rattle.std.proofs.Common.{◌≡◌, take, map}
use Rattle.messages.specs.rule.TokenRuns.{run_of}
use Rattle.messages.proofs.token_run.TokenRuns.of.Given as goal

abbrev pub invariant-loop-span : goal.invariant-loop-span
invariant-loop-span l = l.listed.items ≡ map run_of (take l.span-index l.runs)
