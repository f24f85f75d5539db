use Rattle.std.proofs.Common.{◌≡◌, ◌++◌, ℕ, drop}
use Rattle.player.specs.rule.Expectations.{names}
use Rattle.player.specs.code.Answers.{list_in}
use Rattle.player.proofs.answers.names.Given as goal

abbrev pub invariant-loop-entry : goal.invariant-loop-entry
invariant-loop-entry l = (node pid : ℕ) → list_in l.names node pid ++ names node pid (drop l.entry-index l.entries) ≡ names node pid l.entries
