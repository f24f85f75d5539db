-- The words before this one are those of the rules.
use Rattle.command_line.proofs.Rules.{AreRead}
use Rattle.command_line.proofs.judge_line.rules_of.Given as goal

abbrev pub invariant-loop-word : goal.invariant-loop-word
invariant-loop-word l = AreRead l.words l.word-index l.rules.items
