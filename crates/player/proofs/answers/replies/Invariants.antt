use Rattle.std.proofs.Common.{drop}
use Rattle.player.specs.code.Answers.{KnowsReplies}
use Rattle.player.proofs.answers.replies.Given as goal

abbrev pub invariant-loop-index : goal.invariant-loop-index
invariant-loop-index l = KnowsReplies l.replies (drop l.index l.entries)
