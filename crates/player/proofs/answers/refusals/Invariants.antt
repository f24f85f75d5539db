use Rattle.std.proofs.Common.{drop}
use Rattle.player.specs.code.Answers.{KnowsRefusals}
use Rattle.player.proofs.answers.refusals.Given as goal

abbrev pub invariant-loop-index : goal.invariant-loop-index
invariant-loop-index l = KnowsRefusals l.refusals (drop l.index l.refused)
