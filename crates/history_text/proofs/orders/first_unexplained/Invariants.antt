-- The orders of the files before this one explain them.
use Rattle.std.proofs.Common.{take}
use Rattle.std.specs.Prelude.{All}
use Rattle.history_text.specs.rule.Judgements.{HasOneClock, IsExplained}
use Rattle.history_text.proofs.orders.first_unexplained.Given as goal

abbrev pub invariant-loop-file : goal.invariant-loop-file
invariant-loop-file l = HasOneClock l.history → All IsExplained (take l.file l.history.files.items)
