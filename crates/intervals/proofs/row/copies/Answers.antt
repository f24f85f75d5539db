use Rattle.std.proofs.Common.{◌∙◌, arith}
use Rattle.std.proofs.lemmas.List.{take_all}
use Rattle.intervals.proofs.row.copies.Goals as goal

pub returns : goal.returns
returns g c = c.loop-part.invariant ∙ take_all _ _ (omega (arith, c.loop-part-test.false))
