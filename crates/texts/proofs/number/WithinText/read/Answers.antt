use Rattle.std.proofs.Common.{arith}
use Rattle.texts.proofs.Within.{value-within}
use Rattle.texts.proofs.number.WithinText.read.Goals as goal

pub returns-in-Some : goal.returns-in-Some
returns-in-Some g c =
    value-within g.T.Unsigned.number g.T.Unsigned.greatest g.row.LEAST g.row.MOST (omega (arith, g.MOST.fits)) c.args.text.now c.in-Some.number c.in-Some.ensures.0.0 c.in-Some.ensures.0.1 c.in-Some.ensures.1 c.of.result c.of.ensures
