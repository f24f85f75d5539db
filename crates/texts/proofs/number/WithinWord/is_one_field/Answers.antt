use Rattle.std.proofs.Common.{arith}
use Rattle.texts.proofs.Within.{within_is_one_field}
use Rattle.texts.proofs.number.WithinWord.is_one_field.Goals as goal

pub returns : goal.returns
returns g c = within_is_one_field g.T.Unsigned.number g.T.Unsigned.greatest g.row.LEAST g.row.MOST (omega (arith, g.MOST.fits))
