use Rattle.std.proofs.Common.{arith}
use Rattle.texts.proofs.SingleWords.{decimal-lacks}
use Rattle.texts.proofs.Within.{within_is_small}
use Rattle.message_text.proofs.joined.WithinDigits.are_digits.Goals as goal

pub returns : goal.returns
returns g c = λ value fits byte apart. decimal-lacks byte apart (g.T.Unsigned.number value) (within_is_small g.T.Unsigned.number g.T.Unsigned.greatest g.row.LEAST g.row.MOST (omega (arith, g.MOST.fits)) value fits)
