use Rattle.std.proofs.Common.{take}
use Rattle.std.specs.List.{All}
use Rattle.message_text.specs.rule.Texts.{IsServedSpan}
use Rattle.message_text.proofs.fits.runs_fit.Given as goal

abbrev pub invariant-loop-run : goal.invariant-loop-run
invariant-loop-run l = All (λ r. IsServedSpan r.span) (take l.run-index l.run-items)
