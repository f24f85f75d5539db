use Rattle.std.proofs.Common.{sym, subst, arith}
use Rattle.std.specs.List.{All}
use Rattle.history_text.specs.code.Readings.{IsLoss}
use Rattle.history_text.proofs.drops.Losses.of_file.Goals as goal

pub returns-in-Some : goal.returns-in-Some
returns-in-Some c = λ allowed lines all.
    subst (All (IsLoss allowed lines)) (sym c.as_slice.ensures.value)
    (subst (λ v. All (IsLoss allowed lines) v.items) (sym c.index.ensures) (all c.in-Some.number c.index.result.now (omega (arith, c.in-Some.ensures, c.requires))))
