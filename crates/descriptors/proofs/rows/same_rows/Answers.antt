use Rattle.std.proofs.Common.{arith, refl}
use Rattle.std.proofs.lemmas.Bool.{iff_false, false≢true}
use Rattle.descriptors.proofs.RowLaws.{processes-same, same-processes, same-joined, same-past}
use Rattle.descriptors.proofs.rows.same_rows.Goals as goal

pub returns-then-not-same : goal.returns-then-not-same
returns-then-not-same c =
    (λ h. absurd (false≢true h), λ e. absurd (iff_false c.same.ensures c.if-not-same.true (same-joined _ _ _ _ c.row_at.ensures (same-processes _ _ e c.loop-pid.pid) c.row_at-in-loop-pid.ensures)))

pub returns : goal.returns
returns c = (λ _. processes-same _ _ (same-past _ _ c.loop-pid.pid c.loop-pid.invariant (omega arith) (omega arith)), λ _. refl)
