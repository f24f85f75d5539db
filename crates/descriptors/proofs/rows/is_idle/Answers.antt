use Rattle.std.proofs.Common.{◌∙◌, ap, sym, arith, refl}
use Rattle.std.proofs.lemmas.Bool.{both_ways, false≢true}
use Rattle.model.specs.rule.Descriptors.{Processes}
use Rattle.descriptors.proofs.RowLaws.{none_run}
use Rattle.descriptors.proofs.rows.is_idle.Goals as goal

pub returns-then-is_running : goal.returns-then-is_running
returns-then-is_running c =
    (λ h. absurd (false≢true h), λ e. absurd (both_ways _ (ap (λ (ps : Processes). ps.runs c.loop-pid.pid) e) (sym c.is_running.ensures ∙ c.if-is_running.true)))

pub returns : goal.returns
returns c = (λ _. none_run c.args.rows.now c.loop-pid.pid c.requires c.loop-pid.invariant (omega arith), λ _. refl)
