use Rattle.std.proofs.Common.{subst}
use Rattle.cluster_core.specs.rule.Journals.{JournalFields}
use Rattle.replay.specs.rule.Commands.{IsStateTold}
use Rattle.replay.proofs.state.state.Goals as goal

pub returns-in-Ok-clause-done : goal.returns-in-Ok-clause-done
returns-in-Ok-clause-done g c =
    let audited = rw c.in-Run.is at c.in_ok-journal.ensures.audited in
    let told = subst (λ (j : JournalFields). IsStateTold j c.args.at c.in-Ok.shown) audited.2.0 c.in-Ok.ensures in
    (audited.0, audited.1, told, c.checked.ensures.files)
