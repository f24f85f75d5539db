use Rattle.std.proofs.Common.{subst}
use Rattle.cluster_core.specs.rule.Journals.{JournalFields}
use Rattle.cluster_core.specs.rule.Safe.{LeadsToSafe}
use Rattle.cluster_core.proofs.runs.Runs.{safe_run}
use Rattle.cluster_core.proofs.journal.Journal.entries.Goals as goal

pub returns-clause-safe : goal.returns-clause-safe
returns-clause-safe c =
    let P : JournalFields → Type 0 = λ j. LeadsToSafe j.shape j.entries in
    subst P c.self.view_is (λ w l. safe_run c.self.inside.shape c.self.inside.entries.items w c.self.invariant.served l)
