use Rattle.std.proofs.Common.{◌≡◌, ◌∙◌, sym, subst, arith}
use Rattle.cluster_core.specs.rule.Journals.{JournalFields, journal_of}
use Rattle.cluster_core.specs.rule.Parts.{world_state}
use Rattle.cluster_core.specs.rule.Histories.{HasOneHistory}
use Rattle.cluster_core.specs.rule.Plain.{HasPlainHistory}
use Rattle.cluster_core.specs.rule.Safe.{LeadsToSafe}
use Rattle.cluster_core.specs.rule.Numbers.{LeadsToNumbers}
use Rattle.cluster_core.specs.rule.Evidence.{DenialsHaveEvidence}
use Rattle.cluster_core.specs.rule.World.{first_world}
use Rattle.cluster_core.proofs.common.Lengths.{leads-count}
use Rattle.cluster_core.proofs.runs.Runs.{every_run, every_plain, safe_run, every_denial, no_number}
use Rattle.cluster_core.proofs.run.Run.into_journal.Goals as goal

pub of_run-requires-clause-few : goal.of_run-requires-clause-few
of_run-requires-clause-few c =
    let count = leads-count (first_world c.self.inside.world.shape) (world_state c.self.inside.world) c.self.inside.entries.items c.self.invariant.leads in
    omega (arith, count, c.self.invariant.few)

pub returns-clause-one_table : goal.returns-clause-one_table
returns-clause-one_table c =
    let is : c.of_run.result ≡ journal_of (record { world = c.self.inside.world; entries = c.self.inside.entries.items }) = c.of_run.ensures ∙ (λ i. record { shape = c.shape.ensures i; entries = c.self.inside.entries.items }) in
    let P : JournalFields → Type 0 = λ j. HasOneHistory j.shape j.entries in
    subst P (sym is) (every_run c.self.inside.world.shape c.self.inside.entries.items (world_state c.self.inside.world) c.self.invariant.served c.self.invariant.leads)

pub returns-clause-plain : goal.returns-clause-plain
returns-clause-plain c =
    let is : c.of_run.result ≡ journal_of (record { world = c.self.inside.world; entries = c.self.inside.entries.items }) = c.of_run.ensures ∙ (λ i. record { shape = c.shape.ensures i; entries = c.self.inside.entries.items }) in
    let P : JournalFields → Type 0 = λ j. HasPlainHistory j.shape j.entries in
    subst P (sym is) (every_plain c.self.inside.world.shape c.self.inside.entries.items (world_state c.self.inside.world) c.self.invariant.served c.self.invariant.leads)

pub returns-clause-safe : goal.returns-clause-safe
returns-clause-safe c = safe_run c.self.inside.world.shape c.self.inside.entries.items (world_state c.self.inside.world) c.self.invariant.served c.self.invariant.leads

pub returns-clause-leads_to_safe : goal.returns-clause-leads_to_safe
returns-clause-leads_to_safe c =
    let is : c.of_run.result ≡ journal_of (record { world = c.self.inside.world; entries = c.self.inside.entries.items }) = c.of_run.ensures ∙ (λ i. record { shape = c.shape.ensures i; entries = c.self.inside.entries.items }) in
    let P : JournalFields → Type 0 = λ j. LeadsToSafe j.shape j.entries in
    subst P (sym is) (λ w l. safe_run c.self.inside.world.shape c.self.inside.entries.items w c.self.invariant.served l)

pub returns-clause-numbers : goal.returns-clause-numbers
returns-clause-numbers c =
    let is : c.of_run.result ≡ journal_of (record { world = c.self.inside.world; entries = c.self.inside.entries.items }) = c.of_run.ensures ∙ (λ i. record { shape = c.shape.ensures i; entries = c.self.inside.entries.items }) in
    let P : JournalFields → Type 0 = λ j. LeadsToNumbers j.shape j.entries in
    subst P (sym is) (no_number c.self.inside.world.shape c.self.inside.entries.items c.self.invariant.served)

pub returns-clause-evidence : goal.returns-clause-evidence
returns-clause-evidence c =
    let is : c.of_run.result ≡ journal_of (record { world = c.self.inside.world; entries = c.self.inside.entries.items }) = c.of_run.ensures ∙ (λ i. record { shape = c.shape.ensures i; entries = c.self.inside.entries.items }) in
    let P : JournalFields → Type 0 = λ j. DenialsHaveEvidence j.shape j.entries in
    subst P (sym is) (every_denial c.self.inside.world.shape c.self.inside.entries.items c.self.invariant.served)
