use Rattle.std.proofs.Common.{◌≡◌, ◌∙◌, sym, ap, subst, List}
use Rattle.std.proofs.lemmas.Result.{err_from_is_err_and}
use Rattle.messages.specs.rule.Shapes.{ShapeFields}
use Rattle.messages.specs.declared.entry.Entry.{Entry}
use Rattle.cluster_core.specs.rule.Evidence.{DenialsHaveEvidence}
use Rattle.cluster_core.specs.rule.Histories.{HasOneHistory}
use Rattle.cluster_core.specs.rule.Journals.{JournalFields, events_of}
use Rattle.cluster_core.specs.rule.Numbers.{LeadsToNumbers}
use Rattle.cluster_core.specs.rule.Next.{kept_next}
use Rattle.cluster_core.specs.rule.Parts.{world_state}
use Rattle.cluster_core.specs.rule.Plain.{HasPlainHistory}
use Rattle.cluster_core.specs.rule.Runs.{IsRun}
use Rattle.cluster_core.specs.rule.Safe.{LeadsToSafe}
use Rattle.cluster_core.specs.rule.World.{first_world}
use Rattle.cluster_core.proofs.runs.JournalRuns.{Ran, ran_empty, ran_more, ran_all, first_refusal, leads_shape}
use Rattle.cluster_core.proofs.journal.run.Goals as goal

pub loop-event-init : goal.loop-event-init
loop-event-init c =
    let P : List Entry → Type 0 = λ es. Ran c.args.shape c.args.events.now 0 es (world_state c.in_ok-run.run'.world) in
    subst P (sym c.in_ok-run.ensures.entries) (ran_empty c.args.shape c.args.events.now (world_state c.in_ok-run.run'.world) c.in_ok-run.ensures.world)

pub loop-event-preserved : goal.loop-event-preserved
loop-event-preserved c =
    let on = c.in_ok-take.ensures.ok in
    let taken = ap (kept_next (world_state c.loop-event.run.world)) (sym c.in_ok-copy.ensures) ∙ on.1 in
    ran_more _ _ _ _ _ _ _ _ on.0 c.loop-event-test.true c.event-item.is c.loop-event.invariant taken on.2

pub returns-in_err-take-clause-refused : goal.returns-in_err-take-clause-refused
returns-in_err-take-clause-refused c =
    let p = err_from_is_err_and c.from_residual-in_err-take.result c.from_residual-in_err-take.ensures.1 in
    rw (p.1, p.2) (λ other. first_refusal _ _ _ _ _ _ _ c.loop-event-test.true c.event-item.is c.loop-event.invariant (ap (kept_next (world_state c.loop-event.run.world)) (sym c.in_ok-copy.ensures) ∙ c.in_err-take.ensures.err other))

pub returns-clause-shape : goal.returns-clause-shape
returns-clause-shape c =
    let w = world_state c.loop-event.run.world in
    let is : c.into_journal-journal.result.0.shape ≡ c.args.shape = ap (λ (j : JournalFields). j.shape) c.into_journal-journal.ensures.journal ∙ leads_shape (first_world c.args.shape) w c.loop-event.run.entries c.loop-event.invariant.leads in
    is

pub returns-clause-events : goal.returns-clause-events
returns-clause-events c =
    ap (λ (j : JournalFields). events_of j.entries) c.into_journal-journal.ensures.journal ∙ ran_all _ _ _ _ _ c.loop-event-test.false c.loop-event.invariant

pub returns-clause-one_table : goal.returns-clause-one_table
returns-clause-one_table c =
    let w = world_state c.loop-event.run.world in
    let is : c.into_journal-journal.result.0.shape ≡ c.args.shape = ap (λ (j : JournalFields). j.shape) c.into_journal-journal.ensures.journal ∙ leads_shape (first_world c.args.shape) w c.loop-event.run.entries c.loop-event.invariant.leads in
    subst (λ (s : ShapeFields). HasOneHistory s c.into_journal-journal.result.0.entries) is c.into_journal-journal.ensures.one_table

pub returns-clause-plain : goal.returns-clause-plain
returns-clause-plain c =
    let w = world_state c.loop-event.run.world in
    let is : c.into_journal-journal.result.0.shape ≡ c.args.shape = ap (λ (j : JournalFields). j.shape) c.into_journal-journal.ensures.journal ∙ leads_shape (first_world c.args.shape) w c.loop-event.run.entries c.loop-event.invariant.leads in
    subst (λ (s : ShapeFields). HasPlainHistory s c.into_journal-journal.result.0.entries) is c.into_journal-journal.ensures.plain

pub returns-clause-safe : goal.returns-clause-safe
returns-clause-safe c =
    let w = world_state c.loop-event.run.world in
    let is : c.into_journal-journal.result.0.shape ≡ c.args.shape = ap (λ (j : JournalFields). j.shape) c.into_journal-journal.ensures.journal ∙ leads_shape (first_world c.args.shape) w c.loop-event.run.entries c.loop-event.invariant.leads in
    subst (λ (s : ShapeFields). LeadsToSafe s c.into_journal-journal.result.0.entries) is c.into_journal-journal.ensures.leads_to_safe

pub returns-clause-numbers : goal.returns-clause-numbers
returns-clause-numbers c =
    let w = world_state c.loop-event.run.world in
    let is : c.into_journal-journal.result.0.shape ≡ c.args.shape = ap (λ (j : JournalFields). j.shape) c.into_journal-journal.ensures.journal ∙ leads_shape (first_world c.args.shape) w c.loop-event.run.entries c.loop-event.invariant.leads in
    subst (λ (s : ShapeFields). LeadsToNumbers s c.into_journal-journal.result.0.entries) is c.into_journal-journal.ensures.numbers

pub returns-clause-evidence : goal.returns-clause-evidence
returns-clause-evidence c =
    let w = world_state c.loop-event.run.world in
    let is : c.into_journal-journal.result.0.shape ≡ c.args.shape = ap (λ (j : JournalFields). j.shape) c.into_journal-journal.ensures.journal ∙ leads_shape (first_world c.args.shape) w c.loop-event.run.entries c.loop-event.invariant.leads in
    subst (λ (s : ShapeFields). DenialsHaveEvidence s c.into_journal-journal.result.0.entries) is c.into_journal-journal.ensures.evidence

pub returns-clause-run : goal.returns-clause-run
returns-clause-run c =
    let w = world_state c.loop-event.run.world in
    let is : c.into_journal-journal.result.0.shape ≡ c.args.shape = ap (λ (j : JournalFields). j.shape) c.into_journal-journal.ensures.journal ∙ leads_shape (first_world c.args.shape) w c.loop-event.run.entries c.loop-event.invariant.leads in
    subst (λ (s : ShapeFields). IsRun s c.into_journal-journal.result.0.entries) is (world_state c.into_journal-journal.result.1, c.into_journal-journal.ensures.leads)
