use Rattle.std.proofs.Common.{◌≡◌, ◌∙◌, sym, ap, subst}
use Rattle.messages.specs.rule.Shapes.{ShapeFields}
use Rattle.cluster_core.specs.rule.Histories.{HasOneHistory}
use Rattle.cluster_core.specs.rule.Journals.{JournalFields, RunFields}
use Rattle.cluster_core.specs.rule.Parts.{world_state}
use Rattle.cluster_core.specs.rule.Runs.{Leads}
use Rattle.cluster_core.specs.rule.Safe.{IsSafe}
use Rattle.cluster_core.specs.rule.World.{first_world}
use Rattle.cluster_core.proofs.runs.JournalRuns.{leads_shape}
use Rattle.player.specs.code.Rounds.{PlayerParts, PlayedParts, progress, state_of}
use Rattle.player.specs.rule.Progress.{PlayedState, played_of}
use Rattle.player.proofs.player.Player.finish.Goals as goal

pub new-requires : goal.new-requires
new-requires c = record { leads = c.into_journal-journal.ensures.leads; safe = c.into_journal-journal.ensures.safe }

pub returns-clause-value : goal.returns-clause-value
returns-clause-value c =
    let r : RunFields = c.self.inside.run in
    let P : PlayerParts → Type 0 = λ p. Leads (first_world c.args.shape) p.run.entries (world_state p.run.world) in
    let shape : r.world.shape ≡ c.args.shape = leads_shape (first_world c.args.shape) (world_state r.world) r.entries (subst P (sym c.self.view_is) c.requires) in
    let journal : c.into_journal-journal.result.0 ≡ record { shape = c.args.shape; entries = r.entries } = c.into_journal-journal.ensures.journal ∙ (λ i. record { shape = shape i; entries = r.entries }) in
    ap (λ (p : PlayedParts). state_of p) c.new.ensures
    ∙ ((λ i. let s : PlayedState = record { journal = journal i; world = world_state (c.into_journal-journal.ensures.world i); refused = c.self.inside.refused.items } in s)
    ∙ ap (λ (p : PlayerParts). played_of c.args.shape (progress p)) c.self.view_is)

pub returns-clause-history : goal.returns-clause-history
returns-clause-history c =
    let r : RunFields = c.self.inside.run in
    let P : PlayerParts → Type 0 = λ p. Leads (first_world c.args.shape) p.run.entries (world_state p.run.world) in
    let shape : r.world.shape ≡ c.args.shape = leads_shape (first_world c.args.shape) (world_state r.world) r.entries (subst P (sym c.self.view_is) c.requires) in
    let its : c.into_journal-journal.result.0.shape ≡ c.args.shape = ap (λ (j : JournalFields). j.shape) c.into_journal-journal.ensures.journal ∙ shape in
    let Q : PlayedParts → Type 0 = λ p. HasOneHistory c.args.shape p.journal.entries in
    subst Q (sym c.new.ensures) (subst (λ (x : ShapeFields). HasOneHistory x c.into_journal-journal.result.0.entries) its c.into_journal-journal.ensures.one_table)

pub returns-clause-safe : goal.returns-clause-safe
returns-clause-safe c =
    let Q : PlayedParts → Type 0 = λ p. IsSafe (world_state p.world) in
    subst Q (sym c.new.ensures) c.into_journal-journal.ensures.safe
