use Rattle.std.proofs.Common.{◌≡◌, ◌≢◌, ℕ, List, ◌∷◌, ◌++◌, rules}
use Rattle.model.specs.declared.host.Host.{Host}
use Rattle.messages.specs.rule.Shapes.{IsRebuilt}
use Rattle.texts.specs.rule.Layout.{space}
use Rattle.message_text.specs.rule.Texts.{holder_text, IsHolder, epoch_text}
use Rattle.message_text.specs.code.Reports.{IsRunsText}
use Rattle.message_text.proofs.MessageKinds.{no_epoch, no_holder, no_runs}
use Rattle.message_text.proofs.message.report_of.Goals as goal

pub returns-in_default-first_field : goal.returns-in_default-first_field
returns-in_default-first_field g c =
    let first = c.in-Some in
    let none : (number : ℕ) (rest : List ℕ) → IsRebuilt number → first.about.now ≢ epoch_text number ++ space ∷ rest = search rules in
    rw first.ensures.1 (no_epoch g.V.Edition.version first.file first.ensures.0 first.about.now none)

pub returns-in_default-first_field-2 : goal.returns-in_default-first_field-2
returns-in_default-first_field-2 g c =
    let first = c.in-Some in
    let second = c.in-Some-first_field in
    let parts : first.about.now ≡ epoch_text second.number ++ space ∷ second.held.now = search rules in
    let none : (holder : Host) (rest : List ℕ) → IsHolder holder → second.held.now ≢ holder_text holder ++ space ∷ rest = search rules in
    rw (first.ensures.1, parts) (no_holder g.V.Edition.version first.file first.ensures.0 second.number second.ensures.0 second.held.now none)

pub returns-then-not-are_runs : goal.returns-then-not-are_runs
returns-then-not-are_runs g c =
    let first = c.in-Some in
    let second = c.in-Some-first_field in
    let third = c.in-Some-first_field-2 in
    let parts : first.about.now ≡ epoch_text second.number ++ space ∷ second.held.now = search rules in
    let more : second.held.now ≡ holder_text third.holder ++ space ∷ third.runs.now = search rules in
    let none : IsRunsText third.runs.now → ⊥ = search rules in
    rw (first.ensures.1, parts, more)
    (no_runs g.V.Edition.version first.file first.ensures.0 second.number second.ensures.0 third.holder third.runs.now third.ensures.0 none)
