use Rattle.std.proofs.Common.{◌≤◌, [], length, subst, arith}
use Rattle.messages.specs.rule.Shapes.{ShapeFields}
use Rattle.cluster_core.specs.rule.Parts.{world_state}
use Rattle.cluster_core.specs.rule.World.{journal_limit}
use Rattle.journal_text.proofs.FirstLines.{one_shape}
use Rattle.replay.specs.rule.Audits.{Knows}
use Rattle.replay.proofs.Audits.{verdict}
use Rattle.replay.proofs.audit.audited_in.Goals as goal

pub returns-then-auditor-gt-JOURNAL_LIMIT-clause-fault : goal.returns-then-auditor-gt-JOURNAL_LIMIT-clause-fault
returns-then-auditor-gt-JOURNAL_LIMIT-clause-fault g c = λ other.
    let read = c.in_ok-read_each.ensures.journal in
    let shape = c.in_ok-read_each.field-0 in
    let same = one_shape c.args.text.now c.in_ok-shape.shape shape read.0 c.in_ok-shape.ensures.shape read.1 in
    let first = c.in_ok-auditor.auditor in
    let knows = read.2 (subst (λ (s : ShapeFields). Knows s (world_state first.world) first.taken first.wrong []) same c.in_ok-auditor.ensures) in
    (record { shape = shape; entries = read.0 }, read.1, knows.0.1 c.if-auditor-gt-JOURNAL_LIMIT.true)

pub returns-clause-verdict : goal.returns-clause-verdict
returns-clause-verdict g c =
    let read = c.in_ok-read_each.ensures.journal in
    let shape = c.in_ok-read_each.field-0 in
    let same = one_shape c.args.text.now c.in_ok-shape.shape shape read.0 c.in_ok-shape.ensures.shape read.1 in
    let first = c.in_ok-auditor.auditor in
    let after = c.read_each.new.sink in
    let knows = read.2 (subst (λ (s : ShapeFields). Knows s (world_state first.world) first.taken first.wrong []) same c.in_ok-auditor.ensures) in
    let within : after.taken ≤ journal_limit = omega (arith, c.if-auditor-gt-JOURNAL_LIMIT.false) in
    let few : length read.0 ≤ journal_limit = omega (arith, knows.0.0 within, within) in
    (record { shape = shape; entries = read.0 }, (read.1, few), verdict shape (world_state after.world) after.wrong read.0 few knows.1)
