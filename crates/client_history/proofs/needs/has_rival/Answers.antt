use Rattle.std.proofs.Common.{length, refl, sym, ◌∙◌}
use Rattle.std.proofs.lemmas.Bool.{false≢true}
use Rattle.std.proofs.lemmas.Option.{slice_get_read}
use Rattle.client_history.specs.declared.open_client_call.OpenClientCall.{OpenClientCall}
use Rattle.client_history.proofs.SetLaws.{below_more, IsRival, one_rival, no_rival}
use Rattle.client_history.proofs.needs.has_rival.Goals as goal
use Rattle.client_history.proofs.needs.has_rival.Goals.{else-is_beside-via-then-is_beside+then-changes+else-is_left, else-is_beside-via-then-is_beside+else-changes, else-is_beside-via-else-is_beside}

pub returns-then-is_left : goal.returns-then-is_left
returns-then-is_left c =
    let running = c.args.«open».now in
    let n = c.loop-other.other-index in
    let at = slice_get_read running (length running) n c.other-item.result refl c.loop-other-test.true c.other-item.is in
    let beside = c.is_beside.ensures.0 c.if-is_beside.true in
    (λ yes. one_rival running c.args.taken.now c.args.call.now.index c.args.call.now.call.owner n c.other-item.result at (record { other = beside.0; own = beside.1; changes = c.changes.ensures.changes.0 c.if-changes.true; left = c.is_left.ensures.0 c.if-is_left.true }), λ rival. refl)

pub loop-other-preserved : goal.loop-other-preserved
loop-other-preserved c =
    let running = c.args.«open».now in
    let n = c.loop-other.other-index in
    let at = slice_get_read running (length running) n c.other-item.result refl c.loop-other-test.true c.other-item.is in
    below_more (λ (one : OpenClientCall). IsRival c.args.taken.now c.args.call.now.index c.args.call.now.call.owner one → ⊥) running n c.other-item.result c.loop-other.invariant at
    (λ rival. elim c.else-is_beside.branch [
      | else-is_beside-via-then-is_beside+then-changes+else-is_left w ↦ false≢true (sym w.if-is_left.false ∙ w.is_left.ensures.1 rival.left)
      | else-is_beside-via-then-is_beside+else-changes w ↦ false≢true (sym w.if-changes.false ∙ w.changes.ensures.changes.1 rival.changes)
      | else-is_beside-via-else-is_beside w ↦ false≢true (sym w.if-is_beside.false ∙ c.is_beside.ensures.1 (rival.other, rival.own))
    ])

pub returns : goal.returns
returns c = (
  (λ yes. absurd (false≢true yes)),
  (λ rival. absurd (no_rival c.args.«open».now c.args.taken.now c.args.call.now.index c.args.call.now.call.owner c.loop-other.other-index c.loop-other-test.false c.loop-other.invariant rival)),
)
