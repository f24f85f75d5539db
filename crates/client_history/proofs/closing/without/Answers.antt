use Rattle.std.proofs.Common.{length, refl, sym, ◌∙◌}
use Rattle.std.proofs.lemmas.Option.{slice_get_read}
use Rattle.client_history.proofs.ClosingLaws.{without_more, without_same, without_all}
use Rattle.client_history.proofs.Taken.{found, lost}
use Rattle.client_history.proofs.closing.without.Goals as goal
use Rattle.client_history.proofs.closing.without.Goals.{then-not-contains+in_ok-push, else-not-contains}

pub loop-call-preserved : goal.loop-call-preserved
loop-call-preserved c =
    let running = c.args.«open».now in
    let over = c.args.over.now in
    let at = slice_get_read running (length running) c.loop-call.call-index c.call-item.result refl c.loop-call-test.true c.call-item.is in
    let n = c.loop-call.call-index in
    elim c.if-not-contains.branch [
      | then-not-contains+in_ok-push w ↦ rw (w.left-is, (w.in_ok-push.ensures {u = tt}).items) (without_more running over n c.loop-call.left.items c.loop-call.invariant c.call-item.result at (lost c.call-item.result.index over (sym c.contains.ensures.value ∙ w.if-not-contains.true)))
      | else-not-contains w ↦ rw w.left-is (without_same running over n c.loop-call.left.items c.loop-call.invariant c.call-item.result at (found c.call-item.result.index over (sym c.contains.ensures.value ∙ w.if-not-contains.false)))
    ]

pub returns : goal.returns
returns c = without_all c.args.«open».now c.args.over.now c.loop-call.call-index c.loop-call.left.items c.loop-call.invariant c.loop-call-test.false
