use Rattle.std.proofs.Common.{length, refl, sym, ◌∙◌}
use Rattle.std.proofs.lemmas.Bool.{false≢true}
use Rattle.std.proofs.lemmas.Option.{slice_get_read}
use Rattle.client_history.proofs.ClosingLaws.{over_more, over_same, over_all}
use Rattle.client_history.proofs.closing.over_of.Goals as goal
use Rattle.client_history.proofs.closing.over_of.Goals.{then-is_over_with+in_ok-push, else-is_over_with}

pub loop-call-preserved : goal.loop-call-preserved
loop-call-preserved c =
    let running = c.args.«open».now in
    let at = slice_get_read running (length running) c.loop-call.call-index c.call-item.result refl c.loop-call-test.true c.call-item.is in
    let n = c.loop-call.call-index in
    elim c.if-is_over_with.branch [
      | then-is_over_with+in_ok-push w ↦ rw (w.over-is, (w.in_ok-push.ensures {u = tt}).items) (over_more running c.args.end n c.loop-call.over.items c.loop-call.invariant c.call-item.result at (c.is_over_with.ensures.0 w.if-is_over_with.true))
      | else-is_over_with w ↦ rw w.over-is (over_same running c.args.end n c.loop-call.over.items c.loop-call.invariant c.call-item.result at (λ is. false≢true (sym w.if-is_over_with.false ∙ c.is_over_with.ensures.1 is)))
    ]

pub returns : goal.returns
returns c = over_all c.args.«open».now c.args.end c.loop-call.call-index c.loop-call.over.items c.loop-call.invariant c.loop-call-test.false
