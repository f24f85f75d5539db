use Rattle.std.proofs.Common.{length, refl, sym, ◌∙◌}
use Rattle.std.proofs.lemmas.Bool.{false≢true}
use Rattle.std.proofs.lemmas.Option.{slice_get_read}
use Rattle.lock_table.specs.rule.Tables.{held}
use Rattle.client_history.specs.declared.open_client_call.OpenClientCall.{OpenClientCall}
use Rattle.client_history.specs.code.OpenCalls.{IsNeeded, IsLeft, IsIn, IsLeftOf}
use Rattle.client_history.proofs.SetLaws.{below_more, below_all, grown_more, in_grown, served_by}
use Rattle.client_history.proofs.first_calls.add_needed.Goals as goal
use Rattle.client_history.proofs.first_calls.add_needed.Goals.{then-needs+then-is_left+in_ok-add, else-needs, else-needs-via-then-needs+else-is_left, else-needs-via-else-needs}

pub returns-in_err-add-clause-grown : goal.returns-in_err-add-clause-grown
returns-in_err-add-clause-grown c =
    let running = c.args.«open».now in
    let n = c.loop-other.other-index in
    let at = slice_get_read running (length running) n c.other-item.result refl c.loop-other-test.true c.other-item.is in
    grown_more running c.args.set.now.items c.loop-other.set.items c.add.new.set.items c.loop-other.invariant.grown (c.add.ensures.grown running n at)

pub loop-other-preserved : goal.loop-other-preserved
loop-other-preserved c =
    let running = c.args.«open».now in
    let taken = c.args.taken.now in
    let call = c.args.call.now.call in
    let kept = c.in_ok-kept.kept in
    let old = c.loop-other.set.items in
    let n = c.loop-other.other-index in
    let it = c.other-item.result in
    let at = slice_get_read running (length running) n it refl c.loop-other-test.true c.other-item.is in
    elim c.if-needs.branch [
      | then-needs+then-is_left+in_ok-add w ↦
          let new = w.add.new.set.items in
          let more = w.add.ensures.grown running n at in
          rw w.set-is (record {
            grown = grown_more running c.args.set.now.items old new c.loop-other.invariant.grown more;
            all = below_more (λ (one : OpenClientCall). IsLeft one taken → IsNeeded (IsLeftOf running taken) call kept one.index one.call → IsIn new one.index) running n it
                (λ k x lt there left needed. in_grown running old new x.index more (c.loop-other.invariant.all k x lt there left needed))
                at
                (λ left needed. (w.in_ok-add.ensures {u = tt}).there);
          })
      | else-needs w ↦ rw w.set-is (record {
        grown = c.loop-other.invariant.grown;
        all = below_more (λ (one : OpenClientCall). IsLeft one taken → IsNeeded (IsLeftOf running taken) call kept one.index one.call → IsIn old one.index) running n it c.loop-other.invariant.all at
            (λ left needed. absurd (elim w.else-needs.branch [
              | else-needs-via-then-needs+else-is_left v ↦ false≢true (sym v.if-is_left.false ∙ v.is_left.ensures.1 left)
              | else-needs-via-else-needs v ↦ false≢true (sym v.if-needs.false ∙ c.needs.ensures.1 needed)
            ]));
      })
    ]

pub returns-clause-served : goal.returns-clause-served
returns-clause-served c = λ asked k there left.
    let running = c.args.«open».now in
    let taken = c.args.taken.now in
    let call = c.args.call.now.call in
    let kept = c.in_ok-kept.kept in
    let set = c.loop-other.set.items in
    served_by (held c.args.table.now) running taken set call kept (c.in_ok-kept.ensures {u = tt}) (c.is_denied.ensures.no c.if-is_denied.false)
    (below_all (λ (one : OpenClientCall). IsLeft one taken → IsNeeded (IsLeftOf running taken) call kept one.index one.call → IsIn set one.index) running c.loop-other.other-index c.loop-other.invariant.all c.loop-other-test.false)
