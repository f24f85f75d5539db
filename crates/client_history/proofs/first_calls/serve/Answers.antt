use Rattle.std.proofs.Common.{◌≡◌, length, refl, sym, ◌∙◌, arith}
use Rattle.std.proofs.lemmas.Bool.{false≢true}
use Rattle.std.proofs.lemmas.Option.{slice_get_read}
use Rattle.lock_table.specs.rule.Tables.{held}
use Rattle.client_history.specs.declared.open_client_call.OpenClientCall.{OpenClientCall}
use Rattle.client_history.specs.code.OpenCalls.{IsServed, IsLeft, IsIn, IsLeftOf}
use Rattle.client_history.proofs.SetLaws.{below_more, below_all, grown_more, in_grown, served_more}
use Rattle.client_history.proofs.first_calls.serve.Goals as goal
use Rattle.client_history.proofs.first_calls.serve.Goals.{then-call-index+then-is_left+in_ok-add_needed, else-call-index, else-call-index-via-then-call-index+else-is_left, else-call-index-via-else-call-index}

pub returns-in_err-add_needed-clause-grown : goal.returns-in_err-add_needed-clause-grown
returns-in_err-add_needed-clause-grown c = grown_more c.args.«open».now c.args.set.now.items c.loop-call.set.items c.add_needed.new.set.items c.loop-call.invariant.grown c.add_needed.ensures.grown

pub loop-call-preserved : goal.loop-call-preserved
loop-call-preserved c =
    let h = held c.args.table.now in
    let running = c.args.«open».now in
    let taken = c.args.taken.now in
    let index = c.args.index in
    let old = c.loop-call.set.items in
    let n = c.loop-call.call-index in
    let it = c.call-item.result in
    let at = slice_get_read running (length running) n it refl c.loop-call-test.true c.call-item.is in
    elim c.if-call-index.branch [
      | then-call-index+then-is_left+in_ok-add_needed w ↦
          let new = w.add_needed.new.set.items in
          let more = w.add_needed.ensures.grown in
          rw w.set-is (record {
            grown = grown_more running c.args.set.now.items old new c.loop-call.invariant.grown more;
            served = λ asked. below_more (λ (one : OpenClientCall). one.index ≡ index → IsLeft one taken → IsServed h (IsLeftOf running taken) (IsIn new) one.call) running n it
                (λ k x lt there same left. served_more h (IsLeftOf running taken) old new x.call (λ i. in_grown running old new i more) (c.loop-call.invariant.served asked k x lt there same left))
                at
                (λ same left. (w.in_ok-add_needed.ensures {u = tt}).served asked n at left);
          })
      | else-call-index w ↦ rw w.set-is (record {
        grown = c.loop-call.invariant.grown;
        served = λ asked. below_more (λ (one : OpenClientCall). one.index ≡ index → IsLeft one taken → IsServed h (IsLeftOf running taken) (IsIn old) one.call) running n it (c.loop-call.invariant.served asked) at
            (λ same left. absurd (elim w.else-call-index.branch [
              | else-call-index-via-then-call-index+else-is_left v ↦ false≢true (sym v.if-is_left.false ∙ v.is_left.ensures.1 left)
              | else-call-index-via-else-call-index v ↦ omega arith
            ]));
      })
    ]

pub returns-clause-served : goal.returns-clause-served
returns-clause-served c = λ asked.
    below_all (λ (one : OpenClientCall). one.index ≡ c.args.index → IsLeft one c.args.taken.now → IsServed (held c.args.table.now) (IsLeftOf c.args.«open».now c.args.taken.now) (IsIn c.loop-call.set.items) one.call) c.args.«open».now c.loop-call.call-index (c.loop-call.invariant.served asked) c.loop-call-test.false
