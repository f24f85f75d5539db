use Rattle.std.proofs.Common.{◌≡◌, ℕ, ◌<◌, ◌≤◌, [], length, refl, subst, arith}
use Rattle.std.proofs.lemmas.Option.{slice_get_read}
use Rattle.lock_table.specs.rule.Tables.{held}
use Rattle.client_history.specs.declared.open_client_call.OpenClientCall.{OpenClientCall}
use Rattle.client_history.specs.code.OpenCalls.{IsIn}
use Rattle.client_history.proofs.SetLaws.{below_more, below_all, grown_more, in_grown, IsServedAt, served_at_more, closed_all, none_of, none_once, few, old_at}
use Rattle.client_history.proofs.first_calls.closed_set.Goals as goal
use Rattle.client_history.proofs.first_calls.closed_set.Goals.{then-call-end+in_ok-add, else-call-end}

pub loop-call-preserved : goal.loop-call-preserved
loop-call-preserved c =
    let running = c.args.«open».now in
    let end = c.args.end in
    let old = c.loop-call.set.items in
    let n = c.loop-call.call-index in
    let it = c.call-item.result in
    let at = slice_get_read running (length running) n it refl c.loop-call-test.true c.call-item.is in
    elim c.if-call-end.branch [
      | then-call-end+in_ok-add w ↦
          let new = w.add.new.set.items in
          let more = w.add.ensures.grown running n at in
          rw w.set-is (record {
            grown = grown_more running [] old new c.loop-call.invariant.grown more;
            has = below_more (λ (one : OpenClientCall). one.index ≡ end → IsIn new one.index) running n it
                (λ k x lt there same. in_grown running old new x.index more (c.loop-call.invariant.has k x lt there same))
                at
                (λ same. (w.in_ok-add.ensures {u = tt}).there);
          })
      | else-call-end w ↦ rw w.set-is (record {
        grown = c.loop-call.invariant.grown;
        has = below_more (λ (one : OpenClientCall). one.index ≡ end → IsIn old one.index) running n it c.loop-call.invariant.has at (λ same. absurd (omega arith));
      })
    ]

pub loop-place-init : goal.loop-place-init
loop-place-init c = record {
  grown = c.loop-call.invariant.grown;
  has_end = λ call l. subst (λ (i : ℕ). IsIn c.loop-call.set.items i) l.3
      (below_all (λ (one : OpenClientCall). one.index ≡ c.args.end → IsIn c.loop-call.set.items one.index) c.args.«open».now c.loop-call.call-index c.loop-call.invariant.has c.loop-call-test.false l.0 l.1 l.2 l.3);
  served = λ asked k one lt. absurd (omega arith);
}

pub loop-place-smaller : goal.loop-place-smaller
loop-place-smaller c =
    let running = c.args.«open».now in
    let set = c.loop-place.set.items in
    let grown = c.loop-place.invariant.grown in
    let less : length set ≤ length running = few set running (grown.members (none_of running)) (grown.once none_once) in
    omega arith

pub loop-place-preserved : goal.loop-place-preserved
loop-place-preserved c =
    let h = held c.args.table.now in
    let running = c.args.«open».now in
    let taken = c.args.taken.now in
    let old = c.loop-place.set.items in
    let new = c.serve.new.set.items in
    let place = c.loop-place.place in
    let it = c.index.result.now in
    let more = c.serve.ensures.grown in
    let within : place < length old = omega arith in
    let at = slice_get_read old (length old) place it refl within c.index.ensures in
    record {
      grown = grown_more running [] old new c.loop-place.invariant.grown more;
      has_end = λ call left. in_grown running old new c.args.end more (c.loop-place.invariant.has_end call left);
      served = λ asked. below_more (λ (one : OpenClientCall). IsServedAt h running taken new one.index) new place it
          (λ k x lt there.
          let was = old_at running old new k x place more it at lt there in
          served_at_more h running taken old new x.index more (c.loop-place.invariant.served asked k x lt was))
          (more.kept place it at)
          ((c.in_ok-serve.ensures {u = tt}).served asked);
    }

pub returns : goal.returns
returns c =
    let running = c.args.«open».now in
    let set = c.loop-place.set.items in
    record {
      has_end = c.loop-place.invariant.has_end;
      closed = λ asked. closed_all (held c.args.table.now) running c.args.taken.now set
          (below_all (λ (one : OpenClientCall). IsServedAt (held c.args.table.now) running c.args.taken.now set one.index) set c.loop-place.place (c.loop-place.invariant.served asked) (omega arith));
      members = c.loop-place.invariant.grown.members (none_of running);
    }
