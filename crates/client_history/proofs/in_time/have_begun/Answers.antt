use Rattle.std.proofs.Common.{◌≤◌, refl, subst, sym, arith, ⊎_elim}
use Rattle.std.proofs.lemmas.Bool.{false≢true}
use Rattle.client_history.specs.declared.client_call.ClientCall.{ClientCall}
use Rattle.client_history.proofs.Orders.{is_at, is_at_one, at_within, last_place}
use Rattle.client_history.proofs.in_time.have_begun.Goals as goal

pub returns-then-time-call : goal.returns-then-time-call
returns-then-time-call c =
    let calls = c.args.calls.now in
    let order = c.args.order.now in
    let at = is_at calls order c.loop-i.i-index c.index-calls-i.result c.requires c.loop-i-test.true c.index-calls-i.is in
    let late = c.if-time-call.true in
    (λ no. absurd (false≢true no), λ all. let early = all c.loop-i.i-index c.index-calls-i.result at in absurd (omega arith))

pub loop-i-preserved : goal.loop-i-preserved
loop-i-preserved c = λ k call lt at.
    let calls = c.args.calls.now in
    let order = c.args.order.now in
    let i = c.loop-i.i-index in
    let one = c.index-calls-i.result in
    let here = is_at calls order i one c.requires c.loop-i-test.true c.index-calls-i.is in
    let early = c.if-time-call.false in
    ⊎_elim
    (λ below. c.loop-i.invariant k call below at)
    (λ e. subst (λ (other : ClientCall). other.begin ≤ c.args.time) (is_at_one calls order i k one call (sym e) here at) (omega arith))
    (last_place k i lt)

pub returns : goal.returns
returns c = (λ yes k call at. let within = at_within c.args.calls.now c.args.order.now k call at in let past = c.loop-i-test.false in c.loop-i.invariant k call (omega arith) at, λ all. refl)
