use Rattle.std.proofs.Common.{ℕ, ◌+◌, refl, subst, sym, ◌∙◌}
use Rattle.std.proofs.lemmas.Bool.{false≢true}
use Rattle.client_history.specs.rule.Explained.{EndsBefore}
use Rattle.client_history.proofs.Orders.{is_at}
use Rattle.client_history.proofs.TimeLaws.{TimesTo, times_late, times_same, times_more, times_all}
use Rattle.client_history.proofs.in_time.are_in_time.Goals as goal
use Rattle.client_history.proofs.in_time.are_in_time.Goals.{then-latest-call, else-latest-call}

pub returns-then-ends_before : goal.returns-then-ends_before
returns-then-ends_before c =
    let calls = c.args.calls.now in
    let order = c.args.order.now in
    let at = is_at calls order c.loop-i.i-index c.index-calls-i.result c.requires c.loop-i-test.true c.index-calls-i.is in
    (λ no. absurd (false≢true no), λ all. absurd (times_late calls order c.loop-i.i-index c.loop-i.latest c.loop-i.invariant c.index-calls-i.result at (c.ends_before.ensures.0 c.if-ends_before.true) all))

pub loop-i-preserved : goal.loop-i-preserved
loop-i-preserved c =
    let calls = c.args.calls.now in
    let order = c.args.order.now in
    let call = c.index-calls-i.result in
    let at = is_at calls order c.loop-i.i-index call c.requires c.loop-i-test.true c.index-calls-i.is in
    let stays : EndsBefore call c.loop-i.latest → ⊥ = λ ends. false≢true (sym c.if-ends_before.false ∙ c.ends_before.ensures.1 ends) in
    elim c.if-latest-call.branch [
      | then-latest-call w ↦ subst (λ (t : ℕ). TimesTo calls order (c.loop-i.i-index + 1) t) (sym w.latest-is) (times_more calls order c.loop-i.i-index c.loop-i.latest c.loop-i.invariant call at stays w.if-latest-call.true)
      | else-latest-call w ↦ subst (λ (t : ℕ). TimesTo calls order (c.loop-i.i-index + 1) t) (sym w.latest-is) (times_same calls order c.loop-i.i-index c.loop-i.latest c.loop-i.invariant call at stays w.if-latest-call.false)
    ]

pub returns : goal.returns
returns c = (λ yes. times_all c.args.calls.now c.args.order.now c.loop-i.i-index c.loop-i.latest c.loop-i.invariant c.loop-i-test.false, λ all. refl)
