use Rattle.std.proofs.Common.{◌≡◌, ◌+◌, false, ⊎_elim, inl, inr, refl, subst, sym, ◌∙◌}
use Rattle.std.proofs.lemmas.Bool.{false≢true}
use Rattle.indexmap.specs.IndexSet.{contains}
use Rattle.model.specs.contracts.owner.OwnerPartialEq.TheImpl as derived
use Rattle.client_history.proofs.Orders.{is_at}
use Rattle.client_history.proofs.ExitLaws.{GoneTo, gone_late, gone_same, gone_more, gone_all}
use Rattle.client_history.proofs.Owners.{eq_exact, put_in, stays_in}
use Rattle.client_history.proofs.exits.exits_are_last.Goals as goal
use Rattle.client_history.proofs.exits.exits_are_last.Goals.{then-call+in_ok-insert, else-call}

pub returns-then-contains : goal.returns-then-contains
returns-then-contains c =
    let calls = c.args.calls.now in
    let order = c.args.order.now in
    let at = is_at calls order c.loop-i.i-index c.index-calls-i.result c.requires c.loop-i-test.true c.index-calls-i.is in
    (λ no. absurd (false≢true no), λ all. absurd (gone_late calls order c.loop-i.i-index (contains derived.ghosts.eq c.loop-i.gone) c.loop-i.invariant c.index-calls-i.result at (sym c.contains.ensures ∙ c.if-contains.true) all))

pub loop-i-preserved : goal.loop-i-preserved
loop-i-preserved c =
    let calls = c.args.calls.now in
    let order = c.args.order.now in
    let k = c.loop-i.i-index in
    let call = c.index-calls-i.result in
    let at = is_at calls order k call c.requires c.loop-i-test.true c.index-calls-i.is in
    let stays : contains derived.ghosts.eq c.loop-i.gone call.owner ≡ false = sym c.contains.ensures ∙ c.if-contains.false in
    elim c.if-call.branch [
      | then-call+in_ok-insert w ↦ let new = (w.in_ok-insert.ensures {u = tt}).updates in
          subst (λ s. GoneTo calls order (k + 1) (contains derived.ghosts.eq s)) (sym w.gone-is) (gone_more calls order k (contains derived.ghosts.eq c.loop-i.gone) c.loop-i.invariant call at stays w.if-call.true (contains derived.ghosts.eq w.insert.new.self)
          (λ q is. ⊎_elim (λ e. inl (eq_exact call.owner q e)) (λ old. inr old) (put_in (derived.ghosts.eq call.owner q) (contains derived.ghosts.eq c.loop-i.gone q) (sym (new.0 q) ∙ is)))
          (λ q is. new.0 q ∙ stays_in (derived.ghosts.eq call.owner q) (contains derived.ghosts.eq c.loop-i.gone q) is)
          new.1)
      | else-call w ↦ subst (λ s. GoneTo calls order (k + 1) (contains derived.ghosts.eq s)) (sym w.gone-is) (gone_same calls order k (contains derived.ghosts.eq c.loop-i.gone) c.loop-i.invariant call at stays w.if-call.false)
    ]

pub returns : goal.returns
returns c = (λ yes. gone_all c.args.calls.now c.args.order.now c.loop-i.i-index (contains derived.ghosts.eq c.loop-i.gone) c.loop-i.invariant c.loop-i-test.false, λ all. refl)
