use Rattle.std.proofs.Common.{◌≡◌, ◌∙◌, ◌+◌, ◌++◌, ◌∷◌, [], List, All, ap, append_assoc, drop, map, subst, sym}
use Rattle.std.proofs.lemmas.List.{append-nil, drop_all, map-append}
use Rattle.std.proofs.lemmas.List.Elements.{All-nil, All-push}
use Rattle.cluster_core.specs.rule.Parts.{world_state}
use Rattle.cluster_core.proofs.common.Places.{drop_read}
use Rattle.lock_table.specs.rule.Tables.{IsBefore}
use Rattle.model.specs.declared.lock_info.LockInfo.{LockInfo}
use Rattle.node_core.specs.declared.open_call.OpenCall.{OpenCall}
use Rattle.cluster_core.specs.declared.held_lock.HeldLock.{HeldLock}
use Rattle.cluster_core.specs.rule.Listings.{Lists}
use Rattle.states.specs.declared.open_call.OpenState.{OpenState}
use Rattle.states.specs.code.Blockers.{blocking_of}
use Rattle.states.specs.rule.States.{IsBlocker, IsOpenState}
use Rattle.states.proofs.Blocking.{lists_blockers}
use Rattle.states.proofs.open_call.open_states.Goals as goal

abbrev asked_of : OpenState → OpenCall
asked_of o = o.asked

pub loop-asked-init : goal.loop-asked-init
loop-asked-init c =
    let none = c.new-states.ensures.items in
    record {
      calls = ap (λ (ss : List OpenState). map asked_of ss ++ c.deref-asked-items.result.now) none;
      states = subst (All (IsOpenState (world_state c.args.world.now))) (sym none) (All-nil (IsOpenState (world_state c.args.world.now)));
    }

pub loop-asked-preserved : goal.loop-asked-preserved
loop-asked-preserved c =
    let w = world_state c.args.world.now in
    let l = c.loop-asked in
    let i = l.asked-index in
    let calls = c.deref-asked-items.result.now in
    let o = c.in_ok-state.state in
    let rest = drop (i + 1) calls in
    let old = map asked_of l.states.items in
    let asked = c.asked-item.result in
    let P : OpenCall × List LockInfo → Type 0 = λ p. Lists (IsBlocker w p.0) IsBefore p.1 in
    let are = c.in_ok-state.ensures.locks ∙ ap (λ (hs : List HeldLock). blocking_of asked hs) c.as_slice.ensures.value in
    let told : IsOpenState w o = subst P (λ k. (sym c.in_ok-state.ensures.asked k, sym are k)) (lists_blockers w asked c.in_ok-locks.locks.items c.in_ok-locks.ensures) in
    let is : c.push.new.self.items ≡ l.states.items ++ o ∷ [] = c.in_ok-push.ensures.items in
    record {
      calls =
          ap (λ (ss : List OpenState). map asked_of ss ++ rest) is
          ∙ ap (λ (ks : List OpenCall). ks ++ rest) (map-append asked_of l.states.items (o ∷ []) ∙ ap (λ (k : OpenCall). old ++ k ∷ []) c.in_ok-state.ensures.asked)
          ∙ append_assoc old (c.asked-item.result ∷ []) rest
          ∙ ap (λ (ks : List OpenCall). old ++ ks) (sym (drop_read calls i c.asked-item.result c.loop-asked-test.true c.asked-item.is))
          ∙ l.invariant.calls;
      states = subst (All (IsOpenState w)) (sym is) (All-push (IsOpenState w) l.states.items o l.invariant.states told);
    }

pub returns-clause-calls : goal.returns-clause-calls
returns-clause-calls c =
    let l = c.loop-asked in
    let calls = c.deref-asked-items.result.now in
    sym (append-nil (map asked_of l.states.items))
    ∙ ap (λ (ks : List OpenCall). map asked_of l.states.items ++ ks) (sym (drop_all l.asked-index calls c.loop-asked-test.false))
    ∙ l.invariant.calls
    ∙ c.deref-asked-items.ensures.value
    ∙ c.in_ok-calls.ensures
