use Rattle.std.proofs.Common.{◌≡◌, ◌∙◌, ℕ, All, ap, arith, get_or, inl, inr, map, refl, subst, sym}
use Rattle.std.proofs.lemmas.Bool.{cases_lt}
use Rattle.std.proofs.lemmas.Option.{get_or_from_slice_get, slice_get_read}
use Rattle.node_core.specs.declared.open_call.OpenCall.{OpenCall}
use Rattle.cluster_core.specs.rule.Parts.{world_state}
use Rattle.states.specs.declared.open_call.OpenState.{OpenState}
use Rattle.states.specs.rule.States.{IsOpenState}
use Rattle.replay.proofs.OnThreads.{IsExcused, all_excused}
use Rattle.replay.proofs.threads.is_none_stuck.Goals as goal

abbrev asked_of : OpenState → OpenCall
asked_of o = o.asked

pub is_stuck-requires : goal.is_stuck-requires
is_stuck-requires c =
    let told = c.deref-told-items.result.now in
    let i = c.loop-told.told-index in
    let o = c.told-item.result in
    let IsTold = IsOpenState (world_state c.args.world.now) in
    let at : get_or told i o ≡ o = get_or_from_slice_get told i o o (slice_get_read told _ i o refl c.loop-told-test.true c.told-item.is) in
    subst IsTold at (subst (All IsTold) (sym c.deref-told-items.ensures.value) c.in_ok-states.ensures.states i o c.loop-told-test.true)

pub loop-told-preserved : goal.loop-told-preserved
loop-told-preserved c = λ k d lt. elim (cases_lt k c.loop-told.told-index) [
  | inl early ↦ c.loop-told.invariant k d early
  | inr ge ↦
      let told = c.deref-told-items.result.now in
      let i = c.loop-told.told-index in
      let o = c.told-item.result in
      let here : k ≡ i = omega (arith, lt, ge) in
      let at : get_or told k d ≡ o = ap (λ (j : ℕ). get_or told j d) here ∙ get_or_from_slice_get told i o d (slice_get_read told _ i o refl c.loop-told-test.true c.told-item.is) in
      subst (IsExcused (world_state c.args.world.now)) (sym at) (c.is_stuck.ensures c.if-is_stuck.false)
]

pub returns : goal.returns
returns c = λ yes.
    let told = c.deref-told-items.result.now in
    let past = c.loop-told-test.false in
    all_excused (world_state c.args.world.now) told c.requires (ap (map asked_of) c.deref-told-items.ensures.value ∙ c.in_ok-states.ensures.calls) (λ k d lt. c.loop-told.invariant k d (omega (arith, lt, past)))
