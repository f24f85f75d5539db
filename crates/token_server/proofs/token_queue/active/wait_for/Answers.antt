use Rattle.std.specs.Prelude.{◌≡◌, ◌+◌, ◌≤◌, length, slice_get, slice_set, slice_index_or, Some}
use Rattle.std.proofs.Common.{ℕ, refl, sym, ap, ◌∙◌, inl, inr, arith, take, List}
use Rattle.std.proofs.lemmas.List.{take_all, length-take}
use Rattle.std.proofs.lemmas.Bool.{cases_lt}
use Rattle.std.proofs.lemmas.Option.{slice_get_read}
use Rattle.token_server.specs.declared.token_queue.active_request.ActiveRequest.{ActiveRequest}
use Rattle.token_server.specs.rule.Actives.{waiting_for}
use Rattle.token_server.proofs.ActiveLaws.{waiting_for-more, waiting_for-at, waiting_for-past, waiting_for-length}
use Rattle.token_server.proofs.token_queue.active.wait_for.Goals as goal

pub loop-place-preserved : goal.loop-place-preserved
loop-place-preserved c =
    let i = c.loop-place.place in
    let ats = c.args.ats.now in
    let before : List ActiveRequest = c.args.held.now.items in
    let read : slice_get c.loop-place.held.items i ≡ Some c.index.result.now = slice_get_read c.loop-place.held.items _ i c.index.result.now refl (omega (arith, c.loop-place.invariant.1, c.loop-place-test.true, c.min-place-end.ensures, c.len.ensures)) c.index.ensures in
    let short : length (take i ats) ≤ i = omega (arith, length-take i ats) in
    let there : slice_get before i ≡ Some c.index.result.now = sym (waiting_for-at (take i ats) before i short) ∙ ap (λ (hs : List ActiveRequest). slice_get hs i) (sym c.loop-place.invariant.0) ∙ read in
    let next = waiting_for-more ats before i 0 c.index.result.now (omega (arith, c.loop-place-test.true, c.min-place-end.ensures)) (omega (arith, c.loop-place-test.true, c.min-place-end.ensures, c.len.ensures)) there in
    let made = ap (λ (hs : List ActiveRequest). slice_set hs i (record { request = c.index.result.now.request; at = slice_index_or ats i 0 })) c.loop-place.invariant.0 ∙ sym next in
    (made, ap (λ (hs : List ActiveRequest). length hs) made ∙ waiting_for-length (take (i + 1) ats) before, c.loop-place.invariant.2)

pub returns-clause-items : goal.returns-clause-items
returns-clause-items c =
    c.loop-place.invariant.0
    ∙ elim (cases_lt c.loop-place.place (length c.args.ats.now)) [
      | inl few ↦ waiting_for-past c.args.ats.now c.args.held.now.items c.loop-place.place (omega (arith, c.loop-place-test.false, c.min-place-end.ensures, c.len.ensures))
      | inr all ↦ ap (λ (xs : List ℕ). waiting_for xs c.args.held.now.items) (take_all c.loop-place.place c.args.ats.now all)
    ]
