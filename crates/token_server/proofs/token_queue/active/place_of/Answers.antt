use Rattle.std.specs.Prelude.{◌≡◌, Bool, true, List, slice_get, not, All, Some}
use Rattle.std.proofs.Common.{sym, ap, subst, ◌∙◌}
use Rattle.std.proofs.lemmas.List.{take_all}
use Rattle.std.proofs.lemmas.Option.{slice_get-get_or}
use Rattle.token_server.specs.declared.token_queue.active_request.ActiveRequest.{ActiveRequest}
use Rattle.token_server.specs.rule.Requests.{is_of_call}
use Rattle.token_server.proofs.ActiveLaws.{filter-all, filter-one, kept-next}
use Rattle.token_server.proofs.token_queue.active.place_of.Goals as goal

pub loop-place-preserved : goal.loop-place-preserved
loop-place-preserved c =
    let i = c.loop-place.place in
    let item : ActiveRequest = c.index-held-place.result in
    let keep : ActiveRequest → Bool = λ h. not (is_of_call c.args.call h.request) in
    let there : slice_get c.args.held.now i ≡ Some item = slice_get-get_or c.args.held.now i item c.loop-place-test.true ∙ ap (λ (h : ActiveRequest). Some h) (sym c.index-held-place.is) in
    kept-next keep c.args.held.now i item there (ap not (sym c.is_of_call.ensures ∙ c.if-is_of_call.false)) c.loop-place.invariant

pub returns-clause-none : goal.returns-clause-none
returns-clause-none c = λ none.
    let keep : ActiveRequest → Bool = λ h. not (is_of_call c.args.call h.request) in
    filter-all keep c.args.held.now (subst (λ (hs : List ActiveRequest). All (λ h. keep h ≡ true) hs) (take_all c.loop-place.place c.args.held.now c.loop-place-test.false) c.loop-place.invariant)

pub returns-then-is_of_call-clause-one : goal.returns-then-is_of_call-clause-one
returns-then-is_of_call-clause-one c = λ few.
    let i = c.loop-place.place in
    let item : ActiveRequest = c.index-held-place.result in
    let there : slice_get c.args.held.now i ≡ Some item = slice_get-get_or c.args.held.now i item c.loop-place-test.true ∙ ap (λ (h : ActiveRequest). Some h) (sym c.index-held-place.is) in
    filter-one c.args.call c.args.held.now i item there (sym c.is_of_call.ensures ∙ c.if-is_of_call.true) few
