use Rattle.std.specs.Prelude.{◌≡◌, Bool, slice_get, Some}
use Rattle.std.specs.Bool.{IsTrue}
use Rattle.std.proofs.Common.{sym, ap, subst, ◌∙◌, arith}
use Rattle.std.proofs.lemmas.Option.{slice_get-get_or}
use Rattle.token_server.specs.declared.token_queue.active_request.ActiveRequest.{ActiveRequest}
use Rattle.token_server.specs.declared.token_queue.token_request.TokenRequest.{TokenRequest}
use Rattle.token_server.specs.rule.Actives.{requests_of}
use Rattle.token_server.proofs.ActiveLaws.{same-more, request-at, request-same}
use Rattle.token_server.proofs.token_queue.active.same_requests.Goals as goal

pub returns-then-not-same_request : goal.returns-then-not-same_request
returns-then-not-same_request c =
    let i = c.loop-place.place in
    let x = c.index-one-place.result in
    let y = c.index-other-place.result in
    let here : slice_get c.args.one.now i ≡ Some x = slice_get-get_or c.args.one.now i x c.loop-place-test.true ∙ ap (λ (h : ActiveRequest). Some h) (sym c.index-one-place.is) in
    let there : slice_get c.args.other.now i ≡ Some y = slice_get-get_or c.args.other.now i y (omega (arith, c.if-one-other.false)) ∙ ap (λ (h : ActiveRequest). Some h) (sym c.index-other-place.is) in
    (λ never. absurd (cc), λ same. subst (λ (b : Bool). IsTrue b) c.if-not-same_request.true (c.same_request.ensures.1 (request-same c.args.one.now c.args.other.now i x y here there same)))

pub loop-place-preserved : goal.loop-place-preserved
loop-place-preserved c =
    let i = c.loop-place.place in
    let x = c.index-one-place.result in
    let y = c.index-other-place.result in
    let here : slice_get c.args.one.now i ≡ Some x = slice_get-get_or c.args.one.now i x c.loop-place-test.true ∙ ap (λ (h : ActiveRequest). Some h) (sym c.index-one-place.is) in
    let there : slice_get c.args.other.now i ≡ Some y = slice_get-get_or c.args.other.now i y (omega (arith, c.if-one-other.false)) ∙ ap (λ (h : ActiveRequest). Some h) (sym c.index-other-place.is) in
    let equal : x.request ≡ y.request = c.same_request.ensures.0 c.if-not-same_request.false in
    same-more (requests_of c.args.one.now) (requests_of c.args.other.now) i x.request (request-at c.args.one.now i x here)
    (request-at c.args.other.now i y there ∙ ap (λ (r : TokenRequest). Some r) (sym equal)) c.loop-place.invariant
