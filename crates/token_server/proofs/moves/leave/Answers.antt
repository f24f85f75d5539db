use Rattle.std.specs.Prelude.{◌≡◌, ◌+◌, not, List, [], ◌∷◌, ◌++◌, filter}
use Rattle.std.proofs.Common.{sym, ap, ◌∙◌, take}
use Rattle.std.proofs.lemmas.List.{take_more, take_all, map-append}
use Rattle.token_server.specs.declared.token_queue.active_request.ActiveRequest.{ActiveRequest}
use Rattle.token_server.specs.declared.token_queue.token_request.TokenRequest.{TokenRequest}
use Rattle.token_server.specs.rule.Requests.{is_of_call}
use Rattle.token_server.specs.rule.Actives.{requests_of}
use Rattle.token_server.specs.code.Admissions.{all_but}
use Rattle.token_server.proofs.AdmittingLaws.{all_but-none, all_but-push}
use Rattle.token_server.proofs.moves.leave.Goals as goal

pub loop-held-init : goal.loop-held-init
loop-held-init c = sym (all_but-none c.args.queue.now.requests)

pub loop-held-preserved : goal.loop-held-preserved
loop-held-preserved c =
    let i = c.loop-held.held-index in
    let fresh : List ActiveRequest = c.args.fresh.now in
    let rs : List TokenRequest = c.args.queue.now.requests in
    let item : ActiveRequest = c.held-item.result in
    let next : take (i + 1) fresh ≡ take i fresh ++ item ∷ [] = take_more fresh i item c.loop-held-test.true ∙ ap (λ (h : ActiveRequest). take i fresh ++ h ∷ []) (sym c.held-item.is) in
    let one : requests_of (take (i + 1) fresh) ≡ requests_of (take i fresh) ++ item.request ∷ [] = ap requests_of next ∙ map-append (λ (h : ActiveRequest). h.request) (take i fresh) (item ∷ []) in
    c.take_out.ensures.requests
    ∙ ap (λ (xs : List TokenRequest). filter (λ r. not (is_of_call item.request.call r)) xs) c.loop-held.invariant
    ∙ sym (all_but-push (requests_of (take i fresh)) rs item.request)
    ∙ sym (ap (λ (xs : List TokenRequest). all_but xs rs) one)

pub returns : goal.returns
returns c = c.loop-held.invariant ∙ ap (λ (hs : List ActiveRequest). all_but (requests_of hs) c.args.queue.now.requests) (take_all c.loop-held.held-index c.args.fresh.now c.loop-held-test.false)
