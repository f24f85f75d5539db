use Rattle.std.specs.Prelude.{◌≡◌, Bool, ◌||◌, List, [], ◌∷◌, ◌++◌}
use Rattle.std.proofs.Common.{sym, ap, subst, ◌∙◌}
use Rattle.token_server.specs.declared.token_queue.token_request.TokenRequest.{TokenRequest}
use Rattle.token_server.specs.rule.Serve.{meets_some}
use Rattle.token_server.specs.code.Admissions.{IsAdmitted}
use Rattle.token_server.specs.code.Edits.{without, served_on}
use Rattle.token_server.proofs.AdmittingLaws.{or-end, admitted-stays, admitted-goes, distinct-before}
use Rattle.token_server.proofs.ComesLaws.{own-call, without-nil}
use Rattle.token_server.proofs.server.admitting.admit_last.Goals as goal

pub returns-then-must_stay : goal.returns-then-must_stay
returns-then-must_stay c =
    let gone = c.args.gone.now in
    let r = c.args.request.now in
    let active = served_on gone c.args.active.now.held in
    let queue = without gone.dropped c.args.queue.now.requests in
    let test : c.must_stay.result ≡ (meets_some r active || meets_some r queue) =
    c.must_stay.ensures
    ∙ (λ i. meets_some r (served_on gone (c.as_slice.ensures i)) || (meets_some r (without gone.dropped (c.slots.ensures i)) || meets_some r (without-nil gone.dropped i)))
    ∙ ap (λ (b : Bool). meets_some r active || b) (or-end (meets_some r queue)) in
    admitted-stays active queue c.args.fresh.now.items r c.requires.so_far (distinct-before queue [] r c.requires.distinct (own-call r)) (sym test ∙ c.if-must_stay.true)

pub returns : goal.returns
returns c =
    let gone = c.args.gone.now in
    let r = c.args.request.now in
    let active = served_on gone c.args.active.now.held in
    let queue = without gone.dropped c.args.queue.now.requests in
    let test : c.must_stay.result ≡ (meets_some r active || meets_some r queue) =
    c.must_stay.ensures
    ∙ (λ i. meets_some r (served_on gone (c.as_slice.ensures i)) || (meets_some r (without gone.dropped (c.slots.ensures i)) || meets_some r (without-nil gone.dropped i)))
    ∙ ap (λ (b : Bool). meets_some r active || b) (or-end (meets_some r queue)) in
    subst (λ (xs : List TokenRequest). IsAdmitted active (queue ++ r ∷ []) xs) (sym c.in_ok-push.ensures.items)
    (admitted-goes active queue c.args.fresh.now.items r c.requires.so_far (distinct-before queue [] r c.requires.distinct (own-call r)) (sym test ∙ c.if-must_stay.false))
