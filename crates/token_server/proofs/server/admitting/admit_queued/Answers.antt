use Rattle.std.specs.Prelude.{◌≡◌, ℕ, false, not, List, [], ◌++◌, filter, is_some, Option, Some, None}
use Rattle.std.proofs.Common.{refl, sym, ap, subst, ◌∙◌}
use Rattle.model.specs.declared.call.CallId.{CallId}
use Rattle.token_server.specs.declared.token_queue.active_request.ActiveRequest.{ActiveRequest}
use Rattle.token_server.specs.declared.token_queue.token_request.TokenRequest.{TokenRequest}
use Rattle.token_server.specs.rule.Requests.{is_of_call, requests_in}
use Rattle.token_server.specs.rule.Actives.{requests_of}
use Rattle.token_server.proofs.LineLaws.{filter-none}
use Rattle.token_server.specs.code.Admissions.{IsAdmitted}
use Rattle.token_server.specs.code.Edits.{AreDistinct, without, still_active, HasEnded}
use Rattle.token_server.proofs.AdmittingLaws.{admitted-settled}
use Rattle.token_server.proofs.ComesLaws.{without-nil, stays-all}
use Rattle.token_server.proofs.server.admitting.admit_queued.Goals as goal

none-is : (o : Option (ℕ × ℕ)) → is_some o ≡ false → o ≡ None
none-is None h = refl
none-is (Some d) h = absurd (cc)

-- the admission where none is dropped
settled : (dropped : Option (ℕ × ℕ)) (ended : Option CallId) (active queue fresh : List TokenRequest) → dropped ≡ None → still_active ended active ≡ active → fresh ≡ [] → IsAdmitted active queue [] → IsAdmitted (still_active ended (without dropped active)) (without dropped queue) fresh
settled dropped ended active queue fresh none same empty admitted =
    subst (λ (d : Option (ℕ × ℕ)). IsAdmitted (still_active ended (without d active)) (without d queue) fresh) (sym none)
    (subst (λ (xs : List TokenRequest). IsAdmitted xs queue fresh) (sym same) (subst (λ (xs : List TokenRequest). IsAdmitted active queue xs) (sym empty) admitted))

pub admit_each-requires-clause-distinct : goal.admit_each-requires-clause-distinct
admit_each-requires-clause-distinct c =
    let dropped = c.args.gone.now.dropped in
    subst AreDistinct (sym (λ i. without-nil dropped i ++ without dropped (c.slots.ensures i))) c.requires.queued

pub returns-in_default : goal.returns-in_default
returns-in_default c =
    let g = c.args.gone.now in
    let active = requests_of c.args.active.now.held in
    let queue = c.args.queue.now.requests in
    let none : g.dropped ≡ None = none-is g.dropped (sym c.is_some.ensures ∙ c.if-is_some.false) in
    settled g.dropped g.ended active queue c.args.fresh.now.items none (ap (λ (o : Option CallId). still_active o active) c.in_default.is) c.requires.empty (admitted-settled active queue (stays-all active [] queue (c.requires.settled c.if-not-settled.false)))

pub returns-in_default-find : goal.returns-in_default-find
returns-in_default-find c =
    let g = c.args.gone.now in
    let active = requests_of c.args.active.now.held in
    let queue = c.args.queue.now.requests in
    let none : g.dropped ≡ None = none-is g.dropped (sym c.is_some.ensures ∙ c.if-is_some.false) in
    let same : filter (λ r. not (is_of_call c.in-Some.call r)) active ≡ active = filter-none c.in-Some.call active (sym c.find.ensures ∙ c.in_default-find.is) in
    settled g.dropped g.ended active queue c.args.fresh.now.items none (ap (λ (o : Option CallId). still_active o active) c.in-Some.is ∙ same) c.requires.empty (admitted-settled active queue (stays-all active [] queue (c.requires.settled c.if-not-settled.false)))

pub admit_freed-requires-clause-ended : goal.admit_freed-requires-clause-ended
admit_freed-requires-clause-ended c =
    let g = c.args.gone.now in
    let active = requests_of c.args.active.now.held in
    let queue = c.args.queue.now.requests in
    let call : CallId = c.in-Some.call in
    let ended : TokenRequest = c.in-Some-find.ended in
    let none : g.dropped ≡ None = none-is g.dropped (sym c.is_some.ensures ∙ c.if-is_some.false) in
    let distinct : AreDistinct queue = subst (λ (d : Option (ℕ × ℕ)). AreDistinct (without d queue)) none c.requires.queued in
    let has : HasEnded active queue call ended = record { few = c.requires.served call; found = sym c.find.ensures ∙ c.in-Some-find.is; settled = c.requires.settled c.if-not-settled.false; distinct = distinct } in
    subst (λ (held : List ActiveRequest). HasEnded (requests_of held) (requests_in c.slots-2.result.now) call ended) (sym c.as_slice-2.ensures)
    (subst (λ (rs : List TokenRequest). HasEnded active rs call ended) (sym c.slots-2.ensures) has)
