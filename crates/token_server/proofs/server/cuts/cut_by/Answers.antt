use Rattle.std.specs.Prelude.{◌≡◌, ◌+◌, List, [], ◌∷◌, ◌++◌}
use Rattle.std.proofs.Common.{sym, ap, subst, ◌∙◌, take, drop}
use Rattle.std.proofs.lemmas.List.{take_more, take_all}
use Rattle.intervals.specs.rule.Bytes.{Range}
use Rattle.token_server.specs.declared.token_queue.active_request.ActiveRequest.{ActiveRequest}
use Rattle.token_server.specs.declared.token_queue.token_request.TokenRequest.{TokenRequest}
use Rattle.token_server.specs.rule.Actives.{requests_of}
use Rattle.token_server.specs.declared.change.ServerEdit.{ServerEdit}
use Rattle.token_server.specs.rule.Serve.{narrowed}
use Rattle.token_server.specs.code.Edits.{cut, kept}
use Rattle.token_server.proofs.GrantLaws.{one_span, IsLeft, left-start, left-bounds, left-least}
use Rattle.token_server.proofs.TurnLaws.{kept-requests, kept-parts, left-next}
use Rattle.token_server.proofs.server.cuts.cut_by.Goals as goal

pub loop-other-init : goal.loop-other-init
loop-other-init c =
    let r : TokenRequest = c.args.request.now in
    subst (λ (s : Range). IsLeft [] r s) (sym c.desired-span.ensures.value)
    (left-start r (rw (← c.required-required.ensures.value) c.required-required.ensures.ordered) (rw (← c.desired-span.ensures.value) c.desired-span.ensures.starts_before) (rw (← c.desired-span.ensures.value) c.desired-span.ensures.ends_after))

pub cut_by_one-span-requires-clause-starts_within : goal.cut_by_one-span-requires-clause-starts_within
cut_by_one-span-requires-clause-starts_within c = rw c.required-required.ensures.value (left-bounds _ c.args.request.now c.loop-other.span c.loop-other.invariant).0

pub cut_by_one-span-requires-clause-ends_within : goal.cut_by_one-span-requires-clause-ends_within
cut_by_one-span-requires-clause-ends_within c = rw c.required-required.ensures.value (left-bounds _ c.args.request.now c.loop-other.span c.loop-other.invariant).1

pub loop-other-preserved : goal.loop-other-preserved
loop-other-preserved c =
    let i = c.loop-other.other-index in
    let held : List ActiveRequest = c.args.held.now in
    let lists : ServerEdit = c.args.draft.now in
    let item : ActiveRequest = c.other-item.result in
    let next : take (i + 1) held ≡ take i held ++ item ∷ [] = take_more held i item c.loop-other-test.true ∙ ap (λ (h : ActiveRequest). take i held ++ h ∷ []) (sym c.other-item.is) in
    let e = c.cut_by_one-span.ensures in
    left-next lists (take i held) (take (i + 1) held) item c.args.request.now c.loop-other.span c.cut_by_one-span.result next e.ordered
    (λ on. e.kept on ∙ ap (λ (q : Range). cut q c.loop-other.span item.request.wanted.required) c.required-required.ensures.value) e.gone c.loop-other.invariant

pub returns-then-eq-clause-value : goal.returns-then-eq-clause-value
returns-then-eq-clause-value c =
    let i = c.loop-other.other-index in
    let held : List ActiveRequest = c.args.held.now in
    let lists : ServerEdit = c.args.draft.now in
    let r : TokenRequest = c.args.request.now in
    left-least (requests_of (kept lists (take i held))) (requests_of (kept lists (drop i held))) r c.loop-other.span c.loop-other.invariant (one_span c.loop-other.span c.required-required.result _ c.eq.ensures c.if-eq.true ∙ c.required-required.ensures.value)
    ∙ ap (λ (rs : List TokenRequest). narrowed rs r) (sym (kept-parts lists held i))

pub returns-then-eq-clause-starts_before : goal.returns-then-eq-clause-starts_before
returns-then-eq-clause-starts_before c = (left-bounds _ c.args.request.now c.loop-other.span c.loop-other.invariant).0

pub returns-then-eq-clause-ends_after : goal.returns-then-eq-clause-ends_after
returns-then-eq-clause-ends_after c = (left-bounds _ c.args.request.now c.loop-other.span c.loop-other.invariant).1

pub returns-clause-value : goal.returns-clause-value
returns-clause-value c =
    let held : List ActiveRequest = c.args.held.now in
    let lists : ServerEdit = c.args.draft.now in
    let r : TokenRequest = c.args.request.now in
    c.loop-other.invariant.value
    ∙ ap (λ (hs : List ActiveRequest). narrowed (requests_of (kept lists hs)) r) (take_all c.loop-other.other-index held c.loop-other-test.false)
    ∙ ap (λ (rs : List TokenRequest). narrowed rs r) (kept-requests lists held)

pub returns-clause-starts_before : goal.returns-clause-starts_before
returns-clause-starts_before c = (left-bounds _ c.args.request.now c.loop-other.span c.loop-other.invariant).0

pub returns-clause-ends_after : goal.returns-clause-ends_after
returns-clause-ends_after c = (left-bounds _ c.args.request.now c.loop-other.span c.loop-other.invariant).1
