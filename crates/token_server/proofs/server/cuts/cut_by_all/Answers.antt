use Rattle.std.specs.Prelude.{◌≡◌, ◌≤◌, ◌+◌, List, [], ◌∷◌, ◌++◌}
use Rattle.std.proofs.Common.{sym, ap, subst, ◌∙◌, take}
use Rattle.std.proofs.lemmas.List.{take_more, take_all, map-append}
use Rattle.intervals.specs.rule.Bytes.{Range}
use Rattle.token_server.specs.declared.token_queue.active_request.ActiveRequest.{ActiveRequest}
use Rattle.token_server.specs.declared.token_queue.token_request.TokenRequest.{TokenRequest}
use Rattle.token_server.specs.rule.Actives.{requests_of}
use Rattle.token_server.specs.code.Edits.{cut}
use Rattle.token_server.proofs.GrantLaws.{AreCut, cut-start, cut-more}
use Rattle.token_server.proofs.server.cuts.cut_by_all.Goals as goal

pub loop-other-init : goal.loop-other-init
loop-other-init c = cut-start c.args.required c.args.within c.requires.starts_within c.requires.ends_within

pub cut-span-requires-clause-starts_within : goal.cut-span-requires-clause-starts_within
cut-span-requires-clause-starts_within c = c.loop-other.invariant.starts

pub cut-span-requires-clause-ends_within : goal.cut-span-requires-clause-ends_within
cut-span-requires-clause-ends_within c = c.loop-other.invariant.ends

pub loop-other-preserved : goal.loop-other-preserved
loop-other-preserved c =
    let i = c.loop-other.other-index in
    let held : List ActiveRequest = c.args.held.now in
    let item : ActiveRequest = c.other-item.result in
    let q : TokenRequest = item.request in
    let next : take (i + 1) held ≡ take i held ++ item ∷ [] = take_more held i item c.loop-other-test.true ∙ ap (λ (h : ActiveRequest). take i held ++ h ∷ []) (sym c.other-item.is) in
    let more : requests_of (take (i + 1) held) ≡ requests_of (take i held) ++ q ∷ [] = ap requests_of next ∙ map-append (λ (h : ActiveRequest). h.request) (take i held) (item ∷ []) in
    let made : c.cut-span.result ≡ cut c.args.required c.loop-other.span q.wanted.required = c.cut-span.ensures ∙ ap (λ (s : Range). cut c.args.required c.loop-other.span s) c.required.ensures.value in
    let full : q.wanted.required.lo ≤ q.wanted.required.hi = rw (← c.required.ensures.value) c.required.ensures.ordered in
    subst (λ (rs : List TokenRequest). AreCut c.args.required c.args.within rs c.cut-span.result) (sym more)
    (subst (λ (s : Range). AreCut c.args.required c.args.within (requests_of (take i held) ++ q ∷ []) s) (sym made) (cut-more c.args.required c.args.within (requests_of (take i held)) c.loop-other.span q full c.loop-other.invariant))

pub returns-clause-value : goal.returns-clause-value
returns-clause-value c =
    let all : AreCut c.args.required c.args.within (requests_of c.args.held.now) c.loop-other.span = subst (λ (hs : List ActiveRequest). AreCut c.args.required c.args.within (requests_of hs) c.loop-other.span) (take_all c.loop-other.other-index c.args.held.now c.loop-other-test.false) c.loop-other.invariant in
    all.value

pub returns-clause-ordered : goal.returns-clause-ordered
returns-clause-ordered c =
    let all : AreCut c.args.required c.args.within (requests_of c.args.held.now) c.loop-other.span = subst (λ (hs : List ActiveRequest). AreCut c.args.required c.args.within (requests_of hs) c.loop-other.span) (take_all c.loop-other.other-index c.args.held.now c.loop-other-test.false) c.loop-other.invariant in
    all.full

pub returns-clause-starts_before : goal.returns-clause-starts_before
returns-clause-starts_before c = c.loop-other.invariant.starts

pub returns-clause-ends_after : goal.returns-clause-ends_after
returns-clause-ends_after c = c.loop-other.invariant.ends
