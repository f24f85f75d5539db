use Rattle.std.specs.Prelude.{◌≡◌, List, ◌++◌, All}
use Rattle.std.proofs.Common.{refl, sym, ap, subst, ◌∙◌}
use Rattle.intervals.specs.rule.Bytes.{Range}
use Rattle.token_server.specs.declared.token_queue.active_request.ActiveRequest.{ActiveRequest}
use Rattle.token_server.specs.declared.token_queue.token_request.TokenRequest.{TokenRequest}
use Rattle.token_server.specs.rule.Actives.{requests_of}
use Rattle.token_server.specs.declared.change.ServerEdit.{ServerEdit}
use Rattle.token_server.specs.rule.Serve.{narrowed}
use Rattle.token_server.specs.rule.Parts.{ServerParts}
use Rattle.token_server.specs.code.Edits.{without, still_active, cut_all}
use Rattle.token_server.proofs.GrantLaws.{one_span, HasByte, IsLeft, left-all, left-exact}
use Rattle.token_server.proofs.TurnLaws.{held_after-requests}
use Rattle.token_server.proofs.server.Server.narrowed.Goals as goal

pub returns-then-eq-clause-value : goal.returns-then-eq-clause-value
returns-then-eq-clause-value c =
    let wanted = c.args.request.now.wanted in
    let same : wanted.desired ≡ wanted.required = sym c.desired-desired.ensures.value ∙ one_span c.desired-desired.result c.required-required.result _ c.eq.ensures c.if-eq.true ∙ c.required-required.ensures.value in
    c.desired-desired.ensures.value ∙ left-exact _ c.args.request.now (rw (← c.required-required.ensures.value) c.required-required.ensures.ordered) (ap (λ (s : Range). s.lo) same) (ap (λ (s : Range). s.hi) same)

pub cut_by_all-requires-clause-starts_within : goal.cut_by_all-requires-clause-starts_within
cut_by_all-requires-clause-starts_within c = rw c.required-required.ensures.value c.cut_by-span.ensures.starts_before

pub cut_by_all-requires-clause-ends_within : goal.cut_by_all-requires-clause-ends_within
cut_by_all-requires-clause-ends_within c = rw c.required-required.ensures.value c.cut_by-span.ensures.ends_after

pub returns-clause-value : goal.returns-clause-value
returns-clause-value c =
    let r : TokenRequest = c.args.request.now in
    let lists : ServerEdit = c.args.draft.now in
    let held : List ActiveRequest = c.args.self.now.active.held in
    let on : List TokenRequest = still_active lists.gone.ended (without lists.gone.dropped (requests_of held)) in
    let fresh : List TokenRequest = requests_of lists.fresh.items in
    let read : c.as_slice.result.now ≡ held = c.as_slice.ensures ∙ ap (λ (p : ServerParts). p.active.held) c.self.view_is in
    let first : c.cut_by-span.result ≡ narrowed on r = c.cut_by-span.ensures.value ∙ ap (λ (hs : List ActiveRequest). narrowed (still_active lists.gone.ended (without lists.gone.dropped (requests_of hs))) r) read in
    let some : IsLeft on r (narrowed on r) = record {
      order = rw (← c.required-required.ensures.value) c.required-required.ensures.ordered;
      starts = rw (← c.desired-desired.ensures.value) c.desired-desired.ensures.starts_before;
      ends = rw (← c.desired-desired.ensures.value) c.desired-desired.ensures.ends_after;
      value = refl;
    } in
    let all : IsLeft (on ++ fresh) r (cut_all r.wanted.required (narrowed on r) fresh) =
    left-all on fresh r (narrowed on r) (subst (λ (hs : List ActiveRequest). All HasByte (requests_of hs)) c.as_slice-2.ensures.value c.cut_by_all.ensures.ordered) some in
    c.cut_by_all.ensures.value
    ∙ (λ i. cut_all (c.required-required.ensures.value i) (first i) (requests_of (c.as_slice-2.ensures.value i)))
    ∙ all.value
    ∙ ap (λ (rs : List TokenRequest). narrowed rs r) (sym (held_after-requests lists held))
