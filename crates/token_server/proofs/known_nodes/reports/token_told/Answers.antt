use Rattle.std.specs.Prelude.{◌≡◌, ℕ, suc, ◌+◌, ◌<◌, ◌≤◌, true, List, [], ◌∷◌, ◌++◌, All, length, take}
use Rattle.std.proofs.Common.{sym, ap, subst, ◌∙◌, drop, drop-cons}
use Rattle.std.proofs.lemmas.List.{take_more, take-append-drop}
use Rattle.std.proofs.lemmas.List.Elements.{All-push}
use Rattle.intervals.specs.rule.Bytes.{Range}
use Rattle.token_set.specs.rule.Tokens.{raised, token_of}
use Rattle.messages.specs.declared.token_run.TokenRun.{TokenRun}
use Rattle.messages.specs.rule.TokenRuns.{are_longest}
use Rattle.messages.specs.rule.Messages.{reported}
use Rattle.token_server.proofs.KnownNodeLaws.{HasByte, reported-more}
use Rattle.token_server.proofs.known_nodes.reports.token_told.Goals as goal

pub loop-place-preserved : goal.loop-place-preserved
loop-place-preserved c =
    let runs : List TokenRun = c.as_slice-runs.result.now in
    let k : ℕ = c.loop-place.place in
    let r : TokenRun = c.index-runs-place.result in
    let front : List TokenRun = take k runs in
    let rest : List TokenRun = drop (suc k) runs in
    let within : k < length runs = c.loop-place-test.true in
    let next : drop k runs ≡ r ∷ rest = drop-cons runs k r within ∙ (λ i. sym c.index-runs-place.is i ∷ rest) in
    let whole : runs ≡ front ++ r ∷ rest = sym (take-append-drop k runs) ∙ (λ i. front ++ next i) in
    let more : take (k + 1) runs ≡ front ++ r ∷ [] = take_more runs k r within ∙ (λ i. front ++ sym c.index-runs-place.is i ∷ []) in
    let longest : are_longest (front ++ r ∷ rest) ≡ true = ap are_longest (sym whole) ∙ (ap are_longest c.as_slice-runs.ensures.value ∙ c.as_slice-runs.ensures.longest) in
    let order : r.span.lo ≤ r.span.hi = subst (λ (s : Range). s.lo ≤ s.hi) c.span.view_is c.span.invariant.0 in
    let token : token_of c.grant.new.self ≡ reported (front ++ r ∷ []) =
    c.in_ok-grant.ensures.ok
    ∙ (λ i. raised (c.loop-place.invariant.0 i) r.span (c.mode_of.ensures i))
    ∙ reported-more front r rest longest c.loop-place.invariant.1 in
    (token ∙ ap reported (sym more), subst (All HasByte) (sym more) (All-push HasByte front r c.loop-place.invariant.1 order))
