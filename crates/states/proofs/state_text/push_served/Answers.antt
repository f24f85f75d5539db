use Rattle.std.proofs.Common.{◌≡◌, ◌∙◌, ◌+◌, ◌++◌, ◌∷◌, [], ℕ, List, ap, append_assoc, flat_map, string_bytes, sym, take}
use Rattle.std.proofs.lemmas.Grind.{flat_map-append}
use Rattle.std.proofs.lemmas.List.{append-nil, take_more}
use Rattle.token_server.specs.declared.token_queue.active_request.ActiveRequest.{ActiveRequest}
use Rattle.states.specs.rule.Texts.{served_line}
use Rattle.states.proofs.state_text.push_served.Goals as goal

pub loop-held-preserved : goal.loop-held-preserved
loop-held-preserved c =
    let i = c.loop-held.held-index in
    let all = c.args.served.now in
    let held = c.held-item.result in
    let line : ActiveRequest → List ℕ = served_line c.args.version c.args.file in
    let old = string_bytes c.args.out.now in
    let so_far = flat_map line (take i all) in
    let more = take_more all i held c.loop-held-test.true ∙ ap (λ (h : ActiveRequest). take i all ++ h ∷ []) (sym c.held-item.is) in
    let lines : flat_map line (take (i + 1) all) ≡ so_far ++ line held = ap (flat_map line) more ∙ (flat_map-append line (take i all) (held ∷ []) ∙ ap (λ (bytes : List ℕ). so_far ++ bytes) (append-nil (line held))) in
    c.in_ok-push_held_request.ensures ∙ (ap (λ (bytes : List ℕ). bytes ++ line held) c.loop-held.invariant ∙ (append_assoc old so_far (line held) ∙ sym (ap (λ (bytes : List ℕ). old ++ bytes) lines)))
