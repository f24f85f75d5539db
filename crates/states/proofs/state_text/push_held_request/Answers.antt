use Rattle.std.proofs.Common.{◌∙◌, ◌++◌, ℕ, List, ap, append_assoc, string_bytes}
use Rattle.std.proofs.lemmas.Result.{on_ok_weaker}
use Rattle.states.specs.rule.Texts.{request_line, serves_text, waits_text}
use Rattle.states.proofs.state_text.push_held_request.Goals as goal

pub returns : goal.returns
returns c =
    let old = string_bytes c.args.out.now in
    let serves = serves_text c.args.file in
    let waits = waits_text c.args.held.now.at in
    let line = request_line c.args.version c.args.file c.args.held.now.request in
    let front = c.in_ok-push_waits.ensures ∙ ap (λ (bytes : List ℕ). bytes ++ waits) c.in_ok-push_serves.ensures in
    on_ok_weaker c.push_request.result (λ is. is ∙ (ap (λ (bytes : List ℕ). bytes ++ line) front ∙ (append_assoc (old ++ serves) waits line ∙ append_assoc old serves (waits ++ line)))) c.push_request.ensures
