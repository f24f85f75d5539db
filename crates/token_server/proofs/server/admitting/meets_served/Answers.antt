use Rattle.std.specs.Prelude.{◌&&◌}
use Rattle.std.specs.List.{list_any}
use Rattle.std.proofs.Common.{ap, ◌∙◌, rules, tests}
use Rattle.std.proofs.lemmas.Iterator.{YieldsList-from_slice}
use Rattle.std.proofs.lemmas.Iterator.Search.{any_from_yields_List}
use Rattle.intervals.specs.rule.Bytes.{Range}
use Rattle.token_server.specs.declared.token_queue.active_request.ActiveRequest.{ActiveRequest}
use Rattle.token_server.specs.rule.Requests.{meets}
use Rattle.token_server.specs.code.Edits.{keeps}
use Rattle.token_server.proofs.ComesLaws.{meets-served}
use Rattle.token_server.proofs.server.admitting.meets_served.Goals as goal

pub returns : goal.returns
returns c =
    let gone = c.args.gone.now in
    let held = c.args.held.now in
    any_from_yields_List (λ (h : ActiveRequest). meets c.required-span.result h.request.wanted.required && keeps gone.dropped gone.ended h.request) _ _ _ c.any.ensures.ran (YieldsList-from_slice held c.iter.ensures.rest) (λ x b q k. search (rules, tests))
    ∙ ap (λ (s : Range). list_any (λ h. meets s h.request.wanted.required && keeps gone.dropped gone.ended h.request) held) c.required-span.ensures.value
    ∙ meets-served gone held c.args.request.now
