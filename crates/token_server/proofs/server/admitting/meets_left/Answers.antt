use Rattle.std.specs.Prelude.{[], ◌∷◌, Option}
use Rattle.std.specs.List.{list_any}
use Rattle.std.proofs.Common.{ap, ◌∙◌, rules, tests}
use Rattle.std.proofs.lemmas.Iterator.{YieldsList-from_slice}
use Rattle.std.proofs.lemmas.Iterator.Search.{any_from_yields_List}
use Rattle.intervals.specs.rule.Bytes.{Range}
use Rattle.token_server.specs.declared.token_queue.token_request.TokenRequest.{TokenRequest}
use Rattle.token_server.specs.rule.Requests.{meets}
use Rattle.token_server.specs.code.Edits.{left_in}
use Rattle.token_server.proofs.ComesLaws.{meets-left}
use Rattle.token_server.proofs.server.admitting.meets_left.Goals as goal

pub returns : goal.returns
returns c =
    let gone = c.args.gone.now in
    let slots = c.args.slots.now in
    any_from_yields_List (λ (slot : Option TokenRequest). list_any (λ q. meets c.required-span.result q.wanted.required) (left_in gone (slot ∷ []))) _ _ _ c.any.ensures.ran (YieldsList-from_slice slots c.iter.ensures.rest) (λ x b q k. search (rules, tests))
    ∙ ap (λ (s : Range). list_any (λ slot. list_any (λ q. meets s q.wanted.required) (left_in gone (slot ∷ []))) slots) c.required-span.ensures.value
    ∙ meets-left gone slots c.args.request.now
