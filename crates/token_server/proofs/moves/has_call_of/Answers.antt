use Rattle.std.proofs.Common.{◌∙◌, rules, tests}
use Rattle.std.proofs.lemmas.Iterator.{YieldsList-from_slice}
use Rattle.std.proofs.lemmas.Iterator.Search.{any_from_yields_List}
use Rattle.token_server.specs.declared.token_queue.active_request.ActiveRequest.{ActiveRequest}
use Rattle.token_server.specs.rule.Requests.{is_of_call}
use Rattle.token_server.proofs.ActiveLaws.{any-held}
use Rattle.token_server.proofs.moves.has_call_of.Goals as goal

pub returns : goal.returns
returns c =
    let call = c.args.request.now.call in
    any_from_yields_List (λ (h : ActiveRequest). is_of_call call h.request) _ _ _ c.any.ensures.ran (YieldsList-from_slice c.args.fresh.now c.iter.ensures.rest) (λ x b q k. search (rules, tests))
    ∙ any-held call c.args.fresh.now
