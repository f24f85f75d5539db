use Rattle.std.specs.Prelude.{◌∷◌, ◌++◌, [], List, Option, Some}
use Rattle.std.proofs.Common.{ap, subst, sym, ◌∙◌}
use Rattle.token_server.specs.declared.token_queue.token_request.TokenRequest.{TokenRequest}
use Rattle.token_server.specs.rule.Requests.{LineParts, requests_in}
use Rattle.token_server.specs.code.Admissions.{IsFront}
use Rattle.token_server.proofs.PlaceLaws.{requests_in-append}
use Rattle.token_server.proofs.LineLaws.{IsFront-push}
use Rattle.token_server.proofs.token_queue.line.Line.push.Goals as goal

pub invariant_of-self : goal.invariant_of-self
invariant_of-self c =
    subst (λ (slots : List (Option TokenRequest)). IsFront slots c.self.inside.front) (sym c.push.ensures.slots) (IsFront-push c.self.inside.slots.slots c.self.inside.front c.args.request c.self.invariant)

pub returns-clause-requests : goal.returns-clause-requests
returns-clause-requests c =
    ap requests_in c.push.ensures.slots ∙ requests_in-append c.self.inside.slots.slots (Some c.args.request ∷ []) ∙ ap (λ (p : LineParts). p.requests ++ c.args.request ∷ []) c.self.view_is
