use Rattle.std.specs.Prelude.{◌≡◌, List, Option, map, filter, not, drop}
use Rattle.std.proofs.Common.{ap, subst, sym, ◌∙◌}
use Rattle.token_server.specs.declared.token_queue.token_request.TokenRequest.{TokenRequest}
use Rattle.token_server.specs.rule.Requests.{LineParts, is_of_call, requests_in}
use Rattle.token_server.specs.code.Admissions.{IsFront, unless}
use Rattle.token_server.proofs.PlaceLaws.{requests_in-unless}
use Rattle.token_server.proofs.LineLaws.{rest-unless, IsFront-from}
use Rattle.token_server.proofs.token_queue.line.Line.take_out.Goals as goal

pub invariant_of-self : goal.invariant_of-self
invariant_of-self c =
    let slots = c.self.inside.slots.slots in
    let front = c.self.inside.front in
    let left : c.as_slice.result.now ≡ map (unless (is_of_call c.args.call)) slots = c.as_slice.ensures ∙ c.take_out.ensures.slots in
    let old = subst (λ (s : List (Option TokenRequest)). requests_in (drop front s) ≡ requests_in s) (sym left) (rest-unless (is_of_call c.args.call) slots front c.self.invariant.rest) in
    let walked = c.first_from-self-inside.ensures in
    subst (λ (s : List (Option TokenRequest)). IsFront s c.first_from-self-inside.result) c.as_slice.ensures
    (IsFront-from c.as_slice.result.now front c.first_from-self-inside.result old walked.within walked.rest walked.holds)

pub returns-clause-requests : goal.returns-clause-requests
returns-clause-requests c =
    ap requests_in c.take_out.ensures.slots ∙ requests_in-unless (is_of_call c.args.call) c.self.inside.slots.slots ∙ ap (λ (p : LineParts). filter (λ r. not (is_of_call c.args.call r)) p.requests) c.self.view_is
