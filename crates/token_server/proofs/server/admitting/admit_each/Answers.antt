use Rattle.std.specs.Prelude.{List, ◌++◌, Option}
use Rattle.std.proofs.Common.{sym, ap, subst, ◌∙◌, append-nil, arith}
use Rattle.std.proofs.lemmas.List.{take_all}
use Rattle.token_server.specs.declared.token_queue.token_request.TokenRequest.{TokenRequest}
use Rattle.token_server.specs.code.Admissions.{IsAdmitted}
use Rattle.token_server.specs.code.Edits.{served_on, left_in}
use Rattle.token_server.proofs.ComesLaws.{without-nil}
use Rattle.token_server.proofs.server.admitting.admit_each.Goals as goal

pub loop-place-init : goal.loop-place-init
loop-place-init c =
    let gone = c.args.gone.now in
    let front = left_in gone c.args.front.now in
    subst (λ (xs : List TokenRequest). IsAdmitted (served_on gone c.args.held.now) xs c.args.fresh.now.items) (sym (ap (λ (xs : List TokenRequest). front ++ xs) (without-nil gone.dropped) ∙ append-nil front)) c.requires.so_far

pub returns : goal.returns
returns c =
    let gone = c.args.gone.now in
    subst (λ (slots : List (Option TokenRequest)). IsAdmitted (served_on gone c.args.held.now) (left_in gone c.args.front.now ++ left_in gone slots) c.loop-place.fresh.items) (take_all c.loop-place.place c.args.slots.now (omega (arith, c.loop-place-test.false))) c.loop-place.invariant
