use Rattle.std.specs.Prelude.{[], ◌+◌, List, Option, Some}
use Rattle.std.proofs.Common.{sym, subst, arith}
use Rattle.std.proofs.lemmas.List.{take_all}
use Rattle.token_server.specs.declared.token_queue.token_request.TokenRequest.{TokenRequest}
use Rattle.token_server.specs.rule.Requests.{requests_in}
use Rattle.token_server.specs.rule.Actives.{requests_of}
use Rattle.token_server.specs.code.Admissions.{IsAdmitted}
use Rattle.token_server.specs.code.Edits.{still_active}
use Rattle.token_server.proofs.AdmittingLaws.{admitted-none}
use Rattle.token_server.proofs.ComesLaws.{freed-rest}
use Rattle.token_server.proofs.server.admitting.admit_freed.Goals as goal

pub loop-place-init : goal.loop-place-init
loop-place-init c =
    let active = still_active (Some c.args.call) (requests_of c.args.held.now) in
    subst (λ (xs : List TokenRequest). IsAdmitted active [] xs) (sym c.requires.empty) (admitted-none active)

pub returns : goal.returns
returns c =
    subst (λ (slots : List (Option TokenRequest)). IsAdmitted (still_active (Some c.args.call) (requests_of c.args.held.now)) (requests_in slots) c.loop-place.fresh.items) (take_all c.loop-place.place c.args.slots.now (omega (arith, c.loop-place-test.false))) c.loop-place.invariant

pub returns-then-branch : goal.returns-then-branch
returns-then-branch c =
    freed-rest (requests_of c.args.held.now) c.args.slots.now c.args.call c.args.ended.now (c.loop-place.place + 1) c.admit_next.new.fresh.items c.requires.ended (c.in_ok-admit_next.ensures.all c.if-branch.true) c.in_ok-admit_next.ensures.more
