use Rattle.std.specs.Prelude.{◌≡◌, ◌+◌, ◌≤◌, List, true, false, All, length, slice_get, Some}
use Rattle.std.proofs.Common.{ap, subst, ◌∙◌, drop, arith}
use Rattle.std.proofs.lemmas.List.{take_all}
use Rattle.token_server.specs.declared.token_queue.active_request.ActiveRequest.{ActiveRequest}
use Rattle.token_server.specs.rule.Actives.{requests_of}
use Rattle.token_server.specs.code.Admissions.{may_turn}
use Rattle.token_server.specs.rule.Obstacles.{are_apart}
use Rattle.token_server.specs.rule.RowParts.{rows_of}
use Rattle.token_server.specs.rule.Parts.{ServerParts}
use Rattle.token_server.proofs.AwaitLaws.{rest-more, rest-none, rest-apart}
use Rattle.token_server.proofs.TurnLaws.{read-place}
use Rattle.token_server.proofs.server.Server.freed_up_to.Goals.{then-may_be_freed+else-takes_all, else-may_be_freed}
use Rattle.token_server.proofs.server.Server.freed_up_to.Goals as goal

pub loop-place-preserved : goal.loop-place-preserved
loop-place-preserved c =
    let i = c.loop-place.place in
    let held : List ActiveRequest = c.args.self.now.active.held in
    let item : ActiveRequest = c.index-active-place.result in
    let P : ActiveRequest → Type 0 = λ h. may_turn c.args.changed.now (rows_of c.args.self.now.known_nodes c.args.changed.now.node) h ≡ false in
    let read : c.as_slice-active.result.now ≡ held = c.as_slice-active.ensures ∙ ap (λ (p : ServerParts). p.active.held) c.self.view_is in
    let many : length c.as_slice-active.result.now ≡ length held = ap (λ (hs : List ActiveRequest). length hs) read in
    let there : slice_get held i ≡ Some item = read-place c.as_slice-active.result.now held i item read c.loop-place-test.true c.index-active-place.is in
    elim c.if-may_be_freed.branch [
      | then-may_be_freed+else-takes_all w ↦ rw w.many-is (omega arith, omega (arith, many, c.loop-place-test.true), rest-none P held (i + 1))
      | else-may_be_freed w ↦
          rw w.many-is (omega (arith, c.loop-place.invariant.0), c.loop-place.invariant.1, rest-more P held c.loop-place.many i item c.loop-place.invariant.0 there (c.may_be_freed.ensures w.if-may_be_freed.false (rows_of c.args.self.now.known_nodes c.args.changed.now.node)) c.loop-place.invariant.2)
    ]

pub returns-then-takes_all-clause-within : goal.returns-then-takes_all-clause-within
returns-then-takes_all-clause-within c =
    let many : length c.as_slice-active.result.now ≡ length c.args.self.now.active.held = ap (λ (hs : List ActiveRequest). length hs) (c.as_slice-active.ensures ∙ ap (λ (p : ServerParts). p.active.held) c.self.view_is) in
    omega (arith, many, c.loop-place-test.true)

pub returns-then-takes_all-clause-rest : goal.returns-then-takes_all-clause-rest
returns-then-takes_all-clause-rest c =
    let i = c.loop-place.place in
    let held : List ActiveRequest = c.args.self.now.active.held in
    let item : ActiveRequest = c.index-active-place.result in
    let row = rows_of c.args.self.now.known_nodes c.args.changed.now.node in
    let read : c.as_slice-active.result.now ≡ held = c.as_slice-active.ensures ∙ ap (λ (p : ServerParts). p.active.held) c.self.view_is in
    let there : slice_get held i ≡ Some item = read-place c.as_slice-active.result.now held i item read c.loop-place-test.true c.index-active-place.is in
    let apart : are_apart (requests_of held) ≡ true = subst (λ (p : ServerParts). are_apart (requests_of p.active.held) ≡ true) c.self.view_is c.self.invariant.ready.apart in
    rest-apart c.args.changed.now row held i item there apart (c.takes_all.ensures c.if-takes_all.true row)

pub returns-clause-rest : goal.returns-clause-rest
returns-clause-rest c =
    let held : List ActiveRequest = c.args.self.now.active.held in
    let P : ActiveRequest → Type 0 = λ h. may_turn c.args.changed.now (rows_of c.args.self.now.known_nodes c.args.changed.now.node) h ≡ false in
    let many : length c.as_slice-active.result.now ≡ length held = ap (λ (xs : List ActiveRequest). length xs) (c.as_slice-active.ensures ∙ ap (λ (p : ServerParts). p.active.held) c.self.view_is) in
    let past : length held ≤ c.loop-place.place = omega (arith, c.loop-place-test.false, many) in
    subst (λ (xs : List ActiveRequest). All P (drop c.loop-place.many xs)) (take_all c.loop-place.place held past) c.loop-place.invariant.2
