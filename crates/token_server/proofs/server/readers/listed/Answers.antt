use Rattle.std.specs.Prelude.{List, [], ◌∷◌, ◌++◌}
use Rattle.std.proofs.Common.{sym, ap, ◌∙◌}
use Rattle.token_server.specs.declared.token_queue.token_request.TokenRequest.{TokenRequest}
use Rattle.token_server.proofs.WalkLaws.{requests_in-full, requests_in-empty}
use Rattle.token_server.proofs.server.readers.listed.Goals.{in-Some+in_ok-push, in_default}
use Rattle.token_server.proofs.server.readers.listed.Goals as goal

pub loop-slot-preserved : goal.loop-slot-preserved
loop-slot-preserved c =
    let slots = c.args.slots.now in
    let place = c.loop-slot.slot-index in
    elim c.match-slot.branch [
      | in-Some+in_ok-push w ↦
          let r = w.in-Some.request in
          let more = requests_in-full slots place c.slot-item.result r c.loop-slot-test.true c.slot-item.is w.in-Some.is in
          rw w.requests-is (w.in_ok-push.ensures.items ∙ ap (λ (rs : List TokenRequest). rs ++ r ∷ []) c.loop-slot.invariant ∙ sym more)
      | in_default w ↦
          let more = requests_in-empty slots place c.slot-item.result c.loop-slot-test.true c.slot-item.is w.in_default.is in
          rw w.requests-is (c.loop-slot.invariant ∙ sym more)
    ]
