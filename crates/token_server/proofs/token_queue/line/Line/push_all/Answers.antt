use Rattle.std.specs.Prelude.{◌≡◌, ◌+◌, ◌∷◌, ◌++◌, [], length, take, drop, find, None}
use Rattle.std.proofs.Common.{ap, subst, sym, ◌∙◌, arith, length-append, append_assoc}
use Rattle.std.proofs.lemmas.List.{get_or_read, length_push}
use Rattle.token_server.specs.rule.Requests.{is_of_call, requests_in, AreOfDistinctCalls}
use Rattle.token_server.proofs.WalkLaws.{requests_in-around, requests_in-full, requests_in-empty}
use Rattle.token_server.proofs.LineLaws.{distinct-before}
use Rattle.token_server.proofs.token_queue.line.Line.push_all.Goals.{in-Some, in_default}
use Rattle.token_server.proofs.token_queue.line.Line.push_all.Goals as goal

pub push-requires-clause-room : goal.push-requires-clause-room
push-requires-clause-room c =
    let slots = c.args.slots.now in
    let place = c.loop-slot.slot-index in
    let r = c.in-Some.request in
    let around = requests_in-around slots place r c.loop-slot-test.true (sym (get_or_read slots place c.slot-item.result c.loop-slot-test.true c.slot-item.is None) ∙ c.in-Some.is) in
    omega (arith, ap length around, length-append (requests_in (take place slots)) (r ∷ requests_in (drop (place + 1) slots)))

pub push-requires-clause-new : goal.push-requires-clause-new
push-requires-clause-new c =
    let slots = c.args.slots.now in
    let place = c.loop-slot.slot-index in
    let r = c.in-Some.request in
    let first = c.args.self.now.requests in
    let before = requests_in (take place slots) in
    let after = requests_in (drop (place + 1) slots) in
    let around = requests_in-around slots place r c.loop-slot-test.true (sym (get_or_read slots place c.slot-item.result c.loop-slot-test.true c.slot-item.is None) ∙ c.in-Some.is) in
    let all : first ++ requests_in slots ≡ (first ++ before) ++ r ∷ after = ap (λ rs. first ++ rs) around ∙ sym (append_assoc first before (r ∷ after)) in
    ap (find (is_of_call r.call)) c.loop-slot.invariant.requests ∙ distinct-before (first ++ before) r after (subst AreOfDistinctCalls all c.requires.distinct)

pub loop-slot-preserved : goal.loop-slot-preserved
loop-slot-preserved c =
    let slots = c.args.slots.now in
    let place = c.loop-slot.slot-index in
    let first = c.args.self.now.requests in
    let before = requests_in (take place slots) in
    elim c.match-slot.branch [
      | in-Some w ↦
          let r = w.in-Some.request in
          let more = requests_in-full slots place c.slot-item.result r c.loop-slot-test.true c.slot-item.is w.in-Some.is in
          rw w.self-is (record {
            requests = w.push.ensures.requests ∙ ap (λ rs. rs ++ r ∷ []) c.loop-slot.invariant.requests ∙ append_assoc first before (r ∷ []) ∙ ap (λ rs. first ++ rs) (sym more);
            room = omega (arith, ap length more, length_push before r, w.push.ensures.room);
          })
      | in_default w ↦
          let more = requests_in-empty slots place c.slot-item.result c.loop-slot-test.true c.slot-item.is w.in_default.is in
          rw w.self-is (record {
            requests = c.loop-slot.invariant.requests ∙ ap (λ rs. first ++ rs) (sym more);
            room = omega (arith, ap length more);
          })
    ]
