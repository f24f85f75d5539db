use Rattle.std.specs.Prelude.{◌++◌, List, length}
use Rattle.std.proofs.Common.{sym, ap, subst, ◌∙◌, arith}
use Rattle.token_server.specs.declared.token_queue.active_request.ActiveRequest.{ActiveRequest}
use Rattle.token_server.specs.declared.token_queue.token_request.TokenRequest.{TokenRequest}
use Rattle.token_server.specs.rule.Actives.{requests_of, waiting_for}
use Rattle.token_server.specs.rule.Parts.{ServerParts}
use Rattle.token_server.specs.code.Admissions.{all_but}
use Rattle.token_server.specs.code.Edits.{AreDistinct, without, queue_moved, waiting_moved, held_still, held_without, IsNewCall, many_moved}
use Rattle.token_server.proofs.ComesLaws.{distinct-first}
use Rattle.token_server.proofs.OrderlyLaws.{distinct-kept}
use Rattle.token_server.proofs.ReadyLaws.{applied, parts-fit, room-none, held_room-none}
use Rattle.token_server.proofs.server.Server.apply.Goals as goal

pub refill-requires : goal.refill-requires
refill-requires c =
    let v = c.into_inner-rows.result in
    let fits = parts-fit _ c.args.self.now c.args.change.edit v c.self.view_is c.into_inner-rows.ensures c.requires in
    held_room-none _ v.active_spare (length v.fresh.items) fits.served

pub end_one-requires : goal.end_one-requires
end_one-requires c =
    let v = c.into_inner-rows.result in
    let ats = c.as_slice.ensures.value in
    subst (λ (hs : List ActiveRequest). AreDistinct (requests_of hs))
    (sym (c.forget.ensures.held ∙ ap (held_without v.gone.dropped) (c.wait_for.ensures.held ∙ (λ i. waiting_for (ats i) (c.refill.ensures.held i)))))
    (distinct-kept v.gone.dropped v.ats.items c.self.inside.active.held (distinct-first (requests_of c.self.inside.active.held) (c.self.inside.queue.requests ++ c.self.inside.waiting.requests) c.self.invariant.ready.orderly.distinct))

pub push_all-requires : goal.push_all-requires
push_all-requires c =
    let v = c.into_inner-rows.result in
    let fits = parts-fit _ c.args.self.now c.args.change.edit v c.self.view_is c.into_inner-rows.ensures c.requires in
    let many = ap (λ (hs : List ActiveRequest). length hs) c.as_slice-fresh.ensures.value in
    let room = c.refill.ensures.room (length v.fresh.items) fits.served in
    let same = c.end_one.ensures.room ∙ c.forget.ensures.room ∙ c.wait_for.ensures.room in
    omega (arith, many, room, same)

pub refill-requires-2 : goal.refill-requires-2
refill-requires-2 c =
    let v = c.into_inner-rows.result in
    let fits = parts-fit _ c.args.self.now c.args.change.edit v c.self.view_is c.into_inner-rows.ensures c.requires in
    room-none _ v.waiting_spare _ fits.put_off

pub refill-requires-3 : goal.refill-requires-3
refill-requires-3 c =
    let v = c.into_inner-rows.result in
    let fits = parts-fit _ c.args.self.now c.args.change.edit v c.self.view_is c.into_inner-rows.ensures c.requires in
    room-none _ v.queue_spare _ fits.queued

pub move_requests-requires-clause-queued : goal.move_requests-requires-clause-queued
move_requests-requires-clause-queued c =
    let v = c.into_inner-rows.result in
    let fits = parts-fit _ c.args.self.now c.args.change.edit v c.self.view_is c.into_inner-rows.ensures c.requires in
    let waiting = c.forget-2.ensures.requests ∙ ap (without v.gone.dropped) c.refill-2.ensures.requests in
    let many = ap (many_moved v.moved) waiting in
    let room = c.refill-3.ensures.room _ fits.queued in
    let same = c.forget-3.ensures.room in
    omega (arith, many, room, same)

pub move_requests-requires-clause-put_off : goal.move_requests-requires-clause-put_off
move_requests-requires-clause-put_off c =
    let v = c.into_inner-rows.result in
    let fits = parts-fit _ c.args.self.now c.args.change.edit v c.self.view_is c.into_inner-rows.ensures c.requires in
    let room = c.refill-2.ensures.room _ fits.put_off in
    let same = c.forget-2.ensures.room in
    omega (arith, room, same)

pub move_requests-requires-clause-new : goal.move_requests-requires-clause-new
move_requests-requires-clause-new c =
    let v = c.into_inner-rows.result in
    let fits = parts-fit _ c.args.self.now c.args.change.edit v c.self.view_is c.into_inner-rows.ensures c.requires in
    let waiting = c.forget-2.ensures.requests ∙ ap (without v.gone.dropped) c.refill-2.ensures.requests in
    let queue = c.forget-3.ensures.requests ∙ ap (without v.gone.dropped) c.refill-3.ensures.requests in
    subst (λ (qs : List TokenRequest). IsNewCall v.moved qs c.forget-2.new.self.requests) (sym queue) (subst (λ (ws : List TokenRequest). IsNewCall v.moved (without v.gone.dropped c.self.inside.queue.requests) ws) (sym waiting) fits.new)

pub invariant_of-self : goal.invariant_of-self
invariant_of-self c =
    let p : ServerParts = record { shape = c.self.inside.shape; file = c.self.inside.file; epoch = c.self.inside.epoch; known_nodes = c.self.inside.known_nodes; active = c.self.inside.active; queue = c.self.inside.queue; waiting = c.self.inside.waiting } in
    let v = c.into_inner-rows.result in
    let fits = parts-fit p c.args.self.now c.args.change.edit v c.self.view_is c.into_inner-rows.ensures c.requires in
    let fresh = c.as_slice-fresh.ensures.value in
    let ats = c.as_slice.ensures.value in
    let before = c.forget.ensures.held ∙ ap (held_without v.gone.dropped) (c.wait_for.ensures.held ∙ (λ i. waiting_for (ats i) (c.refill.ensures.held i))) in
    let held = c.push_all.ensures ∙ (λ i. (c.end_one.ensures.held ∙ ap (held_still v.gone.ended) before) i ++ fresh i) in
    let waiting = c.forget-2.ensures.requests ∙ ap (without v.gone.dropped) c.refill-2.ensures.requests in
    let queue = c.forget-3.ensures.requests ∙ ap (without v.gone.dropped) c.refill-3.ensures.requests in
    let queued = c.leave.ensures ∙ c.move_requests.ensures.queue ∙ (λ i. all_but (requests_of (fresh i)) (queue_moved v.moved (queue i) (waiting i))) in
    applied p c.self.inside.awaits v c.apply.new.self c.push_all.new.self c.leave.new.queue c.move_requests.new.waiting c.self.invariant fits
    c.apply.ensures.rows c.apply.ensures.deaths c.apply.ensures.len
    held queued (c.move_requests.ensures.waiting ∙ ap (waiting_moved v.moved) waiting)
