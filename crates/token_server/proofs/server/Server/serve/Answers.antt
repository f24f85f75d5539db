use Rattle.std.specs.Prelude.{◌≡◌, ℕ, ◌≤◌, List, length}
use Rattle.std.proofs.Common.{sym, ap, subst, ◌∙◌}
use Rattle.token_server.specs.declared.change.ServerEdit.{ServerEdit}
use Rattle.token_server.specs.declared.token_queue.active_request.ActiveRequest.{ActiveRequest}
use Rattle.token_server.specs.code.Edits.{AreDistinct, without, sketched, IsDrafted, IsServed, PartsFit, HasRoom, HeldHasRoom, many_moved, many_put_off}
use Rattle.token_server.specs.rule.Parts.{ServerParts}
use Rattle.token_server.proofs.ReadyLaws.{moved-new, distinct-queue, distinct-waiting, many-fewer, room-fewer}
use Rattle.token_server.proofs.server.Server.serve.Goals as goal

pub returns-clause-fits : goal.returns-clause-fits
returns-clause-fits c =
    let p = c.args.self.now in
    let k = c.args.sketch.now in
    let d : ServerEdit = c.in_ok-draft.draft.value in
    let so : IsDrafted p k d = c.in_ok-draft.ensures in
    let served = subst (λ (x : ServerEdit). IsServed p k x c.in_ok-given.given.items c.in_ok-given.commands) c.deref.ensures c.in_ok-given.ensures.ok in
    let waiting = without d.gone.dropped p.waiting.requests in
    let fresh : c.as_slice.result.now ≡ d.fresh.items = c.as_slice.ensures.value ∙ ap (λ (x : ServerEdit). x.fresh.items) c.deref-2.ensures in
    let many : c.many.result ≡ many_moved d.moved p.waiting.requests = c.many.ensures ∙ (λ i. many_moved (c.deref-3.ensures i).moved (c.self.view_is i).waiting.requests) in
    let put_off : c.put_off.result ≡ many_put_off d.moved = c.put_off.ensures ∙ ap (λ (x : ServerEdit). many_put_off x.moved) c.deref-4.ensures in
    let complete = λ (x : ServerEdit). let y : ServerEdit = record x { given = c.in_ok-given.given; active_spare = c.in_ok-active_spare.active_spare; queue_spare = c.in_ok-queue_spare.queue_spare; waiting_spare = c.in_ok-waiting_spare.waiting_spare } in y in
    subst (PartsFit p) (sym (c.complete.ensures ∙ ap complete c.deref_mut.ensures.value)) (record {
      new = moved-new d.moved (without d.gone.dropped p.queue.requests) waiting (subst AreDistinct (sym so.listed.queued) (distinct-queue (sketched p k) so.orderly)) (subst AreDistinct (sym so.listed.put_off) (distinct-waiting (sketched p k) so.orderly));
      served = subst (λ (hs : List ActiveRequest). HeldHasRoom p.active c.in_ok-active_spare.active_spare (length hs)) fresh (subst (λ (q : ServerParts). HeldHasRoom q.active c.in_ok-active_spare.active_spare (length c.as_slice.result.now)) c.self.view_is c.in_ok-active_spare.ensures);
      queued =
          room-fewer p.queue c.in_ok-queue_spare.queue_spare c.many.result (many_moved d.moved waiting)
          (subst (λ (n : ℕ). many_moved d.moved waiting ≤ n) (sym many) (many-fewer d.moved d.gone.dropped p.waiting.requests))
          (subst (λ (q : ServerParts). HasRoom q.queue c.in_ok-queue_spare.queue_spare c.many.result) c.self.view_is c.in_ok-queue_spare.ensures);
      put_off = subst (λ (n : ℕ). HasRoom p.waiting c.in_ok-waiting_spare.waiting_spare n) put_off (subst (λ (q : ServerParts). HasRoom q.waiting c.in_ok-waiting_spare.waiting_spare c.put_off.result) c.self.view_is c.in_ok-waiting_spare.ensures);
      awaited = served.awaited;
      ready = served.ready;
    })
