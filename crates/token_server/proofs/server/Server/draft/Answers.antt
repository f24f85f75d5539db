use Rattle.std.specs.Prelude.{◌≡◌, ℕ, List, [], ◌∷◌, Option}
use Rattle.std.proofs.Common.{refl, sym, ap, subst, ◌∙◌}
use Rattle.std.proofs.lemmas.List.Elements.{All-append}
use Rattle.intervals.specs.rule.Search.{some_passes}
use Rattle.token_server.specs.declared.token_queue.token_request.TokenRequest.{TokenRequest}
use Rattle.token_server.specs.declared.token_queue.active_request.ActiveRequest.{ActiveRequest}
use Rattle.token_server.specs.rule.Actives.{requests_of, waiting_for}
use Rattle.token_server.specs.rule.Rows.{Row, is_awaited}
use Rattle.token_server.specs.rule.RowParts.{rows_of, deaths_of}
use Rattle.token_server.specs.rule.Parts.{ServerParts, server_state}
use Rattle.token_server.specs.rule.State.{awaits}
use Rattle.token_server.specs.code.Admissions.{IsAdmitted}
use Rattle.token_server.specs.rule.Obstacles.{obstacle}
use Rattle.token_server.specs.code.Edits.{AreDistinct, IsReady, without, still_active, queue_moved, waiting_moved, sketched, reached, IsDrafted}
use Rattle.token_server.specs.code.Rows.{rows_after, deaths_after, rows_overlaid, deaths_overlaid}
use Rattle.token_server.proofs.AskedLaws.{none-after}
use Rattle.token_server.proofs.ReadyLaws.{distinct-queue, kept-all}
use Rattle.token_server.proofs.server.Server.draft.Goals as goal

none-of : (held : List ActiveRequest) → requests_of held ≡ [] → held ≡ []
none-of [] is = refl
none-of (h ∷ held) is = absurd (cc)

pub awaits_after-awaits-requires : goal.awaits_after-awaits-requires
awaits_after-awaits-requires c = λ none.
    let p = c.args.self.now in
    let changed = c.args.sketch.now.changed in
    let rows = subst (λ (x : ServerParts). rows_overlaid x.known_nodes c.in_ok-rows.rows ≡ rows_after changed (rows_of x.known_nodes)) c.self.view_is c.in_ok-rows.ensures.rows in
    ap (λ (f : ℕ → Option Row). some_passes (λ n. is_awaited (f n)) 1 p.shape.nodes) rows ∙ none-after changed (rows_of p.known_nodes) p.shape.nodes none

pub admit-requires : goal.admit-requires
admit-requires c =
    let k = c.args.sketch.now in
    let e = c.newly_dead-dropped.ensures in
    subst AreDistinct (λ i. queue_moved k.moved (sym e.queue i) (sym e.waiting i)) (distinct-queue (sketched c.args.self.now k) c.requires.orderly)

pub awaited-requires-clause-rows : goal.awaited-requires-clause-rows
awaited-requires-clause-rows c =
    let changed = c.args.sketch.now.changed in
    subst (λ (x : ServerParts). rows_overlaid x.known_nodes c.in_ok-rows.rows ≡ rows_after changed (rows_of x.known_nodes)) c.self.view_is c.in_ok-rows.ensures.rows

pub returns : goal.returns
returns c =
    let k = c.args.sketch.now in
    let p = c.args.self.now in
    let e = c.newly_dead-dropped.ensures in
    let d = c.newly_dead-dropped.result in
    let rows = subst (λ (x : ServerParts). rows_overlaid x.known_nodes c.in_ok-rows.rows ≡ rows_after k.changed (rows_of x.known_nodes)) c.self.view_is c.in_ok-rows.ensures.rows in
    let served : still_active k.ended (without d (requests_of p.active.held)) ≡ (sketched p k).active = ap (still_active k.ended) e.active in
    let queued : queue_moved k.moved (without d p.queue.requests) (without d p.waiting.requests) ≡ (sketched p k).queue = (λ i. queue_moved k.moved (e.queue i) (e.waiting i)) in
    let fresh : requests_of c.in_ok-fresh.fresh.items ≡ c.in_ok-admitted.admitted.items = c.in_ok-fresh.ensures.requests ∙ c.as_slice.ensures.value in
    let same : c.awaits_after-awaits.result ≡ awaits (sketched p k) = c.awaits_after-awaits.ensures ∙ ap (λ (f : ℕ → Option Row). some_passes (λ n. is_awaited (f n)) 1 p.shape.nodes) rows in
    let W : ActiveRequest → Type 0 = λ h. obstacle (reached p c.in_ok-rows.rows) h.request ≡ h.at in
    subst (IsDrafted p k) (sym c.in_ok-new.ensures.ok) (record {
      before = subst (λ (x : ServerParts). IsReady (server_state x) x.active.held) c.self.view_is c.self.invariant.ready;
      orderly = c.requires.orderly;
      rows = rows;
      deaths = subst (λ (x : ServerParts). deaths_overlaid x.known_nodes c.in_ok-rows.rows ≡ deaths_after k.changed (deaths_of x.known_nodes)) c.self.view_is c.in_ok-rows.ensures.deaths;
      listed = record {
        served = served;
        queued = queued;
        put_off = ap (waiting_moved k.moved) e.waiting;
        comes = λ told. subst (λ (xs : List TokenRequest). IsAdmitted (sketched p k).active (sketched p k).queue xs) (sym fresh) (subst (λ (xs : List TokenRequest). IsAdmitted xs (sketched p k).queue c.in_ok-admitted.admitted.items) served (subst (λ (xs : List TokenRequest). IsAdmitted (still_active k.ended (without d (requests_of p.active.held))) xs c.in_ok-admitted.admitted.items) queued (c.in_ok-admitted.ensures.comes (same ∙ told))));
        rests = λ awaited. none-of c.in_ok-fresh.fresh.items (fresh ∙ c.in_ok-admitted.ensures.rests (same ∙ awaited));
        waits = All-append W _ c.in_ok-fresh.fresh.items (kept-all W k.ended d (waiting_for c.in_ok-ats.ats.items p.active.held) c.in_ok-ats.ensures) c.in_ok-fresh.ensures.waits;
      };
      awaited = c.awaits_after-awaits.ensures;
    })
