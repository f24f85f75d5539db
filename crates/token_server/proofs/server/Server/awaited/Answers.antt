use Rattle.std.specs.Prelude.{◌≡◌, ℕ, ◌+◌, ◌<◌, List, ◌∷◌, [], ◌++◌, length, All, Option}
use Rattle.std.proofs.Common.{sym, ap, subst, ◌∙◌, take, drop, arith}
use Rattle.std.proofs.lemmas.List.Elements.{All-drop}
use Rattle.token_server.specs.declared.token_queue.active_request.ActiveRequest.{ActiveRequest}
use Rattle.token_server.specs.declared.token_queue.token_request.TokenRequest.{TokenRequest}
use Rattle.token_server.specs.rule.Actives.{waiting_for}
use Rattle.token_server.specs.rule.Rows.{Row}
use Rattle.token_server.specs.declared.known_nodes.known_change.Changed.{Changed}
use Rattle.token_server.specs.rule.Obstacles.{obstacle}
use Rattle.token_server.specs.rule.RowParts.{rows_of}
use Rattle.token_server.specs.rule.Parts.{ServerParts, server_state}
use Rattle.token_server.specs.code.Rows.{NoneExclusive, rows_after, rows_overlaid}
use Rattle.token_server.specs.code.Edits.{reached}
use Rattle.token_server.proofs.AwaitLaws.{Await, await-more, await-first, unfreed-all}
use Rattle.token_server.proofs.TurnLaws.{read-place, take-next}
use Rattle.token_server.proofs.server.Server.awaited.Goals as goal

pub at_after-requires-clause-rows : goal.at_after-requires-clause-rows
at_after-requires-clause-rows c =
    let p = c.args.self.now in
    subst (λ (o : Option Changed). rows_overlaid p.known_nodes c.args.rows.now ≡ rows_after o (rows_of p.known_nodes)) c.in-Some.is c.requires.rows

pub loop-place-preserved : goal.loop-place-preserved
loop-place-preserved c =
    let i = c.loop-place.place in
    let held : List ActiveRequest = c.args.self.now.active.held in
    let item : ActiveRequest = c.index-active-place.result in
    let P : TokenRequest → ℕ → Type 0 = λ r a. obstacle (reached c.args.self.now c.args.rows.now) r ≡ a in
    let read : c.as_slice-active.result.now ≡ held = c.as_slice-active.ensures ∙ ap (λ (p : ServerParts). p.active.held) c.self.view_is in
    let many : length c.as_slice-active.result.now ≡ length held = ap (λ (hs : List ActiveRequest). length hs) read in
    let within : i < length c.as_slice-active.result.now = omega (arith, many, c.freed_up_to-many.ensures.within, c.loop-place-test.true) in
    let next : take (i + 1) held ≡ take i held ++ item ∷ [] = take-next held i item (read-place c.as_slice-active.result.now held i item read within c.index-active-place.is) in (
      omega (arith, c.loop-place-test.true),
      subst (λ (xs : List ActiveRequest). Await P xs c.push.new.self.items) (sym next)
          (subst (λ (ats : List ℕ). Await P (take i held ++ item ∷ []) ats) (sym c.in_ok-push.ensures.items)
          (await-more P (take i held) c.loop-place.ats.items item c.at_after.result c.loop-place.invariant.1 c.at_after.ensures)),
    )

pub returns : goal.returns
returns c =
    let p = c.args.self.now in
    let edit = c.args.rows.now in
    let held : List ActiveRequest = p.active.held in
    let n = c.freed_up_to-many.result in
    let P : TokenRequest → ℕ → Type 0 = λ r a. obstacle (reached p edit) r ≡ a in
    let end : c.loop-place.place ≡ n = omega (arith, c.loop-place-test.false, c.loop-place.invariant.0) in
    let rows = subst (λ (o : Option Changed). rows_overlaid p.known_nodes edit ≡ rows_after o (rows_of p.known_nodes)) c.in-Some.is c.requires.rows in
    let waits = subst (λ (q : ServerParts). All (λ h. obstacle (server_state q) h.request ≡ h.at) q.active.held) c.self.view_is c.self.invariant.ready.waits in
    await-first P n held c.loop-place.ats.items
    (subst (λ (k : ℕ). Await P (take k held) c.loop-place.ats.items) end c.loop-place.invariant.1)
    (unfreed-all p edit c.in-Some.changed (drop n held) rows (All-drop (λ h. obstacle (server_state p) h.request ≡ h.at) n held waits) c.freed_up_to-many.ensures.rest)

pub returns-in_default : goal.returns-in_default
returns-in_default c =
    let p = c.args.self.now in
    let rows : rows_overlaid p.known_nodes c.args.rows.now ≡ rows_of p.known_nodes = c.requires.rows ∙ ap (λ (o : Option Changed). rows_after o (rows_of p.known_nodes)) c.in_default.is in
    let waits = subst (λ (q : ServerParts). All (λ h. obstacle (server_state q) h.request ≡ h.at) q.active.held) c.self.view_is c.self.invariant.ready.waits in
    subst (λ (ats : List ℕ). All (λ h. obstacle (reached p c.args.rows.now) h.request ≡ h.at) (waiting_for ats p.active.held)) (sym c.new.ensures.items)
    (subst (λ (f : ℕ → Option Row). All (λ h. obstacle (record (server_state p) { rows = f }) h.request ≡ h.at) p.active.held) (sym rows) waits)

pub at_after-requires-clause-readable : goal.at_after-requires-clause-readable
at_after-requires-clause-readable c = λ yes. subst (λ (q : ServerParts). NoneExclusive (reached q c.args.rows.now).rows) c.self.view_is (c.excludes_none-readable.ensures yes)
