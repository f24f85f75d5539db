use Rattle.std.specs.Prelude.{◌≡◌, ◌+◌, ◌≤◌, ℕ, true, false, List, [], ◌∷◌, ◌++◌, length, slice_get, slice_index_or, All, is_some, Some}
use Rattle.std.proofs.Common.{refl, sym, ap, subst, ◌∙◌, take, drop, arith}
use Rattle.std.proofs.lemmas.List.{take_all}
use Rattle.std.proofs.lemmas.Result.{err_from_is_err_and}
use Rattle.token_server.specs.declared.token_queue.active_request.ActiveRequest.{ActiveRequest}
use Rattle.token_server.specs.rule.Actives.{waiting_for}
use Rattle.token_server.proofs.ActiveLaws.{waiting_for-length}
use Rattle.token_server.specs.declared.change.ServerEdit.{ServerEdit}
use Rattle.token_server.specs.declared.sent_command.SentCommand.{SentCommand}
use Rattle.token_server.specs.rule.State.{ServerState}
use Rattle.token_server.specs.rule.Obstacles.{is_idle}
use Rattle.token_server.specs.code.Edits.{told_to, keeps, held_after, drafted, kept, kept_of, AreServed}
use Rattle.token_server.specs.rule.Parts.{ServerParts, server_state}
use Rattle.token_server.proofs.TurnLaws.{read-place, waits-place, quiet-place, waits-here, turn-spent, kept-split, kept-turn, kept-left, kept-silent, kept-rest, quiet-told, copied-some, told-quiet, served-start, index-past, rest-untouched, rest-told}
use Rattle.token_server.proofs.server.Server.commands_kept.Goals.{then-keeps+in_ok-serve_one, else-keeps}
use Rattle.token_server.proofs.server.Server.commands_kept.Goals as goal

pub serve_one-requires-clause-waits : goal.serve_one-requires-clause-waits
serve_one-requires-clause-waits c =
    let i = c.loop-place.place in
    let s : ServerState = drafted c.args.self.now c.args.draft.now in
    let l : ServerEdit = c.args.draft.now in
    let held : List ActiveRequest = c.args.self.now.active.held in
    let item : ActiveRequest = c.index-active-place.result in
    let w : ActiveRequest = record { request = item.request; at = c.awaited-at.result } in
    let read : c.as_slice-active.result.now ≡ held = c.as_slice-active.ensures ∙ ap (λ (p : ServerParts). p.active.held) c.self.view_is in
    let there : slice_get (waiting_for l.ats.items held) i ≡ Some w = waits-place l c.as_slice-active.result.now held i item c.as_slice-ats.result.now c.awaited-at.result read c.as_slice-ats.ensures.value c.loop-place-test.true c.index-active-place.is c.awaited-at.ensures in
    let on : keeps l.gone.dropped l.gone.ended item.request ≡ true = sym c.keeps.ensures ∙ c.if-keeps.true in
    let done : List ActiveRequest = kept l (take i (waiting_for l.ats.items held)) in
    let rest : List ActiveRequest = kept l (drop (i + 1) (waiting_for l.ats.items held)) ++ l.fresh.items in
    let split : held_after l held ≡ done ++ w ∷ rest = kept-split l held s c.loop-place.told.items i w there on in
    waits-here s (held_after l held) done rest w c.loop-place.told.items split c.loop-place.invariant

pub returns-in_err-serve_one-clause-err : goal.returns-in_err-serve_one-clause-err
returns-in_err-serve_one-clause-err c =
    let i = c.loop-place.place in
    let s : ServerState = drafted c.args.self.now c.args.draft.now in
    let l : ServerEdit = c.args.draft.now in
    let held : List ActiveRequest = c.args.self.now.active.held in
    let item : ActiveRequest = c.index-active-place.result in
    let w : ActiveRequest = record { request = item.request; at = c.awaited-at.result } in
    let read : c.as_slice-active.result.now ≡ held = c.as_slice-active.ensures ∙ ap (λ (p : ServerParts). p.active.held) c.self.view_is in
    let there : slice_get (waiting_for l.ats.items held) i ≡ Some w = waits-place l c.as_slice-active.result.now held i item c.as_slice-ats.result.now c.awaited-at.result read c.as_slice-ats.ensures.value c.loop-place-test.true c.index-active-place.is c.awaited-at.ensures in
    let on : keeps l.gone.dropped l.gone.ended item.request ≡ true = sym c.keeps.ensures ∙ c.if-keeps.true in
    let done : List ActiveRequest = kept l (take i (waiting_for l.ats.items held)) in
    let rest : List ActiveRequest = kept l (drop (i + 1) (waiting_for l.ats.items held)) ++ l.fresh.items in
    let split : held_after l held ≡ done ++ w ∷ rest = kept-split l held s c.loop-place.told.items i w there on in
    let p = err_from_is_err_and c.from_residual.result c.from_residual.ensures.1 in
    rw (p.1, p.2) (λ other. turn-spent s (held_after l held) done rest w c.loop-place.told.items _ split refl c.loop-place.invariant (c.in_err-serve_one.ensures.err other))

pub loop-place-preserved : goal.loop-place-preserved
loop-place-preserved c =
    let i = c.loop-place.place in
    let s : ServerState = drafted c.args.self.now c.args.draft.now in
    let l : ServerEdit = c.args.draft.now in
    let held : List ActiveRequest = c.args.self.now.active.held in
    let item : ActiveRequest = c.index-active-place.result in
    let w : ActiveRequest = record { request = item.request; at = c.awaited-at.result } in
    let read : c.as_slice-active.result.now ≡ held = c.as_slice-active.ensures ∙ ap (λ (p : ServerParts). p.active.held) c.self.view_is in
    let there : slice_get (waiting_for l.ats.items held) i ≡ Some w = waits-place l c.as_slice-active.result.now held i item c.as_slice-ats.result.now c.awaited-at.result read c.as_slice-ats.ensures.value c.loop-place-test.true c.index-active-place.is c.awaited-at.ensures in
    elim c.if-keeps.branch [
      | then-keeps+in_ok-serve_one v ↦
          let on : keeps l.gone.dropped l.gone.ended item.request ≡ true = sym c.keeps.ensures ∙ v.if-keeps.true in
          rw v.told-is (kept-turn l held s c.loop-place.told.items i w there v.serve_one.new.told.items on refl c.requires.apart c.loop-place.invariant v.in_ok-serve_one.ensures.ok)
      | else-keeps v ↦ rw v.told-is (kept-left l held s c.loop-place.told.items i w there (sym c.keeps.ensures ∙ v.if-keeps.false) c.loop-place.invariant)
    ]

pub loop-place-preserved-then-not-may_come : goal.loop-place-preserved-then-not-may_come
loop-place-preserved-then-not-may_come c =
    let i = c.loop-place.place in
    let s : ServerState = drafted c.args.self.now c.args.draft.now in
    let l : ServerEdit = c.args.draft.now in
    let held : List ActiveRequest = c.args.self.now.active.held in
    let item : ActiveRequest = c.index-active-place.result in
    let w : ActiveRequest = record { request = item.request; at = c.awaited-at.result } in
    let read : c.as_slice-active.result.now ≡ held = c.as_slice-active.ensures ∙ ap (λ (p : ServerParts). p.active.held) c.self.view_is in
    let there : slice_get (waiting_for l.ats.items held) i ≡ Some w = waits-place l c.as_slice-active.result.now held i item c.as_slice-ats.result.now c.awaited-at.result read c.as_slice-ats.ensures.value c.loop-place-test.true c.index-active-place.is c.awaited-at.ensures in
    let told : List SentCommand = c.loop-place.told.items in
    let quiet : All (λ h. is_idle ((server_state c.args.self.now).rows h.at) ≡ false) held =
    subst (λ (p : ServerParts). All (λ h. is_idle ((server_state p).rows h.at) ≡ false) p.active.held) c.self.view_is c.self.invariant.ready.quiet in
    let here : slice_get held i ≡ Some item = read-place c.as_slice-active.result.now held i item read c.loop-place-test.true c.index-active-place.is in
    kept-silent l held s told i w there
    (quiet-told told s c.awaited-at.result (quiet-place (server_state c.args.self.now) s c.args.touched held i item c.awaited-at.result quiet here (c.may_come.ensures.same c.if-not-may_come.true) (c.may_come.ensures.untouched c.if-not-may_come.true) c.requires.untouched))
    c.loop-place.invariant

pub loop-place-preserved-then-is_some : goal.loop-place-preserved-then-is_some
loop-place-preserved-then-is_some c =
    let i = c.loop-place.place in
    let s : ServerState = drafted c.args.self.now c.args.draft.now in
    let l : ServerEdit = c.args.draft.now in
    let held : List ActiveRequest = c.args.self.now.active.held in
    let item : ActiveRequest = c.index-active-place.result in
    let w : ActiveRequest = record { request = item.request; at = c.awaited-at.result } in
    let read : c.as_slice-active.result.now ≡ held = c.as_slice-active.ensures ∙ ap (λ (p : ServerParts). p.active.held) c.self.view_is in
    let there : slice_get (waiting_for l.ats.items held) i ≡ Some w = waits-place l c.as_slice-active.result.now held i item c.as_slice-ats.result.now c.awaited-at.result read c.as_slice-ats.ensures.value c.loop-place-test.true c.index-active-place.is c.awaited-at.ensures in
    let told : List SentCommand = c.loop-place.told.items in
    let some : is_some (told_to told c.awaited-at.result) ≡ true =
    ap (λ (ts : List SentCommand). is_some (told_to ts c.awaited-at.result)) (sym c.as_slice.ensures.value) ∙ ap is_some (sym c.told_to.ensures) ∙ copied-some c.told_to.result ∙ sym c.is_some.ensures ∙ c.if-is_some.true in
    kept-silent l held s told i w there (told-quiet told s c.awaited-at.result some) c.loop-place.invariant

pub returns-then-none_may_come-clause-ok : goal.returns-then-none_may_come-clause-ok
returns-then-none_may_come-clause-ok c =
    let s : ServerState = drafted c.args.self.now c.args.draft.now in
    let l : ServerEdit = c.args.draft.now in
    let held : List ActiveRequest = c.args.self.now.active.held in
    let quiet : All (λ h. is_idle ((server_state c.args.self.now).rows h.at) ≡ false) held =
    subst (λ (p : ServerParts). All (λ h. is_idle ((server_state p).rows h.at) ≡ false) p.active.held) c.self.view_is c.self.invariant.ready.quiet in
    let many : length c.as_slice-ats.result.now ≡ length l.ats.items = ap (λ (xs : List ℕ). length xs) c.as_slice-ats.ensures.value in
    let past : length l.ats.items ≤ 0 = omega (arith, many, c.none_may_come.ensures.same c.if-none_may_come.true) in
    subst (λ (ts : List SentCommand). AreServed s (held_after l held) (kept_of l held) ts) (sym c.new-told.ensures.items)
    (kept-rest l held s [] (length held) 0 (omega arith) (rest-untouched (server_state c.args.self.now) s l held [] c.args.touched 0 quiet c.requires.untouched past (c.none_may_come.ensures.untouched c.if-none_may_come.true)) (served-start s (held_after l held) c.requires.waits))

pub returns-then-ats-place-clause-ok : goal.returns-then-ats-place-clause-ok
returns-then-ats-place-clause-ok c =
    let i = c.loop-place.place in
    let s : ServerState = drafted c.args.self.now c.args.draft.now in
    let l : ServerEdit = c.args.draft.now in
    let held : List ActiveRequest = c.args.self.now.active.held in
    let item : ActiveRequest = c.index-active-place.result in
    let w : ActiveRequest = record { request = item.request; at = c.awaited-at.result } in
    let read : c.as_slice-active.result.now ≡ held = c.as_slice-active.ensures ∙ ap (λ (p : ServerParts). p.active.held) c.self.view_is in
    let there : slice_get (waiting_for l.ats.items held) i ≡ Some w = waits-place l c.as_slice-active.result.now held i item c.as_slice-ats.result.now c.awaited-at.result read c.as_slice-ats.ensures.value c.loop-place-test.true c.index-active-place.is c.awaited-at.ensures in
    let told : List SentCommand = c.loop-place.told.items in
    let quiet : All (λ h. is_idle ((server_state c.args.self.now).rows h.at) ≡ false) held =
    subst (λ (p : ServerParts). All (λ h. is_idle ((server_state p).rows h.at) ≡ false) p.active.held) c.self.view_is c.self.invariant.ready.quiet in
    let some : is_some (told_to told c.awaited-at.result) ≡ true =
    ap (λ (ts : List SentCommand). is_some (told_to ts c.awaited-at.result)) (sym c.as_slice.ensures.value) ∙ ap is_some (sym c.told_to.ensures) ∙ copied-some c.told_to.result ∙ sym c.is_some.ensures ∙ c.if-is_some.true in
    let many : length c.as_slice-ats.result.now ≡ length l.ats.items = ap (λ (xs : List ℕ). length xs) c.as_slice-ats.ensures.value in
    let past : length l.ats.items ≤ i = omega (arith, many, c.if-ats-place.true) in
    let same : c.awaited-at.result ≡ item.at = c.awaited-at.ensures ∙ ap (λ (xs : List ℕ). slice_index_or xs i item.at) c.as_slice-ats.ensures.value ∙ index-past l.ats.items i item.at past in
    kept-rest l held s told (length held) i (omega arith) (rest-told (server_state c.args.self.now) s l held told c.args.touched i quiet c.requires.untouched past c.awaited-at.result (c.may_come.ensures.only c.if-not-may_come.false same) some) c.loop-place.invariant

pub returns-clause-ok : goal.returns-clause-ok
returns-clause-ok c =
    let s : ServerState = drafted c.args.self.now c.args.draft.now in
    let l : ServerEdit = c.args.draft.now in
    let held : List ActiveRequest = c.args.self.now.active.held in
    let read : c.as_slice-active.result.now ≡ held = c.as_slice-active.ensures ∙ ap (λ (p : ServerParts). p.active.held) c.self.view_is in
    let many : length (waiting_for l.ats.items held) ≡ length c.as_slice-active.result.now = waiting_for-length l.ats.items held ∙ ap (λ (hs : List ActiveRequest). length hs) (sym read) in
    let past : length (waiting_for l.ats.items held) ≤ c.loop-place.place = omega (arith, many, c.loop-place-test.false) in
    subst (λ (hs : List ActiveRequest). AreServed s (held_after l held) (kept l hs) c.loop-place.told.items) (take_all c.loop-place.place (waiting_for l.ats.items held) past) c.loop-place.invariant

pub loop-place-init : goal.loop-place-init
loop-place-init c =
    let s : ServerState = drafted c.args.self.now c.args.draft.now in
    let all : List ActiveRequest = held_after c.args.draft.now c.args.self.now.active.held in
    subst (λ (ts : List SentCommand). AreServed s all [] ts) (sym c.new-told.ensures.items) (served-start s all c.requires.waits)
