use Rattle.std.specs.Prelude.{◌≡◌, ◌+◌, false, List, ◌∷◌, ◌++◌, length, slice_get, All, Some, Ok}
use Rattle.std.proofs.Common.{refl, ap, subst, take, drop, arith}
use Rattle.std.proofs.lemmas.Result.{err_from_is_err_and}
use Rattle.token_server.specs.declared.token_queue.active_request.ActiveRequest.{ActiveRequest}
use Rattle.token_server.specs.rule.Actives.{requests_of}
use Rattle.token_server.specs.declared.change.ServerEdit.{ServerEdit}
use Rattle.token_server.specs.rule.State.{ServerState}
use Rattle.token_server.specs.rule.Obstacles.{is_idle}
use Rattle.token_server.specs.rule.Serve.{each_served}
use Rattle.token_server.specs.code.Edits.{with_told, commands_told, held_after, drafted, kept_of}
use Rattle.token_server.proofs.ToldLaws.{Answer}
use Rattle.token_server.proofs.TurnLaws.{read-place, waits-here, turn-spent, fresh-split, fresh-turn, served-whole}
use Rattle.token_server.proofs.server.Server.commands.Goals as goal

pub serve_one-requires-clause-waits : goal.serve_one-requires-clause-waits
serve_one-requires-clause-waits c =
    let i = c.loop-held.held-index in
    let s : ServerState = drafted c.args.self.now c.args.draft.now in
    let l : ServerEdit = c.args.draft.now in
    let held : List ActiveRequest = c.args.self.now.active.held in
    let w : ActiveRequest = c.held-item.result in
    let there : slice_get l.fresh.items i ≡ Some w = read-place c.as_slice-held-items.result.now l.fresh.items i w c.as_slice-held-items.ensures.value c.loop-held-test.true c.held-item.is in
    let done : List ActiveRequest = kept_of l held ++ take i l.fresh.items in
    let rest : List ActiveRequest = drop (i + 1) l.fresh.items in
    let split : held_after l held ≡ done ++ w ∷ rest = fresh-split l held s c.loop-held.told.items i w there in
    waits-here s (held_after l held) done rest w c.loop-held.told.items split c.loop-held.invariant

pub returns-in_err-serve_one-clause-err : goal.returns-in_err-serve_one-clause-err
returns-in_err-serve_one-clause-err c =
    let i = c.loop-held.held-index in
    let s : ServerState = drafted c.args.self.now c.args.draft.now in
    let l : ServerEdit = c.args.draft.now in
    let held : List ActiveRequest = c.args.self.now.active.held in
    let w : ActiveRequest = c.held-item.result in
    let there : slice_get l.fresh.items i ≡ Some w = read-place c.as_slice-held-items.result.now l.fresh.items i w c.as_slice-held-items.ensures.value c.loop-held-test.true c.held-item.is in
    let done : List ActiveRequest = kept_of l held ++ take i l.fresh.items in
    let rest : List ActiveRequest = drop (i + 1) l.fresh.items in
    let split : held_after l held ≡ done ++ w ∷ rest = fresh-split l held s c.loop-held.told.items i w there in
    let p = err_from_is_err_and c.from_residual-in_err-serve_one.result c.from_residual-in_err-serve_one.ensures.1 in
    rw (p.1, p.2) (λ other. turn-spent s (held_after l held) done rest w c.loop-held.told.items _ split refl c.loop-held.invariant (c.in_err-serve_one.ensures.err other))

pub loop-held-preserved : goal.loop-held-preserved
loop-held-preserved c =
    let i = c.loop-held.held-index in
    let s : ServerState = drafted c.args.self.now c.args.draft.now in
    let l : ServerEdit = c.args.draft.now in
    let held : List ActiveRequest = c.args.self.now.active.held in
    let w : ActiveRequest = c.held-item.result in
    let there : slice_get l.fresh.items i ≡ Some w = read-place c.as_slice-held-items.result.now l.fresh.items i w c.as_slice-held-items.ensures.value c.loop-held-test.true c.held-item.is in
    fresh-turn l held s c.loop-held.told.items i w there c.serve_one.new.told.items refl c.requires.apart c.loop-held.invariant c.in_ok-serve_one.ensures.ok

pub returns-clause-ok : goal.returns-clause-ok
returns-clause-ok c =
    let s : ServerState = drafted c.args.self.now c.args.draft.now in
    let l : ServerEdit = c.args.draft.now in
    let held : List ActiveRequest = c.args.self.now.active.held in
    let many : length c.as_slice-held-items.result.now ≡ length l.fresh.items = ap (λ (hs : List ActiveRequest). length hs) c.as_slice-held-items.ensures.value in
    let all : kept_of l held ++ take c.loop-held.held-index l.fresh.items ≡ held_after l held = served-whole l held c.loop-held.held-index (omega (arith, many, c.loop-held-test.false)) in
    let told : Answer = Ok (with_told c.loop-held.told.items s, commands_told c.loop-held.told.items) in
    subst (λ (hs : List ActiveRequest). each_served (requests_of hs) s ≡ told) all c.loop-held.invariant.comes

pub returns-clause-quiet : goal.returns-clause-quiet
returns-clause-quiet c =
    let s : ServerState = drafted c.args.self.now c.args.draft.now in
    let l : ServerEdit = c.args.draft.now in
    let held : List ActiveRequest = c.args.self.now.active.held in
    let many : length c.as_slice-held-items.result.now ≡ length l.fresh.items = ap (λ (hs : List ActiveRequest). length hs) c.as_slice-held-items.ensures.value in
    let all : kept_of l held ++ take c.loop-held.held-index l.fresh.items ≡ held_after l held = served-whole l held c.loop-held.held-index (omega (arith, many, c.loop-held-test.false)) in
    subst (λ (hs : List ActiveRequest). All (λ h. is_idle ((with_told c.loop-held.told.items s).rows h.at) ≡ false) hs) all c.loop-held.invariant.quiet
