use Rattle.std.proofs.Common.{◌≡◌, arith, get_or, inl, map}
use Rattle.std.proofs.lemmas.List.{length-map}
use Rattle.std.proofs.lemmas.Result.{err_from_is_err_and}
use Rattle.replay.proofs.Judging.{judged-all, so-far-more}
use Rattle.replay.proofs.Paths.{among, nothing, now_of, stands, within}
use Rattle.replay.proofs.Tools.{tool-weaker}
use Rattle.replay.proofs.judge.all_judged.Goals as goal

pub returns-in_err-judgement-clause-fault : goal.returns-in_err-judgement-clause-fault
returns-in_err-judgement-clause-fault g c =
    let p = err_from_is_err_and c.from_residual.result c.from_residual.ensures.1 in
    let holds = g.S.Store.holds in
    let paths = c.args.paths.now in
    let i = c.loop-path.path-index in
    let lt = c.loop-path-test.true in
    rw (p.1, p.2) (tool-weaker (holds c.args.store.now) (holds c.loop-path.store) (λ file. file ≡ now_of (get_or paths i nothing)) _ _ c.loop-path.invariant.same (λ file is. inl (among paths i file lt is)) c.in_err-judgement.ensures.fault)

pub loop-path-preserved : goal.loop-path-preserved
loop-path-preserved g c =
    let holds = g.S.Store.holds in
    let paths = c.args.paths.now in
    let i = c.loop-path.path-index in
    let lt = c.loop-path-test.true in
    so-far-more _ _ (holds c.args.store.now) (holds c.loop-path.store) (holds c.judged_at.new.store) _ _ _ i (map now_of paths) _ (within paths i lt) (stands paths i lt) c.in_ok-judgement.ensures.done c.with-outcome.ensures.yes c.with-outcome.ensures.no c.judged_at.ensures.files c.loop-path.invariant

pub returns-clause-done : goal.returns-clause-done
returns-clause-done g c =
    let holds = g.S.Store.holds in
    let paths = c.args.paths.now in
    let mapped = length-map paths now_of in
    let last = c.loop-path-test.false in
    rw c.shown_as.ensures (judged-all _ _ (holds c.args.store.now) (holds c.loop-path.store) c.loop-path.outcome c.loop-path.path-index (map now_of paths) c.loop-path.told (omega (arith, mapped, last)) c.loop-path.invariant)
