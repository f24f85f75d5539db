use Rattle.std.proofs.Common.{◌≡◌, refl}
use Rattle.std.proofs.lemmas.Result.{err_from_is_err_and}
use Rattle.replay.proofs.Tools.{textless}
use Rattle.replay.proofs.judge.judged_at.Goals as goal

pub returns-in_err-text-clause-fault : goal.returns-in_err-text-clause-fault
returns-in_err-text-clause-fault g c =
    let p = err_from_is_err_and c.from_residual.result c.from_residual.ensures.1 in
    rw (p.1, p.2) (textless (g.S.Store.holds c.args.store.now) _ c.args.path.now (λ file. file ≡ c.args.path.now) _ refl c.in_err-text.ensures.fault)
