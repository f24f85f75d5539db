use Rattle.std.proofs.Common.{◌++◌, ◌∷◌, []}
use Rattle.std.proofs.lemmas.Result.{err_from_is_err_and}
use Rattle.player.proofs.Progresses.{settles_push}
use Rattle.player.proofs.player.Player.settle.Goals as goal

pub returns-in_err-deliver_next-clause-full : goal.returns-in_err-deliver_next-clause-full
returns-in_err-deliver_next-clause-full c =
    let p = err_from_is_err_and c.from_residual.result c.from_residual.ensures.1 in
    rw (p.1, p.2) (λ e.
    let last = c.in_err-deliver_next.ensures.full e in (
      c.loop-alloc.invariant.0 ++ last.0 ∷ [],
      settles_push _ _ _ _ _ _ _ c.loop-alloc.invariant.1 c.has_next.ensures.same last.1,
      tt,
    ))

pub loop-alloc-preserved : goal.loop-alloc-preserved
loop-alloc-preserved c =
    let last = c.in_ok-deliver_next.ensures.ok in (
      c.loop-alloc.invariant.0 ++ last.0 ∷ [],
      settles_push _ _ _ _ _ _ _ c.loop-alloc.invariant.1 c.has_next.ensures.same last.1,
    )
