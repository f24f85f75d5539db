use Rattle.std.proofs.Common.{[], ◌∷◌}
use Rattle.std.proofs.lemmas.Result.{err_from_is_err_and}
use Rattle.replay.proofs.Outputs.{part-after, part-before, writes-after}
use Rattle.replay.proofs.output.put_line.Goals as goal

pub returns-in_err-put : goal.returns-in_err-put
returns-in_err-put g c =
    let p = err_from_is_err_and c.from_residual.result c.from_residual.ensures.1 in
    let part = rw c.as_bytes.ensures.value at c.in_err-put.ensures in
    rw p.1 (part-before _ _ c.args.start.now _ part.0, part.1)

pub returns-in_err-put-2 : goal.returns-in_err-put-2
returns-in_err-put-2 g c =
    let p = err_from_is_err_and c.from_residual-in_err-put-2.result c.from_residual-in_err-put-2.ensures.1 in
    let first = rw c.as_bytes.ensures.value at c.in_ok-put.ensures in
    let part = rw c.as_bytes-2.ensures.value at c.in_err-put-2.ensures in
    rw p.1 (part-after _ _ _ c.args.start.now _ first (part-before _ _ c.args.end.now _ part.0), part.1)

pub returns : goal.returns
returns g c =
    let first = rw c.as_bytes.ensures.value at c.in_ok-put.ensures in
    let second = rw c.as_bytes-2.ensures.value at c.in_ok-put-2.ensures in
    writes-after _ _ _ _ c.args.start.now _ c.put-3.result first (writes-after _ _ _ _ c.args.end.now (10 ∷ []) c.put-3.result second c.put-3.ensures)
