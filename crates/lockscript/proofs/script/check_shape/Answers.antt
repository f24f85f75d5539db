use Rattle.std.proofs.lemmas.Result.{err_from_is_err_and}
use Rattle.lockscript.proofs.ShapedTexts.{bad-before}
use Rattle.lockscript.proofs.script.check_shape.Goals as goal

pub returns-in_err-number-clause-bad : goal.returns-in_err-number-clause-bad
returns-in_err-number-clause-bad c =
    let p = err_from_is_err_and c.from_residual.result c.from_residual.ensures.1 in
    rw (p.1, p.2) (bad-before c.args.shape.now c.args.text.now _ (rw c.new-source.ensures.rest at c.in_err-number.ensures.bad))
