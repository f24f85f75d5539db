use Rattle.std.proofs.lemmas.Result.{IfErr-weaker, IfOk-weaker}
use Rattle.lockscript.proofs.ShapedTexts.{one-for-shape, refused-for-shape}
use Rattle.lockscript.proofs.script.Script.parse_for_shape.Goals as goal

pub returns-clause-script : goal.returns-clause-script
returns-clause-script c =
    let mine = c.in_ok-check_shape.ensures.same in
    IfOk-weaker c.parse.result _ _ (λ script is. one-for-shape c.args.text.now mine.0 c.args.shape.now mine.1.0 script mine.1.1 is) c.parse.ensures.script

pub returns-clause-refused : goal.returns-clause-refused
returns-clause-refused c =
    let mine = c.in_ok-check_shape.ensures.same in
    IfErr-weaker c.parse.result _ _ (λ error is. refused-for-shape c.args.text.now mine.0 c.args.shape.now mine.1.0 error mine.1.1 is) c.parse.ensures.refused
