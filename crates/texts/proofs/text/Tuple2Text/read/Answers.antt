use Rattle.texts.specs.rule.Layout.{space}
use Rattle.texts.proofs.Pairs.{reads-pair}
use Rattle.texts.proofs.SingleWords.{lacks-tested}
use Rattle.texts.proofs.text.Tuple2Text.read.Goals as goal

pub returns-in-Some : goal.returns-in-Some
returns-in-Some g c =
    rw c.zip.ensures (reads-pair g.A.Text.text_of g.B.Text.text_of g.A.Text.is_served g.B.Text.is_served c.args.text.now c.in-Some.word.now c.in-Some.rest.now (λ x fits. lacks-tested space (g.A.Text.text_of x) (c.is_one_field.ensures x fits)) c.in-Some.ensures.0 c.in-Some.ensures.1 c.read.result c.read-in-Some.result c.read.ensures c.read-in-Some.ensures)
