use Rattle.texts.proofs.SingleWords.{split-first_field}
use Rattle.texts.proofs.text.split_field.Goals as goal

pub returns : goal.returns
returns c = split-first_field c.args.text.now c.split_at_first.result c.split_at_first.ensures
