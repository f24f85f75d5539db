use Rattle.player.proofs.Expectations.{words-told}
use Rattle.player.proofs.compared.words_of.Goals as goal

pub returns : goal.returns
returns c = words-told c.args.line.now c.after.result c.after.ensures
