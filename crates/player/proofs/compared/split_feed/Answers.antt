use Rattle.player.proofs.Expectations.{split-told}
use Rattle.player.proofs.compared.split_feed.Goals as goal

pub returns : goal.returns
returns c = split-told c.args.text.now c.split_line.result c.split_line.ensures
