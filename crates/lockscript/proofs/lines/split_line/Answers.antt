use Rattle.lockscript.proofs.Feeds.{split-line}
use Rattle.lockscript.proofs.lines.split_line.Goals as goal

pub returns : goal.returns
returns c = split-line c.args.text.now c.split_at_first.result c.split_at_first.ensures
