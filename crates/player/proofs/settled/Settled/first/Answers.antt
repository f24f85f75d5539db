use Rattle.std.proofs.Common.{refl}
use Rattle.player.proofs.Marks.{settled-first}
use Rattle.player.proofs.settled.Settled.first.Goals as goal

pub returns : goal.returns
returns c = settled-first _ c.args.count refl c.new.ensures.items
