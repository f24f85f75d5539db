use Rattle.std.proofs.Common.{refl}
use Rattle.player.proofs.Marks.{settled-none}
use Rattle.player.proofs.settled.Settled.new.Goals as goal

pub returns : goal.returns
returns c = settled-none _ refl c.new.ensures.items
