use Rattle.std.proofs.Common.{arith}
use Rattle.placement.proofs.Rises.{rises_more, rises_all, rises_not, not_rising, are_rising}
use Rattle.placement.proofs.history.is_rising.Goals as goal

pub loop-index-preserved : goal.loop-index-preserved
loop-index-preserved c =
    rises_more c.args.items.now c.loop-index.index c.index-items-index.result c.index-items-index-in-loop-index.result (omega arith) c.index-items-index.is c.index-items-index-in-loop-index.is (omega arith) c.loop-index.invariant

pub returns-then-position : goal.returns-then-position
returns-then-position c =
    not_rising c.args.items.now (rises_not c.args.items.now c.loop-index.index c.index-items-index.result c.index-items-index-in-loop-index.result (omega arith) (omega arith) c.index-items-index.is c.index-items-index-in-loop-index.is (omega arith))

pub returns : goal.returns
returns c = are_rising c.args.items.now (rises_all c.args.items.now c.loop-index.index (omega arith) c.loop-index.invariant)
