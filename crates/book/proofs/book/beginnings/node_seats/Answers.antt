use Rattle.std.proofs.Common.{◌<◌, arith}
use Rattle.book.proofs.Steps.{node_more}
use Rattle.book.proofs.book.beginnings.node_seats.Goals as goal

pub loop-index-preserved : goal.loop-index-preserved
loop-index-preserved g c =
    let l = c.loop-index in
    let below : l.index < c.args.shape.nodes = omega (arith, c.loop-index-test.true, c.nodes-index-end.ensures.value) in
    let more = node_more c.args.shape l.seats.items c.push.new.self.items c.new.result c.in_ok-state.state l.index l.invariant.first l.invariant.count below c.in_ok-push.ensures.items c.new.ensures c.in_ok-state.ensures.0 c.in_ok-state.ensures.1 in
    record { count = more.0; first = more.1 }
