use Rattle.std.proofs.Common.{◌-◌, arith}
use Rattle.intervals.specs.code.Parts.{row_runs, part_at, runs_above}
use Rattle.intervals.proofs.Split.{runs-front}
use Rattle.intervals.proofs.Ordered.{previous_of}
use Rattle.intervals.proofs.Places.{runs_near}
use Rattle.intervals.proofs.RowReads.{last_near}
use Rattle.intervals.proofs.tree_map.TreeMap.previous.Goals as goal

pub last_to-requires : goal.last_to-requires
last_to-requires g c =
    let row = c.self.inside.row in
    rw c.part-part.ensures (runs-front (part_at row c.place.result) (runs_above row c.place.result) (runs_near row c.place.result (omega arith) c.self.invariant.0))

pub returns : goal.returns
returns g c =
    let row = c.self.inside.row in
    let place = c.place.ensures in
    rw (← c.self.view_is) (previous_of (row_runs row) c.self.invariant.0 c.self.invariant.1 c.args.byte (c.args.byte - 1) c.last_to.result (let some = c.if-byte-eq0.false in omega arith) (last_near row c.place.result (c.args.byte - 1) c.part-part.result.now c.last_to.result (omega arith) c.self.invariant.2 place.begins place.above c.part-part.ensures c.last_to.ensures))
