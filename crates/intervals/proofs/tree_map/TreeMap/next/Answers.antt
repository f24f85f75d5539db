use Rattle.std.proofs.Common.{subst, arith}
use Rattle.intervals.specs.rule.Runs.{value_at}
use Rattle.intervals.specs.code.Entries.{NoneFrom, IsNext}
use Rattle.intervals.specs.code.Parts.{row_runs, part_at, runs_above}
use Rattle.intervals.proofs.Split.{runs-front}
use Rattle.intervals.proofs.Rows.{some-drop}
use Rattle.intervals.proofs.Places.{runs_near}
use Rattle.intervals.proofs.RowReads.{rest_of, rest_next, rest_none}
use Rattle.intervals.proofs.tree_map.TreeMap.next.Goals as goal

pub split_before-requires : goal.split_before-requires
split_before-requires g c =
    let row = c.self.inside.row in
    rw c.part.ensures (runs-front (part_at row c.place-at.result) (runs_above row c.place-at.result) (runs_near row c.place-at.result (omega arith) c.self.invariant.0))

pub next_of-requires : goal.next_of-requires
next_of-requires g c = rw c.above.ensures (some-drop c.self.inside.row.rest.items c.place-at.result c.self.invariant.2)

pub returns-in-Some : goal.returns-in-Some
returns-in-Some g c =
    let row = c.self.inside.row in
    let place = c.place-at.ensures in
    let split = c.split_before.ensures in
    subst (λ l. IsNext (value_at l) c.args.byte c.in-Some.run') c.self.view_is (rest_next (row_runs row) _ c.args.byte c.in-Some.run' _ c.self.invariant.0 c.self.invariant.1 (rest_of row c.place-at.result c.args.byte c.part.result.now c.split_before.result.0.now c.split_before.result.1.now c.above.result.now (omega arith) c.self.invariant.0 place.ended place.above c.part.ensures split.whole split.ended split.reached c.above.ensures) c.in-Some.ensures.next)

pub returns-in-None : goal.returns-in-None
returns-in-None g c =
    let row = c.self.inside.row in
    let place = c.place-at.ensures in
    let split = c.split_before.ensures in
    subst (λ l. NoneFrom (value_at l) c.args.byte) c.self.view_is (rest_none (row_runs row) _ c.args.byte (rest_of row c.place-at.result c.args.byte c.part.result.now c.split_before.result.0.now c.split_before.result.1.now c.above.result.now (omega arith) c.self.invariant.0 place.ended place.above c.part.ensures split.whole split.ended split.reached c.above.ensures) c.in-None.ensures.next)
