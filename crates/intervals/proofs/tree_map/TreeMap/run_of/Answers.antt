use Rattle.std.proofs.Common.{◌++◌, drop, refl, ap, subst, arith}
use Rattle.intervals.specs.rule.Runs.{value_at}
use Rattle.intervals.specs.code.Entries.{IsNext}
use Rattle.intervals.specs.code.Parts.{all_runs, row_runs, part_at, runs_above}
use Rattle.intervals.proofs.Split.{runs-front}
use Rattle.intervals.proofs.Places.{runs_near}
use Rattle.intervals.proofs.RowReads.{rest_of, rest_next, rest_lacks, above_only}
use Rattle.intervals.proofs.tree_map.TreeMap.run_of.Goals as goal
use Rattle.intervals.proofs.tree_map.TreeMap.run_of.Goals.{in_default-via-in-Some+else-run-byte, in_default-via-in_default}

pub split_before-requires : goal.split_before-requires
split_before-requires g c =
    let row = c.self.inside.row in
    rw c.part.ensures (runs-front (part_at row c.place-at.result) (runs_above row c.place-at.result) (runs_near row c.place-at.result (omega arith) c.self.invariant.0))

pub returns-in-Some : goal.returns-in-Some
returns-in-Some g c =
    let row = c.self.inside.row in
    let place = c.place-at.ensures in
    let split = c.split_before.ensures in
    let later = drop c.place-at.result row.rest.items in
    let rest = rest_of row c.place-at.result c.args.byte c.part.result.now c.split_before.result.0.now c.split_before.result.1.now later (omega arith) c.self.invariant.0 place.ended place.above c.part.ensures split.whole split.ended split.reached refl in
    let it : IsNext (value_at c.args.self.now) c.args.byte c.in-Some.run'.now = subst (λ l. IsNext (value_at l) c.args.byte c.in-Some.run'.now) c.self.view_is (rest_next (row_runs row) _ c.args.byte c.in-Some.run'.now _ c.self.invariant.0 c.self.invariant.1 rest (ap (λ l. l ++ all_runs later) c.in-Some.ensures.cases.0)) in
    (it.run, c.if-run-byte.true, it.reached, it.bounded)

pub returns-in_default : goal.returns-in_default
returns-in_default g c =
    let row = c.self.inside.row in
    let place = c.place-at.ensures in
    let split = c.split_before.ensures in
    let later = drop c.place-at.result row.rest.items in
    let rest = rest_of row c.place-at.result c.args.byte c.part.result.now c.split_before.result.0.now c.split_before.result.1.now later (omega arith) c.self.invariant.0 place.ended place.above c.part.ensures split.whole split.ended split.reached refl in
    elim c.in_default.branch [
      | in_default-via-in-Some+else-run-byte w ↦
          let it : IsNext (value_at c.args.self.now) c.args.byte w.in-Some.run'.now = subst (λ l. IsNext (value_at l) c.args.byte w.in-Some.run'.now) c.self.view_is (rest_next (row_runs row) _ c.args.byte w.in-Some.run'.now _ c.self.invariant.0 c.self.invariant.1 rest (ap (λ l. l ++ all_runs later) w.in-Some.ensures.cases.0)) in
          it.none_before c.args.byte (omega arith) (let over = w.if-run-byte.false in omega arith)
      | in_default-via-in_default w ↦ rw (← c.self.view_is) (rest_lacks (row_runs row) _ c.args.byte rest (above_only c.split_before.result.1.now (all_runs later) c.args.byte w.in_default.ensures.cases place.above))
    ]
