use Rattle.std.proofs.Common.{◌≡◌, ◌+◌, length, take, drop, ap, sym, ◌∙◌, arith}
use Rattle.std.proofs.lemmas.List.{length-append}
use Rattle.intervals.specs.code.Parts.{all_runs, part_at, runs_within}
use Rattle.intervals.proofs.Places.{within_few, take_part, take_few}
use Rattle.intervals.proofs.row.Row.count.Goals as goal

pub overflow_add-count : goal.overflow_add-count
overflow_add-count g c =
    let row = c.args.self.now in
    let near = c.split_at.result.0.now in
    let part = c.part-item.result in
    let same : near ≡ take c.args.more (drop c.args.at row.rest.items) = c.split_at.ensures.front ∙ ap (take c.args.more) c.above.ensures in
    let more : length (all_runs (take (c.loop-part.part-index + 1) near)) ≡ length (all_runs (take c.loop-part.part-index near)) + length part = ap length (take_part near c.loop-part.part-index part c.loop-part-test.true c.part-item.is) ∙ length-append (all_runs (take c.loop-part.part-index near)) part in
    let few = take_few near (c.loop-part.part-index + 1) in
    let all : length (runs_within row c.args.at c.args.more) ≡ length (part_at row c.args.at) + length (all_runs near) = length-append (part_at row c.args.at) (all_runs (take c.args.more (drop c.args.at row.rest.items))) ∙ ap (λ l. length (part_at row c.args.at) + length (all_runs l)) (sym same) in
    omega (arith, c.loop-part.invariant, more, few, all, within_few row c.args.at c.args.more (omega arith), c.requires.few, c.len-count.ensures)

pub loop-part-preserved : goal.loop-part-preserved
loop-part-preserved g c =
    let near = c.split_at.result.0.now in
    let part = c.part-item.result in
    let more : length (all_runs (take (c.loop-part.part-index + 1) near)) ≡ length (all_runs (take c.loop-part.part-index near)) + length part = ap length (take_part near c.loop-part.part-index part c.loop-part-test.true c.part-item.is) ∙ length-append (all_runs (take c.loop-part.part-index near)) part in
    omega (arith, c.loop-part.invariant, more, c.len-count.ensures)
