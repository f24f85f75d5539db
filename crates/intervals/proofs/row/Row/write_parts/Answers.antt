use Rattle.std.proofs.Common.{◌+◌, length, ap, ◌∙◌, arith}
use Rattle.intervals.specs.rule.Bytes.{greatest}
use Rattle.intervals.specs.rule.Runs.{value_at}
use Rattle.intervals.specs.code.Parts.{part_at, runs_above}
use Rattle.intervals.proofs.Split.{runs-front}
use Rattle.intervals.proofs.Places.{length_near, runs_near, ends_near, bytes_within, placed_both}
use Rattle.intervals.proofs.row.Row.write_parts.Goals as goal

pub splice-requires-clause-room : goal.splice-requires-clause-room
splice-requires-clause-room g c =
    let row = c.args.self.now in
    omega (arith, ap length c.part.ensures, ap length c.part-2.ensures, length_near row c.args.at (omega arith), length_near row (c.args.at + c.args.more) (omega arith), c.requires.room)

pub splice-requires-clause-first : goal.splice-requires-clause-first
splice-requires-clause-first g c =
    let row = c.args.self.now in
    rw c.part.ensures (runs-front (part_at row c.args.at) (runs_above row c.args.at) (runs_near row c.args.at (omega arith) c.requires.runs))

pub splice-requires-clause-last : goal.splice-requires-clause-last
splice-requires-clause-last g c =
    let row = c.args.self.now in
    let to = c.args.at + c.args.more in
    rw c.part-2.ensures (runs-front (part_at row to) (runs_above row to) (runs_near row to (omega arith) c.requires.runs))

pub splice-requires-clause-bounded : goal.splice-requires-clause-bounded
splice-requires-clause-bounded g c = rw c.part-2.ensures (ends_near c.args.self.now (c.args.at + c.args.more) (greatest + 1) (omega arith) c.requires.bounded)

pub returns : goal.returns
returns g c =
    let row = c.args.self.now in
    let made = c.splice.ensures in
    record {
      runs = c.splice.new.new.items;
      placed = placed_both row c.cut-upper.new.self c.put.new.self c.insert.new.self c.args.at c.args.more c.cut-upper.new.runs.items c.cut-upper.result c.splice.new.new.items c.cut-upper.ensures.first c.cut-upper.ensures.rest c.cut-upper.ensures.runs c.put.ensures.placed (λ some. let kept = c.cut-upper.ensures.kept some in omega (arith, kept)) (λ some. c.put.ensures.below (omega (arith, some))) (λ some. c.put.ensures.above (omega (arith, some))) c.insert.ensures.runs c.insert.ensures.none c.insert.ensures.some;
      made = made.runs;
      bounded = made.bounded;
      bytes = bytes_within row c.args.at c.args.more c.args.span c.args.value c.splice.new.new.items (omega arith) c.requires.above c.requires.ended (λ b lt. made.below b lt ∙ ap (λ l. value_at l b) c.part.ensures) made.inside (λ b lt. made.above b lt ∙ ap (λ l. value_at l b) c.part-2.ensures);
      before = c.count-had.ensures;
      now = omega arith;
    }
