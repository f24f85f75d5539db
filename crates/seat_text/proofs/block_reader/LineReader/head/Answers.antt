use Rattle.std.proofs.Common.{append_assoc, refl}
use Rattle.journal_text.specs.rule.Journals.{end_text}
use Rattle.seat_text.specs.rule.Blocks.{cluster_text, first_block, whose_text}
use Rattle.seat_text.specs.rule.Logs.{clock_line}
use Rattle.seat_text.proofs.Reading.{head_then}
use Rattle.seat_text.proofs.block_reader.LineReader.head.Goals as goal

pub returns : goal.returns
returns c =
    let head = c.in_ok-head.head in (
      c.clock.result,
      head_then c.args.self.now.text.now (clock_line c.clock.result) c.clock.new.self.text.now c.in_ok-line.line.now c.in_ok-line.rest.now (cluster_text head.shape) (whose_text head.actor head.again) (end_text 0) c.pass.new.self.text.now c.ends.new.self.text.now
          (first_block head.shape head.actor head.again) c.clock.ensures c.in_ok-line.ensures.text c.in_ok-head.ensures c.pass.ensures (c.if-not-ends.ensures refl) (simp append_assoc),
    )
