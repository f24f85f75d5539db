use Rattle.seat_text.proofs.Reading.{passed_more, passed_none}
use Rattle.seat_text.proofs.read.read_blocks.Goals as goal

pub loop-reader-init : goal.loop-reader-init
loop-reader-init c = passed_none c.args.reader.now.text.now c.args.parts.now c.requires

pub loop-reader-preserved : goal.loop-reader-preserved
loop-reader-preserved c =
    let block = c.in-Ok.ensures.block in
    passed_more c.args.reader.now.text.now c.args.parts.now c.loop-reader.reader.text.now c.loop-reader.count c.loop-reader.parts block.0 c.read_block.new.reader.text.now c.in-Ok.now c.read_block.new.parts c.loop-reader.invariant block.1 block.2 block.3
