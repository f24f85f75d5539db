use Rattle.seat_text.proofs.Reading.{listing_more}
use Rattle.seat_text.proofs.read.read_changes.Goals as goal

pub loop-reader-preserved : goal.loop-reader-preserved
loop-reader-preserved c =
    let change = c.in-Ok.ensures.change in
    listing_more c.args.reader.now.text.now c.loop-reader.reader.text.now c.loop-reader.changes.items change.0 c.next_change.new.reader.text.now c.next_change.new.changes.items c.loop-reader.invariant change.1 change.2
