use Rattle.std.proofs.Common.{length}
use Rattle.seat_text.proofs.Reading.{Listing}
use Rattle.seat_text.proofs.read.read_changes.Given as goal

abbrev pub invariant-loop-reader : goal.invariant-loop-reader
invariant-loop-reader l = Listing l.fn.reader.text.now l.reader.text.now l.changes.items

abbrev pub decreases-loop-reader : goal.decreases-loop-reader
decreases-loop-reader l = length l.reader.text.now
