use Rattle.std.proofs.Common.{length}
use Rattle.seat_text.proofs.Reading.{Passed}
use Rattle.seat_text.proofs.read.read_blocks.Given as goal

abbrev pub invariant-loop-reader : goal.invariant-loop-reader
invariant-loop-reader l = Passed l.fn.reader.text.now l.fn.parts l.reader.text.now l.count l.parts

abbrev pub decreases-loop-reader : goal.decreases-loop-reader
decreases-loop-reader l = length l.reader.text.now
