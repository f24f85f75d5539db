use Rattle.std.proofs.Common.{◌≡◌, ◌++◌, length}
use Rattle.seat_text.specs.rule.Blocks.{to_lines}
use Rattle.seat_text.proofs.block_reader.LineReader.sends.Given as goal

abbrev pub invariant-loop-sends : goal.invariant-loop-sends
invariant-loop-sends l = l.fn.self.text.now ≡ to_lines l.sends ++ l.self.text.now

abbrev pub decreases-loop-sends : goal.decreases-loop-sends
decreases-loop-sends l = length l.self.text.now
