use Rattle.std.proofs.Common.{◌≡◌, ◌+◌, ◌-◌, ◌++◌, length}
use Rattle.seat_text.specs.rule.Logs.{steps_text}
use Rattle.seat_text.proofs.block_reader.LineReader.steps.Given as goal

abbrev pub invariant-loop-position : goal.invariant-loop-position
invariant-loop-position l = (l.fn.self.text.now ≡ steps_text l.count l.steps.items ++ l.self.text.now) × (l.position ≡ l.count + length l.steps.items)

abbrev pub decreases-loop-position : goal.decreases-loop-position
decreases-loop-position l = 4294967295 - l.position
