use Rattle.std.proofs.Common.{◌≤◌, [], length}
use Rattle.texts.specs.rule.LineFeeds.{PassesLines}
use Rattle.lockscript.proofs.lines.Lines.next_command.Given as goal

abbrev pub invariant-loop-line : goal.invariant-loop-line
invariant-loop-line l = record {
  passes : PassesLines l.initial.self.rest.now l.initial.self.taken [] l.self.rest.now l.self.taken;
  shrinks : length l.self.rest.now ≤ length l.initial.self.rest.now;
}

abbrev pub decreases-loop-line : goal.decreases-loop-line
decreases-loop-line l = length l.self.rest.now
