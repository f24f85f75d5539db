use Rattle.std.proofs.Common.{length, reverse}
use Rattle.player.specs.code.Rounds.{progress}
use Rattle.player.specs.rule.Progress.{End, RunsTo}
use Rattle.player.proofs.play.run_lines.Given as goal

abbrev pub invariant-loop-line : goal.invariant-loop-line
invariant-loop-line g l = (end : End) → RunsTo (progress l.player) (reverse l.lines.items) end → RunsTo (progress l.initial.player) l.fn.lines.items end

abbrev pub decreases-loop-line : goal.decreases-loop-line
decreases-loop-line g l = length l.lines.items
