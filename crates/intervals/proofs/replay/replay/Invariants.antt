use Rattle.std.proofs.Common.{◌≡◌, drop}
use Rattle.intervals.specs.code.Replays.{replayed, replayed_on}
use Rattle.intervals.proofs.replay.replay.Given as goal

-- the remaining commands make of the map what all commands make of an empty one
abbrev pub invariant-loop-command : goal.invariant-loop-command
invariant-loop-command g l = replayed_on (g.S.SpanMap.at l.map) (drop l.command-index l.commands) ≡ replayed l.commands
