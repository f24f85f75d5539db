use Rattle.std.proofs.Common.{take}
use Rattle.player.specs.code.Rounds.{Adds, IsRetryOf}
use Rattle.player.proofs.rounds.push_retries_of.Given as goal

abbrev pub invariant-loop-call : goal.invariant-loop-call
invariant-loop-call l = Adds (IsRetryOf l.node (take l.call-index l.calls)) l.initial.events.items l.events.items
