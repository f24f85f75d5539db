use Rattle.player.proofs.Takes.{TakesUpTo}
use Rattle.player.proofs.rounds.take_all.Given as goal

abbrev pub invariant-loop-event : goal.invariant-loop-event
invariant-loop-event l = TakesUpTo l.initial.run l.events l.event-index l.run
