-- No actor's state is known.
use Rattle.book.proofs.Committed.{Unknown}
use Rattle.book.proofs.last_spots.LastSpots.new.Given as goal

abbrev pub invariant-loop : goal.invariant-loop
invariant-loop g l = Unknown l.last.items
