-- The number of places made so far.
use Rattle.std.proofs.Common.{◌≡◌, length}
use Rattle.actors.proofs.begun.places_of.Given as goal

abbrev pub invariant-loop : goal.invariant-loop
invariant-loop g l = length l.places.items ≡ l.counter
