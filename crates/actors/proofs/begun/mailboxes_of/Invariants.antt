-- The number of mailboxes made so far.
use Rattle.std.proofs.Common.{◌≡◌, length}
use Rattle.actors.proofs.begun.mailboxes_of.Given as goal

abbrev pub invariant-loop : goal.invariant-loop
invariant-loop l = length l.mailboxes.items ≡ l.counter
