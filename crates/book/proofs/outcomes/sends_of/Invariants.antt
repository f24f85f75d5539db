use Rattle.std.proofs.Common.{◌≡◌, take}
use Rattle.book.proofs.outcomes.sends_of.Given as goal

abbrev pub invariant-loop-message : goal.invariant-loop-message
invariant-loop-message l = l.sends ≡ take l.message-index l.messages
