use Rattle.client_history.proofs.HalfLaws.{HalvesTo}
use Rattle.client_history.proofs.halves.are_behind_their_first.Given as goal

abbrev pub invariant-loop-i : goal.invariant-loop-i
invariant-loop-i l = HalvesTo l.calls l.order l.i-index l.marks.items
