use Rattle.client_history.proofs.MarkLaws.{MarksTo}
use Rattle.client_history.proofs.marks.marks_of.Given as goal

abbrev pub invariant-loop-i : goal.invariant-loop-i
invariant-loop-i l = MarksTo l.order l.count l.i-index l.marks.items
