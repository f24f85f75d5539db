use Rattle.std.proofs.Common.{◌-◌, length}
use Rattle.client_history.specs.code.Search.{GoesTo}
use Rattle.client_history.proofs.search.begin_by.Given as goal

abbrev pub decreases-loop-moment : goal.decreases-loop-moment
decreases-loop-moment l = length l.begins.moments.now - l.next

abbrev pub invariant-loop-moment : goal.invariant-loop-moment
invariant-loop-moment l = GoesTo l.time l.from l.fn.«open».items l.fn.fronts l.next l.«open».items l.fronts l.begins.calls.now l.begins.moments.now
