use Rattle.client_history.proofs.TimeLaws.{TimesTo}
use Rattle.client_history.proofs.in_time.are_in_time.Given as goal

abbrev pub invariant-loop-i : goal.invariant-loop-i
invariant-loop-i l = TimesTo l.calls l.order l.i-index l.latest
