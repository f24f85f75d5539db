use Rattle.client_history.proofs.Blocked.{NoneDenies}
use Rattle.client_history.proofs.follow.any_denies.Given as goal

abbrev pub invariant-loop-lock : goal.invariant-loop-lock
invariant-loop-lock l = NoneDenies l.lock-items l.lock-index l.owner l.span l.mode l.told
