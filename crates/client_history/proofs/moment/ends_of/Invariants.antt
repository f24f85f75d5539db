use Rattle.std.proofs.Common.{◌≡◌, Some}
use Rattle.client_history.proofs.MomentLaws.{MomentsTo}
use Rattle.client_history.proofs.moment.ends_of.Given as goal

abbrev pub invariant-loop-index : goal.invariant-loop-index
invariant-loop-index l = MomentsTo l.calls (λ call time. call.end ≡ Some time) l.index l.ends.items
