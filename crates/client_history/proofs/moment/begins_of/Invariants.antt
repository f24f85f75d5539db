use Rattle.client_history.specs.code.Moves.{IsBeginOf, AreOrdered}
use Rattle.client_history.proofs.MomentLaws.{MomentsTo}
use Rattle.client_history.proofs.moment.begins_of.Given as goal

abbrev pub invariant-loop-index : goal.invariant-loop-index
invariant-loop-index l = AreOrdered l.calls → MomentsTo l.calls (IsBeginOf l.calls) l.index l.begins.items
