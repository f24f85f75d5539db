use Rattle.std.proofs.Common.{◌≡◌, ◌++◌, drop}
use Rattle.states.specs.code.Blockers.{blocking_of}
use Rattle.states.proofs.open_call.blocking_of.Given as goal

abbrev pub invariant-loop-held : goal.invariant-loop-held
invariant-loop-held l = l.blocking.items ++ blocking_of l.asked (drop l.held-index l.locks) ≡ blocking_of l.asked l.locks
