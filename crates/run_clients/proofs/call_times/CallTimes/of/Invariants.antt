use Rattle.run_clients.specs.code.Times.{AreTimes}
use Rattle.run_clients.proofs.call_times.CallTimes.of.Given as goal

abbrev pub invariant-loop-index : goal.invariant-loop-index
invariant-loop-index l = AreTimes l.entries l.times l.index
