-- The number of weathers made so far.
use Rattle.std.proofs.Common.{◌≡◌, length}
use Rattle.thread_runs.proofs.threads.weathers_of.Given as goal

abbrev pub invariant-loop-index : goal.invariant-loop-index
invariant-loop-index l = length l.weathers.items ≡ l.index
