use Rattle.std.proofs.Common.{◌≤◌}
use Rattle.client_history.proofs.judge.front_by.Given as goal

abbrev pub invariant-loop-place : goal.invariant-loop-place
invariant-loop-place l = l.count ≤ l.place
