use Rattle.std.proofs.Common.{◌≡◌, take}
use Rattle.node_core.proofs.open_calls.OpenCalls.same.Given as goal

abbrev pub invariant-loop-i : goal.invariant-loop-i
invariant-loop-i l = take l.i l.self ≡ take l.i l.other
