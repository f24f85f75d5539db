use Rattle.std.proofs.Common.{take}
use Rattle.std.specs.Prelude.{All}
use Rattle.node_core.specs.code.Plans.{IsHinted}
use Rattle.node_core.proofs.hints.Hints.of.Given as goal

abbrev pub invariant-loop-call : goal.invariant-loop-call
invariant-loop-call l = All (IsHinted l.hints) (take l.call-index l.calls)
