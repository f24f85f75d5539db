use Rattle.std.proofs.Common.{◌≡◌, take}
use Rattle.std.specs.List.{fold}
use Rattle.node_core.specs.rule.Parts.{node_state}
use Rattle.seats.specs.rule.NodeSeats.{retried}
use Rattle.seats.proofs.node_ticks.go_over_all.Given as goal

abbrev pub invariant-loop-call : goal.invariant-loop-call
invariant-loop-call l = (node_state l.state, l.ticked) ≡ fold (retried l.node l.waits) (node_state l.fn.state, l.fn.ticked) (take l.call-index l.calls)
