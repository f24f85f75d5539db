use Rattle.std.proofs.Common.{take}
use Rattle.placement.proofs.Placing.{Placing}
use Rattle.placement.proofs.placed.slots_of.Given as goal

abbrev pub invariant-loop-index : goal.invariant-loop-index
invariant-loop-index l = Placing l.entries (take l.index l.entries) l.calls l.conflicts l.slots.items
