use Rattle.std.proofs.Common.{take}
use Rattle.placement.proofs.Index.{Noted}
use Rattle.placement.proofs.placed.note_conflicts.Given as goal

abbrev pub invariant-loop-message : goal.invariant-loop-message
invariant-loop-message l = Noted l.fn.conflicts l.index (take l.message-index l.message-items) l.conflicts
