use Rattle.std.proofs.Common.{◌≡◌, ℕ, ◌<◌, slice_index_or}
use Rattle.seat_text.specs.declared.read.ReadLog.{ReadLog}
use Rattle.seat_commands.proofs.logs.shape_of.Given as goal

abbrev pub invariant-loop-index : goal.invariant-loop-index
invariant-loop-index l = (k : ℕ) (d : ReadLog) → k < l.index → (slice_index_or l.logs k d).head.shape ≡ l.shape
