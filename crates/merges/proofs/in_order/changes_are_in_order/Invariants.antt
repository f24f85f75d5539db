use Rattle.std.specs.Prelude.{ℕ, ◌<◌, ◌≤◌, slice_index_or}
use Rattle.merges.specs.declared.logged.LoggedChange.{LoggedChange}
use Rattle.merges.proofs.in_order.changes_are_in_order.Given as goal

abbrev pub invariant-loop-index : goal.invariant-loop-index
invariant-loop-index l = (i j : ℕ) (d : LoggedChange) → i < j → j < l.index → (slice_index_or l.changes i d).interval.ended ≤ (slice_index_or l.changes j d).interval.ended
