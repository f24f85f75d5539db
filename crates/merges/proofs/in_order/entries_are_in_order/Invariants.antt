use Rattle.std.specs.Prelude.{ℕ, ◌<◌, ◌≤◌, slice_index_or}
use Rattle.merges.specs.declared.logged.LoggedEntry.{LoggedEntry}
use Rattle.merges.proofs.in_order.entries_are_in_order.Given as goal

abbrev pub invariant-loop-index : goal.invariant-loop-index
invariant-loop-index l = (i j : ℕ) (d : LoggedEntry) → i < j → j < l.index → (slice_index_or l.entries i d).interval.ended ≤ (slice_index_or l.entries j d).interval.ended
