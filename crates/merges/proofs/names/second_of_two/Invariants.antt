use Rattle.std.specs.Prelude.{◌≡◌, ℕ, ◌<◌, false, slice_index_or}
use Rattle.merges.specs.rule.Merges.{LogFields, is_of}
use Rattle.merges.proofs.names.second_of_two.Given as goal

abbrev pub invariant-loop-index : goal.invariant-loop-index
invariant-loop-index l = (i j : ℕ) (d : LogFields) → i < j → j < l.index → is_of (slice_index_or l.logs i d) (slice_index_or l.logs j d).actor (slice_index_or l.logs j d).incarnation ≡ false
