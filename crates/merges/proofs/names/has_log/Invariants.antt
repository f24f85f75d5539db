use Rattle.std.specs.Prelude.{◌≡◌, ℕ, ◌<◌, false, slice_index_or}
use Rattle.merges.specs.rule.Merges.{LogFields, is_of}
use Rattle.merges.proofs.names.has_log.Given as goal

abbrev pub invariant-loop-index : goal.invariant-loop-index
invariant-loop-index l = (k : ℕ) (d : LogFields) → k < l.index → is_of (slice_index_or l.logs k d) l.actor l.incarnation ≡ false
