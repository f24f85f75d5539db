use Rattle.std.specs.Prelude.{◌≡◌, ℕ, ◌<◌, [], slice_index_or}
use Rattle.merges.specs.rule.Merges.{LogFields}
use Rattle.merges.proofs.merger.Merger.is_done.Given as goal

abbrev pub invariant-loop-index : goal.invariant-loop-index
invariant-loop-index l = (k : ℕ) (d : LogFields) → k < l.index → (slice_index_or l.self.logs.items k d).entries ≡ []
