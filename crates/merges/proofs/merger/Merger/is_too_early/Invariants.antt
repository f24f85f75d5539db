use Rattle.std.specs.Prelude.{◌≡◌, ℕ, ◌<◌, true, [], slice_index_or}
use Rattle.messages.specs.declared.event.Event.TheVariants.{Member}
use Rattle.cluster_core.specs.rule.Parts.{world_state}
use Rattle.merges.specs.rule.Merges.{LogFields, ends}
use Rattle.merges.specs.code.Merging.{current, is_there}
use Rattle.merges.proofs.merger.Merger.is_too_early.Given as goal

abbrev pub invariant-loop-index : goal.invariant-loop-index
invariant-loop-index l = (k : ℕ) (d : LogFields) → k < l.index → ends (slice_index_or l.self.logs.items k d).actor (Member l.event) ≡ true
    → is_there (world_state l.self.run.world) (slice_index_or l.self.logs.items k d).actor ≡ true → current (world_state l.self.run.world) (slice_index_or l.self.logs.items k d).actor ≡ (slice_index_or l.self.logs.items k d).incarnation → (slice_index_or l.self.logs.items k d).entries ≡ []
