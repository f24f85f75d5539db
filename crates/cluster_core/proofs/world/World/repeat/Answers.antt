use Rattle.std.proofs.Common.{◌∙◌}
use Rattle.cluster_core.specs.rule.Parts.{world_state}
use Rattle.cluster_core.proofs.runs.Replayed.{made_again, not_refused}
use Rattle.cluster_core.proofs.world.World.repeat.Goals as goal

pub returns-in_default : goal.returns-in_default
returns-in_default c =
    made_again (world_state c.args.self.now) c.requires.made.0 (world_state c.step.new.self) c.args.entry.now c.in_default.field-0 c.in_ok-event.event (c.in_ok-event.ensures ∙ c.event.ensures) c.requires.made.1 c.in_default.ensures.ok

pub unreachable-requires : goal.unreachable-requires
unreachable-requires c =
    not_refused (world_state c.args.self.now) c.requires.made.0 c.args.entry.now c.in-Err.refusal c.in_ok-event.event c.requires.room (c.in_ok-event.ensures ∙ c.event.ensures) c.requires.made.1 (c.in-Err.ensures.err c.in_default-refusal.not-NoMemory)
