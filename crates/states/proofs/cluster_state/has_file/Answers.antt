use Rattle.std.proofs.Common.{◌∙◌}
use Rattle.std.proofs.Math.Bool.{and-true}
use Rattle.cluster_core.specs.rule.Parts.{world_state}
use Rattle.cluster_core.specs.rule.World.{has_file}
use Rattle.states.proofs.cluster_state.has_file.Goals as goal

pub returns : goal.returns
returns c = c.knows.ensures ∙ and-true (has_file (world_state c.args.world.now) c.args.file)
