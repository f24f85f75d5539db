use Rattle.std.specs.Prelude.{◌≡◌, map}
use Rattle.token_server.specs.code.Rows.{nodes_where}
use Rattle.cluster_core.specs.rule.Parts.{world_state}
use Rattle.cluster_core.specs.rule.World.{has_file}
use Rattle.states.specs.rule.States.{told_epoch}
use Rattle.states.proofs.cluster_state.epochs.Given as goal

abbrev pub invariant-loop-place : goal.invariant-loop-place
invariant-loop-place l = l.epochs.items ≡ map (told_epoch (world_state l.world)) (nodes_where (has_file (world_state l.world)) l.place)
