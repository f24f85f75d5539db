use Rattle.std.specs.Prelude.{◌≡◌, All, map}
use Rattle.token_server.specs.code.Rows.{nodes_where}
use Rattle.cluster_core.specs.rule.Parts.{world_state}
use Rattle.states.specs.rule.States.{works, IsToldServer}
use Rattle.states.proofs.cluster_state.servers.Given as goal

abbrev pub invariant-loop-place : goal.invariant-loop-place
invariant-loop-place l = record {
  files : map (λ s. s.file) l.servers.items ≡ nodes_where (works (world_state l.world)) l.place;
  each : All (λ s. IsToldServer ((world_state l.world).servers s.file) s) l.servers.items;
}
