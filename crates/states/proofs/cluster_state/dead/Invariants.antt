use Rattle.std.specs.Prelude.{◌≡◌, map}
use Rattle.token_server.specs.rule.Parts.{server_state}
use Rattle.token_server.specs.code.Rows.{nodes_where}
use Rattle.states.specs.rule.States.{known_dead, knows_dead}
use Rattle.states.proofs.cluster_state.dead.Given as goal

abbrev pub invariant-loop-place : goal.invariant-loop-place
invariant-loop-place l =
    let s = server_state l.server in
    l.dead.items ≡ map (known_dead s) (nodes_where (knows_dead s) l.place)
