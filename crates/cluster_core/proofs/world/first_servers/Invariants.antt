use Rattle.token_server.specs.rule.Parts.{server_state}
use Rattle.token_server.specs.rule.State.{first_server}
use Rattle.cluster_core.proofs.common.Numbered.{Begun}
use Rattle.cluster_core.proofs.world.first_servers.Given as goal

abbrev pub invariant-loop-index : goal.invariant-loop-index
invariant-loop-index l = Begun server_state (first_server l.shape) l.servers.items l.index
