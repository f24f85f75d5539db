use Rattle.token_server.specs.rule.Parts.{server_state}
use Rattle.token_server.specs.rule.State.{first_server}
use Rattle.cluster_core.proofs.common.Numbered.{begun_empty, begun_more}
use Rattle.cluster_core.proofs.world.first_servers.Goals as goal

pub loop-index-init : goal.loop-index-init
loop-index-init c = rw c.new-servers.ensures.items (begun_empty server_state (first_server c.args.shape))

pub loop-index-preserved : goal.loop-index-preserved
loop-index-preserved c = begun_more server_state (first_server c.args.shape) _ _ _ _ c.loop-index.invariant c.in_ok-server.ensures c.in_ok-add.ensures
