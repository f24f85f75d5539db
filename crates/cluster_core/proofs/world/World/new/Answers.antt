use Rattle.std.proofs.Common.{arith}
use Rattle.cluster_core.proofs.steps.WorldSteps.{first_is_world, first_is_first}
use Rattle.cluster_core.proofs.world.World.new.Goals as goal

pub invariant_of-result : goal.invariant_of-result
invariant_of-result c = first_is_world _ c.in_ok-nodes.ensures.there c.in_ok-members.ensures.nodes c.in_ok-members.ensures.servers c.in_ok-servers.ensures.there c.in_ok-nodes.ensures.first c.in_ok-servers.ensures.first (omega arith)

pub returns-clause-first : goal.returns-clause-first
returns-clause-first c = first_is_first _ c.in_ok-nodes.ensures.first c.in_ok-members.ensures.nodes c.in_ok-members.ensures.servers c.in_ok-servers.ensures.first c.new-sent.ensures (omega arith)
