use Rattle.std.specs.Prelude.{Some}
use Rattle.std.proofs.Common.{ap, ◌∙◌}
use Rattle.node_core.specs.rule.Parts.{node_state}
use Rattle.cluster_core.specs.rule.Parts.{world_state}
use Rattle.states.proofs.ToldLaws.{node-alive}
use Rattle.states.proofs.cluster_state.ToldNode.of.Goals as goal

pub returns-clause-told : goal.returns-clause-told
returns-clause-told c =
    node-alive (world_state c.args.world.now) _ (node_state c.in-Some.alive.now) c.in-Some.ensures (ap Some c.incarnation.ensures.value) c.dead-dead.ensures (c.in_ok-calls.ensures.items ∙ c.open_calls.ensures.calls)
