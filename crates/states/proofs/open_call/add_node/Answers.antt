use Rattle.std.proofs.Common.{◌∙◌, ◌++◌, List, ap}
use Rattle.node_core.specs.declared.open_call.OpenCall.{OpenCall}
use Rattle.node_core.specs.rule.Parts.{node_state}
use Rattle.cluster_core.specs.rule.Parts.{world_state}
use Rattle.states.proofs.OpenLists.{open_dead, open_live}
use Rattle.states.proofs.open_call.add_node.Goals as goal

pub returns-in_default : goal.returns-in_default
returns-in_default c = open_dead (world_state c.args.world.now) c.args.number c.args.calls.now.items c.in_default.ensures

pub returns : goal.returns
returns c =
    c.in_ok-extend_from_slice.ensures.items
    ∙ ap (λ (cs : List OpenCall). c.args.calls.now.items ++ cs) (c.open_calls.ensures.calls ∙ open_live (world_state c.args.world.now) c.args.number (node_state c.in-Some.node.now) c.in-Some.ensures)
