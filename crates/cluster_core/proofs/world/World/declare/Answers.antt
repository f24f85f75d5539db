use Rattle.std.proofs.Common.{◌≡◌, ◌<◌, true, sym, subst, Ok}
use Rattle.messages.specs.rule.Messages.{is_within}
use Rattle.cluster_core.specs.rule.World.{journal_limit}
use Rattle.cluster_core.specs.rule.Next.{declare_rule}
use Rattle.cluster_core.specs.rule.Parts.{WorldParts, world_state}
use Rattle.cluster_core.proofs.steps.MemberSteps.{declared_parts, declared_world, declared_done, opened}
use Rattle.cluster_core.proofs.world.World.declare.Goals as goal

pub invariant_of-self : goal.invariant_of-self
invariant_of-self c =
    let number = subst (λ (q : WorldParts). is_within q.shape.nodes c.args.node ≡ true) (sym c.self.view_is) c.requires.node in
    declared_world _ c.self.invariant c.args.node number _ c.declare.ensures.others _ c.in-Ok.ensures.ok (subst (λ (q : WorldParts). q.length < journal_limit) (sym c.self.view_is) c.requires.room)

pub returns : goal.returns
returns c =
    let here : WorldParts = record { shape = c.self.inside.shape; nodes = c.self.inside.nodes.items; members = c.self.inside.members; servers = c.self.inside.servers.items; sent = c.self.inside.sent; length = c.self.inside.length } in
    let P : WorldParts → Type 0 = λ q. declare_rule (world_state q) c.args.node ≡ Ok (world_state (declared_parts here c.declare.new.self), c.at_node.result) in
    opened P _ _ c.args.node c.self.view_is c.requires.node
    (λ number. declared_done _ c.self.invariant c.args.node number _ c.declare.ensures.others _ c.in-Ok.ensures.ok c.sending-outcome.result _ c.at_node.result c.sending-outcome.ensures c.nothing.ensures c.at_node.ensures)
