use Rattle.std.proofs.Common.{◌≡◌, ◌<◌, sym, subst, Ok}
use Rattle.node_core.specs.rule.Parts.{NodeParts}
use Rattle.cluster_core.specs.rule.World.{journal_limit}
use Rattle.cluster_core.specs.rule.Next.{restart_rule}
use Rattle.cluster_core.specs.rule.Parts.{WorldParts, world_state}
use Rattle.cluster_core.specs.code.Changes.{IsRestart}
use Rattle.cluster_core.proofs.steps.MemberSteps.{restarted_parts, restarted_world, restarted_done}
use Rattle.cluster_core.proofs.world.World.restart.Goals as goal

pub invariant_of-self : goal.invariant_of-self
invariant_of-self c =
    let made = subst (λ (n : NodeParts). IsRestart c.args.self.now c.args.node n) (sym c.into_inner.ensures) c.requires.made in
    let before = subst (λ (q : WorldParts). IsRestart q c.args.node c.into_inner.result) (sym c.self.view_is) made in
    restarted_world _ c.self.invariant c.args.node before.number c.into_inner.result _ c.restart.ensures.others _ before.begins c.in-Ok.ensures.ok (subst (λ (q : WorldParts). q.length < journal_limit) (sym c.self.view_is) c.requires.room)

pub returns : goal.returns
returns c =
    let made = subst (λ (n : NodeParts). IsRestart c.args.self.now c.args.node n) (sym c.into_inner.ensures) c.requires.made in
    let before = subst (λ (q : WorldParts). IsRestart q c.args.node c.into_inner.result) (sym c.self.view_is) made in
    let done = restarted_done _ c.self.invariant c.args.node before.number c.into_inner.result _ c.restart.ensures.others _ before.begins c.in-Ok.ensures.ok c.sending-outcome.result _ c.at_node.result c.sending-outcome.ensures c.nothing.ensures c.at_node.ensures in
    let here : WorldParts = record { shape = c.self.inside.shape; nodes = c.self.inside.nodes.items; members = c.self.inside.members; servers = c.self.inside.servers.items; sent = c.self.inside.sent; length = c.self.inside.length } in
    subst (λ (q : WorldParts). restart_rule (world_state q) c.args.node ≡ Ok (world_state (restarted_parts here c.args.node c.into_inner.result c.restart.new.self), c.at_node.result)) c.self.view_is done
