use Rattle.std.proofs.Common.{◌≡◌, true, sym, subst}
use Rattle.messages.specs.rule.Messages.{is_within}
use Rattle.node_core.specs.rule.Parts.{node_state}
use Rattle.cluster_core.specs.rule.Parts.{WorldParts, alive_at, world_state}
use Rattle.cluster_core.proofs.steps.WorldSteps.{read_node}
use Rattle.cluster_core.proofs.world.World.node.Goals as goal

pub returns : goal.returns
returns c =
    let P : WorldParts → Type 0 = λ p. node_state c.index.result.now ≡ (world_state p).nodes c.args.node in
    let R : WorldParts → Type 0 = λ p. is_within p.shape.nodes c.args.node ≡ true in
    let A : WorldParts → Type 0 = λ p. alive_at p c.args.node ≡ true in
    subst P c.self.view_is (sym (read_node (record { shape = c.self.inside.shape; nodes = c.self.inside.nodes.items; members = c.self.inside.members; servers = c.self.inside.servers.items; sent = c.self.inside.sent; length = c.self.inside.length }) c.args.node c.index.result.now c.self.invariant (subst R (sym c.self.view_is) c.requires.node) (subst A (sym c.self.view_is) c.requires.alive) c.index.ensures))
