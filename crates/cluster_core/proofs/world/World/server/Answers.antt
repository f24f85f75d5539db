use Rattle.std.proofs.Common.{◌≡◌, true, sym, subst}
use Rattle.messages.specs.rule.Messages.{is_within}
use Rattle.token_server.specs.rule.Parts.{server_state}
use Rattle.cluster_core.specs.rule.Parts.{WorldParts, world_state}
use Rattle.cluster_core.proofs.steps.WorldSteps.{read_server}
use Rattle.cluster_core.proofs.world.World.server.Goals as goal

pub returns : goal.returns
returns c =
    let P : WorldParts → Type 0 = λ p. server_state c.index.result.now ≡ (world_state p).servers c.args.file in
    let R : WorldParts → Type 0 = λ p. is_within p.shape.files c.args.file ≡ true in
    subst P c.self.view_is (sym (read_server (record { shape = c.self.inside.shape; nodes = c.self.inside.nodes.items; members = c.self.inside.members; servers = c.self.inside.servers.items; sent = c.self.inside.sent; length = c.self.inside.length }) c.args.file c.index.result.now c.self.invariant (subst R (sym c.self.view_is) c.requires) c.index.ensures))
