use Rattle.std.specs.Prelude.{◌-◌, slice_index_or, slice_set}
use Rattle.std.proofs.Common.{◌≡◌, ◌<◌, ◌∙◌, ap, sym, subst, length}
use Rattle.std.proofs.lemmas.List.{get_or_default, get_or-set_same}
use Rattle.token_server.specs.rule.Parts.{ServerParts, server_state}
use Rattle.cluster_core.specs.rule.Parts.{WorldParts, IsWorld, world_state}
use Rattle.cluster_core.specs.rule.Actors.{HasServer}
use Rattle.cluster_core.specs.code.Changes.{with_server_copy}
use Rattle.cluster_core.proofs.steps.Copies.{server_place, server_copied, server_copy_world, server_read}
use Rattle.cluster_core.proofs.world.World.exchange_server.Goals as goal

-- the world as it was
abbrev before : goal.After-self-1 → WorldParts
before c = record { shape = c.self.inside.shape; nodes = c.self.inside.nodes.items; members = c.self.inside.members; servers = c.self.inside.servers.items; sent = c.self.inside.sent; length = c.self.inside.length }

has : (c : goal.After-self-1) → HasServer (world_state (before c)) c.args.file (server_state c.args.server.now)
has c = subst (λ (q : WorldParts). HasServer (world_state q) c.args.file (server_state c.args.server.now)) (sym c.self.view_is) c.requires

place : (c : goal.After-self-1) → c.args.file - 1 < length c.self.inside.servers.items
place c = server_place (before c) c.self.invariant c.args.file c.args.server.now (has c)

-- what is given is the copy that stood there
old : (c : goal.After-self-1) → c.swap.new.y ≡ slice_index_or c.self.inside.servers.items (c.args.file - 1) c.swap.new.y
old c = c.swap.ensures.y_after ∙ c.index_mut-copy.ensures.value ∙ get_or_default c.self.inside.servers.items (c.args.file - 1) c.index_mut-copy.result.now c.swap.new.y (place c)

pub invariant_of-self : goal.invariant_of-self
invariant_of-self c = subst (λ (x : ServerParts). IsWorld (with_server_copy (before c) c.args.file x)) (sym c.swap.ensures.x_after) (server_copy_world (before c) c.self.invariant c.args.file c.args.server.now (has c))

pub returns-clause-given : goal.returns-clause-given
returns-clause-given c = ap (with_server_copy (before c) c.args.file) c.swap.ensures.x_after ∙ ap (λ (q : WorldParts). with_server_copy q c.args.file c.args.server.now) c.self.view_is

pub returns-clause-there : goal.returns-clause-there
returns-clause-there c = λ other.
    ap (λ (x : ServerParts). slice_index_or (slice_set c.self.inside.servers.items (c.args.file - 1) x) (c.args.file - 1) other) c.swap.ensures.x_after
    ∙ get_or-set_same c.self.inside.servers.items (c.args.file - 1) c.args.server.now other (place c)

pub returns-clause-taken : goal.returns-clause-taken
returns-clause-taken c = λ other.
    ap (λ (q : WorldParts). slice_index_or q.servers (c.args.file - 1) other) (sym c.self.view_is)
    ∙ get_or_default c.self.inside.servers.items (c.args.file - 1) other c.swap.new.y (place c) ∙ sym (old c)

pub returns-clause-world : goal.returns-clause-world
returns-clause-world c =
    ap (λ (x : ServerParts). world_state (with_server_copy (before c) c.args.file x)) c.swap.ensures.x_after
    ∙ server_copied (before c) c.self.invariant c.args.file c.args.server.now (has c)
    ∙ ap world_state c.self.view_is

pub returns-clause-state : goal.returns-clause-state
returns-clause-state c = sym (server_read (before c) c.self.invariant c.args.file c.args.server.now (has c) c.swap.new.y (old c)) ∙ (has c).state
