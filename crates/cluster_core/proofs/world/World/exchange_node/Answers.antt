use Rattle.std.specs.Prelude.{◌-◌, slice_index_or, slice_set}
use Rattle.std.proofs.Common.{◌≡◌, ◌<◌, ◌∙◌, ap, sym, subst, length}
use Rattle.std.proofs.lemmas.List.{get_or_default, get_or-set_same}
use Rattle.node_core.specs.rule.Parts.{NodeParts, node_state}
use Rattle.cluster_core.specs.rule.Parts.{WorldParts, IsWorld, world_state}
use Rattle.cluster_core.specs.rule.Actors.{HasNode}
use Rattle.cluster_core.specs.code.Changes.{with_node_copy}
use Rattle.cluster_core.proofs.steps.Copies.{node_place, node_copied, node_copy_world, node_read}
use Rattle.cluster_core.proofs.world.World.exchange_node.Goals as goal

-- the world as it was
abbrev before : goal.After-self-1 → WorldParts
before c = record { shape = c.self.inside.shape; nodes = c.self.inside.nodes.items; members = c.self.inside.members; servers = c.self.inside.servers.items; sent = c.self.inside.sent; length = c.self.inside.length }

has : (c : goal.After-self-1) → HasNode (world_state (before c)) c.args.number (node_state c.args.node.now)
has c = subst (λ (q : WorldParts). HasNode (world_state q) c.args.number (node_state c.args.node.now)) (sym c.self.view_is) c.requires

place : (c : goal.After-self-1) → c.args.number - 1 < length c.self.inside.nodes.items
place c = node_place (before c) c.self.invariant c.args.number c.args.node.now (has c)

-- what is given is the copy that stood there
old : (c : goal.After-self-1) → c.swap.new.y ≡ slice_index_or c.self.inside.nodes.items (c.args.number - 1) c.swap.new.y
old c = c.swap.ensures.y_after ∙ c.index_mut-copy.ensures.value ∙ get_or_default c.self.inside.nodes.items (c.args.number - 1) c.index_mut-copy.result.now c.swap.new.y (place c)

pub invariant_of-self : goal.invariant_of-self
invariant_of-self c = subst (λ (x : NodeParts). IsWorld (with_node_copy (before c) c.args.number x)) (sym c.swap.ensures.x_after) (node_copy_world (before c) c.self.invariant c.args.number c.args.node.now (has c))

pub returns-clause-given : goal.returns-clause-given
returns-clause-given c = ap (with_node_copy (before c) c.args.number) c.swap.ensures.x_after ∙ ap (λ (q : WorldParts). with_node_copy q c.args.number c.args.node.now) c.self.view_is

pub returns-clause-there : goal.returns-clause-there
returns-clause-there c = λ other.
    ap (λ (x : NodeParts). slice_index_or (slice_set c.self.inside.nodes.items (c.args.number - 1) x) (c.args.number - 1) other) c.swap.ensures.x_after
    ∙ get_or-set_same c.self.inside.nodes.items (c.args.number - 1) c.args.node.now other (place c)

pub returns-clause-taken : goal.returns-clause-taken
returns-clause-taken c = λ other.
    ap (λ (q : WorldParts). slice_index_or q.nodes (c.args.number - 1) other) (sym c.self.view_is)
    ∙ get_or_default c.self.inside.nodes.items (c.args.number - 1) other c.swap.new.y (place c) ∙ sym (old c)

pub returns-clause-world : goal.returns-clause-world
returns-clause-world c =
    ap (λ (x : NodeParts). world_state (with_node_copy (before c) c.args.number x)) c.swap.ensures.x_after
    ∙ node_copied (before c) c.self.invariant c.args.number c.args.node.now (has c)
    ∙ ap world_state c.self.view_is

pub returns-clause-state : goal.returns-clause-state
returns-clause-state c = sym (node_read (before c) c.self.invariant c.args.number c.args.node.now (has c) c.swap.new.y (old c)) ∙ (has c).state
