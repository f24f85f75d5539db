use Rattle.std.specs.Prelude.{IfOk, IfErr, ◌≢◌, ◌-◌, slice_index_or}
use Rattle.std.specs.declared.result.Result.TheVariants.{Ok, Err}
use Rattle.std.proofs.Common.{◌≡◌, true, sym, subst}
use Rattle.messages.specs.rule.Messages.{is_within}
use Rattle.messages.specs.declared.refusal.StepError.{StepError}
use Rattle.messages.specs.declared.refusal.StepError.TheVariants.{NoMemory}
use Rattle.cluster_core.specs.rule.Parts.{WorldParts, alive_at, world_state}
use Rattle.node_core.specs.rule.Node.{node_rule}
use Rattle.node_core.specs.rule.State.{NodeState}
use Rattle.node_core.specs.rule.Parts.{NodeParts}
use Rattle.node_core.specs.code.Plans.{Fits, planned}
use Rattle.cluster_core.proofs.steps.WorldSteps.{read_node, plan_found}
use Rattle.cluster_core.proofs.world.World.node_plan.Goals as goal

pub returns-clause-ok : goal.returns-clause-ok
returns-clause-ok c =
    let x : NodeParts = c.index.result.now in
    let P : WorldParts → Type 0 = λ p. IfOk c.plan.result (λ change. (y : NodeParts) × (y ≡ slice_index_or p.nodes (c.args.node - 1) y) × Fits y change.edit × (node_rule ((world_state p).nodes c.args.node) c.args.step.now ≡ Ok (planned y change.edit, change.outcome))) in
    let R : WorldParts → Type 0 = λ p. is_within p.shape.nodes c.args.node ≡ true in
    let A : WorldParts → Type 0 = λ p. alive_at p c.args.node ≡ true in
    let here = read_node (record { shape = c.self.inside.shape; nodes = c.self.inside.nodes.items; members = c.self.inside.members; servers = c.self.inside.servers.items; sent = c.self.inside.sent; length = c.self.inside.length }) c.args.node x c.self.invariant (subst R (sym c.self.view_is) c.requires.node) (subst A (sym c.self.view_is) c.requires.alive) c.index.ensures in
    subst P c.self.view_is (plan_found c.plan.result x (λ y. y ≡ slice_index_or c.self.inside.nodes.items (c.args.node - 1) y) _ c.args.step.now c.index.ensures here c.plan.ensures.fits c.plan.ensures.ok)

pub returns-clause-err : goal.returns-clause-err
returns-clause-err c =
    let P : WorldParts → Type 0 = λ p. IfErr c.plan.result (λ e. e ≢ NoMemory → node_rule ((world_state p).nodes c.args.node) c.args.step.now ≡ Err e) in
    let Q : NodeState → Type 0 = λ s. IfErr c.plan.result (λ e. e ≢ NoMemory → node_rule s c.args.step.now ≡ Err e) in
    let R : WorldParts → Type 0 = λ p. is_within p.shape.nodes c.args.node ≡ true in
    let A : WorldParts → Type 0 = λ p. alive_at p c.args.node ≡ true in
    subst P c.self.view_is (subst Q (sym (read_node (record { shape = c.self.inside.shape; nodes = c.self.inside.nodes.items; members = c.self.inside.members; servers = c.self.inside.servers.items; sent = c.self.inside.sent; length = c.self.inside.length }) c.args.node c.index.result.now c.self.invariant (subst R (sym c.self.view_is) c.requires.node) (subst A (sym c.self.view_is) c.requires.alive) c.index.ensures)) c.plan.ensures.err)

pub returns-clause-refused : goal.returns-clause-refused
returns-clause-refused c =
    let P : WorldParts → Type 0 = λ p. (r : StepError) → node_rule ((world_state p).nodes c.args.node) c.args.step.now ≡ Err r → c.plan.result ≡ Err r in
    let Q : NodeState → Type 0 = λ s. (r : StepError) → node_rule s c.args.step.now ≡ Err r → c.plan.result ≡ Err r in
    let R : WorldParts → Type 0 = λ p. is_within p.shape.nodes c.args.node ≡ true in
    let A : WorldParts → Type 0 = λ p. alive_at p c.args.node ≡ true in
    subst P c.self.view_is (subst Q (sym (read_node (record { shape = c.self.inside.shape; nodes = c.self.inside.nodes.items; members = c.self.inside.members; servers = c.self.inside.servers.items; sent = c.self.inside.sent; length = c.self.inside.length }) c.args.node c.index.result.now c.self.invariant (subst R (sym c.self.view_is) c.requires.node) (subst A (sym c.self.view_is) c.requires.alive) c.index.ensures)) c.plan.ensures.refused)
