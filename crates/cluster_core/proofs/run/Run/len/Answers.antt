use Rattle.std.proofs.Common.{◌≡◌, arith, subst}
use Rattle.cluster_core.specs.rule.World.{first_world}
use Rattle.cluster_core.specs.rule.Parts.{world_state}
use Rattle.cluster_core.specs.rule.Journals.{RunFields}
use Rattle.cluster_core.proofs.common.Lengths.{leads-count}
use Rattle.cluster_core.proofs.run.Run.len.Goals as goal

pub overflow_cast-result : goal.overflow_cast-result
overflow_cast-result c =
    let count = leads-count (first_world c.self.inside.world.shape) (world_state c.self.inside.world) c.self.inside.entries.items c.self.invariant.leads in
    omega (arith, count, c.self.invariant.few, c.len.ensures)

pub returns-clause-of_world : goal.returns-clause-of_world
returns-clause-of_world c =
    let P : RunFields → Type 0 = λ r. c.len.result ≡ r.world.length in
    let count = leads-count (first_world c.self.inside.world.shape) (world_state c.self.inside.world) c.self.inside.entries.items c.self.invariant.leads in
    subst P c.self.view_is (omega (arith, count, c.len.ensures))

pub returns-clause-within : goal.returns-clause-within
returns-clause-within c =
    let count = leads-count (first_world c.self.inside.world.shape) (world_state c.self.inside.world) c.self.inside.entries.items c.self.invariant.leads in
    omega (arith, count, c.self.invariant.few, c.len.ensures)
