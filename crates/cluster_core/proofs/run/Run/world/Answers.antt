use Rattle.std.proofs.Common.{subst}
use Rattle.cluster_core.specs.rule.Journals.{RunFields}
use Rattle.cluster_core.specs.rule.Parts.{world_state}
use Rattle.cluster_core.specs.rule.Safe.{IsSafe}
use Rattle.cluster_core.proofs.runs.Runs.{safe_run}
use Rattle.cluster_core.proofs.run.Run.world.Goals as goal

pub returns-clause-safe : goal.returns-clause-safe
returns-clause-safe c =
    let P : RunFields → Type 0 = λ r. IsSafe (world_state r.world) in
    subst P c.self.view_is (safe_run c.self.inside.world.shape c.self.inside.entries.items (world_state c.self.inside.world) c.self.invariant.served c.self.invariant.leads)
