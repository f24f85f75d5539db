use Rattle.std.proofs.Common.{◌≡◌, refl, Err}
use Rattle.cluster_core.specs.rule.Next.{restart_rule}
use Rattle.cluster_core.specs.rule.Parts.{WorldParts, world_state}
use Rattle.cluster_core.specs.code.Changes.{IsRestart}
use Rattle.cluster_core.proofs.steps.MemberSteps.{may_restart, restart_goes, opened}
use Rattle.cluster_core.proofs.world.World.plan_restart.Goals as goal

pub returns-clause-ok : goal.returns-clause-ok
returns-clause-ok c =
    let P : WorldParts → Type 0 = λ q. IsRestart q c.args.node c.in_ok-begun.begun.value in
    (opened P _ _ c.args.node c.self.view_is c.requires (λ number. may_restart _ c.self.invariant c.args.node number _ _ c.in_ok-begun.begun.value c.in_ok-incarnation.ensures.ok (rw (← c.in_ok-begun.ensures.ok) at c.in_ok-first.ensures)), refl)

pub returns-in_err-first-clause-refused : goal.returns-in_err-first-clause-refused
returns-in_err-first-clause-refused c = λ e refused.
    let P : WorldParts → Type 0 = λ q. restart_rule (world_state q) c.args.node ≡ Err e → ⊥ in
    absurd (opened P _ _ c.args.node c.self.view_is c.requires (λ number. restart_goes _ c.self.invariant c.args.node number _ _ e c.in_ok-incarnation.ensures.ok) refused)

pub returns-clause-refused : goal.returns-clause-refused
returns-clause-refused c = λ e refused.
    let P : WorldParts → Type 0 = λ q. restart_rule (world_state q) c.args.node ≡ Err e → ⊥ in
    absurd (opened P _ _ c.args.node c.self.view_is c.requires (λ number. restart_goes _ c.self.invariant c.args.node number _ _ e c.in_ok-incarnation.ensures.ok) refused)
