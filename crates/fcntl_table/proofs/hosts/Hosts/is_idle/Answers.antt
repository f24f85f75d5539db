use Rattle.std.proofs.Common.{◌≡◌}
use Rattle.model.specs.rule.Descriptors.{Processes, no_processes}
use Rattle.std.proofs.Common.{refl}
use Rattle.fcntl_table.proofs.HostLaws.{by_found, by_not_found}
use Rattle.fcntl_table.proofs.hosts.Hosts.is_idle.Goals as goal

pub returns-in-Some : goal.returns-in-Some
returns-in-Some c = λ yes.
    rw (← c.self.view_is) (by_found (λ (ps : Processes). ps ≡ no_processes) _ c.args.host c.in-Some.node.now c.in-Some.ensures.value (c.is_idle.ensures.0 yes))

pub returns-in-None : goal.returns-in-None
returns-in-None c = λ yes.
    rw (← c.self.view_is) (by_not_found (λ (ps : Processes). ps ≡ no_processes) _ c.args.host c.in-None.ensures.value refl)
