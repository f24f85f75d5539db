use Rattle.std.proofs.Common.{ap, ◌∙◌}
use Rattle.fcntl_table.specs.rule.Hosts.{processes_of}
use Rattle.fcntl_table.proofs.HostLaws.{forgotten, hosts-removed}
use Rattle.fcntl_table.proofs.hosts.Hosts.forget_idle.Goals.{in-Some-1, in-None-1}
use Rattle.fcntl_table.proofs.hosts.Hosts.forget_idle.Goals as goal

pub invariant_of-self : goal.invariant_of-self
invariant_of-self c = hosts-removed c.self.inside.by_host c.swap_remove.new.self c.args.host c.self.invariant c.swap_remove.ensures.updates

pub returns-then-is_idle : goal.returns-then-is_idle
returns-then-is_idle c =
    let is = forgotten c.args.self.now c.self.inside.by_host c.swap_remove.new.self c.args.host c.self.view_is (c.is_idle.ensures c.if-is_idle.true) c.swap_remove.ensures.updates in
    elim c.match-swap_remove.branch [
      | in-Some-1 w ↦ ap processes_of w.self-is ∙ is
      | in-None-1 w ↦ ap processes_of w.self-is ∙ is
    ]
