use Rattle.std.proofs.Common.{sym, ◌∙◌, ap}
use Rattle.model.specs.rule.Descriptors.{Processes}
use Rattle.descriptors.specs.code.Rows.{resolved}
use Rattle.fcntl_table.proofs.HostLaws.{processes-found, processes-not_found}
use Rattle.fcntl_table.proofs.hosts.Hosts.resolve.Goals as goal

pub returns-in-Some-clause-value : goal.returns-in-Some-clause-value
returns-in-Some-clause-value c =
    rw (← c.self.view_is) (c.resolve.ensures.value ∙ ap (λ (ps : Processes). resolved ps c.args.pid c.args.fd) (sym (processes-found _ c.args.host c.in-Some.node.now c.in-Some.ensures.value)))

pub returns-in-None-clause-value : goal.returns-in-None-clause-value
returns-in-None-clause-value c =
    rw (← c.self.view_is) (ap (λ (ps : Processes). resolved ps c.args.pid c.args.fd) (sym (processes-not_found _ c.args.host c.in-None.ensures.value)))
