use Rattle.std.proofs.lemmas.Bool.{both_ways}
use Rattle.fcntl_table.proofs.HostLaws.{not_host-idle}
use Rattle.fcntl_table.proofs.hosts.Hosts.host.Goals as goal

pub returns-then-not-is_host : goal.returns-then-not-is_host
returns-then-not-is_host c = λ pid.
    rw (← c.self.view_is) (not_host-idle _ c.args.node c.args.incarnation pid c.self.invariant (λ is. both_ways _ c.if-not-is_host.true (c.is_host.ensures.1 is)))
