use Rattle.std.proofs.Common.{refl}
use Rattle.fcntl_table.proofs.HostLaws.{admitted, changes-inserted, hosts-inserted, not_kept}
use Rattle.fcntl_table.proofs.hosts.Hosts.admit.Goals as goal

pub invariant_of-self-2 : goal.invariant_of-self-2
invariant_of-self-2 c =
    hosts-inserted c.self.inside.by_host c.self.inside.by_host c.insert.new.self c.args.host c.new.result c.self.invariant (rw (← c.host.view_is) c.host.invariant) refl c.in_ok-insert.ensures.updates

pub returns-clause-same : goal.returns-clause-same
returns-clause-same c =
    let none = not_kept c.self.inside.by_host.entries c.args.host c.contains_key.result c.contains_key.ensures c.if-contains_key.false in
    admitted c.args.self.now c.insert.new.self.entries c.args.host c.new.result (changes-inserted c.args.self.now c.self.inside.by_host c.self.inside.by_host c.insert.new.self c.args.host c.new.result c.new.result c.self.view_is none c.new.ensures refl c.in_ok-insert.ensures.updates)
