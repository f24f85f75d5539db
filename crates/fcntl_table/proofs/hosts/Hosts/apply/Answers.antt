use Rattle.descriptors.specs.rule.Rows.{processes}
use Rattle.fcntl_table.proofs.HostLaws.{made_on, changes-written, hosts-written}
use Rattle.fcntl_table.proofs.hosts.Hosts.apply.Goals as goal

pub invariant_of-self : goal.invariant_of-self
invariant_of-self c =
    hosts-written c.self.inside.by_host _ c.args.host c.in-Some.node.now c.apply.new.self c.self.invariant c.in-Some.ensures.value (c.get_mut.follows.holds c.apply.new.self)

pub returns : goal.returns
returns c =
    let rows = c.in-Some.node.now in
    let written = c.apply.new.self in
    let changes = changes-written c.args.self.now c.self.inside.by_host _ c.args.host rows written c.self.view_is c.in-Some.ensures.value (c.get_mut.follows.holds written) in
    made_on c.args.self.now _ c.args.host (processes rows) (processes written) c.args.edit changes c.apply.ensures
