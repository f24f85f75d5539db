use Rattle.std.proofs.Common.{ap, sym, ◌∙◌}
use Rattle.model.specs.rule.Descriptors.{Processes}
use Rattle.model.specs.rule.Table.{Table, exited}
use Rattle.fcntl_table.specs.rule.Hosts.{HostRows, process_at, processes_of}
use Rattle.fcntl_table.proofs.HostLaws.{changes-nothing, changes-written, hosts-written, processes-found, runs-nowhere, shut_on}
use Rattle.fcntl_table.proofs.hosts.Hosts.exit.Goals as goal

pub returns-in_default : goal.returns-in_default
returns-in_default c =
    let changes = changes-nothing c.args.self.now c.self.inside.by_host c.get_mut.follows.lender-at-none c.args.host c.self.view_is c.in_default.ensures.value c.get_mut.follows.holds-at-none in
    absurd (runs-nowhere c.args.self.now c.args.host c.args.pid changes.was c.requires.runs)

pub exit_at-requires-clause-runs : goal.exit_at-requires-clause-runs
exit_at-requires-clause-runs c =
    let was = ap (λ (hosts : HostRows). processes_of hosts c.args.host.node c.args.host.incarnation) (sym c.self.view_is) ∙ processes-found c.self.inside.by_host.entries c.args.host c.in-Some.node.now c.in-Some.ensures.value in
    ap (λ (ps : Processes). ps.runs c.args.pid) (sym was) ∙ c.requires.runs

pub invariant_of-self-2 : goal.invariant_of-self-2
invariant_of-self-2 c =
    hosts-written c.self.inside.by_host _ c.args.host c.in-Some.node.now c.exit_at.new.processes c.self.invariant c.in-Some.ensures.value (c.get_mut.follows.holds c.exit_at.new.processes)

pub returns : goal.returns
returns c =
    let rows = c.in-Some.node.now in
    let written = c.exit_at.new.processes in
    let changes = changes-written c.args.self.now c.self.inside.by_host _ c.args.host rows written c.self.view_is c.in-Some.ensures.value (c.get_mut.follows.holds written) in
    let made : Table → Table = λ t. exited t (process_at c.args.host c.args.pid) in
    shut_on made c.args.self.now _ c.args.host rows written c.args.locks.now c.exit_at.new.locks changes c.exit_at.ensures
