use Rattle.fcntl_table.proofs.HostLaws.{processes-empty}
use Rattle.fcntl_table.proofs.hosts.Hosts.new.Goals as goal

pub returns : goal.returns
returns c = λ node incarnation. processes-empty _ node incarnation c.new.ensures.empty
