use Rattle.std.specs.Prelude.{is_none}
use Rattle.descriptors.specs.rule.Rows.{processes}
use Rattle.model.proofs.SearchLaws.{Failed}
use Rattle.descriptors.proofs.processes.Processes.lowest_fd.Given as goal

abbrev pub invariant-loop-fd : goal.invariant-loop-fd
invariant-loop-fd l = Failed (λ fd. is_none ((processes l.self).opened l.pid fd)) 0 l.fd
