use Rattle.model.specs.rule.Descriptors.{is_of_file}
use Rattle.model.proofs.SearchLaws.{Failed}
use Rattle.descriptors.specs.rule.Rows.{processes}
use Rattle.descriptors.proofs.processes.Processes.has_open.Given as goal

abbrev pub invariant-loop-fd : goal.invariant-loop-fd
invariant-loop-fd l = Failed (λ fd. is_of_file l.file ((processes l.self).opened l.pid fd)) 0 l.fd
