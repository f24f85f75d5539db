use Rattle.std.proofs.Common.{◌≡◌, ◌≤◌, false}
use Rattle.intervals.specs.rule.Search.{some_passes}
use Rattle.model.specs.rule.Limits.{most_descriptors}
use Rattle.model.specs.rule.Descriptors.{is_of}
use Rattle.model.specs.rule.Table.{around}
use Rattle.fcntl_table.specs.rule.Tables.{table_of}
use Rattle.run_clients.proofs.references.has_description.Given as goal

-- none of the descriptors below this one is of the description
abbrev pub invariant-loop-fd : goal.invariant-loop-fd
invariant-loop-fd l = record {
  below : l.fd ≤ most_descriptors;
  none : some_passes (λ fd. is_of l.description ((around (table_of l.table) l.process).opened l.process.pid fd)) 0 l.fd ≡ false;
}
